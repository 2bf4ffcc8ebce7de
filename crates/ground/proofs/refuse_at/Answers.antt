use Rattle.std.proofs.Common.{rules, ◌≡◌, ℕ, sym, ap, ◌∙◌, refl, Option, Some, None, Ok, Err, arith}
use Rattle.ground.specs.Refuse.{none, refuse, refuse_at, refuse_on}
use Rattle.ground.specs.Told.{kept_or, told_ok, told_err}
use Rattle.ground.proofs.refuse_at.Goals as goal

module _ (n : ℕ) (b : Option ℕ) where
  broken : (n ≡ 0 → ⊥) → (p : ℕ) → b ≡ Some p → Err (record { number = n; place = p }) ≡ kept_or (refuse n b none)
  broken h p e = sym (ap kept_or (refuse_at n p none e) ∙ told_err _ _ h)

  nought : n ≡ 0 → (p : ℕ) → b ≡ Some p → Ok tt ≡ kept_or (refuse n b none)
  nought h p e = sym (ap kept_or (refuse_at n p none e) ∙ told_ok _ _ h)

  kept : b ≡ None → Ok tt ≡ kept_or (refuse n b none)
  kept e = sym (ap kept_or (refuse_on n none e) ∙ told_ok _ _ refl)

ruleset laws = (broken, nought, kept, rules)

pub returns-in-Some : goal.returns-in-Some
returns-in-Some c = search laws

pub returns-in_default : goal.returns-in_default
returns-in_default c = search laws

pub returns-in_default-2 : goal.returns-in_default-2
returns-in_default-2 c = search laws
