-- By its two ways out: the descriptors reach the end, or the place that they reach is the rule's.
use borrow.Author.Rules.{rules}
use Prim.Native.Nat.{ℕ}
use mathlib.Core.Path.{◌≡◌, sym, ap, ◌∙◌}
use mathlib.Core.List.{List}
use lib.ListN.{length}
use borrow.Author.Tests.{eq-eqb, ne_eqb}
use Rattle.std.specs.Prelude.{Some, None}
use Rattle.ground.specs.Pick.{yes, no}
use Rattle.scan.specs.Cutting.{reach, breach_by, breach3}
use Rattle.opening.proofs.check_cutting.Goals as goal

module _ (s : List ℕ) (r : ℕ) (e : r ≡ reach s 0) where
  whole : r ≡ length s → None ≡ breach3 s
  unfolding breach_by
  whole h = sym (yes _ _ (eq-eqb (reach s 0) (length s) (sym e ∙ h)))

  cut_short : (r ≡ length s → ⊥) → Some r ≡ breach3 s
  unfolding breach_by
  cut_short h = ap Some e ∙ sym (no _ _ (ne_eqb (reach s 0) (length s) (λ q. h (e ∙ q))))

ruleset laws = (whole, cut_short, rules)

pub returns-then-reached-config : goal.returns-then-reached-config
returns-then-reached-config c = search laws

pub returns : goal.returns
returns c = search laws
