-- A byte of those behind the old record's place is looked for: past the end of a shorter one every byte counts as 00.
use Rattle.std.proofs.Common.{rules}
use Prim.Native.Nat.{ℕ, zero, suc, ◌+◌, ◌-◌}
use mathlib.Core.Path.{◌≡◌, refl, sym, ap, ◌∙◌}
use mathlib.Core.Bool.{Bool, true, false, not, ◌||◌}
use mathlib.Core.List.{List, [], ◌∷◌}
use lib.ListN.{get_or, take, drop}
use lib.Seq.{take-nil}
use Rattle.std.specs.Prelude.{◌==◌}
use Rattle.std.specs.List.{list_any}
use Rattle.std.proofs.lemmas.List.{get_or-drop}
use Rattle.ground.specs.Pick.{pick}
use Rattle.ground.specs.Places.{first_in, first_none, first_same, somewhere}
use Rattle.records.specs.Records.{record_size}
use Rattle.legal.specs.Forms.{old_size}
use Rattle.mover.specs.Moving.{more_bytes, has_more}
use Rattle.mover.proofs.has_more.Goals as goal

module _ (u : ℕ → Bool) (z : u 0 ≡ false) where
  next : (t : ℕ → Bool) (i k : ℕ) → first_in t (λ j. true) false (suc i) k ≡ first_in (λ j. t (suc j)) (λ j. true) false i k
  unfolding first_in
  next t i zero = refl
  next t i (suc k) = ap (pick (t (suc i)) true) (next t (suc i) k)

  either : (b c : Bool) → pick b true c ≡ b || c
  either true c = refl
  either false c = refl

  any_first : (l : List ℕ) (k : ℕ) → first_in (λ j. u (get_or l j 0)) (λ j. true) false 0 k ≡ list_any u (take k l)
  unfolding first_in
  any_first [] k = first_none (λ j. u (get_or [] j 0)) (λ j. true) false k (λ j h. z) ∙ sym (ap (list_any u) (take-nil k))
  any_first (x ∷ l) zero = refl
  any_first (x ∷ l) (suc k) =
      ap (pick (u x) true) (next (λ j. u (get_or (x ∷ l) j 0)) 0 k ∙ any_first l k) ∙ either (u x) (list_any u (take k l))

told : (b : Bool) (a : List ℕ) → b ≡ list_any (λ x. not (x == 0)) (take (record_size - old_size) (drop old_size a)) → b ≡ has_more a
unfolding has_more somewhere
told b a e =
    e ∙ sym (any_first (λ x. not (x == 0)) refl (drop old_size a) more_bytes)
    ∙ first_same (λ j. not (get_or (drop old_size a) j 0 == 0)) (λ j. not (get_or a (old_size + j) 0 == 0)) (λ j. true) false more_bytes
    (λ j h. ap (λ (x : ℕ). not (x == 0)) (get_or-drop old_size a j 0))

ruleset laws = (told, rules)

pub returns : goal.returns
returns c = search laws
