-- One law for each way out: bit 5, a bit that is not set, a bit that is.
use borrow.Author.Rules.{rules}
use Prim.Native.Nat.{ℕ, ◌+◌}
use mathlib.Core.Path.{◌≡◌, refl, sym, ap, ◌∙◌}
use mathlib.Core.Bool.{Bool, true, false, not, ◌&&◌}
use mathlib.Core.List.{List, [], ◌∷◌}
use lib.Dec.{eqb}
use borrow.Author.Tests.{eq-eqb, ne_eqb, not-true, not-false}
use Rattle.ground.specs.Pick.{pick}
use Rattle.table.specs.declared.Table.{Table}
use Rattle.masks.specs.Masks.{unit_control, bit_set, bit_carries, bit_controls}
use Rattle.masks.specs.Notes.{control_from}
use Rattle.controls.specs.Growth.{added, grown}
use Rattle.controls.proofs.Notes.add_bit.Goals as goal

module _ (t : Table) (m : List ℕ) (u k b : ℕ) where
  carries : (x : Bool) → bit_set m b ≡ x → (f : Bool) → eqb b 5 ≡ f → bit_controls m u k b ≡ pick (not f && x) (unit_control u k (b + 1) ∷ []) []
  unfolding bit_controls bit_carries
  carries x e f g = rw (e, g) refl

  five : b ≡ 5 → t ≡ grown t (bit_controls m u k b)
  unfolding grown
  five h = sym (ap (grown t) (carries (bit_set m b) refl true (eq-eqb b 5 h)))

  module _ (h : b ≡ 5 → ⊥) (a : Bool) (e : a ≡ bit_set m b) where
    unset : not a ≡ true → t ≡ grown t (bit_controls m u k b)
    unfolding grown
    unset n = sym (ap (grown t) (carries false (sym e ∙ not-true a n) false (ne_eqb b 5 h)))

    is_set : not a ≡ false → (x : ℕ) (r : Table) → control_from x ≡ unit_control u k (b + 1) → r ≡ added t (control_from x) → r ≡ grown t (bit_controls m u k b)
    unfolding grown
    is_set n x r f g = g ∙ ap (added t) f ∙ sym (ap (grown t) (carries true (sym e ∙ not-false a n) false (ne_eqb b 5 h)))

ruleset laws = (five, unset, is_set, rules)

pub returns-then-bit-eq5 : goal.returns-then-bit-eq5
returns-then-bit-eq5 c = search laws

pub returns-then-not-has_bit : goal.returns-then-not-has_bit
returns-then-not-has_bit c = search laws

pub returns : goal.returns
returns c = search laws
