-- The reader's refusal, 64, or the place.
use borrow.Author.Rules.{rules}
use Prim.Native.Nat.{ℕ}
use mathlib.Core.Path.{◌≡◌, sym, ap, ◌∙◌}
use mathlib.Core.List.{List}
use Rattle.std.specs.Prelude.{Result, Ok, Err, Option, Some, None}
use Rattle.ground.specs.declared.Refusal.{Refusal}
use Rattle.ground.specs.Told.{Leaves, left}
use Rattle.topology.specs.declared.Finding.{Finding}
use Rattle.topology.specs.Reading.{finding_of}
use Rattle.extent.specs.Stretch.{entity_place, known, located_by, located_in}
use Rattle.extent.proofs.locate.Goals as goal

module _ (s : List ℕ) (x : ℕ) where
  refuses : (q : Refusal) → Err q ≡ finding_of s → (r : Result ℕ Refusal) → Leaves r q → r ≡ located_in s x
  unfolding located_by
  refuses q e r h = left r q h ∙ ap (λ (y : Result Finding Refusal). located_by y x) e

  module _ (f : Finding) (e : Ok f ≡ finding_of s) (p : Option ℕ) (h : p ≡ entity_place f.run x) where
    found : known p ≡ located_in s x
    unfolding located_by
    found = ap known h ∙ ap (λ (y : Result Finding Refusal). located_by y x) e

    unknown : p ≡ None → Err (record { number = 64; place = 0 }) ≡ located_in s x
    unknown g = sym (ap known g) ∙ found

    stands : (n : ℕ) → p ≡ Some n → Ok n ≡ located_in s x
    stands n g = sym (ap known g) ∙ found

ruleset laws = (unknown, stands, rules)

pub returns-in_err-found : goal.returns-in_err-found
returns-in_err-found c = refuses _ _ _ c.in_err-found.ensures _ c.from_residual.ensures.1

pub returns-in-None : goal.returns-in-None
returns-in-None c = search laws

pub returns-in-Some : goal.returns-in-Some
returns-in-Some c = search laws
