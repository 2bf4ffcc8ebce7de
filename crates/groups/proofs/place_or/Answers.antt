-- One law for each answer of a search.
use borrow.Author.Rules.{rules}
use Prim.Native.Nat.{ℕ}
use mathlib.Core.Path.{◌≡◌, sym, ap}
use Rattle.std.specs.Prelude.{Option, Some, None}
use Rattle.ground.specs.Refuse.{place_or}
use Rattle.groups.proofs.place_or.Goals as goal

module _ (r : Option ℕ) (o : ℕ) where
  at_place : (q : ℕ) → r ≡ Some q → q ≡ place_or r o
  unfolding place_or
  at_place q h = sym (ap (λ (x : Option ℕ). place_or x o) h)

  at_nowhere : r ≡ None → o ≡ place_or r o
  unfolding place_or
  at_nowhere h = sym (ap (λ (x : Option ℕ). place_or x o) h)

ruleset laws = (at_place, at_nowhere, rules)

pub returns-in-Some : goal.returns-in-Some
returns-in-Some c = search laws

pub returns-in-None : goal.returns-in-None
returns-in-None c = search laws
