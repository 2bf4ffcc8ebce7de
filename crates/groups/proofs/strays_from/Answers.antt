-- One law for each answer of the search; what it finds is a whole descriptor, so its type stands inside.
use borrow.Author.Rules.{rules}
use Prim.Native.Nat.{ℕ, ◌+◌, ◌<◌}
use mathlib.Core.Path.{◌≡◌, refl, sym, ◌∙◌}
use mathlib.Core.Bool.{false}
use mathlib.Core.List.{List}
use native.Mathlib.Omega.{arith}
use lib.ListN.{length}
use lib.Dec.{eqb}
use Rattle.std.specs.Prelude.{Option, Some, None}
use Rattle.ground.specs.Numbers.{byte}
use Rattle.search.specs.Want.{found_from}
use Rattle.search.specs.Found.{found_room}
use Rattle.search.specs.declared.Want.TheVariants as want
use Rattle.groups.specs.Reading.{strays_from}
use mir.Val.{Fits}
use mir.Syntax.{w64}
use Prim.Native.Nat.{◌^◌}
use Rattle.groups.proofs.strays_from.Goals as goal

module _ (s : List ℕ) (e : ℕ) (r : Option ℕ) (f : r ≡ found_from s e want.ClassOrInterface) where
  type_fits : (q : ℕ) → r ≡ Some q → length s < 2 ^ 64 → Fits w64 (q + 1)
  type_fits q h l = let room = found_room want.ClassOrInterface s e q (sym f ∙ h) in record { fits = omega arith }

  stray : (q b : ℕ) → r ≡ Some q → b ≡ byte s (q + 1) → eqb b 0x24 ≡ strays_from s e
  unfolding strays_from
  stray q b h g = rw g (rw (strays_from, sym f ∙ h) refl)

  none_later : r ≡ None → false ≡ strays_from s e
  unfolding strays_from
  none_later h = rw (strays_from, sym f ∙ h) refl

ruleset laws = (type_fits, stray, none_later, rules)

pub overflow_add-place : goal.overflow_add-place
overflow_add-place c = search laws

pub returns-in-Some : goal.returns-in-Some
returns-in-Some c = search laws

pub returns-in-None : goal.returns-in-None
returns-in-None c = search laws
