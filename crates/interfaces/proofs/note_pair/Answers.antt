-- By its two ways out.
use borrow.Author.Rules.{rules}
use borrow.Author.Tests.{not-true, not-false}
use Prim.Native.Nat.{ℕ, ◌+◌, ◌*◌, ◌<◌}
use mathlib.Core.Path.{◌≡◌, refl, sym, ◌∙◌}
use mathlib.Core.Bool.{Bool, true, false, not}
use mathlib.Core.List.{List}
use native.Mathlib.Omega.{arith}
use lib.ListN.{set}
use mir.Val.{Fits}
use mir.Syntax.{w64}
use Rattle.search.specs.Want.{is_interface}
use Rattle.interfaces.specs.Pairs.{most_interfaces, Pair, Noted, other, noted}
use Rattle.interfaces.proofs.note_pair.Goals as goal

module _ (i pairs : List ℕ) (count : ℕ) (a : Bool) (e : a ≡ is_interface i) where
  passed : not a ≡ true → Noted i pairs count pairs count
  passed h = other (sym e ∙ not-true a h) refl refl

  module _ (h : not a ≡ false) where
    room : (is_interface i ≡ true → count < most_interfaces) → count < most_interfaces
    room f = f (sym e ∙ not-false a h)

    twice : (is_interface i ≡ true → count < most_interfaces) → Fits w64 (count * 2)
    twice f = let l = room f in record { fits = omega arith }

    one_more : (is_interface i ≡ true → count < most_interfaces) → Fits w64 (count + 1)
    one_more f = let l = room f in record { fits = omega arith }

    more : (k : ℕ) → Pair i k → Noted i pairs count (set pairs count k) (count + 1)
    more k p = noted (sym e ∙ not-false a h) p refl refl

ruleset laws = (passed, room, twice, one_more, more, rules)

pub returns : goal.returns
returns c = search laws
