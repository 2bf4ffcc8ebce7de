-- The sum is that of the pins before the one that the loop stands at, at most 255 each.
use borrow.Author.Rules.{rules}
use Prim.Native.Nat.{ℕ, ◌+◌, ◌≤◌, ◌<◌}
use mathlib.Core.Path.{◌≡◌, refl, ap, ◌∙◌}
use mathlib.Core.List.{List, map}
use native.Mathlib.Omega.{arith}
use native.Mathlib.Numerals.{add-one}
use lib.ListN.{length, get_or, drop, drop_of_length-le}
use lib.Seq.{drop-cons}
use mir.Val.{Fits}
use mir.Syntax.{w64}
use Rattle.ground.specs.Numbers.{byte}
use Rattle.edition3.specs.Third.{channels_in}
use Rattle.keeping3.specs.Keeping.{cluster_behind, Entering}
use Rattle.keeping3.proofs.Behind.channels_in.Invariants.{entering, Gone}
use Rattle.keeping3.proofs.Behind.channels_in.Goals as goal

module _ (b given ids : List ℕ) where
  start : Gone b given ids 0 0
  start = record { low = omega arith; small = omega arith; same = omega arith }

  module _ (sum k : ℕ) (g : Gone b given ids sum k) where
    last : length ids ≤ 255 → length ids ≤ k → Entering (map (cluster_behind b given) ids) sum
    unfolding channels_in
    last f h =
        let z : entering b given ids (drop k ids) ≡ 0 = ap (entering b given ids) (drop_of_length-le ids h) in
        let s = g.same in
        record { all_channels = omega arith; few = let b = g.small in let l = g.low in omega arith }

    module _ (h : k < length ids) (d : List ℕ) (p : d ≡ cluster_behind b given (get_or ids k 0)) (x : ℕ) (q : x ≡ byte d 6) (c : ℕ) (e : (c ≡ x) × (c < 256)) where
      turn : entering b given ids (drop k ids) ≡ c + entering b given ids (drop (k + 1) ids)
      unfolding channels_in
      turn = ap (entering b given ids) (drop-cons ids k 0 h) ∙ rw (add-one, e.0, q, p) refl

      fits : length ids ≤ 255 → Fits w64 (sum + c)
      fits f = let m = g.small in let l = g.low in let b = e.1 in record { fits = omega arith }

      on : Gone b given ids (sum + c) (k + 1)
      on =
          let t = turn in
          let s = g.same in
          let m = g.small in
          let b = e.1 in
          record { low = omega arith; small = omega arith; same = omega arith }

ruleset laws = (start, last, fits, on, rules)

pub loop-id-preserved : goal.loop-id-preserved
loop-id-preserved c = search laws

pub returns : goal.returns
returns c = search laws
