use Prim.Native.Nat.{ℕ, ◌+◌, ◌*◌, ◌≤◌, ◌<◌}
use mathlib.Core.Path.{◌≡◌, refl, ap, ◌∙◌}
use mathlib.Core.List.{List, map}
use native.Mathlib.Omega.{arith}
use native.Mathlib.Numerals.{add-one}
use lib.ListN.{length, get_or, drop, drop_of_length-le}
use lib.Seq.{drop-cons}
use mir.Val.{Fits}
use mir.Syntax.{w64}
use Rattle.edition.specs.Audio.{channels_in}
use Rattle.keeping.specs.Keeping.{channels_on, Entering}
use Rattle.keeping.proofs.channels_in.Given as goal

-- The sum is that of the pins before pin k, at most 255 each.
module _ (ids counts : List ℕ) where
  abbrev pub entering : List ℕ → ℕ
  entering l = channels_in (map (channels_on counts) l)

  pub record Gone (sum k : ℕ) : Type 0 where
    pub low : k ≤ length ids
    pub small : sum ≤ 255 * k
    pub same : entering ids ≡ sum + entering (drop k ids)

  pub start : Gone 0 0
  start = record { low = omega arith; small = omega arith; same = omega arith }

  module _ (sum k : ℕ) (g : Gone sum k) where
    pub last : length ids ≤ 255 → length ids ≤ k → Entering (map (channels_on counts) ids) sum
    unfolding channels_in
    last f h =
        let z : entering (drop k ids) ≡ 0 = ap entering (drop_of_length-le ids h) in
        let s = g.same in
        record { all_channels = omega arith; few = let b = g.small in let l = g.low in omega arith }

    module _ (h : k < length ids) (x : ℕ) (q : x ≡ get_or counts (get_or ids k 0) 0) (c : ℕ) (e : (c ≡ x) × (c < 256)) where
      pub turn : entering (drop k ids) ≡ c + entering (drop (k + 1) ids)
      unfolding channels_in
      turn = ap entering (drop-cons ids k 0 h) ∙ rw (add-one, e.0, q) refl

      pub fits : length ids ≤ 255 → Fits w64 (sum + c)
      fits f = let m = g.small in let l = g.low in let b = e.1 in record { fits = omega arith }

      pub on : Gone (sum + c) (k + 1)
      on =
          let t = turn in
          let s = g.same in
          let m = g.small in
          let b = e.1 in
          record { low = omega arith; small = omega arith; same = omega arith }

abbrev pub invariant-loop-id : goal.invariant-loop-id
invariant-loop-id l = Gone l.ids l.counts l.sum l.id-index
