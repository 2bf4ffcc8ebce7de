use Prim.Native.Nat.{ℕ, ◌+◌, ◌*◌, ◌≤◌, ◌<◌}
use mathlib.Core.Path.{◌≡◌}
use mathlib.Core.List.{List}
use native.Mathlib.Omega.{arith}
use lib.ListN.{length}
use Rattle.records.specs.Records.{record_size}
use Rattle.legal.specs.Sheet.{count_in, id_at}
use Rattle.legal.specs.SheetLaws.{record_inside}
use Rattle.differences.specs.Lowest.{no_id, Lower, LowestAbove, lowest_none, lowest_more}
use Rattle.differences.proofs.lowest_above.Given as goal

module _ (s : List ℕ) (a : ℕ) where
  pub record Passed (x k i : ℕ) : Type 0 where
    pub few : i ≤ count_in s
    pub lowest : LowestAbove (id_at s) a i x k

  pub start : Passed no_id 0 0
  start = record { few = omega arith; lowest = lowest_none (id_at s) a }

  module _ (x k i : ℕ) (g : Passed x k i) where
    pub over : count_in s ≤ i → LowestAbove (id_at s) a (count_in s) x k
    over h = let f = g.few in let e : i ≡ count_in s = omega arith in rw e at g.lowest

    module _ (h : i < count_in s) where
      pub inside : i * record_size < length s
      inside = omega (arith, record_inside record_size s i h)

      pub on : (x' k' : ℕ) → Lower a (id_at s i) i x k x' k' → Passed x' k' (i + 1)
      on x' k' l = record { few = omega arith; lowest = lowest_more (id_at s) a g.lowest l }

abbrev pub invariant-loop-i : goal.invariant-loop-i
invariant-loop-i l = Passed l.s l.above l.lowest.id l.lowest.index l.i
