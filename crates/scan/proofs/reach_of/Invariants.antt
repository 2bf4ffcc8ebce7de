use Prim.Native.Nat.{ℕ, ◌-◌}
use mathlib.Core.Path.{◌≡◌}
use mathlib.Core.List.{List}
use lib.ListN.{length}
use Rattle.scan.specs.Cutting.{reach}
use Rattle.scan.proofs.reach_of.Given as goal

pub record Passed (s : List ℕ) (from at : ℕ) : Type 0 where
  pub same : reach s from ≡ reach s at

abbrev pub invariant-loop-at : goal.invariant-loop-at
invariant-loop-at l = Passed l.s l.from l.at

abbrev pub decreases-loop-at : goal.decreases-loop-at
decreases-loop-at l = length l.s - l.at
