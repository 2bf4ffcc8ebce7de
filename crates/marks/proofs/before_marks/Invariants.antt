-- The loop counts down from the length, past one mark after another: what stands before the marks is as it was at the length.
use Prim.Native.Nat.{ℕ, ◌≤◌}
use mathlib.Core.Path.{◌≡◌}
use mathlib.Core.List.{List}
use lib.ListN.{length}
use Rattle.marks.specs.Marks.{before_marks}
use Rattle.marks.proofs.before_marks.Given as goal

pub record Come (s : List ℕ) (end : ℕ) : Type 0 where
  pub inside : end ≤ length s
  pub same : before_marks s end ≡ before_marks s (length s)

abbrev pub invariant-loop-last : goal.invariant-loop-last
invariant-loop-last l = Come l.lent l.last
