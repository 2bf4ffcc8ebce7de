use Prim.Native.Nat.{ℕ}
use mathlib.Core.Path.{◌≡◌}
use mathlib.Core.Bool.{Bool}
use mathlib.Core.List.{List}
use Rattle.scan.specs.Cutting.{rest}
use Rattle.scan.specs.Search.{Passed}
use Rattle.scan.specs.Placed.{placed_from, ahead}
use Rattle.search.specs.declared.Want.TheVariants as want
use Rattle.search.specs.Before.{stands_before}
use Rattle.collection.specs.Marks.{Holds, unlisted_by}
use Rattle.collection.proofs.any_unlisted.Given as goal

abbrev pub test : List Bool → List (List ℕ) → List ℕ → Bool
test marks b d = unlisted_by marks d

-- a group of number k stands before a place
abbrev pub stands : List ℕ → ℕ → ℕ → Bool
stands s at k = stands_before s at (want.Member k)

-- the walk has come to a place, and what it has left are the descriptors from there on
pub record Going (s : List ℕ) (marks known : List Bool) (left : List (ℕ × List ℕ)) : Type 0 where
  pub at : ℕ
  pub comes : left ≡ placed_from at (rest s at)
  pub passed : Passed (test marks) s 0 at
  pub holds : Holds (stands s at) known

abbrev pub invariant-loop-d : goal.invariant-loop-d
invariant-loop-d l =
    (goal.iterator-loop-d).can_next l.d-iterator × (goal.iterator-loop-d).is_finite l.d-iterator × Going l.config l.listed l.known (ahead l.d-iterator)
