use Rattle.std.specs.Prelude.{ℕ, ◌≡◌, List, Option}
use Rattle.scan.specs.Cutting.{rest}
use Rattle.scan.specs.Search.{Passed}
use Rattle.scan.specs.Placed.{placed_from, ahead}
use Rattle.streaming.specs.Tests.{wrong_stream}
use Rattle.terminals.specs.declared.Bearer.{Bearer}
use Rattle.terminals.specs.Table.{bearer_at}
use Rattle.streaming.proofs.first_broken.Given as goal

-- the walk has come to a place, and what it has left are the descriptors from there on
pub record Going (find : ℕ → Option Bearer) (s : List ℕ) (left : List (ℕ × List ℕ)) : Type 0 where
  pub at : ℕ
  pub comes : left ≡ placed_from at (rest s at)
  pub passed : Passed (wrong_stream find (rest s 0)) s 0 at

abbrev pub invariant-loop-at : goal.invariant-loop-at
invariant-loop-at l =
    (goal.iterator-loop-at).can_next l.at-iterator × (goal.iterator-loop-at).is_finite l.at-iterator
    × Going (bearer_at l.table) l.config (ahead l.at-iterator)
