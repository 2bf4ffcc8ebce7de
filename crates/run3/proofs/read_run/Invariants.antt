use Prim.Native.Nat.{ℕ, ◌+◌, ◌≤◌}
use mathlib.Core.Path.{◌≡◌}
use mathlib.Core.List.{List, [], ◌++◌}
use lib.ListN.{length}
use Rattle.ground.specs.Lists.{total, pad}
use Rattle.scan.specs.Cutting.{rest}
use Rattle.scan.specs.Placed.{placed_from, ahead}
use Rattle.edition3.specs.Third.{third}
use Rattle.edition.specs.Edition.{Edition}
use Rattle.entities.specs.declared.Node.{Node}
use Rattle.entities.specs.Run.{most_entities, nodes_from, blank_node}
use Rattle.run3.proofs.read_run.Given as goal

abbrev pub ed : Edition
ed = third []

pub record Walked (s : List ℕ) (from : ℕ) (nodes : List Node) (count at : ℕ) : Type 0 where
  pub behind : List (List ℕ)
  pub whole : rest s from ≡ behind ++ rest s at
  pub place : at ≡ from + total behind
  pub counted : count ≡ length behind
  pub few : count ≤ at
  pub filled : nodes ≡ pad blank_node most_entities (nodes_from ed from behind)

-- the walk has come to a place, and what it has left are the descriptors from there on
pub record Going (s : List ℕ) (from : ℕ) (nodes : List Node) (count : ℕ) (left : List (ℕ × List ℕ)) : Type 0 where
  pub at : ℕ
  pub comes : left ≡ placed_from at (rest s at)
  pub walked : Walked s from nodes count at

abbrev pub invariant-loop-at : goal.invariant-loop-at
invariant-loop-at l =
    (goal.iterator-loop-at).can_next l.at-iterator × (goal.iterator-loop-at).is_finite l.at-iterator
    × Going l.s l.from l.nodes l.count (ahead l.at-iterator)
