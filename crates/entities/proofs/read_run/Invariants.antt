use Prim.Native.Nat.{ℕ, ◌+◌, ◌≤◌}
use mathlib.Core.Path.{◌≡◌}
use mathlib.Core.Bool.{Bool}
use mathlib.Core.List.{List, ◌++◌}
use lib.ListN.{length}
use Rattle.std.specs.Prelude.{Option}
use Rattle.ground.specs.Lists.{total, pad}
use Rattle.ground.specs.First.{first_from}
use Rattle.scan.specs.Cutting.{rest}
use Rattle.scan.specs.Search.{searched}
use Rattle.scan.specs.Placed.{placed_from, ahead}
use Rattle.layout.specs.Layout.{entity_of, is_unknown}
use Rattle.edition.specs.Audio.{audio}
use Rattle.entities.specs.declared.Node.{Node}
use Rattle.entities.specs.Run.{most_entities, nodes_from, blank_node, earlier}
use Rattle.entities.proofs.read_run.Given as goal

abbrev pub is_unlaid : List (List ℕ) → List ℕ → Bool
is_unlaid b d = is_unknown (entity_of d)

pub record Walked (s : List ℕ) (from : ℕ) (nodes : List Node) (count : ℕ) (unlaid : Option ℕ) (at : ℕ) : Type 0 where
  pub behind : List (List ℕ)
  pub whole : rest s from ≡ behind ++ rest s at
  pub place : at ≡ from + total behind
  pub counted : count ≡ length behind
  pub few : count ≤ at
  pub filled : nodes ≡ pad blank_node most_entities (nodes_from audio from behind)
  pub first : searched is_unlaid s from ≡ earlier unlaid (first_from is_unlaid at behind (rest s at))

-- the walk has come to a place, and what it has left are the descriptors from there on
pub record Going (s : List ℕ) (from : ℕ) (nodes : List Node) (count : ℕ) (unlaid : Option ℕ) (left : List (ℕ × List ℕ)) : Type 0 where
  pub at : ℕ
  pub comes : left ≡ placed_from at (rest s at)
  pub walked : Walked s from nodes count unlaid at

abbrev pub invariant-loop-at : goal.invariant-loop-at
invariant-loop-at l =
    (goal.iterator-loop-at).can_next l.at-iterator × (goal.iterator-loop-at).is_finite l.at-iterator
    × Going l.s l.from l.nodes l.count l.unlaid (ahead l.at-iterator)
