-- The nodes that are looked at of a run: the first of its array, as many as are held.
--   inside     ==  an index among them is below the count
--   taken      ==  what stands there is the run's node
--   all_taken  ==  there are as many of them as are held
use Prim.Native.Nat.{ℕ, ◌≤◌, ◌<◌}
use mathlib.Core.Path.{◌≡◌}
use mathlib.Core.Bool.{false}
use native.Mathlib.Omega.{arith}
use native.Mathlib.Nat.{min-le_left, min-le_right}
use lib.ListN.{length, get_or, take, length-take}
use Rattle.std.proofs.lemmas.List.{get_or-take, length-take-le}
use Rattle.entities.specs.declared.Node.{Node}
use Rattle.entities.specs.declared.Run.{Run}
use Rattle.entities.specs.Run.{most_entities, blank_node, held, node_at}

abbrev pub zeros : Node
zeros = record { place = 0; first = 0; pins = 0; id = 0; kind = 0; feeds = false }

module _ (run : Run) (n : ℕ) where
  below : (i : ℕ) → i < length (take n run.nodes) → i < n
  below i h = let a = length-take n run.nodes in let b = min-le_left n (length run.nodes) in omega arith

  pub taken : (i : ℕ) → i < length (take n run.nodes) → get_or (take n run.nodes) i zeros ≡ node_at run i
  unfolding blank_node
  taken i h = get_or-take n run.nodes i zeros (below i h)

  module _ (m : n ≡ held run) where
    pub inside : (i : ℕ) → i < length (take n run.nodes) → i < held run
    inside i h = let b = below i h in omega arith

    pub all_taken : length run.nodes ≡ 32 → length (take n run.nodes) ≡ held run
    all_taken w =
        let l : held run ≤ most_entities = min-le_right run.count most_entities in
        let a = length-take-le n run.nodes (omega arith) in
        omega arith
