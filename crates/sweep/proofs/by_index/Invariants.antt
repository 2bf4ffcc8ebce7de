use Prim.Native.Nat.{ℕ, ◌+◌, ◌≤◌, ◌<◌}
use mathlib.Core.Path.{◌≡◌}
use mathlib.Core.List.{List}
use native.Mathlib.Omega.{arith}
use lib.ListN.{length, get_or, set, replicate, length-replicate}
use Rattle.layout.specs.declared.Cluster.{Cluster}
use Rattle.graph.specs.Tables.{Filled, filled_none, filled_more, filled_full}
use Rattle.entities.specs.declared.Run.{Run}
use Rattle.entities.specs.Run.{blank_node, id_at}
use Rattle.sweep.specs.declared.Given.{Given}
use Rattle.sweep.specs.Sweep.{cluster_on, clusters_of}
use Rattle.sweep.proofs.by_index.Given as goal

module _ (run : Run) (g : Given) where
  pub record Gone (clusters : List Cluster) (i : ℕ) : Type 0 where
    pub filled : Filled 32 (λ j. cluster_on g (id_at run j)) clusters i

  pub start : (k : Cluster) → Gone (replicate 32 k) 0
  start k = record { filled = filled_none (length-replicate 32 k) }

  module _ (clusters : List Cluster) (i : ℕ) (a : Gone clusters i) (w : length run.nodes ≡ 32) where
    pub long : length clusters ≡ 32
    long = a.filled.long

    pub more : i < length run.nodes → (c : Cluster) → c ≡ cluster_on g (get_or run.nodes i blank_node).id → Gone (set clusters i c) (i + 1)
    more h c e = record { filled = filled_more a.filled (omega arith) e }

    pub over : length run.nodes ≤ i → clusters ≡ clusters_of run (cluster_on g)
    unfolding clusters_of
    over h = filled_full a.filled (omega arith)

abbrev pub invariant-loop-i : goal.invariant-loop-i
invariant-loop-i l = Gone l.fn.run l.given l.clusters l.i
