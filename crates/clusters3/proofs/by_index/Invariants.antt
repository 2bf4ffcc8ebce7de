use Prim.Native.Nat.{ℕ, ◌≤◌, ◌<◌}
use mathlib.Core.Path.{◌≡◌}
use mathlib.Core.List.{List}
use lib.ListN.{length, get_or}
use Rattle.layout.specs.declared.Cluster.{Cluster}
use Rattle.layout.specs.Layout.{no_cluster}
use Rattle.entities.specs.declared.Run.{Run}
use Rattle.entities.specs.Run.{held, id_at}
use Rattle.keeping3.specs.Keeping.{cluster_behind}
use Rattle.clusters3.specs.Shown.{shown_cluster}
use Rattle.clusters3.proofs.by_index.Given as goal

module _ (b : List ℕ) (run : Run) (ids : List ℕ) where
  abbrev pub shown_at : ℕ → Cluster
  shown_at j = shown_cluster (cluster_behind b ids (id_at run j))

  pub record Gone (shown : List Cluster) (i : ℕ) : Type 0 where
    pub low : i ≤ held run
    pub long : length shown ≡ 32
    pub filled : (j : ℕ) → j < i → get_or shown j no_cluster ≡ shown_at j
    pub spare : (j : ℕ) → i ≤ j → get_or shown j no_cluster ≡ no_cluster

abbrev pub invariant-loop-i : goal.invariant-loop-i
invariant-loop-i l = Gone l.clusters l.fn.run l.given l.shown l.i
