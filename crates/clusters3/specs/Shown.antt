-- What the sheet shows of clusters in the 3.0 edition. Document 02, No. 12: "00 for bitmap and name index".
--   shown_cluster k       ==  what is shown of the cluster descriptor k: c, and no bitmap and no name index
--   clusters_by b run ids ==  what is shown of each entity by index, where ids tells of each entity ID the ID of a cluster descriptor of the buffer b;
--                            nothing at spare places
--   clusters_by_same     ==  IDs that agree on every entity ID are shown alike
use Rattle.std.specs.Prelude.{ℕ, ◌≡◌, List, ltb}
use Rattle.std.proofs.Common.{ap}
use Rattle.ground.specs.Pick.{pick}
use Rattle.layout.specs.declared.Cluster.{Cluster}
use Rattle.layout.specs.Layout.{no_cluster}
use Rattle.graph.specs.Tables.{tabulate, tabulate_same}
use Rattle.buffer.specs.Clusters.{channels_of}
use Rattle.buffer.specs.Reading.{cluster_with}
use Rattle.entities.specs.declared.Run.{Run}
use Rattle.entities.specs.Run.{most_entities, held, id_at}

abbrev pub shown_cluster : List ℕ → Cluster
shown_cluster k = record { channels = channels_of k; locations = 0; names = 0 }

unfoldable pub clusters_by : List ℕ → Run → (ℕ → ℕ) → List Cluster
clusters_by b run ids = tabulate most_entities (λ j. pick (ltb j (held run)) (shown_cluster (cluster_with b (ids (id_at run j)))) no_cluster)

pub clusters_by_same : (b : List ℕ) (run : Run) (f g : ℕ → ℕ) → ((x : ℕ) → f x ≡ g x) → clusters_by b run f ≡ clusters_by b run g
unfolding clusters_by
clusters_by_same b run f g same =
    tabulate_same most_entities _ _ (λ j l. ap (λ (x : ℕ). pick (ltb j (held run)) (shown_cluster (cluster_with b x)) no_cluster) (same (id_at run j)))
