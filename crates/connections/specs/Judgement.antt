-- The rules 10 to 13 in their order: "the lowest number that applies is given, at no other time".
--   judged s run r       ==  the first of the four that the run breaks, with its place; what r says where it breaks none
--   clusters_for s run    ==  the cluster of each entity, by index
--   connected_in s run    ==  the answer: the clusters, or the refusal
use Rattle.std.specs.Prelude.{ℕ, List, Result}
use Rattle.ground.specs.declared.Refusal.{Refusal}
use Rattle.ground.specs.Refuse.{none, refuse}
use Rattle.ground.specs.Told.{told}
use Rattle.layout.specs.declared.Cluster.{Cluster}
use Rattle.entities.specs.declared.Run.{Run}
use Rattle.ids.specs.Breach.{breach10}
use Rattle.sources.specs.Breach.{breach11}
use Rattle.ranks.specs.Order.{ordered}
use Rattle.ranks.specs.Breach.{breach12}
use Rattle.clusters.specs.Breach.{given_for, breach13}
use Rattle.sweep.specs.Sweep.{clusters_of}

unfoldable pub judged : List ℕ → Run → Refusal → Refusal
judged s run r =
    refuse 10 (breach10 run)
    (refuse 11 (breach11 s run)
    (refuse 12 (breach12 run (ordered s run)) (refuse 13 (breach13 s run (given_for s run)) r)))

abbrev pub clusters_for : List ℕ → Run → List Cluster
clusters_for s run = clusters_of run (given_for s run)

unfoldable pub connected_in : List ℕ → Run → Result (List Cluster) Refusal
connected_in s run = told (judged s run none) (clusters_for s run)
