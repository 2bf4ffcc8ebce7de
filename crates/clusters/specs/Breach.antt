-- What the reader computes of rule 13: the first entity that does not keep its kind's rule, where clusters are given out on IDs. The laws
-- that tie it to the rule are in Topology.
--   breach13 s run cl    ==  the place of the first entity that does not
--   given_for s run x     ==  what the ID x gives out along the order of the run
use Rattle.std.specs.Prelude.{ℕ, not, List, Option, Some, None}
use Rattle.ground.specs.Places.{first_in}
use Rattle.layout.specs.declared.Cluster.{Cluster}
use Rattle.entities.specs.declared.Run.{Run}
use Rattle.entities.specs.Run.{held, node_at, place_at}
use Rattle.ranks.specs.Order.{ordered}
use Rattle.sweep.specs.Sweep.{given_in}
use Rattle.keeping.specs.Keeping.{keeps_by}

unfoldable pub breach13 : List ℕ → Run → (ℕ → Cluster) → Option ℕ
breach13 s run cl = first_in (λ i. not (keeps_by s (node_at run i) cl)) (λ i. Some (place_at run i)) None 0 (held run)

abbrev pub given_for : List ℕ → Run → ℕ → Cluster
given_for s run = given_in s (ordered s run)
