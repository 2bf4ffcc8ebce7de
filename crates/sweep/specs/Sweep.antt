-- What the reader gives out in one sweep along a run, and the clusters by index.
--   cluster_by ch lo na x ==  the cluster on the ID x, by the arrays of channels, locations and name indices
--   cluster_on g x        ==  the cluster on the ID x in what was given out
--   first_by cl ids       ==  the cluster that enters by pin 1 where the source IDs are ids
--   gives_by s n cl       ==  what the entity n gives out where the clusters cl are given out on IDs
--   gives_at s run i cs   ==  what the i-th entity gives out where the clusters cs enter
--   given_in s run x      ==  what the ID x gives out along the run
--   swept s run          ==  what is given out along the run, as arrays by ID
--   Sweeps s run g       ==  g is that, so that on each ID it has what is given out there
--   clusters_of run cl    ==  the cluster of each entity by index
use Rattle.std.specs.Prelude.{ℕ, ◌≡◌, List, map, get_or}
use Rattle.layout.specs.declared.Cluster.{Cluster}
use Rattle.layout.specs.Layout.{entity_of, no_cluster}
use Rattle.graph.specs.Tables.{tabulate, below}
use Rattle.graph.specs.Along.{given}
use Rattle.entities.specs.declared.Node.{Node}
use Rattle.entities.specs.declared.Run.{Run}
use Rattle.entities.specs.Run.{most_entities, held, id_at, sources_of, sources_at, descriptor_of, descriptor_at}
use Rattle.edition.specs.Audio.{first_of, give_out}
use Rattle.sweep.specs.declared.Given.{Given}

abbrev pub cluster_by : List ℕ → List ℕ → List ℕ → ℕ → Cluster
cluster_by channels locations names x = record { channels = get_or channels x 0; locations = get_or locations x 0; names = get_or names x 0 }

abbrev pub cluster_on : Given → ℕ → Cluster
cluster_on g x = cluster_by g.channels g.locations g.names x

unfoldable pub first_by : (ℕ → Cluster) → List ℕ → Cluster
first_by cl ids = first_of (map cl ids)

unfoldable pub gives_by : List ℕ → Node → (ℕ → Cluster) → Cluster
gives_by s n cl = give_out (entity_of (descriptor_of s n)) (map cl (sources_of s n))

abbrev pub gives_at : List ℕ → Run → ℕ → List Cluster → Cluster
gives_at s run i cs = give_out (entity_of (descriptor_at s run i)) cs

unfoldable pub given_in : List ℕ → Run → ℕ → Cluster
given_in s run = given (id_at run) (sources_at s run) (gives_at s run) (λ x. no_cluster) (below (held run))

unfoldable pub swept : List ℕ → Run → Given
swept s run = record {
  channels = tabulate 256 (λ x. (given_in s run x).channels);
  locations = tabulate 256 (λ x. (given_in s run x).locations);
  names = tabulate 256 (λ x. (given_in s run x).names);
}

-- an ID is a byte, so that what is given out on any other is nothing
pub record Sweeps (s : List ℕ) (run : Run) (g : Given) : Type 0 where
  pub whole : g ≡ swept s run
  pub holds : (x : ℕ) → cluster_on g x ≡ given_in s run x

unfoldable pub clusters_of : Run → (ℕ → Cluster) → List Cluster
clusters_of run cl = tabulate most_entities (λ i. cl (id_at run i))
