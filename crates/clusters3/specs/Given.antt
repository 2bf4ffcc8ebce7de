-- What the reader gives out in the 3.0 edition, as clusters.
--   given_clusters b s run x  ==  what the entity ID x gives out along the order of the run: the cluster descriptor of the buffer b whose ID was given out
use Rattle.std.specs.Prelude.{ℕ, List}
use Rattle.buffer.specs.Reading.{cluster_with}
use Rattle.entities.specs.declared.Run.{Run}
use Rattle.ranks.specs.Order.{ordered}
use Rattle.sweep3.specs.Sweep.{given_ids}

abbrev pub given_clusters : List ℕ → List ℕ → Run → ℕ → List ℕ
given_clusters b s run x = cluster_with b (given_ids s (ordered s run) x)
