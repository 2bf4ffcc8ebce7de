-- What the reader computes of one entity: whether it keeps its kind's rule, where clusters are given out on IDs.
--   channels_on ch x      ==  the cluster on the ID x, by its channels alone
--   content_on ch lo x    ==  .. by its channels and its bitmap, all that the rules look at
--   Entering cs r        ==  r is i, the channels entering in all, and small enough to reckon with
--   keeps_by s n cl       ==  whether the entity n keeps its rule where the clusters cl are given out on IDs
use Rattle.std.specs.Prelude.{ℕ, ◌≤◌, ◌≡◌, Bool, List, [], map, length, get_or}
use Rattle.layout.specs.declared.Cluster.{Cluster}
use Rattle.layout.specs.Layout.{entity_of}
use Rattle.entities.specs.declared.Node.{Node}
use Rattle.entities.specs.Run.{sources_of, descriptor_of}
use Rattle.edition.specs.Audio.{channels_in, keeps}
use Rattle.sweep.specs.Sweep.{cluster_by}

abbrev pub channels_on : List ℕ → ℕ → Cluster
channels_on channels x = record { channels = get_or channels x 0; locations = 0; names = 0 }

abbrev pub content_on : List ℕ → List ℕ → ℕ → Cluster
content_on channels locations = cluster_by channels locations []

-- at most 255 pins of 255 channels each
pub record Entering (cs : List Cluster) (r : ℕ) : Type 0 where
  pub all_channels : r ≡ channels_in cs
  pub few : r ≤ 65025

unfoldable pub keeps_by : List ℕ → Node → (ℕ → Cluster) → Bool
keeps_by s n cl = keeps (entity_of (descriptor_of s n)) (length (descriptor_of s n)) (map cl (sources_of s n))
