-- What the reader computes of rule 13 in the 3.0 edition: whether an entity keeps its kind's rule, where clusters are given out on IDs.
--   cluster_behind b ids x  ==  the cluster on the entity ID x: the descriptor of the buffer b that bears the ID which stands there
--   Entering cs r      ==  r is i, the channels entering in all, and small enough to reckon with
--   keeps_by s b n cl   ==  whether the entity n keeps its rule where the clusters cl are given out on IDs
--   breach13 s b run cl  ==  the place of the first entity that does not
use Rattle.std.specs.Prelude.{ℕ, ◌≤◌, ◌≡◌, Bool, not, List, map, length, get_or, Option, Some, None}
use Rattle.ground.specs.Places.{first_in}
use Rattle.layout3.specs.Layout.{entity_of}
use Rattle.buffer.specs.Reading.{pieces, cluster_with}
use Rattle.edition3.specs.Third.{channels_in, keeps}
use Rattle.entities.specs.declared.Node.{Node}
use Rattle.entities.specs.declared.Run.{Run}
use Rattle.entities.specs.Run.{held, node_at, place_at, sources_of, descriptor_of}

abbrev pub cluster_behind : List ℕ → List ℕ → ℕ → List ℕ
cluster_behind b ids x = cluster_with b (get_or ids x 0)

-- at most 255 pins of 255 channels each
pub record Entering (cs : List (List ℕ)) (r : ℕ) : Type 0 where
  pub all_channels : r ≡ channels_in cs
  pub few : r ≤ 65025

unfoldable pub keeps_by : List ℕ → List ℕ → Node → (ℕ → List ℕ) → Bool
keeps_by s b n cl = keeps (pieces b) (entity_of (descriptor_of s n)) (length (descriptor_of s n)) (map cl (sources_of s n))

unfoldable pub breach13 : List ℕ → List ℕ → Run → (ℕ → List ℕ) → Option ℕ
breach13 s b run cl = first_in (λ i. not (keeps_by s b (node_at run i) cl)) (λ i. Some (place_at run i)) None 0 (held run)
