-- Which control stands where (document 01, "Controls and settings"): what the masks of a Feature Unit carry (feature_controls of crate
-- masks). "Each Selector has one control. The table goes by entity place, channel, selector; spare places, and numbers not yet loaded or
-- that a control does not use, are zero."
--   selector_control u p     ==  the control of the Selector u with p pins; its value is a pin, at first 1
--   entity_controls e d c    ==  those of the entity e, which d is
--   controls_of ds cluster   ==  those of the run's descriptors ds, with the clusters by their IDs
--   node_controls s n c      ==  those of the entity n, whose descriptor stands in the configuration s and whose cluster has c channels
--   controls_to i s r cs     ==  those of the first i entities of the run r, with the clusters cs index by index
--   controls_of_run s r cs    ==  those of all that are looked at
--   breach15 k p            ==  where rule 15 is broken by k controls: nowhere, or at the header's place p
use Rattle.std.specs.Prelude.{ℕ, zero, suc, List, [], ◌∷◌, ◌++◌, get_or, leb, Option}
use Rattle.ground.specs.Refuse.{kept_at}
use Rattle.layout.specs.declared.Cluster.{Cluster}
use Rattle.layout.specs.declared.Entity.{Entity}
use Rattle.layout.specs.declared.Entity.TheVariants.{Unknown, Input, Output, Mixer, Selector, Feature}
use Rattle.layout.specs.Layout.{no_cluster, entity_of}
use Rattle.edition.specs.Edition.{own_id}
use Rattle.entities.specs.declared.Node.{Node}
use Rattle.entities.specs.declared.Run.{Run}
use Rattle.entities.specs.Run.{held, node_at, descriptor_of}
use Rattle.table.specs.declared.Control.{Control}
use Rattle.table.specs.Controls.{most_controls}
use Rattle.masks.specs.Masks.{fresh_control, feature_controls}

abbrev pub selector_control : ℕ → ℕ → Control
selector_control u p = fresh_control u 0 0 p 1

unfoldable pub entity_controls : Entity → List ℕ → ℕ → List Control
entity_controls Unknown d c = []
entity_controls (Input i t own) d c = []
entity_controls (Output i t s) d c = []
entity_controls (Mixer i p own) d c = []
entity_controls (Selector i p) d c = selector_control i p ∷ []
entity_controls (Feature i s n) d c = feature_controls i n c d

unfoldable pub controls_of : List (List ℕ) → (ℕ → Cluster) → List Control
controls_of [] cluster = []
controls_of (d ∷ ds) cluster = entity_controls (entity_of d) d (cluster (own_id d)).channels ++ controls_of ds cluster

abbrev pub node_controls : List ℕ → Node → ℕ → List Control
node_controls s n c = entity_controls (entity_of (descriptor_of s n)) (descriptor_of s n) c

unfoldable pub controls_to : ℕ → List ℕ → Run → List Cluster → List Control
controls_to zero s r cs = []
controls_to (suc i) s r cs = controls_to i s r cs ++ node_controls s (node_at r i) (get_or cs i no_cluster).channels

unfoldable pub controls_of_run : List ℕ → Run → List Cluster → List Control
controls_of_run s r cs = controls_to (held r) s r cs

unfoldable pub breach15 : ℕ → ℕ → Option ℕ
breach15 k p = kept_at (leb k most_controls) p
