-- What a descriptor is to the reader: an enum case with its kind's own numbers, made of the fields that the layouts find in it
-- (Layouts, Fields); Unknown where they find none. Byte 2 is the kind, byte 3 the ID.
--   most_pins, Pins p, LaidOut d  ==  as Layouts and Fields have them, for other crates to use
--   no_cluster                ==  a cluster of no channels, all zeros: what stands where none was given out
--   declared c l m           ==  the cluster that fields declare
--   cluster_at d k            ==  the cluster declared at offsets k..k+3: channels, locations (2), name index
--   entity_in o               ==  the enum case of the fields o; Unknown where there are no fields
--   entity_by ks d            ==  that of the fields of d by one of the layouts ks, whatever byte 2 is
--   input_of d, output_of d, mixer_of d, selector_of d, feature_of d ==  the same by the layouts of the kind in the name
--   entity_of d               ==  what the reader makes of d: by the layouts whose number is byte 2
--   is_unknown e              ==  it has none of the five layouts: a wrong layout, or the printed Selector
use Rattle.std.specs.Prelude.{ℕ, ◌+◌, Bool, true, false, List, length}
use Rattle.std.proofs.Math.Option.{Option, none, some}
use Rattle.ground.specs.Numbers.{byte, word}
use Rattle.layout.specs.declared.Cluster.{Cluster}
use Rattle.layout.specs.declared.Entity.{Entity}
use Rattle.layout.specs.declared.Entity.TheVariants.{Unknown, Input, Output, Mixer, Selector, Feature}
use Rattle.layout.specs.Format.{TwoBytes, word_of}
use Rattle.layout.specs.Layouts as kind
use Rattle.layout.specs.Layouts.{Kind, number_of, kinds_of}
use Rattle.layout.specs.Fields as fields
use Rattle.layout.specs.Fields.{Fields, fields_by, fields_of}
pub use Rattle.layout.specs.Layouts.{most_pins, Pins}
pub use Rattle.layout.specs.Fields.{LaidOut}

abbrev pub no_cluster : Cluster
no_cluster = record { channels = 0; locations = 0; names = 0 }

abbrev pub declared : ℕ → TwoBytes → ℕ → Cluster
declared c l m = record { channels = c; locations = word_of l; names = m }

abbrev pub cluster_at : List ℕ → ℕ → Cluster
cluster_at d k = record { channels = byte d k; locations = word d (k + 1); names = byte d (k + 3) }

abbrev pub entity_in : Option Fields → Entity
entity_in none = Unknown
entity_in (some (fields.input i t a c l m n)) = Input i (word_of t) (declared c l m)
entity_in (some (fields.output i t a s n)) = Output i (word_of t) s
entity_in (some (fields.mixer i s c l m k n)) = Mixer i (length s) (declared c l m)
entity_in (some (fields.selector i s n)) = Selector i (length s)
entity_in (some (fields.feature i s z k n)) = Feature i s z

abbrev pub entity_by : List Kind → List ℕ → Entity
entity_by ks d = entity_in (fields_by ks d)

unfoldable pub input_of : List ℕ → Entity
input_of d = entity_by (kinds_of (number_of kind.input)) d

unfoldable pub output_of : List ℕ → Entity
output_of d = entity_by (kinds_of (number_of kind.output)) d

unfoldable pub mixer_of : List ℕ → Entity
mixer_of d = entity_by (kinds_of (number_of kind.mixer)) d

unfoldable pub selector_of : List ℕ → Entity
selector_of d = entity_by (kinds_of (number_of kind.selector)) d

unfoldable pub feature_of : List ℕ → Entity
feature_of d = entity_by (kinds_of (number_of kind.feature)) d

unfoldable pub entity_of : List ℕ → Entity
entity_of d = entity_in (fields_of d)

unfoldable pub is_unknown : Entity → Bool
is_unknown Unknown = true
is_unknown (Input i t c) = false
is_unknown (Output i t s) = false
is_unknown (Mixer i p c) = false
is_unknown (Selector i p) = false
is_unknown (Feature i s n) = false
