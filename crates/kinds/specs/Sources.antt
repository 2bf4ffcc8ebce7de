-- The sources of an entity, in the order of its pins.
--   pins_of e       ==  how many there are: the pins
--   begins o, sources_from e  ==  the offset of the first of them in the descriptor, as the layout has it; 0 where there is none
--   source_ids d    ==  their IDs as a part of the descriptor d: pins_of of them from sources_from on
--   feeds_of e      ==  it may be a source: every kind but an Output Terminal, which has no output; what has none of the layouts may not
use Rattle.std.specs.Prelude.{ℕ, Bool, true, false, List, take, drop}
use Rattle.std.proofs.Math.Option.{Option, none, some}
use Rattle.layout.specs.declared.Entity.{Entity}
use Rattle.layout.specs.declared.Entity.TheVariants.{Unknown, Input, Output, Mixer, Selector, Feature}
use Rattle.layout.specs.Format.{first_source}
use Rattle.layout.specs.Layouts.{Kind, format_of}
use Rattle.layout.specs.Layout.{entity_of}
use Rattle.kinds.specs.Shown.{layout_of}

unfoldable pub pins_of : Entity → ℕ
pins_of Unknown = 0
pins_of (Input i t c) = 0
pins_of (Output i t s) = 1
pins_of (Mixer i p c) = p
pins_of (Selector i p) = p
pins_of (Feature i s n) = 1

abbrev pub begins : Option Kind → ℕ
begins none = 0
begins (some k) = first_source (format_of k) 3

unfoldable pub sources_from : Entity → ℕ
sources_from e = begins (layout_of e)

abbrev pub source_ids : List ℕ → List ℕ
source_ids d = take (pins_of (entity_of d)) (drop (sources_from (entity_of d)) d)

unfoldable pub feeds_of : Entity → Bool
feeds_of Unknown = false
feeds_of (Input i t c) = true
feeds_of (Output i t s) = false
feeds_of (Mixer i p c) = true
feeds_of (Selector i p) = true
feeds_of (Feature i s n) = true
