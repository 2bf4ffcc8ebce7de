-- What a descriptor is to the reader of the 3.0 edition: an enum case with its kind's own numbers, those that the layout's fields hold (Layouts);
-- Unknown where d has none of the layouts. Byte 2 is the subtype, byte 3 the ID.
--   entity_at k v   ==  the enum case of the fields v of the layout k
--   entity_by k d   ==  what d is by the layout k, whatever byte 2 is
--   input_of d, output_of d, mixer_of d, selector_of d, feature_of d, clock_of d  ==  the same by the layout in the name
--   entity_in o d   ==  by the layout o, if there is one
--   entity_of d     ==  what the reader makes of d: by the layout whose subtype is byte 2
--   layout_number e ==  the refusal of each case: 9, "an entity's layout is wrong", for Unknown; 0, none, for the six kinds
--   is_unknown e    ==  the layout was wrong
use Rattle.std.specs.Prelude.{ℕ, Bool, List, length, eqb}
use Rattle.std.proofs.Math.Option.{Option, none, some}
use Rattle.ground.specs.Pick.{pick}
use Rattle.ground.specs.Numbers.{byte}
use Rattle.layout.specs.Format.{word_of, Value, fits, value_at}
use Rattle.layout3.specs.declared.Entity.{Entity}
use Rattle.layout3.specs.declared.Entity.TheVariants.{Unknown, Input, Output, Mixer, Selector, Feature, Clock}
use Rattle.layout3.specs.Layouts as kind
use Rattle.layout3.specs.Layouts.{Kind, format_of, kind_by}

abbrev pub entity_at : (k : Kind) → Value (format_of k) → Entity
entity_at kind.input v = Input v.1.1.1.0 (word_of v.1.1.1.1.1.1.0)
entity_at kind.output v = Output v.1.1.1.0 v.1.1.1.1.0
entity_at kind.mixer v = Mixer (length v.1.0) (word_of v.1.1.0)
entity_at kind.selector v = Selector (length v.1.0)
entity_at kind.feature v = Feature v.1.0
entity_at kind.clock v = Clock

abbrev pub entity_by : Kind → List ℕ → Entity
entity_by k d = pick (fits (format_of k) d 3) (entity_at k (value_at (format_of k) d 3)) Unknown

unfoldable pub input_of : List ℕ → Entity
input_of d = entity_by kind.input d

unfoldable pub output_of : List ℕ → Entity
output_of d = entity_by kind.output d

unfoldable pub mixer_of : List ℕ → Entity
mixer_of d = entity_by kind.mixer d

unfoldable pub selector_of : List ℕ → Entity
selector_of d = entity_by kind.selector d

unfoldable pub feature_of : List ℕ → Entity
feature_of d = entity_by kind.feature d

unfoldable pub clock_of : List ℕ → Entity
clock_of d = entity_by kind.clock d

abbrev pub entity_in : Option Kind → List ℕ → Entity
entity_in none d = Unknown
entity_in (some k) d = entity_by k d

unfoldable pub entity_of : List ℕ → Entity
entity_of d = entity_in (kind_by (byte d 2)) d

abbrev pub layout_number : Entity → ℕ
layout_number Unknown = 9
layout_number (Input k c) = 0
layout_number (Output s k) = 0
layout_number (Mixer p c) = 0
layout_number (Selector p) = 0
layout_number (Feature s) = 0
layout_number Clock = 0

unfoldable pub is_unknown : Entity → Bool
is_unknown e = eqb (layout_number e) 9
