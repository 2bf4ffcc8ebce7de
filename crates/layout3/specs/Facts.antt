-- What an entity's case says, for the rules that do not know an edition, and for the sheet (document 02, No. 12: "document 01's kind numbers", "0B ..
-- for a Clock Source", which "is no source for a pin").
--   facts_of e  ==  the number of its kind on the sheet, 0 for Unknown; the offset of its first source ID, as the layout has it, and how many there
--                  are; whether it may be a source; its clock ID, and the ID of the cluster that it names, if it has one, else 0
--   shown k first pins feeds  ==  facts with no clock and no cluster
use Rattle.std.specs.Prelude.{ℕ, Bool, true, false}
use Rattle.layout.specs.Format.{first_source}
use Rattle.layout3.specs.declared.Entity.{Entity}
use Rattle.layout3.specs.declared.Entity.TheVariants.{Unknown, Input, Output, Mixer, Selector, Feature, Clock}
use Rattle.layout3.specs.declared.Facts.{Facts}
use Rattle.layout3.specs.Layouts as kind
use Rattle.layout3.specs.Layouts.{format_of}

abbrev pub shown : ℕ → ℕ → ℕ → Bool → Facts
shown k first pins feeds = record { kind = k; first = first; pins = pins; feeds = feeds; clocked = false; clock = 0; declares = false; cluster = 0 }

unfoldable pub facts_of : Entity → Facts
facts_of Unknown = shown 0 0 0 false
facts_of (Input k c) = record { kind = 2; first = first_source (format_of kind.input) 3; pins = 0; feeds = true; clocked = true; clock = k; declares = true; cluster = c }
facts_of (Output s k) = record { kind = 3; first = first_source (format_of kind.output) 3; pins = 1; feeds = false; clocked = true; clock = k; declares = false; cluster = 0 }
facts_of (Mixer p c) = record { kind = 4; first = first_source (format_of kind.mixer) 3; pins = p; feeds = true; clocked = false; clock = 0; declares = true; cluster = c }
facts_of (Selector p) = shown 5 (first_source (format_of kind.selector) 3) p true
facts_of (Feature s) = shown 6 (first_source (format_of kind.feature) 3) 1 true
facts_of Clock = shown 0x0B (first_source (format_of kind.clock) 3) 0 false
