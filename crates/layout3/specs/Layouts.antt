-- The layouts of the six kinds of the 3.0 edition (document 02, No. 12; 001, tables 4-16, 4-17, 4-29 to 4-31, 4-43): the one place where they are
-- said, as formats of crate layout. Byte 0 of a descriptor is its length, byte 1 its type, byte 2 the subtype of 001's table A-15; a layout
-- says what stands from offset 3 to the end.
--   Kind        ==  the layouts
--   number_of k  ==  its subtype, byte 2
--   format_of k  ==  the layout
--   kind_by n    ==  the layout whose subtype is n, if any
--   LaidOut d   ==  rule 9: there are fields in range, of one of the layouts, whose bytes d has from byte 2 on
use Rattle.std.specs.Prelude.{ℕ, ◌≡◌, List, ◌∷◌, drop, eqb}
use Rattle.std.proofs.Math.Option.{Option, none, some}
use Rattle.ground.specs.Pick.{pick}
use Rattle.layout.specs.Layouts.{most_pins}
use Rattle.layout.specs.Format.{Format, last, rest, byte, source, word, sources, Value, emit, InRange}

pub data Kind : Type 0 where
  input : Kind
  output : Kind
  mixer : Kind
  selector : Kind
  feature : Kind
  clock : Kind

abbrev pub number_of : Kind → ℕ
number_of input = 2
number_of output = 3
number_of mixer = 5
number_of selector = 6
number_of feature = 7
number_of clock = 0x0B

abbrev pub format_of : Kind → Format
-- ID, terminal type (2), associated terminal, clock, controls (4), cluster (2), extended descriptor (2), connectors (2), string (2)
format_of input = byte (word (byte (byte (word (word (word (word (word (byte last)))))))))
-- ID, terminal type (2), associated terminal, source, clock, controls (4), extended descriptor (2), connectors (2), string (2)
format_of output = byte (word (byte (source (byte (word (word (word (word (byte last)))))))))
-- ID, pins p, p sources, cluster (2), then N mixer controls, controls (4), string (2): six bytes or more
format_of mixer = byte (sources 1 most_pins (word (word (word (byte rest)))))
-- ID, pins p, p sources, controls (4), string (2)
format_of selector = byte (sources 1 most_pins (word (word (byte last))))
-- ID, source, then controls, string (2): two bytes or more
format_of feature = byte (source (byte rest))
-- ID, attributes, controls (4), reference terminal, string (2)
format_of clock = byte (byte (word (word (byte (byte last)))))

abbrev pub kind_by : ℕ → Option Kind
kind_by n =
    pick (eqb n 2) (some input) (pick (eqb n 3) (some output) (pick (eqb n 5) (some mixer) (pick (eqb n 6) (some selector) (pick (eqb n 7) (some feature) (pick (eqb n 0x0B) (some clock) none)))))

pub record LaidOut (d : List ℕ) : Type 0 where
  pub kind : Kind
  pub value : Value (format_of kind)
  pub kept : InRange (format_of kind) value
  pub same : drop 2 d ≡ number_of kind ∷ emit (format_of kind) value
