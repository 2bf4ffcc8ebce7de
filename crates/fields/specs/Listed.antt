-- The entities of a list that the writer is given (document 02, No. 9), with all their fields, and the descriptor that each is written as: by the
-- layouts that the reader goes by (layout/specs/Layouts), in which each byte but the length and the type is a field.
--   Listed               ==  an entity of a list: laid f: one of the five kinds, with the fields f; printed i s n: a printed Selector, which is
--                            withdrawn, with a Selector's fields: ID, sources, name; wrong: what is no kind's fields
--   written_as l          ==  its descriptor: the fields' bytes; the printed Selector's as source document 004 prints it, a byte 0 in front of the
--                            sources; no bytes where there are no fields
--   span_of v x           ==  the part of the lent slice v that x names
--   entity_from x s k     ==  the entity whose numbers are x, whose sources are s and whose control bytes or masks are k
--   listed_with v x       ==  the entity x, whose sources and control bytes or masks stand in the lent slice v
--   blank_item            ==  a spare place: no entity, all zeros
--   span_from q x, moved_by q x  ==  the part x, and the parts of the entity x, moved q places on: what was read of a descriptor, in a slice in which it
--                            stands at place q
--   found_with k d        ==  the entity whose fields stand in d by the layout k, whether or not d has that layout
--   found_as o            ==  the entity of the fields o; wrong where there are none
--   fields_found d        ==  the entity that the layouts find in the descriptor d; wrong where they find none
--   no_span               ==  no part
--   sources_at F d k, controls_at F d k  ==  where in d, which has the format F from offset k on, the sources stand, and the bytes of any number: control
--                            bytes or masks; no part where F has none
--   span_by, sources_in d, controls_in d  ==  .. by the layout that d has; no part where it has none
--   KindRead k d r       ==  r are the fields of d by the layout k, with these parts
--   ReadAs d r           ==  r is the entity of d with all its fields, with these parts
use Rattle.std.specs.Prelude.{ℕ, ◌+◌, ◌-◌, ◌≡◌, List, [], ◌∷◌, ◌++◌, length}
use Rattle.std.proofs.Math.Option.{Option, none, some}
use Rattle.ground.specs.Lists.{part}
use Rattle.ground.specs.Numbers as at
use Rattle.layout.specs.Format.{Format, last, rest, byte, source, ranged, word, sources, two_of, value_at}
use Rattle.layout.specs.Layouts.{Kind, format_of}
use Rattle.layout.specs.Fields.{Fields, input, output, mixer, selector, feature, bytes_of, descriptor_type, layout_by, fields_at, fields_of}
use Rattle.fields.specs.declared.Numbers.{Numbers}
use Rattle.fields.specs.declared.Numbers.TheVariants.{Unknown, Input, Output, Mixer, Selector, Feature, Printed}
use Rattle.fields.specs.declared.Span.{Span}
use Rattle.fields.specs.declared.Item.{Item}

pub data Listed : Type 0 where
  wrong : Listed
  laid : Fields → Listed
  printed : (id : ℕ) (sources : List ℕ) (name : ℕ) → Listed

abbrev pub written_as : Listed → List ℕ
written_as wrong = []
written_as (laid f) = bytes_of f
written_as (printed i s n) = (7 + length s) ∷ descriptor_type ∷ 5 ∷ i ∷ length s ∷ 0 ∷ (s ++ n ∷ [])

abbrev pub span_of : List ℕ → Span → List ℕ
span_of v x = part v x.from x.end

abbrev pub entity_from : Numbers → List ℕ → List ℕ → Listed
entity_from Unknown s k = wrong
entity_from (Input i t a c l m n) s k = laid (input i (two_of t) a c (two_of l) m n)
entity_from (Output i t a f n) s k = laid (output i (two_of t) a f n)
entity_from (Mixer i c l m n) s k = laid (mixer i s c (two_of l) m k n)
entity_from (Selector i n) s k = laid (selector i s n)
entity_from (Feature i f z n) s k = laid (feature i f z k n)
entity_from (Printed i n) s k = printed i s n

abbrev pub listed_with : List ℕ → Item → Listed
listed_with v x = entity_from x.numbers (span_of v x.sources) (span_of v x.controls)

abbrev pub blank_item : Item
blank_item = record { numbers = Unknown; sources = record { from = 0; end = 0 }; controls = record { from = 0; end = 0 } }

abbrev pub span_from : ℕ → Span → Span
span_from q x = record { from = q + x.from; end = q + x.end }

abbrev pub moved_by : ℕ → Item → Item
moved_by q x = record { numbers = x.numbers; sources = span_from q x.sources; controls = span_from q x.controls }

abbrev pub found_as : Option Fields → Listed
found_as none = wrong
found_as (some f) = laid f

unfoldable pub fields_found : List ℕ → Listed
fields_found d = found_as (fields_of d)

unfoldable pub found_with : Kind → List ℕ → Listed
found_with k d = laid (fields_at k (value_at (format_of k) d 3))

-- ---- where what varies in length stands, by the format

abbrev pub no_span : Span
no_span = record { from = 0; end = 0 }

abbrev pub sources_at : Format → List ℕ → ℕ → Span
sources_at last d k = no_span
sources_at rest d k = no_span
sources_at (byte F) d k = sources_at F d (k + 1)
sources_at (source F) d k = sources_at F d (k + 1)
sources_at (ranged low high F) d k = sources_at F d (k + 1)
sources_at (word F) d k = sources_at F d (k + 2)
sources_at (sources low high F) d k = record { from = k + 1; end = k + 1 + at.byte d k }

abbrev pub controls_at : Format → List ℕ → ℕ → Span
controls_at last d k = no_span
controls_at rest d k = record { from = k; end = length d - 1 }
controls_at (byte F) d k = controls_at F d (k + 1)
controls_at (source F) d k = controls_at F d (k + 1)
controls_at (ranged low high F) d k = controls_at F d (k + 1)
controls_at (word F) d k = controls_at F d (k + 2)
controls_at (sources low high F) d k = controls_at F d (k + 1 + at.byte d k)

abbrev pub span_by : (Format → List ℕ → ℕ → Span) → List ℕ → Option Fields → Span
span_by place d none = no_span
span_by place d (some f) = place (format_of (layout_by f)) d 3

unfoldable pub sources_in : List ℕ → Span
sources_in d = span_by sources_at d (fields_of d)

unfoldable pub controls_in : List ℕ → Span
controls_in d = span_by controls_at d (fields_of d)

pub record KindRead (k : Kind) (d : List ℕ) (r : Item) : Type 0 where
  pub fields : listed_with d r ≡ found_with k d
  pub sources : r.sources ≡ sources_at (format_of k) d 3
  pub controls : r.controls ≡ controls_at (format_of k) d 3

pub record ReadAs (d : List ℕ) (r : Item) : Type 0 where
  pub fields : listed_with d r ≡ fields_found d
  pub sources : r.sources ≡ sources_in d
  pub controls : r.controls ≡ controls_in d
