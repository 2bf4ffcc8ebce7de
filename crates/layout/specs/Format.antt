-- A format says which fields stand one behind another, up to the end of a descriptor. What its fields hold, the bytes that they are
-- written as, the test of a descriptor and the place of each field follow from the format; FormatLaws shows that writing and reading are
-- each other's inverse, for every format at once and for every list of numbers.
--   Format            ==  the forms of fields: last: one byte, the end; rest: any number of bytes, then one byte, the end;
--                         byte F: a byte, then F; source F: a byte that is the ID of a source, then F; ranged low high F: a byte from
--                         low to high, then F; word F: a number of two bytes, then F; sources low high F: a byte p from low to high,
--                         p IDs of sources, then F
--   TwoBytes          ==  two bytes as they stand, the low one first
--   word_of w, two_of n ==  the number that two bytes are; the two bytes of a number
--   Value F           ==  what the fields hold: a number, two bytes, or a list where their number varies
--   emit F v          ==  the bytes that the fields are written as
--   fits F d k        ==  the test that d has the format F from offset k to its end
--   value_at F d k     ==  what the fields hold that stand in d from offset k on
--   InRange F v       ==  each number that has a range is in it, and so is the length of a list of sources
--   fed F v           ==  the IDs of the sources, in their order
--   first_source F k   ==  the offset of the first of them where F begins at offset k; 0 where F has none
use Prim.{Unit}
use Rattle.std.specs.Prelude.{ℕ, ◌+◌, ◌-◌, ◌*◌, ◌/◌, ◌%◌, ◌≤◌, Bool, ◌&&◌, List, [], ◌∷◌, ◌++◌, length, take, drop, eqb, leb}
use Rattle.ground.specs.Pick.{within}
use Rattle.ground.specs.Numbers as at

pub data Format : Type 0 where
  last : Format
  rest : Format
  byte : Format → Format
  source : Format → Format
  ranged : ℕ → ℕ → Format → Format
  word : Format → Format
  sources : ℕ → ℕ → Format → Format

pub record TwoBytes : Type 0 where
  pub low : ℕ
  pub high : ℕ

abbrev pub word_of : TwoBytes → ℕ
word_of w = w.low + w.high * 256

abbrev pub two_of : ℕ → TwoBytes
two_of n = record { low = n % 256; high = n / 256 }

abbrev pub Value : Format → Type 0
Value last = ℕ
Value rest = List ℕ × ℕ
Value (byte F) = ℕ × Value F
Value (source F) = ℕ × Value F
Value (ranged low high F) = ℕ × Value F
Value (word F) = TwoBytes × Value F
Value (sources low high F) = List ℕ × Value F

abbrev pub emit : (F : Format) → Value F → List ℕ
emit last v = v ∷ []
emit rest v = v.0 ++ v.1 ∷ []
emit (byte F) v = v.0 ∷ emit F v.1
emit (source F) v = v.0 ∷ emit F v.1
emit (ranged low high F) v = v.0 ∷ emit F v.1
emit (word F) v = v.0.low ∷ v.0.high ∷ emit F v.1
emit (sources low high F) v = length v.0 ∷ (v.0 ++ emit F v.1)

abbrev pub fits : Format → List ℕ → ℕ → Bool
fits last d k = eqb (length d) (k + 1)
fits rest d k = leb (k + 1) (length d)
fits (byte F) d k = fits F d (k + 1)
fits (source F) d k = fits F d (k + 1)
fits (ranged low high F) d k = within low (at.byte d k) high && fits F d (k + 1)
fits (word F) d k = fits F d (k + 2)
fits (sources low high F) d k = within low (at.byte d k) high && fits F d (k + 1 + at.byte d k)

abbrev pub value_at : (F : Format) → List ℕ → ℕ → Value F
value_at last d k = at.byte d k
value_at rest d k = (take (length d - (k + 1)) (drop k d), at.byte d (length d - 1))
value_at (byte F) d k = (at.byte d k, value_at F d (k + 1))
value_at (source F) d k = (at.byte d k, value_at F d (k + 1))
value_at (ranged low high F) d k = (at.byte d k, value_at F d (k + 1))
value_at (word F) d k = (record { low = at.byte d k; high = at.byte d (k + 1) }, value_at F d (k + 2))
value_at (sources low high F) d k = (take (at.byte d k) (drop (k + 1) d), value_at F d (k + 1 + at.byte d k))

abbrev pub InRange : (F : Format) → Value F → Type 0
InRange last v = Unit {0}
InRange rest v = Unit {0}
InRange (byte F) v = InRange F v.1
InRange (source F) v = InRange F v.1
InRange (ranged low high F) v = ((low ≤ v.0) × (v.0 ≤ high)) × InRange F v.1
InRange (word F) v = InRange F v.1
InRange (sources low high F) v = ((low ≤ length v.0) × (length v.0 ≤ high)) × InRange F v.1

abbrev pub fed : (F : Format) → Value F → List ℕ
fed last v = []
fed rest v = []
fed (byte F) v = fed F v.1
fed (source F) v = v.0 ∷ []
fed (ranged low high F) v = fed F v.1
fed (word F) v = fed F v.1
fed (sources low high F) v = v.0

abbrev pub first_source : Format → ℕ → ℕ
first_source last k = 0
first_source rest k = 0
first_source (byte F) k = first_source F (k + 1)
first_source (source F) k = k
first_source (ranged low high F) k = first_source F (k + 1)
first_source (word F) k = first_source F (k + 2)
first_source (sources low high F) k = k + 1
