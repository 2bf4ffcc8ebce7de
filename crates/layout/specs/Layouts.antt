-- The layouts of the five kinds (document 01, "Entities"; 000, tables 4-3 to 4-7): the one place where they are said. Byte 0 of a descriptor is its length, byte 1 its type, byte 2 the kind; a layout says what stands from offset 3 to the end.
--   Kind        ==  the layouts
--   number_of k  ==  the number of its kind, byte 2
--   format_of k  ==  the layout
--   cluster F   ==  the bytes of a declared cluster, then F: channels c, a bitmap of locations (2), a first name index
--   most_pins    ==  the most pins that a Mixer or a Selector may have: 24 (document 02, No. 7)
--   Pins p      ==  p is 1 to 24
--   kinds       ==  all of them, in the order in which they are tried
--   kinds_of n   ==  those whose number is n; kinds_in n ks: of the list ks
use Rattle.std.specs.Prelude.{ℕ, ◌≤◌, List, [], ◌∷◌, eqb}
use Rattle.ground.specs.Pick.{pick}
use Rattle.layout.specs.Format.{Format, last, rest, byte, source, ranged, word, sources}

pub data Kind : Type 0 where
  input : Kind
  output : Kind
  mixer : Kind
  selector : Kind
  feature : Kind

abbrev pub most_pins : ℕ
most_pins = 24

abbrev pub Pins : ℕ → Type 0
Pins p = (1 ≤ p) × (p ≤ most_pins)

abbrev pub number_of : Kind → ℕ
number_of input = 2
number_of output = 3
number_of mixer = 4
number_of selector = 5
number_of feature = 6

abbrev pub cluster : Format → Format
cluster F = byte (word (byte F))

abbrev pub format_of : Kind → Format
-- ID, terminal type (2), associated terminal, cluster (4), name
format_of input = byte (word (byte (cluster last)))
-- ID, terminal type (2), associated terminal, source, name
format_of output = byte (word (byte (source last)))
-- ID, pins p, p sources, cluster (4), N control bytes, name
format_of mixer = byte (sources 1 most_pins (cluster rest))
-- ID, pins p, p sources, name
format_of selector = byte (sources 1 most_pins last)
-- ID, source, control size n, masks, name
format_of feature = byte (source (ranged 1 4 rest))

abbrev pub kinds : List Kind
kinds = input ∷ output ∷ mixer ∷ selector ∷ feature ∷ []

abbrev pub kinds_in : ℕ → List Kind → List Kind
kinds_in n [] = []
kinds_in n (k ∷ ks) = pick (eqb n (number_of k)) (k ∷ kinds_in n ks) (kinds_in n ks)

abbrev pub kinds_of : ℕ → List Kind
kinds_of n = kinds_in n kinds
