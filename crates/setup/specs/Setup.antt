-- What a setup asks: by its bytes, in document 01's words, and as it is read.
--   AsksSet s, AsksGet s  ==  type and request of the setup s are 21/01; A1/81 to A1/84
--   asks_set s          ==  the test of a Set
--   code_of part        ==  the request of a Get of that part: 81 CUR, 82 MIN, 83 MAX, 84 RES
--   WellAsked s        ==  31 is not given: 8 bytes, and "21/01, A1/81, A1/82, A1/83 or A1/84"
--   target_of s         ==  what a setup's wIndex, wValue and wLength name: "wIndex low byte" the interface, "wIndex high byte" the unit,
--                          "wValue is selector (high) and channel (low)"
--   asked_by g a b      ==  what type a and request b ask of it: 21/01 a Set, A1/81 to A1/84 a Get of CUR, MIN, MAX, RES
--   get_asked b g       ==  the Gets of them
--   asked_of s          ==  what the setup asks; nothing where 31 is given
--   target_in k         ==  what k asks of; zeros where it asks nothing
use Rattle.std.specs.Prelude.{ℕ, ◌≤◌, ◌≡◌, List, Bool, ◌&&◌, ◌⊎◌, eqb, length}
use Rattle.ground.specs.Pick.{pick}
use Rattle.ground.specs.Numbers.{byte, word}
use Rattle.setup.specs.declared.Target.{Target}
use Rattle.setup.specs.declared.Part.{Part}
use Rattle.setup.specs.declared.Part.TheVariants.{Cur, Min, Max, Res}
use Rattle.setup.specs.declared.Asked.{Asked}
use Rattle.setup.specs.declared.Asked.TheVariants.{Unknown, Set, Get}

abbrev pub AsksSet : List ℕ → Type 0
AsksSet s = (byte s 0 ≡ 0x21) × (byte s 1 ≡ 1)

abbrev pub asks_set : List ℕ → Bool
asks_set s = eqb (byte s 0) 0x21 && eqb (byte s 1) 1

abbrev pub AsksGet : List ℕ → Type 0
AsksGet s = (byte s 0 ≡ 0xA1) × ((0x81 ≤ byte s 1) × (byte s 1 ≤ 0x84))

-- the Audio 1.0 class definition's GET_CUR, GET_MIN, GET_MAX and GET_RES
abbrev pub code_of : Part → ℕ
code_of Cur = 0x81
code_of Min = 0x82
code_of Max = 0x83
code_of Res = 0x84

abbrev pub WellAsked : List ℕ → Type 0
WellAsked s = (length s ≡ 8) × (AsksSet s ⊎ AsksGet s)

abbrev pub target_of : List ℕ → Target
target_of s = record { interface = byte s 4; unit = byte s 5; channel = byte s 2; selector = byte s 3; bytes = word s 6 }

unfoldable pub get_asked : ℕ → Target → Asked
get_asked b g =
    pick (eqb b 0x81) (Get Cur g)
    (pick (eqb b 0x82) (Get Min g)
    (pick (eqb b 0x83) (Get Max g)
    (pick (eqb b 0x84) (Get Res g)
    Unknown)))

unfoldable pub asked_by : Target → ℕ → ℕ → Asked
asked_by g a b =
    pick (eqb a 0x21) (pick (eqb b 1) (Set g) Unknown) (pick (eqb a 0xA1) (get_asked b g) Unknown)

unfoldable pub asked_of : List ℕ → Asked
asked_of s = pick (eqb (length s) 8) (asked_by (target_of s) (byte s 0) (byte s 1)) Unknown

abbrev pub target_in : Asked → Target
target_in Unknown = record { interface = 0; unit = 0; channel = 0; selector = 0; bytes = 0 }
target_in (Set g) = g
target_in (Get part g) = g
