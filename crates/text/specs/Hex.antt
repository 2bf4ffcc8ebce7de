-- Capital hex digits, in ASCII.
--   digit_of n   ==  0 to 9 from 30 hex on, A to F from 41 hex on
--   hex_pair b   ==  the two digits of a byte, the high one first
--   hex_behind l ==  a space and its pair for each byte of a list
--   hex_line l   ==  the pairs of a list's bytes, with a space between one and the next
use Rattle.std.specs.Prelude.{ℕ, ◌+◌, ◌/◌, ◌%◌, List, [], ◌∷◌, ◌++◌, ltb, flat_map}
use Rattle.ground.specs.Pick.{pick}

unfoldable pub digit_of : ℕ → ℕ
digit_of n = pick (ltb n 10) (0x30 + n) (0x37 + n)

unfoldable pub hex_pair : ℕ → List ℕ
hex_pair b = digit_of (b / 16) ∷ digit_of (b % 16) ∷ []

abbrev pub hex_behind : List ℕ → List ℕ
hex_behind l = flat_map (λ b. 0x20 ∷ hex_pair b) l

abbrev pub hex_line : List ℕ → List ℕ
hex_line [] = []
hex_line (b ∷ rest) = hex_pair b ++ hex_behind rest
