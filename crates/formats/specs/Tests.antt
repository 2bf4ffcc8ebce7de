-- What the reader computes of GENERAL and FORMAT_TYPE: each sentence's test.
--   opens_as k d          ==  the test of OpensAs, type 24 and subtype k
--   is_general g, is_format f, samples_right f, rates_right f, is_type_one c f  ==  the tests of the sentences of Formats
--   format_right tag c f  ==  the test of FORMAT_TYPE f under a tag, for a Terminal of c channels
use Rattle.std.specs.Prelude.{ℕ, ◌+◌, ◌*◌, Bool, not, ◌&&◌, ◌||◌, List, length, eqb, ltb, leb}
use Rattle.ground.specs.Pick.{pick, within}
use Rattle.ground.specs.Numbers.{byte, triple}

unfoldable pub opens_as : ℕ → List ℕ → Bool
opens_as k d = eqb (byte d 1) 0x24 && eqb (byte d 2) k

unfoldable pub is_general : List ℕ → Bool
is_general g = eqb (length g) 7 && opens_as 1 g

unfoldable pub is_format : List ℕ → Bool
is_format f = leb 4 (length f) && opens_as 2 f

unfoldable pub samples_right : List ℕ → Bool
samples_right f = within 1 (byte f 5) 4 && within 1 (byte f 6) (8 * byte f 5)

unfoldable pub rates_right : List ℕ → Bool
rates_right f = pick (ltb 0 (byte f 7)) (eqb (length f) (8 + 3 * byte f 7)) (eqb (length f) 14 && leb (triple f 8) (triple f 11))

unfoldable pub is_type_one : ℕ → List ℕ → Bool
is_type_one c f = leb 8 (length f) && (eqb (byte f 3) 1 && (eqb (byte f 4) c && (samples_right f && rates_right f)))

unfoldable pub format_right : ℕ → ℕ → List ℕ → Bool
format_right tag c f = is_format f && (not (eqb tag 1) || is_type_one c f)
