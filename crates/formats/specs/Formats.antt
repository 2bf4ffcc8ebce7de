-- GENERAL and FORMAT_TYPE (document 01, "Streaming"), each sentence as the paper has it.
--   OpensAs k d        ==  d is of type 24 and of subtype k
--   General g          ==  "GENERAL (24 01, length 7)"
--   Format f           ==  "FORMAT_TYPE (24 02, length at least 4)"
--   Samples f          ==  "byte 5 is 1 to 4; byte 6 is 1 to 8 times byte 5"
--   Rates f            ==  "byte 7 is f: if f > 0 the length is 8+3f, if 0 it is 14 and the rate at 8..10 is at most that at 11..13"
--   TypeOne c f        ==  "the length is at least 8; format byte 3 is 1; byte 4 equals that terminal's c", Samples and Rates
use Rattle.std.specs.Prelude.{ℕ, ◌+◌, ◌*◌, ◌≤◌, ◌<◌, ◌≡◌, List, length}
use Rattle.ground.specs.Numbers.{byte, triple}
use Rattle.search.specs.Want.{Class}

abbrev pub OpensAs : ℕ → List ℕ → Type 0
OpensAs k d = Class d × (byte d 2 ≡ k)

abbrev pub General : List ℕ → Type 0
General g = (length g ≡ 7) × OpensAs 1 g

abbrev pub Format : List ℕ → Type 0
Format f = (4 ≤ length f) × OpensAs 2 f

abbrev pub Samples : List ℕ → Type 0
Samples f = ((1 ≤ byte f 5) × (byte f 5 ≤ 4)) × ((1 ≤ byte f 6) × (byte f 6 ≤ 8 * byte f 5))

pub data Rates (f : List ℕ) : Type 0 where
  discrete : 0 < byte f 7 → length f ≡ 8 + 3 * byte f 7 → Rates f
  continuous : byte f 7 ≡ 0 → length f ≡ 14 → triple f 8 ≤ triple f 11 → Rates f

pub record TypeOne (c : ℕ) (f : List ℕ) : Type 0 where
  pub long : 8 ≤ length f
  pub one : byte f 3 ≡ 1
  pub channels : byte f 4 ≡ c
  pub samples : Samples f
  pub rates : Rates f
