-- What the reader computes for rule 4, nowhere or the place of the refusal (document 01's table), and for the rules 1 to 4 together.
--   breach4                   ==  where rule 4 is broken
--   wrong_interface b i        ==  the test that i, behind the descriptors b, is an interface descriptor that refusal 4 names
--   wrong_at s p i             ==  the same of i at place p of s, where two searches from the first byte on tell what stands before
--   control_at s               ==  the place of the first AudioControl interface; L if there is none
--   interfaces_judged s r      ==  the lowest number of 1 to 4 that applies, with its place; r where none does
--   location_of s              ==  the place of the AudioControl interface of s, or what the rules 1 to 4 refuse
use Rattle.std.specs.Prelude.{ℕ, Bool, not, ◌&&◌, ◌||◌, List, length, eqb, Result, Option, Some, None}
use Rattle.ground.specs.declared.Refusal.{Refusal}
use Rattle.ground.specs.Numbers.{byte}
use Rattle.ground.specs.Lists.{any}
use Rattle.ground.specs.First.{is_before}
use Rattle.ground.specs.Refuse.{none, kept_at, refuse, place_or}
use Rattle.ground.specs.Told.{told}
use Rattle.scan.specs.Cutting.{rest, breach3}
use Rattle.scan.specs.Search.{searched}
use Rattle.search.specs.Want.{is_interface, is_audio, is_setting, found_from}
use Rattle.search.specs.declared.Want.TheVariants as want
use Rattle.opening.specs.Reading.{breach1, breach2}

unfoldable pub wrong_interface : List (List ℕ) → List ℕ → Bool
wrong_interface earlier i =
    is_interface i
    && (not (eqb (length i) 9)
    || (any (is_setting (byte i 2) (byte i 3)) earlier
    || (is_audio 1 i && (any (is_audio 1) earlier || not (eqb (byte i 3) 0)))))

unfoldable pub wrong_at : List ℕ → ℕ → List ℕ → Bool
wrong_at s at i =
    is_interface i
    && (not (eqb (length i) 9)
    || (is_before (found_from s 0 (want.Setting (byte i 2) (byte i 3))) at
    || (is_audio 1 i && (is_before (found_from s 0 (want.Audio 1)) at || not (eqb (byte i 3) 0)))))

-- first such descriptor; L if only the AudioControl one is missing
unfoldable pub breach4 : List ℕ → Option ℕ
breach4 s =
    elim (searched wrong_interface s 0) [
      | None ↦ kept_at (any (is_audio 1) (rest s 0)) (length s)
      | Some p ↦ Some p
    ]

abbrev pub control_at : List ℕ → ℕ
control_at s = place_or (found_from s 0 (want.Audio 1)) (length s)

unfoldable pub interfaces_judged : List ℕ → Refusal → Refusal
interfaces_judged s r = refuse 1 (breach1 s) (refuse 2 (breach2 s) (refuse 3 (breach3 s) (refuse 4 (breach4 s) r)))

unfoldable pub location_of : List ℕ → Result ℕ Refusal
location_of s = told (interfaces_judged s none) (control_at s)
