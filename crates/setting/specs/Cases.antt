-- The cases of document 01 ("Cases to prove together") that speak of settings, as a table under a single statement.
--   Case           ==  a range and a wanted value, as the document prints them
--   number s z     ==  the number on the wire that says the integer z
--   minus n        ==  −n
--   found t        ==  the value stored in the case t, computed by the definitions from the numbers on the wire
--   volume x       ==  "Volume −5120..0 by 256": x is wanted
--   bass x         ==  "Bass −10..9 by 4": x is wanted
--   cases          ==  the document's five
use Rattle.std.specs.Prelude.{ℕ, ◌≡◌, refl, List, [], ◌∷◌, map, ℤ, pos, neg_ℤ, nat_abs}
use Rattle.std.specs.Int.{w8, w16}
use Rattle.std.proofs.Common.{of_z}
use Rattle.setting.specs.declared.Sort.{Sort}
use Rattle.setting.specs.declared.Sort.TheVariants.{Volume, Tone, Delay}
use Rattle.setting.specs.declared.Range.{Range}
use Rattle.setting.specs.Setting.{fits_of, legal_of, whole_steps, nearer, closest_height, closest_setting, closest_to}
use Rattle.setting.specs.Meaning.{value}

pub record Case : Type 0 where
  pub sort : Sort
  pub min : ℤ
  pub max : ℤ
  pub res : ℤ
  pub wanted : ℤ

abbrev pub number : Sort → ℤ → ℕ
number Volume z = of_z w16 z
number Tone z = of_z w8 z
number Delay z = nat_abs z

abbrev pub minus : ℕ → ℤ
minus n = neg_ℤ (pos n)

unfoldable pub found : Case → ℤ
found t =
    let s = t.sort in
    let range : Range = record { min = number s t.min; max = number s t.max; res = number s t.res } in
    value s (closest_to s range (number s t.wanted))

abbrev pub volume : ℤ → Case
volume wanted = record { sort = Volume; min = minus 5120; max = pos 0; res = pos 256; wanted = wanted }

abbrev pub bass : ℤ → Case
bass wanted = record { sort = Tone; min = minus 10; max = pos 9; res = pos 4; wanted = wanted }

-- "Volume −5120..0 by 256: −300 gives −256, −384 gives −512, 500 gives 0, −32768 stays. Bass −10..9 by 4: 9 gives 6."
abbrev pub cases : List Case
cases = volume (minus 300) ∷ volume (minus 384) ∷ volume (pos 500) ∷ volume (minus 32768) ∷ bass (pos 9) ∷ []
