-- Laws of what stands beside it in specs.
--   cases_hold     ==  in each case what is found is what the document says
use Rattle.std.specs.Prelude.{◌≡◌, refl, [], ◌∷◌, map, pos}
use Rattle.setting.specs.Setting.{fits_of, legal_of, whole_steps, nearer, closest_height, closest_setting, closest_to}
use Rattle.setting.specs.Cases.{minus, found, cases}

pub cases_hold : map found cases ≡ minus 256 ∷ minus 512 ∷ pos 0 ∷ minus 32768 ∷ pos 6 ∷ []
unfolding found fits_of legal_of whole_steps nearer closest_height closest_setting closest_to
cases_hold = refl
