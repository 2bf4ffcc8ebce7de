-- The refusal's number by its tests, the length's in full.
use Rattle.std.specs.Prelude.{ℕ, ◌%◌, ◌≡◌, refl, not, ◌||◌, List, length, eqb, ltb}
use Rattle.ground.specs.Pick.{pick}
use Rattle.legal.specs.Sheet.{most_by, bad_length_by, bad_ids_by, number_by}

pub number_tests : (k : ℕ) (s : List ℕ)
    → number_by k s ≡ pick (ltb (most_by k) (length s) || not (eqb (length s % k) 0)) 41 (pick (bad_ids_by k s) 42 0)
unfolding number_by bad_length_by
number_tests k s = refl
