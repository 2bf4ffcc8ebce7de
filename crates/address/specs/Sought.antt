-- A request's two questions in one: whether 30 has nothing against the table, and who is addressed in it.
--   missing_by b       ==  what is missing where no control is addressed: 33 "no unit with controls", or, where the unit has some, 34
--   told_of b ps       ==  these indices, or, where there is none, what is missing
--   sought_for t u ps  ==  .. of unit u in the table t
--   sought_in t u ch s ==  30 "the table is not one", or that of the addressed indices
use Rattle.std.specs.Prelude.{ℕ, List, Bool, true, false, Result, Ok, Err, ltb, length}
use Rattle.ground.specs.Pick.{pick}
use Rattle.ground.specs.Lists.{pad}
use Rattle.table.specs.declared.Table.{Table}
use Rattle.sound.specs.Sound.{sound_of}
use Rattle.address.specs.declared.Sought.{Sought}
use Rattle.address.specs.Addressed.{most_addressed, addressed_in, unit_in}

abbrev pub missing_by : Bool → ℕ
missing_by true = 34
missing_by false = 33

abbrev pub told_of : Bool → List ℕ → Result Sought ℕ
told_of b ps = pick (ltb 0 (length ps)) (Ok (record { count = length ps; indices = pad 0 most_addressed ps })) (Err (missing_by b))

abbrev pub sought_for : Table → ℕ → List ℕ → Result Sought ℕ
sought_for t u ps = told_of (unit_in t u) ps

unfoldable pub sought_in : Table → ℕ → ℕ → ℕ → Result Sought ℕ
sought_in t u ch s = pick (sound_of t) (sought_for t u (addressed_in t u ch s)) (Err 30)
