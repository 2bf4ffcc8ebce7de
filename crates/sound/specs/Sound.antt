-- Refusal 30, as the code computes it. What it means is said and proved in Meaning.
--   is_at p f            ==  the search found index p
--   first_there t p c    ==  the control c, at index p, stands at no earlier index
--   sound_at t p      ==  30 has nothing against the control at index p
--   sound_of t           ==  30 has nothing against the table
use Rattle.std.specs.Prelude.{ℕ, Bool, false, ◌&&◌, eqb, leb}
use Rattle.table.specs.declared.Control.{Control}
use Rattle.table.specs.declared.Table.{Table}
use Rattle.table.specs.First.{Seat, found_in}
use Rattle.table.specs.First.Seat.{absent, seat}
use Rattle.table.specs.Controls.{most_controls, at}
use Rattle.ground.specs.Places.{everywhere}
use Rattle.single.specs.Tests.{sound_control}

abbrev pub is_at : ℕ → Seat → Bool
is_at p absent = false
is_at p (seat q) = eqb q p

unfoldable pub first_there : Table → ℕ → Control → Bool
first_there t p c = is_at p (found_in t c.unit c.channel c.selector)

unfoldable pub sound_at : Table → ℕ → Bool
sound_at t p = sound_control (at t p) && first_there t p (at t p)

unfoldable pub sound_of : Table → Bool
sound_of t = leb t.count most_controls && everywhere (sound_at t) t.count
