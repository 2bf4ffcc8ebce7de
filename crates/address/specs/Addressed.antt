-- Who is addressed: the indices of the addressed controls in the table, "from the lowest such channel up" (document 02, No. 2).
--   most_addressed       ==  17: one request addresses no more, the master's control and those of sixteen channels
--   every_channel ch s   ==  "channel number 255 of a Feature Unit addresses that selector on all channels that have it"; a Selector's control,
--                           whose selector is 0, has no such form
--   wants_channel ch s c ==  a request of channel number ch and selector s is about the channel c
--   indices_of x         ==  the index of a seat, if any
--   seat_at t u ch s c   ==  where the control of channel c stands, if such a request is about it
--   seats_from t u ch s c n  ==  the indices of those of the n channels from c up
--   addressed_in t u ch s    ==  of all channels: one control, or none, unless every channel is addressed
--   unit_in t u          ==  u is a "unit with controls"
use Rattle.std.specs.Prelude.{ℕ, zero, suc, List, [], ◌∷◌, ◌++◌, Bool, not, ◌&&◌, ◌||◌, eqb}
use Rattle.ground.specs.Pick.{pick}
use Rattle.ground.specs.Places.{somewhere}
use Rattle.table.specs.declared.Table.{Table}
use Rattle.table.specs.Controls.{at}
use Rattle.table.specs.First.{Seat, places, found_in}
use Rattle.table.specs.First.Seat.{absent, seat}

abbrev pub most_addressed : ℕ
most_addressed = 17

abbrev pub every_channel : ℕ → ℕ → Bool
every_channel ch s = eqb ch 255 && not (eqb s 0)

unfoldable pub wants_channel : ℕ → ℕ → ℕ → Bool
wants_channel ch s c = eqb c ch || every_channel ch s

abbrev pub indices_of : Seat → List ℕ
indices_of absent = []
indices_of (seat p) = p ∷ []

abbrev pub seat_at : Table → ℕ → ℕ → ℕ → ℕ → Seat
seat_at t u ch s c = pick (wants_channel ch s c) (found_in t u c s) absent

unfoldable pub seats_from : Table → ℕ → ℕ → ℕ → ℕ → ℕ → List ℕ
seats_from t u ch s c zero = []
seats_from t u ch s c (suc n) = indices_of (seat_at t u ch s c) ++ seats_from t u ch s (suc c) n

abbrev pub addressed_in : Table → ℕ → ℕ → ℕ → List ℕ
addressed_in t u ch s = seats_from t u ch s 0 most_addressed

unfoldable pub unit_in : Table → ℕ → Bool
unit_in t u = somewhere (λ p. eqb (at t p).unit u) (places t)
