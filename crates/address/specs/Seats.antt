-- A seat as `seek` keeps it for each channel: one more than the index of the channel's addressed control, or 0 where it has none.
--   seat_of x          ==  the seat that the number x stands for
--   seated_in seats n  ==  the indices in the seats of the channels below n, from the lowest up
use Rattle.std.specs.Prelude.{ℕ, zero, suc, List, [], ◌++◌, get_or}
use Rattle.table.specs.First.{Seat}
use Rattle.table.specs.First.Seat.{absent, seat}
use Rattle.address.specs.Addressed.{indices_of}

abbrev pub seat_of : ℕ → Seat
seat_of zero = absent
seat_of (suc p) = seat p

unfoldable pub seated_in : List ℕ → ℕ → List ℕ
seated_in seats zero = []
seated_in seats (suc n) = seated_in seats n ++ indices_of (seat_of (get_or seats n 0))
