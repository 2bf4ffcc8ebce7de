use Rattle.std.specs.Prelude.{ℕ, ◌≤◌, ◌≡◌, List, length}
use Rattle.ground.specs.Lists.{pad}
use Rattle.address.specs.Addressed.{most_addressed}
use Rattle.address.specs.Seats.{seated_in}
use Rattle.address.proofs.told.Given as goal

pub record Taking (seats indices : List ℕ) (count c : ℕ) : Type 0 where
  pub low : c ≤ most_addressed
  pub few : count ≤ c
  pub filled : indices ≡ pad 0 most_addressed (seated_in seats c)
  pub counted : count ≡ length (seated_in seats c)

abbrev pub invariant-loop-seat : goal.invariant-loop-seat
invariant-loop-seat l = Taking l.seats l.indices l.count l.seat-index
