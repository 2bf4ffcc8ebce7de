-- The stretch: "For a side and an ID it also gives back that entity's own descriptor bytes, a stretch of one of the two configurations that the
-- caller lends. That side's must be one the reader accepts, 16 apart; a refusal comes with an empty stretch"; "an unknown ID is 64". It takes no state.
--   lent_on k l r       ==  the configuration of the side k, of the two that are lent
--   entity_place v x    ==  the place of the entity of the run v that bears the ID x
--   known p            ==  64 where no entity bears the ID, else its place p, from which the entity's descriptor stands
--   located_by f x      ==  .. by what is found in a configuration: its refusal, else 64, else the place
--   located_in s x      ==  .. in the configuration s
--   refusal_of y        ==  0 and 0, or the refusal: 64 has no place
--   bytes_at s y        ==  the descriptor that stands there; nothing where it is refused
use Rattle.std.specs.Prelude.{ℕ, List, [], Result, Ok, Err, Option, Some, None}
use Rattle.ground.specs.declared.Refusal.{Refusal}
use Rattle.ground.specs.Lists.{part}
use Rattle.ground.specs.Places.{first_in}
use Rattle.ground.specs.Refuse.{none}
use Rattle.scan.specs.Cutting.{end_at}
use Rattle.entities.specs.declared.Run.{Run}
use Rattle.entities.specs.Run.{held, place_at}
use Rattle.ids.specs.Breach.{bears}
use Rattle.topology.specs.declared.Finding.{Finding}
use Rattle.topology.specs.Reading.{finding_of}
use Rattle.sides.specs.declared.Side.{Side}
use Rattle.sides.specs.declared.Side.TheVariants.{Left, Right}

abbrev pub lent_on : Side → List ℕ → List ℕ → List ℕ
lent_on Left l r = l
lent_on Right l r = r

unfoldable pub entity_place : Run → ℕ → Option ℕ
entity_place v x = first_in (bears v x) (λ i. Some (place_at v i)) None 0 (held v)

abbrev pub known : Option ℕ → Result ℕ Refusal
known None = Err (record { number = 64; place = 0 })
known (Some p) = Ok p

unfoldable pub located_by : Result Finding Refusal → ℕ → Result ℕ Refusal
located_by (Ok f) x = known (entity_place f.run x)
located_by (Err r) x = Err r

abbrev pub located_in : List ℕ → ℕ → Result ℕ Refusal
located_in s x = located_by (finding_of s) x

abbrev pub refusal_of : Result ℕ Refusal → Refusal
refusal_of (Ok p) = none
refusal_of (Err r) = r

abbrev pub bytes_at : List ℕ → Result ℕ Refusal → List ℕ
bytes_at s (Ok p) = part s p (end_at s p)
bytes_at s (Err r) = []
