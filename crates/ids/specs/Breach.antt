-- What the reader computes of rule 10, from its array; the laws that tie it to the rule are in RuleLaws.
--   bears run x i       ==  the i-th entity bears the ID x
--   wrong_id run i       ==  the ID of the i-th entity is zero or borne by an earlier one
--   breach10 run        ==  the place of the first such entity
use Rattle.std.specs.Prelude.{ℕ, Bool, Option, Some, None}
use Rattle.ground.specs.Places.{first_in}
use Rattle.graph.specs.Borne as borne
use Rattle.entities.specs.declared.Run.{Run}
use Rattle.entities.specs.Run.{held, id_at, place_at}

abbrev pub bears : Run → ℕ → ℕ → Bool
bears run = borne.bears (id_at run)

abbrev pub wrong_id : Run → ℕ → Bool
wrong_id run = borne.wrong_id (id_at run)

unfoldable pub breach10 : Run → Option ℕ
breach10 run = first_in (wrong_id run) (λ i. Some (place_at run i)) None 0 (held run)
