-- What the reader computes of rule 12, from a run and an order of it; the laws that tie it to the rule are in RuleLaws.
--   ids_of run          ==  the IDs of the entities of the run
--   borne_in run        ==  by ID, whether an entity of the run bears it
--   breach12 run order ==  the place of the first entity of the run whose ID is not borne in the order
use Rattle.std.specs.Prelude.{ℕ, Bool, not, List, map, Option, Some, None}
use Rattle.ground.specs.Places.{first_in}
use Rattle.graph.specs.Members.{mem}
use Rattle.graph.specs.Tables.{tabulate, below}
use Rattle.entities.specs.declared.Run.{Run}
use Rattle.entities.specs.Run.{held, id_at, place_at}

abbrev pub ids_of : Run → List ℕ
ids_of run = map (id_at run) (below (held run))

unfoldable pub borne_in : Run → List Bool
borne_in run = tabulate 256 (λ x. mem x (ids_of run))

unfoldable pub breach12 : Run → Run → Option ℕ
breach12 run order = first_in (λ i. not (mem (id_at run i) (ids_of order))) (λ i. Some (place_at run i)) None 0 (held run)
