-- What the reader computes of rule 11, from its array; the laws that tie it to the rule are in RuleLaws.
--   refuses f           ==  what a lookup found has the number 11: nothing, or an entity with no output
--   wrong_source run x   ==  a source ID x is 0, unknown, or one of an entity with no output
--   wrong_by found x     ==  the same by what the lookups of a run found
--   breach11 s run      ==  the place of the first entity that has such a source
use Rattle.std.specs.Prelude.{ℕ, Bool, ◌||◌, List, Option, None, eqb, get_or, Some}
use Rattle.ground.specs.Lists.{any}
use Rattle.ground.specs.Places.{first_in}
use Rattle.entities.specs.declared.Run.{Run}
use Rattle.entities.specs.Run.{held, place_at, sources_at}
use Rattle.sources.specs.Lookup.{lookup, source_number}

abbrev pub refuses : Option Bool → Bool
refuses f = eqb (source_number f) 11

unfoldable pub wrong_source : Run → ℕ → Bool
wrong_source run x = eqb x 0 || refuses (lookup run x)

unfoldable pub wrong_by : List (Option Bool) → ℕ → Bool
wrong_by found x = eqb x 0 || refuses (get_or found x None)

unfoldable pub breach11 : List ℕ → Run → Option ℕ
breach11 s run = first_in (λ i. any (wrong_source run) (sources_at s run i)) (λ i. Some (place_at run i)) None 0 (held run)
