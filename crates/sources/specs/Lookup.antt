-- Lookup by ID. Rules speak of entities by ID; the reader notes, once for a run, which IDs are borne and which of those may be sources.
--   lookup_below run n x  ==  the first of the run's first n entities that bears the ID x, by whether it has an output
--   lookup run x     ==  the same of all its entities
--   source_number f   ==  document 01's number for a source by what the lookup found: 11 where it is unknown or has no output, 0 else
--   directory_of run  ==  the lookups of all 256 IDs
use Rattle.std.specs.Prelude.{ℕ, Bool, true, false, List, Option, Some, None}
use Rattle.ground.specs.Places.{first_in}
use Rattle.graph.specs.Tables.{tabulate}
use Rattle.entities.specs.declared.Run.{Run}
use Rattle.entities.specs.Run.{held, feeds_at}
use Rattle.ids.specs.Breach.{bears}

unfoldable pub lookup_below : Run → ℕ → ℕ → Option Bool
lookup_below run n x = first_in (bears run x) (λ i. Some (feeds_at run i)) None 0 n

abbrev pub lookup : Run → ℕ → Option Bool
lookup run x = lookup_below run (held run) x

unfoldable pub source_number : Option Bool → ℕ
source_number None = 11
source_number (Some false) = 11
source_number (Some true) = 0

unfoldable pub directory_of : Run → List (Option Bool)
directory_of run = tabulate 256 (lookup run)
