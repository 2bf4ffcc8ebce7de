-- The order of a run, as the reader computes it. The theory of orders, over any IDs and sources, is graph's (Passes, Grown, Quiet, Ranked).
--   order_in s run      ==  the order: which entities of the run join it, by index, each behind its sources
--   ordered s run      ==  the run of those entities, in that order, spare places blank
--   marked marks x     ==  by the marks, the ID x is borne
--   fresh marks s n    ==  by the marks, the ID of the entity n is not borne yet, and all its source IDs are
use Rattle.std.specs.Prelude.{ℕ, Bool, false, not, ◌&&◌, List, map, length, get_or}
use Rattle.ground.specs.Lists.{pad}
use Rattle.graph.specs.Members.{all}
use Rattle.graph.specs.Passes.{order_of}
use Rattle.entities.specs.declared.Node.{Node}
use Rattle.entities.specs.declared.Run.{Run}
use Rattle.entities.specs.Run.{most_entities, blank_node, held, node_at, id_at, sources_of, sources_at}

abbrev pub order_in : List ℕ → Run → List ℕ
order_in s run = order_of (id_at run) (sources_at s run) (held run)

unfoldable pub ordered : List ℕ → Run → Run
ordered s run = record { count = length (order_in s run); nodes = pad blank_node most_entities (map (node_at run) (order_in s run)) }

abbrev pub marked : List Bool → ℕ → Bool
marked marks x = get_or marks x false

unfoldable pub fresh : List Bool → List ℕ → Node → Bool
fresh marks s n = not (marked marks n.id) && all (marked marks) (sources_of s n)
