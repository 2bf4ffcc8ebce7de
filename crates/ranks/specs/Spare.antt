-- What code reads of a run's array: a read past its end gives zeros, which is a spare place, so that at every index it reads the run's entity.
--   zeros      ==  what a read past the end gives
--   node_read  ==  what is read at an index is the entity there
use Rattle.std.specs.Prelude.{ℕ, ◌≡◌, refl, false, get_or}
use Rattle.entities.specs.declared.Node.{Node}
use Rattle.entities.specs.declared.Run.{Run}
use Rattle.entities.specs.Run.{blank_node, node_at}

abbrev pub zeros : Node
zeros = record { place = 0; first = 0; pins = 0; id = 0; kind = 0; feeds = false }

pub node_read : (run : Run) (i : ℕ) → get_or run.nodes i zeros ≡ node_at run i
unfolding blank_node
node_read run i = refl
