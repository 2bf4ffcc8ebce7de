-- The entities of a run that are looked at, taken one by one.
--   item             ==  the one come to, among those looked at, is the run's
--   inside           ==  .. and its index is one of theirs
--   over             ==  where none is left, all have been looked at
use Rattle.std.specs.Prelude.{ℕ, ◌≤◌, ◌<◌, ◌≡◌, length, get_or, take}
use Rattle.std.proofs.Common.{length-take, get_or-take, arith}
use Rattle.entities.specs.declared.Node.{Node}
use Rattle.entities.specs.declared.Run.{Run}
use Rattle.entities.specs.Run.{blank_node, held, node_at}

module _ (run : Run) (n i : ℕ) (m : n ≡ held run) where
  pub item : i < length (take n run.nodes) → get_or (take n run.nodes) i blank_node ≡ node_at run i
  item h = let l = length-take n run.nodes in get_or-take n run.nodes i blank_node (omega arith)

  pub inside : i < length (take n run.nodes) → i < held run
  inside h = let l = length-take n run.nodes in omega arith

  pub over : length run.nodes ≡ 32 → length (take n run.nodes) ≤ i → held run ≤ i
  over w h = let l = length-take n run.nodes in omega arith
