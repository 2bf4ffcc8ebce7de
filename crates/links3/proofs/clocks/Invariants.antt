use Prim.Native.Nat.{ℕ, ◌≤◌}
use mathlib.Core.Path.{◌≡◌}
use mathlib.Core.Bool.{Bool, false}
use mathlib.Core.List.{List}
use lib.ListN.{length, get_or}
use Rattle.entities.specs.declared.Run.{Run}
use Rattle.entities.specs.Run.{held}
use Rattle.links3.specs.Links.{clock_below}
use Rattle.links3.proofs.clocks.Given as goal

pub record Marked (run : Run) (marks : List Bool) (i : ℕ) : Type 0 where
  pub low : i ≤ held run
  pub long : length marks ≡ 256
  pub mark : (x : ℕ) → get_or marks x false ≡ clock_below run i x

abbrev pub invariant-loop-node : goal.invariant-loop-node
invariant-loop-node l = Marked l.fn.run l.marks l.node-index
