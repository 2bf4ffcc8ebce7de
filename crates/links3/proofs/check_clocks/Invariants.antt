use Prim.Native.Nat.{ℕ}
use mathlib.Core.Bool.{Bool}
use mathlib.Core.List.{List}
use Rattle.std.specs.Prelude.{Some, None}
use Rattle.ground.specs.Places.{Come}
use Rattle.entities.specs.declared.Run.{Run}
use Rattle.entities.specs.Run.{held, place_at}
use Rattle.links3.specs.Links.{said_at, clock_below, wrong_clock_by}
use Rattle.links3.proofs.check_clocks.Given as goal

module _ (s : List ℕ) (run : Run) where
  abbrev pub wrong : ℕ → Bool
  wrong j = wrong_clock_by (clock_below run (held run)) (said_at s run j)

  abbrev pub Passed : ℕ → Type 0
  Passed i = Come wrong (λ j. Some (place_at run j)) None (held run) i

abbrev pub invariant-loop-node : goal.invariant-loop-node
invariant-loop-node l = Passed l.config l.fn.run l.node-index
