use Prim.Native.Nat.{ℕ}
use mathlib.Core.Bool.{Bool, not}
use mathlib.Core.List.{List}
use Rattle.std.specs.Prelude.{Some, None}
use Rattle.ground.specs.Places.{Come}
use Rattle.entities.specs.declared.Run.{Run}
use Rattle.entities.specs.Run.{held, node_at, place_at}
use Rattle.keeping3.specs.Keeping.{cluster_behind, keeps_by}
use Rattle.keeping3.proofs.check_clusters.Given as goal

module _ (s b : List ℕ) (run : Run) (given : List ℕ) where
  abbrev pub wrong : ℕ → Bool
  wrong j = not (keeps_by s b (node_at run j) (cluster_behind b given))

  abbrev pub Passed : ℕ → Type 0
  Passed i = Come wrong (λ j. Some (place_at run j)) None (held run) i

abbrev pub invariant-loop-node : goal.invariant-loop-node
invariant-loop-node l = Passed l.config l.fn.clusters l.fn.run l.fn.given l.node-index
