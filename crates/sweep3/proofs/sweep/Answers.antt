-- The array holds what was given out along the first entities of the run.
use borrow.Author.Rules.{rules}
use Prim.Native.Nat.{ℕ, ◌+◌, ◌≤◌, ◌<◌}
use mathlib.Core.Path.{◌≡◌, ap, ◌∙◌}
use mathlib.Core.List.{List}
use native.Mathlib.Omega.{arith}
use lib.ListN.{length, get_or, set, take}
use Rattle.entities.specs.declared.Node.{Node}
use Rattle.entities.specs.declared.Run.{Run}
use Rattle.entities.specs.Run.{blank_node, held}
use Rattle.run3.proofs.Nodes.{zeros, inside, taken, all_taken}
use Rattle.sweep3.specs.Sweep.{id_on, gives_id, Sweeps, Sweeping, sweeping_start, sweeping_long, sweeping_more, sweeping_over}
use Rattle.sweep3.proofs.sweep.Goals as goal

module _ (s : List ℕ) (run : Run) (ids : List ℕ) (i : ℕ) (g : Sweeping s run ids i) (n : ℕ) (m : n ≡ held run) where
  more : i < length (take n run.nodes) → (c : ℕ) → c ≡ gives_id s (get_or (take n run.nodes) i zeros) (id_on ids)
      → (x : ℕ) → (x ≡ (get_or (take n run.nodes) i zeros).id) × (x < 256) → Sweeping s run (set ids x c) (i + 1)
  unfolding blank_node
  more h c e x q =
      let a = inside run n m i h in
      let t = taken run n i h in
      sweeping_more s run ids i g n m (omega arith) c (e ∙ ap (λ (y : Node). gives_id s y (id_on ids)) t) x (q.0 ∙ ap (λ (y : Node). y.id) t, q.1)

  over : length run.nodes ≡ 32 → length (take n run.nodes) ≤ i → Sweeps s run ids
  over w h = let a = all_taken run n m w in sweeping_over s run ids i g n m (omega arith)

ruleset laws = (sweeping_start, sweeping_long, more, over, rules)

pub loop-node-init : goal.loop-node-init
loop-node-init c = search laws

pub loop-node-preserved : goal.loop-node-preserved
loop-node-preserved c = search laws

pub returns : goal.returns
returns c = search laws
