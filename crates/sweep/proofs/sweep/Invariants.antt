use Prim.Native.Nat.{ℕ, ◌+◌, ◌≤◌, ◌<◌}
use mathlib.Core.Path.{◌≡◌, ap, ◌∙◌}
use mathlib.Core.List.{List}
use native.Mathlib.Omega.{arith}
use lib.ListN.{length, get_or, set, take}
use Rattle.layout.specs.declared.Cluster.{Cluster}
use Rattle.entities.specs.declared.Node.{Node}
use Rattle.entities.specs.declared.Run.{Run}
use Rattle.entities.specs.Run.{blank_node, held}
use Rattle.entities.proofs.Looked.{item, inside}
use Rattle.entities.proofs.Looked as looked
use Rattle.sweep.specs.declared.Given.{Given}
use Rattle.sweep.specs.Sweep.{cluster_by, gives_by, Sweeps}
use Rattle.sweep.specs.SweepLaws.{Sweeping, sweeping_more, sweeping_over}
use Rattle.sweep.proofs.sweep.Given as goal

module _ (s : List ℕ) (run : Run) (n : ℕ) (m : n ≡ held run) (given : Given) (i : ℕ) (g : Sweeping s run given.channels given.locations given.names i) where
  pub over : length run.nodes ≡ 32 → length (take n run.nodes) ≤ i → Sweeps s run given
  over w h = sweeping_over s run given.channels given.locations given.names i g n m (let a = looked.over run n i m w h in omega arith)

module _ (s : List ℕ) (run : Run) (n : ℕ) (m : n ≡ held run) (channels locations names : List ℕ) (i : ℕ) (g : Sweeping s run channels locations names i) where
  pub more : i < length (take n run.nodes) → (c : Cluster) → c ≡ gives_by s (get_or (take n run.nodes) i blank_node) (cluster_by channels locations names)
      → (x : ℕ) → (x ≡ (get_or (take n run.nodes) i blank_node).id) × (x < 256)
      → Sweeping s run (set channels x c.channels) (set locations x c.locations) (set names x c.names) (i + 1)
  unfolding blank_node
  more h c e x q =
      sweeping_more s run channels locations names i g n m (let l = inside run n i m h in omega arith)
      c (e ∙ ap (λ (k : Node). gives_by s k (cluster_by channels locations names)) (item run n i m h))
      x (q.0 ∙ ap (λ (k : Node). k.id) (item run n i m h), q.1)

abbrev pub invariant-loop-node : goal.invariant-loop-node
invariant-loop-node l = Sweeping l.config l.fn.run l.given.channels l.given.locations l.given.names l.node-index
