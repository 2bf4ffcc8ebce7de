use Prim.Native.Nat.{ℕ, ◌+◌, ◌≤◌, ◌<◌}
use mathlib.Core.Path.{◌≡◌, ap, ◌∙◌}
use mathlib.Core.Bool.{Bool, true, false, not}
use mathlib.Core.List.{List}
use lib.ListN.{length, get_or, take}
use Rattle.std.specs.Prelude.{Some, None}
use Rattle.ground.specs.Places.{Come, come_none, come_here, come_more, come_over}
use Rattle.entities.specs.declared.Node.{Node}
use Rattle.entities.specs.declared.Run.{Run}
use Rattle.entities.specs.Run.{blank_node, held, node_at, place_at}
use Rattle.entities.proofs.Looked.{item, inside}
use Rattle.entities.proofs.Looked as looked
use Rattle.sweep.specs.declared.Given.{Given}
use Rattle.sweep.specs.Sweep.{cluster_on}
use Rattle.keeping.specs.Keeping.{content_on, keeps_by}
use Rattle.keeping.specs.KeepingLaws.{keeps_content}
use Rattle.clusters.specs.Breach.{breach13}
use Rattle.clusters.proofs.check_clusters.Given as goal

module _ (s : List ℕ) (run : Run) (given : Given) where
  abbrev pub wrong : ℕ → Bool
  wrong j = not (keeps_by s (node_at run j) (cluster_on given))

  abbrev pub Passed : ℕ → Type 0
  Passed i = Come wrong (λ j. Some (place_at run j)) None (held run) i

  pub start : Passed 0
  start = come_none wrong (λ j. Some (place_at run j)) None (held run)

  module _ (n : ℕ) (m : n ≡ held run) (i : ℕ) (g : Passed i) where
    pub over : length run.nodes ≡ 32 → length (take n run.nodes) ≤ i → None ≡ breach13 s run (cluster_on given)
    unfolding breach13
    over w h = come_over wrong (λ j. Some (place_at run j)) None (held run) i g (looked.over run n i m w h)

    module _ (h : i < length (take n run.nodes)) where
      abbrev node : Node
      node = get_or (take n run.nodes) i blank_node

      module _ (b : Bool) (f : b ≡ keeps_by s node (content_on given.channels given.locations)) where
        e : not b ≡ wrong i
        e =
            ap not
            (f ∙ ap (λ (k : Node). keeps_by s k (content_on given.channels given.locations)) (item run n i m h)
            ∙ keeps_content s (node_at run i) given.channels given.locations given.names)

        pub here : not b ≡ true → Some node.place ≡ breach13 s run (cluster_on given)
        unfolding breach13
        here y =
            ap (λ (k : Node). Some k.place) (item run n i m h)
            ∙ come_here wrong (λ j. Some (place_at run j)) None (held run) i g (inside run n i m h) (not b) e y

        pub on : not b ≡ false → Passed (i + 1)
        on y = come_more wrong (λ j. Some (place_at run j)) None (held run) i g (inside run n i m h) (not b) e y

abbrev pub invariant-loop-node : goal.invariant-loop-node
invariant-loop-node l = Passed l.config l.fn.run l.given l.node-index
