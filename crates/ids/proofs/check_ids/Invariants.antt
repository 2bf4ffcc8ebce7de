use Prim.Native.Nat.{ℕ, ◌+◌, ◌≤◌, ◌<◌}
use mathlib.Core.Path.{◌≡◌, ap, ◌∙◌}
use mathlib.Core.Bool.{Bool, true, false}
use mathlib.Core.List.{List}
use lib.ListN.{length, get_or, set, replicate, take}
use Rattle.std.specs.Prelude.{Some, None}
use Rattle.graph.specs.Borne.{Passed, passed_none, passed_over, passed_zero, passed_twice, passed_on}
use Rattle.entities.specs.declared.Node.{Node}
use Rattle.entities.specs.declared.Run.{Run}
use Rattle.entities.specs.Run.{blank_node, held, id_at, place_at}
use Rattle.entities.proofs.Looked.{item, inside}
use Rattle.entities.proofs.Looked as looked
use Rattle.ids.specs.Breach.{breach10}
use Rattle.ids.proofs.check_ids.Given as goal

module _ (run : Run) where
  abbrev pub Come : List Bool → ℕ → Type 0
  Come = Passed (id_at run) (λ j. Some (place_at run j)) None (held run)

  pub start : Come (replicate 256 false) 0
  start = passed_none (id_at run) (λ j. Some (place_at run j)) None (held run)

  module _ (n : ℕ) (m : n ≡ held run) (borne : List Bool) (i : ℕ) (g : Come borne i) where
    pub over : length run.nodes ≡ 32 → length (take n run.nodes) ≤ i → None ≡ breach10 run
    unfolding breach10
    over w h = passed_over (id_at run) (λ j. Some (place_at run j)) None (held run) borne i g (looked.over run n i m w h)

    module _ (h : i < length (take n run.nodes)) where
      abbrev node : Node
      node = get_or (take n run.nodes) i blank_node

      found : Some node.place ≡ Some (place_at run i)
      found = ap (λ (e : Node). Some e.place) (item run n i m h)

      module _ (x : ℕ) (w : (x ≡ node.id) × (x < 256)) where
        own : x ≡ id_at run i
        own = w.0 ∙ ap (λ (e : Node). e.id) (item run n i m h)

        pub zero_id : x ≡ 0 → Some node.place ≡ breach10 run
        unfolding breach10
        zero_id z = found ∙ passed_zero (id_at run) (λ j. Some (place_at run j)) None (held run) borne i g (inside run n i m h) x own w.1 z

        module _ (z : x ≡ 0 → ⊥) where
          pub twice : get_or borne x false ≡ true → Some node.place ≡ breach10 run
          unfolding breach10
          twice y = found ∙ passed_twice (id_at run) (λ j. Some (place_at run j)) None (held run) borne i g (inside run n i m h) x own w.1 z y

          pub on : get_or borne x false ≡ false → Come (set borne x true) (i + 1)
          on y = passed_on (id_at run) (λ j. Some (place_at run j)) None (held run) borne i g (inside run n i m h) x own w.1 z y

abbrev pub invariant-loop-node : goal.invariant-loop-node
invariant-loop-node l = Come l.fn.run l.borne l.node-index
