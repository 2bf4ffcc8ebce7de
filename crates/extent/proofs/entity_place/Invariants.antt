use Prim.Native.Nat.{ℕ, ◌+◌, ◌≤◌, ◌<◌}
use mathlib.Core.Path.{◌≡◌, refl, sym, ap, ◌∙◌}
use lib.Dec.{eqb}
use lib.ListN.{length, get_or, take}
use borrow.Author.Tests.{eq-eqb, ne_eqb}
use Rattle.std.proofs.Common.{length-take, get_or-take, arith}
use Rattle.std.specs.Prelude.{Some, None}
use Rattle.ground.specs.Places.{Come, come_none, come_here, come_more, come_over}
use Rattle.entities.specs.declared.Node.{Node}
use Rattle.entities.specs.declared.Run.{Run}
use Rattle.entities.specs.Run.{blank_node, held, node_at, id_at, place_at}
use Rattle.ids.specs.Breach.{bears}
use Rattle.extent.specs.Stretch.{entity_place}
use Rattle.extent.proofs.entity_place.Given as goal

module _ (run : Run) (x : ℕ) where
  -- the entities that are looked at, taken one by one: the one come to is the run's
  module _ (n i : ℕ) (m : n ≡ held run) where
    item : i < length (take n run.nodes) → get_or (take n run.nodes) i blank_node ≡ node_at run i
    item h = let l = length-take n run.nodes in get_or-take n run.nodes i blank_node (omega arith)

    inside : i < length (take n run.nodes) → i < held run
    inside h = let l = length-take n run.nodes in omega arith

    none_left : length run.nodes ≡ 32 → length (take n run.nodes) ≤ i → held run ≤ i
    none_left w h = let l = length-take n run.nodes in omega arith

  abbrev pub Here : ℕ → Type 0
  Here = Come (bears run x) (λ i. Some (place_at run i)) None (held run)

  pub start : Here 0
  start = come_none (bears run x) (λ i. Some (place_at run i)) None (held run)

  module _ (n : ℕ) (m : n ≡ held run) (i : ℕ) (g : Here i) where
    pub over : length run.nodes ≡ 32 → length (take n run.nodes) ≤ i → None ≡ entity_place run x
    unfolding entity_place
    over w h = come_over (bears run x) (λ j. Some (place_at run j)) None (held run) i g (none_left n i m w h)

    module _ (h : i < length (take n run.nodes)) where
      abbrev node : Node
      node = get_or (take n run.nodes) i blank_node

      own : node.id ≡ id_at run i
      own = ap (λ (e : Node). e.id) (item n i m h)

      pub here : node.id ≡ x → Some node.place ≡ entity_place run x
      unfolding entity_place
      here e =
          ap (λ (o : Node). Some o.place) (item n i m h)
          ∙ come_here (bears run x) (λ j. Some (place_at run j)) None (held run) i g (inside n i m h) (eqb (id_at run i) x) refl (eq-eqb _ _ (sym own ∙ e))

      pub on : (node.id ≡ x → ⊥) → Here (i + 1)
      on e = come_more (bears run x) (λ j. Some (place_at run j)) None (held run) i g (inside n i m h) (eqb (id_at run i) x) refl (ne_eqb _ _ (λ q. e (own ∙ q)))

abbrev pub invariant-loop-node : goal.invariant-loop-node
invariant-loop-node l = Here l.fn.run l.id l.node-index
