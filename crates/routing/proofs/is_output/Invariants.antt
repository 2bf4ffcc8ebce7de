use Prim.Native.Nat.{ℕ, ◌+◌, ◌≤◌, ◌<◌}
use mathlib.Core.Path.{◌≡◌, refl, sym, ap, ◌∙◌}
use mathlib.Core.Bool.{false, not}
use lib.Dec.{eqb}
use lib.ListN.{length, get_or, take}
use borrow.Author.Tests.{eq-eqb, ne_eqb}
use Rattle.std.proofs.Common.{length-take, get_or-take, arith}
use Rattle.ground.specs.Places.{Come, come_none, come_here, come_more, come_over}
use Rattle.entities.specs.declared.Node.{Node}
use Rattle.entities.specs.declared.Run.{Run}
use Rattle.entities.specs.Run.{blank_node, held, node_at, id_at, feeds_at}
use Rattle.ids.specs.Breach.{bears}
use Rattle.routing.specs.Listing.{is_output}
use Rattle.routing.proofs.is_output.Given as goal

module _ (x : ℕ) (run : Run) where
  -- the entities that are looked at, taken one by one: the one come to is the run's
  module _ (n i : ℕ) (m : n ≡ held run) where
    item : i < length (take n run.nodes) → get_or (take n run.nodes) i blank_node ≡ node_at run i
    item h = let l = length-take n run.nodes in get_or-take n run.nodes i blank_node (omega arith)

    inside : i < length (take n run.nodes) → i < held run
    inside h = let l = length-take n run.nodes in omega arith

    none_left : length run.nodes ≡ 32 → length (take n run.nodes) ≤ i → held run ≤ i
    none_left w h = let l = length-take n run.nodes in omega arith

  pub record Passed (i : ℕ) : Type 0 where
    pub come : Come (bears run x) (λ j. not (feeds_at run j)) false (held run) i

  pub start : Passed 0
  start = record { come = come_none (bears run x) (λ j. not (feeds_at run j)) false (held run) }

  module _ (i : ℕ) (g : Passed i) (n : ℕ) (m : n ≡ held run) where
    pub over : length run.nodes ≡ 32 → length (take n run.nodes) ≤ i → false ≡ is_output run x
    unfolding is_output
    over w h = come_over (bears run x) (λ j. not (feeds_at run j)) false (held run) i g.come (none_left n i m w h)

    module _ (h : i < length (take n run.nodes)) where
      abbrev node : Node
      node = get_or (take n run.nodes) i blank_node

      own : node.id ≡ id_at run i
      own = ap (λ (e : Node). e.id) (item n i m h)

      pub here : node.id ≡ x → not node.feeds ≡ is_output run x
      unfolding is_output
      here e =
          ap (λ (o : Node). not o.feeds) (item n i m h)
          ∙ come_here (bears run x) (λ j. not (feeds_at run j)) false (held run) i g.come (inside n i m h) (eqb (id_at run i) x) refl (eq-eqb (id_at run i) x (sym own ∙ e))

      pub on : (node.id ≡ x → ⊥) → Passed (i + 1)
      on f = record { come = come_more (bears run x) (λ j. not (feeds_at run j)) false (held run) i g.come (inside n i m h) (eqb (id_at run i) x) refl (ne_eqb (id_at run i) x (λ q. f (own ∙ q))) }

abbrev pub invariant-loop-node : goal.invariant-loop-node
invariant-loop-node l = Passed l.id l.fn.run l.node-index
