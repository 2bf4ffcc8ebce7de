use borrow.Author.Tests.{not-false}
use Prim.Native.Nat.{ℕ, ◌+◌, ◌<◌, ◌≤◌}
use mathlib.Core.Path.{◌≡◌, sym, ap, ◌∙◌}
use mathlib.Core.List.{List}
use mathlib.Core.Logic.{⊎_elim}
use mathlib.Core.Bool.{Bool, true, false, not}
use native.Mathlib.Omega.{arith}
use native.Mathlib.Nat.{eq-or-lt_of_le}
use lib.ListN.{length, get_or, take}
use Rattle.std.specs.Prelude.{Option, Some, None}
use Rattle.ground.specs.Places.{first_none, first_some}
use Rattle.graph.specs.Members.{mem}
use Rattle.graph.specs.Tables.{get_d_tabulate}
use Rattle.entities.specs.declared.Node.{Node}
use Rattle.entities.specs.declared.Run.{Run}
use Rattle.entities.specs.Run.{held, id_at, place_at, blank_node}
use Rattle.entities.proofs.Looked.{item, inside}
use Rattle.entities.proofs.Looked as looked
use Rattle.ranks.specs.Breach.{ids_of, borne_in, breach12}
use Rattle.ranks.proofs.check_ranks.Given as goal

module _ (run : Run) (marks : List Bool) where
  -- the IDs of the entities before index i are marked
  pub record Gone (i : ℕ) : Type 0 where
    pub seen : (j : ℕ) → j < i → (id_at run j < 256) × (get_or marks (id_at run j) false ≡ true)

  pub start : Gone 0
  start = record { seen = λ j l. absurd (omega arith) }

  module _ (n : ℕ) (m : n ≡ held run) (i : ℕ) (g : Gone i) where
    module _ (order : Run) (told : marks ≡ borne_in order) where
      abbrev out : ℕ → Bool
      out j = not (mem (id_at run j) (ids_of order))

      abbrev at : ℕ → Option ℕ
      at j = Some (place_at run j)

      tested : (j : ℕ) → id_at run j < 256 → out j ≡ not (get_or marks (id_at run j) false)
      unfolding borne_in
      tested j l =
          ap not (sym (get_d_tabulate 256 (λ x. mem x (ids_of order)) (id_at run j) false l))
          ∙ ap (λ (m : List Bool). not (get_or m (id_at run j) false)) (sym told)

      passed : (j : ℕ) → j < i → out j ≡ false
      passed j l = tested j (g.seen j l).0 ∙ ap not (g.seen j l).1

      pub over : length run.nodes ≡ 32 → length (take n run.nodes) ≤ i → None ≡ breach12 run order
      unfolding breach12
      over w h = let l = looked.over run n i m w h in sym (first_none out at None (held run) (λ j k. passed j (omega arith)))

    module _ (h : i < length (take n run.nodes)) where
      abbrev node : Node
      node = get_or (take n run.nodes) i blank_node

      module _ (x : ℕ) (v : (x ≡ node.id) × (x < 256)) where
        own : x ≡ id_at run i
        own = v.0 ∙ ap (λ (e : Node). e.id) (item run n i m h)

        small : id_at run i < 256
        small = rw (← own) v.1

        pub here : (order : Run) → marks ≡ borne_in order → not (get_or marks x false) ≡ true → Some node.place ≡ breach12 run order
        unfolding breach12
        here order told e =
            let p : out order told i ≡ true = tested order told i small ∙ ap (λ (y : ℕ). not (get_or marks y false)) (sym own) ∙ e in
            ap (λ (e : Node). Some e.place) (item run n i m h)
            ∙ sym (first_some (out order told) (at order told) None (held run) i (record { inside = inside run n i m h; passes = p; none_before = passed order told }))

        pub on : not (get_or marks x false) ≡ false → Gone (i + 1)
        on e = record { seen = λ j k. ⊎_elim (λ q. rw q last) (λ k. g.seen j k) (eq-or-lt_of_le (let k : j ≤ i = omega arith in k)) }
          where
            last : (id_at run i < 256) × (get_or marks (id_at run i) false ≡ true)
            last = (small, rw (← own) (not-false (get_or marks x false) e))

abbrev pub invariant-loop-node : goal.invariant-loop-node
invariant-loop-node l = Gone l.fn.run l.marks l.node-index
