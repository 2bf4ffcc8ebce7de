use Prim.Native.Nat.{ℕ, suc, ◌+◌, ◌-◌, ◌<◌, ◌≤◌}
use mathlib.Core.Path.{◌≡◌, sym, ap, ◌∙◌}
use mathlib.Core.List.{List, [], ◌∷◌, ◌++◌, map, append-nil, append_assoc}
use mathlib.Core.Bool.{Bool, true, false}
use native.Mathlib.Omega.{arith}
use native.Mathlib.Numerals.{add-one}
use lib.ListN.{length, get_or, set, take, replicate}
use Rattle.graph.specs.Members.{mem}
use Rattle.graph.specs.Tables.{tabulate, tabulate_from, below}
use Rattle.graph.specs.Grown.{with}
use Rattle.entities.specs.declared.Node.{Node}
use Rattle.entities.specs.declared.Run.{Run}
use Rattle.entities.specs.Run.{held, id_at, blank_node}
use Rattle.entities.proofs.Looked.{item, inside}
use Rattle.entities.proofs.Looked as looked
use Rattle.ranks.specs.Breach.{borne_in}
use Rattle.ranks.specs.Marks.{Marks, marks_none, marks_more, marks_table}
use Rattle.ranks.proofs.borne.Given as goal

module _ (run : Run) where
  -- the entities before index i are marked
  pub record Gone (marks : List Bool) (i : ℕ) : Type 0 where
    pub low : i ≤ held run
    pub o : List ℕ
    pub same : below (held run) ≡ o ++ tabulate_from i (held run - i) (λ x. x)
    pub hold : Marks (id_at run) o marks

  pub start : Gone (replicate 256 false) 0
  start =
      let q : held run ≡ held run - 0 = omega arith in
      record {
        low = omega arith;
        o = [];
        same = ap (λ (k : ℕ). tabulate_from 0 k (λ x. x)) q;
        hold = marks_none (id_at run);
      }

  module _ (n : ℕ) (m : n ≡ held run) (marks : List Bool) (i : ℕ) (g : Gone marks i) where
    pub over : length run.nodes ≡ 32 → length (take n run.nodes) ≤ i → marks ≡ borne_in run
    unfolding borne_in tabulate_from
    over w h =
        let z : held run - i ≡ 0 = (let a = looked.over run n i m w h in omega arith) in
        let e : below (held run) ≡ g.o = g.same ∙ ap (λ (k : ℕ). g.o ++ tabulate_from i k (λ x. x)) z ∙ append-nil g.o in
        marks_table (id_at run) g.o marks g.hold ∙ ap (λ (o : List ℕ). tabulate 256 (λ x. mem x (map (id_at run) o))) (sym e)

    pub on : i < length (take n run.nodes) → (x : ℕ) → (x ≡ (get_or (take n run.nodes) i blank_node).id) × (x < 256) → Gone (set marks x true) (i + 1)
    unfolding tabulate_from
    on h x v =
        let l = inside run n i m h in
        let own : x ≡ id_at run i = v.0 ∙ ap (λ (e : Node). e.id) (item run n i m h) in
        let q : held run - i ≡ suc (held run - (i + 1)) = omega arith in
        let s : id_at run i < 256 = (let b = v.1 in omega arith) in
        record {
          low = omega arith;
          o = with g.o i;
          same = g.same ∙ ap (λ (k : ℕ). g.o ++ tabulate_from i k (λ x. x)) q
              ∙ sym (append_assoc g.o (i ∷ []) (tabulate_from (suc i) (held run - (i + 1)) (λ x. x)))
              ∙ ap (λ (k : ℕ). with g.o i ++ tabulate_from k (held run - (i + 1)) (λ x. x)) (sym (add-one i));
          hold = rw own (marks_more (id_at run) g.o marks g.hold i s);
        }

abbrev pub invariant-loop-node : goal.invariant-loop-node
invariant-loop-node l = Gone l.fn.run l.marks l.node-index
