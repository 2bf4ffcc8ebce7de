use Prim.Native.Nat.{ℕ, ◌+◌, ◌≤◌, ◌<◌}
use mathlib.Core.Path.{◌≡◌, refl, sym, ap, ◌∙◌}
use mathlib.Core.List.{List}
use mathlib.Core.Logic.{⊎_elim}
use native.Mathlib.Omega.{arith}
use native.Mathlib.Numerals.{add-one}
use lib.Dec.{eqb}
use Rattle.std.proofs.Common.{length-take, get_or-take}
use lib.ListN.{length, get_or, set, take, replicate, length-set, length-replicate, get_or-replicate}
use lib.Seq.{get_or-set_same, get_or-set_other}
use borrow.Author.Tests.{eq-eqb, ne_eqb}
use Rattle.ground.specs.Pick.{yes, no, reads_eq, decided}
use Rattle.graph.specs.Tables.{tabulate, tabulate_same, tabulate_get_d}
use Rattle.entities.specs.declared.Node.{Node}
use Rattle.entities.specs.declared.Run.{Run}
use Rattle.entities.specs.Run.{blank_node, held, node_at, id_at}
use Rattle.routing.specs.Listing.{bearer_below, bearer, source_places_of}
use Rattle.routing.proofs.source_places.Given as goal

module _ (run : Run) where
  pub bearer_here : (i k : ℕ) → k ≡ id_at run i → bearer_below run (i + 1) k ≡ node_at run i
  unfolding bearer_below
  bearer_here i k e = rw add-one (yes _ _ (eq-eqb (id_at run i) k (sym e)))

  pub bearer_other : (i k : ℕ) → (k ≡ id_at run i → ⊥) → bearer_below run (i + 1) k ≡ bearer_below run i k
  unfolding bearer_below
  bearer_other i k f = rw add-one (no _ _ (ne_eqb (id_at run i) k (λ e. f (sym e))))

  -- one table
  module _ (number : Node → ℕ) where
    pub record Noted (table : List ℕ) (i : ℕ) : Type 0 where
      pub long : length table ≡ 256
      pub at : (x : ℕ) → x < 256 → get_or table x 0 ≡ number (bearer_below run i x)

    pub noted_none : number blank_node ≡ 0 → Noted (replicate 256 0) 0
    unfolding bearer_below
    noted_none z = record { long = length-replicate {A = ℕ} 256 0; at = λ x l. get_or-replicate {A = ℕ} 256 x 0 0 l ∙ sym z }

    module _ (table : List ℕ) (i : ℕ) (g : Noted table i) where
      pub noted_more : (x : ℕ) → x ≡ id_at run i → x < 256 → Noted (set table x (number (node_at run i))) (i + 1)
      noted_more x w l = record {
        long = length-set table x (number (node_at run i)) ∙ g.long;
        at = λ k h. ⊎_elim (λ e. same k e) (λ f. other k h f) (decided (eqb k x) (reads_eq k x));
      }
        where
          same : (k : ℕ) → k ≡ x → get_or (set table x (number (node_at run i))) k 0 ≡ number (bearer_below run (i + 1) k)
          same k e =
              let a = g.long in
              rw e (get_or-set_same table x (number (node_at run i)) 0 (omega arith)) ∙ sym (ap number (bearer_here i k (e ∙ w)))

          other : (k : ℕ) → k < 256 → (k ≡ x → ⊥) → get_or (set table x (number (node_at run i))) k 0 ≡ number (bearer_below run (i + 1) k)
          other k h f = get_or-set_other table x k (number (node_at run i)) 0 f ∙ g.at k h ∙ sym (ap number (bearer_other i k (λ e. f (e ∙ sym w))))

      pub noted_all : i ≡ held run → table ≡ tabulate 256 (λ x. number (bearer run x))
      noted_all e =
          sym (tabulate_get_d table 0) ∙ ap (λ (k : ℕ). tabulate k (λ x. get_or table x 0)) g.long
          ∙ tabulate_same 256 (λ x. get_or table x 0) (λ x. number (bearer run x)) (λ x l. g.at x l ∙ ap (λ (k : ℕ). number (bearer_below run k x)) e)

  -- the entities that are looked at, taken one by one: the one come to is the run's
  module _ (n i : ℕ) (m : n ≡ held run) where
    item : i < length (take n run.nodes) → get_or (take n run.nodes) i blank_node ≡ node_at run i
    item h = let l = length-take n run.nodes in get_or-take n run.nodes i blank_node (omega arith)

    inside : i < length (take n run.nodes) → i < held run
    inside h = let l = length-take n run.nodes in omega arith

    none_left : length run.nodes ≡ 32 → length (take n run.nodes) ≤ i → held run ≤ i
    none_left w h = let l = length-take n run.nodes in omega arith

  abbrev pub first_of : Node → ℕ
  first_of n = n.first

  abbrev pub pins_of : Node → ℕ
  pins_of n = n.pins

  pub record Both (firsts counts : List ℕ) (i : ℕ) : Type 0 where
    pub low : i ≤ held run
    pub firsts_are : Noted first_of firsts i
    pub counts_are : Noted pins_of counts i

  pub start : Both (replicate 256 0) (replicate 256 0) 0
  unfolding blank_node
  start = record { low = omega arith; firsts_are = noted_none first_of refl; counts_are = noted_none pins_of refl }

  module _ (firsts counts : List ℕ) (i : ℕ) (g : Both firsts counts i) (n : ℕ) (m : n ≡ held run) where
    module _ (h : i < length (take n run.nodes)) where
      abbrev node : Node
      node = get_or (take n run.nodes) i blank_node

      pub on : (x : ℕ) → (x ≡ node.id) × (x < 256) → Both (set firsts x node.first) (set counts x node.pins) (i + 1)
      on x w =
          let e = item n i m h in
          let q : x ≡ id_at run i = w.0 ∙ ap (λ (o : Node). o.id) e in
          let l = inside n i m h in
          rw e
          (record {
            low = omega arith;
            firsts_are = noted_more first_of firsts i g.firsts_are x q w.1;
            counts_are = noted_more pins_of counts i g.counts_are x q w.1;
          })

    pub over : length run.nodes ≡ 32 → length (take n run.nodes) ≤ i → record { firsts = firsts; counts = counts } ≡ source_places_of run
    unfolding source_places_of
    over w h =
        let l = g.low in
        let k = none_left n i m w h in
        let e : i ≡ held run = omega arith in
        rw (noted_all first_of firsts i g.firsts_are e, noted_all pins_of counts i g.counts_are e) refl

abbrev pub invariant-loop-node : goal.invariant-loop-node
invariant-loop-node l = Both l.fn.run l.firsts l.counts l.node-index
