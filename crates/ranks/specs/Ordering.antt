-- The loop that puts a run in order, pass after pass, as its invariant has it: what is left of the pass, from the order so far, is the pass
-- whole. It stops where all are in, or where a pass has added nothing; either way no entity may join any more.
--   Ordering s run n nodes marks count before i  ==  k passes are done and left `before` entities in the order; the pass over the run's n has
--                      come to index i, and the array, its count and the marks hold the order o so far
--   ordering_start     ==  no pass is done, and nothing is in
--   ordering_room      ==  an entity that may join finds a place
--   ordering_joined, ordering_left  ==  the entity at i joins the order, or does not
--   ordering_next      ==  a pass that added something is over, and the next begins
--   ordering_falls     ==  .. with fewer entities left to join
--   ordering_full, ordering_still  ==  the ways to end: all n are in, or a pass has added nothing
use Prim.Native.Nat.{ℕ, suc, ◌+◌, ◌-◌, ◌*◌, ◌≤◌, ◌<◌}
use Rattle.std.specs.Prelude.{◌≡◌, List, [], ◌∷◌, ◌++◌, map, Bool, true, false, leb, set, replicate}
use Rattle.std.proofs.Math.Path.{refl, ap}
use Rattle.std.proofs.Common.{sym, ◌∙◌, ⊎_elim, add-one}
use Rattle.std.proofs.lemmas.List.{map-append, length-map}
use native.Mathlib.Omega.{arith}
use Rattle.std.proofs.Math.Nat.{min-le_right}
use Rattle.std.proofs.Math.ListN.{length}
use Rattle.ground.specs.Lists.{pad, pad_blank, pad_set}
use Rattle.ground.specs.Pick.{decided, reads_le}
use Rattle.graph.specs.Passes.{joins, step, pass_from, passes, order_of}
use Rattle.graph.specs.Grown.{with, length_with, Grown, none, more, grown_length}
use Rattle.graph.proofs.GrownLemmas.{reads_joins, pass_from_grown}
use Rattle.graph.specs.Quiet.{Quiet}
use Rattle.graph.proofs.QuietLemmas.{step_joined, step_left, pass_from_more, pass_same, pass_quiet, passes_stay, full_quiet, order_quiet}
use Rattle.entities.specs.declared.Node.{Node}
use Rattle.entities.specs.declared.Run.{Run}
use Rattle.entities.specs.Run.{most_entities, blank_node, held, node_at, id_at, sources_at}
use Rattle.ranks.specs.Order.{order_in, ordered, fresh}
use Rattle.ranks.specs.Marks.{Marks, marks_none, marks_more, marks_joins}

-- a quiet order after however many passes is the order
settled : (ids : ℕ → ℕ) (sources : ℕ → List ℕ) (n k : ℕ) → Quiet ids sources n (passes ids sources n k)
    → passes ids sources n k ≡ order_of ids sources n
settled ids sources n k q =
    ⊎_elim (λ (l : k ≤ n). sym (passes_stay ids sources n k n l q))
    (λ (f : k ≤ n → ⊥). passes_stay ids sources n n k (omega arith) (order_quiet ids sources n))
    (decided (leb k n) (reads_le k n))

module _ (s : List ℕ) (run : Run) (n : ℕ) where
  abbrev ids : ℕ → ℕ
  ids = id_at run

  abbrev srcs : ℕ → List ℕ
  srcs = sources_at s run

  pub record Ordering (nodes : List Node) (marks : List Bool) (count before i : ℕ) : Type 0 where
    pub whole : n ≡ held run
    pub few : n ≤ 32
    pub low : i ≤ n
    pub k : ℕ
    pub met : before ≡ length (passes ids srcs n k)
    pub o : List ℕ
    pub grown : Grown ids srcs n o
    pub same : pass_from ids srcs n 0 (passes ids srcs n k) ≡ pass_from ids srcs (n - i) i o
    pub counted : count ≡ length o
    pub listed : nodes ≡ pad blank_node most_entities (map (node_at run) o)
    pub hold : Marks ids o marks

  pub ordering_start : n ≡ held run → (spare : Node) → spare ≡ blank_node → Ordering (replicate 32 spare) (replicate 256 false) 0 0 0
  unfolding passes
  ordering_start e spare f =
      let h = min-le_right run.count most_entities in
      let q : n ≡ n - 0 = omega arith in
      record {
        whole = e;
        few = omega arith;
        low = omega arith;
        k = 0;
        met = refl;
        o = [];
        grown = none;
        same = ap (λ (j : ℕ). pass_from ids srcs j 0 []) q;
        counted = refl;
        listed = ap (replicate 32) f ∙ pad_blank blank_node 32;
        hold = marks_none ids;
      }

  module _ (nodes : List Node) (marks : List Bool) (count before i : ℕ) (g : Ordering nodes marks count before i) where
    -- what holds the order holds it as the run that is asked for
    is_ordered : g.o ≡ order_of ids srcs n → ◌≡◌ {A = Run} (record { count = count; nodes = nodes }) (ordered s run)
    unfolding ordered
    is_ordered q =
        let e : g.o ≡ order_in s run = q ∙ ap (order_of ids srcs) g.whole in
        rw (g.counted, g.listed, e) refl

    pub ordering_full : n ≤ count → ◌≡◌ {A = Run} (record { count = count; nodes = nodes }) (ordered s run)
    unfolding passes
    ordering_full h =
        let c = g.counted in
        let l = g.low in
        let a = pass_from_more ids srcs (n - i) i g.o in
        let b = grown_length (pass_from_grown (n - i) i (omega arith) g.grown) in
        let d = grown_length g.grown in
        let e : pass_from ids srcs (n - i) i g.o ≡ g.o = pass_same ids srcs (n - i) i g.o (omega arith) in
        let p : passes ids srcs n (suc g.k) ≡ g.o = g.same ∙ e in
        is_ordered (sym p ∙ settled ids srcs n (suc g.k) (rw p (full_quiet ids srcs n g.grown (omega arith))))

    module _ (h : n ≤ i) where
      passed : pass_from ids srcs n 0 (passes ids srcs n g.k) ≡ g.o
      unfolding pass_from
      passed = let z : n - i ≡ 0 = omega arith in g.same ∙ ap (λ (j : ℕ). pass_from ids srcs j i g.o) z

      pub ordering_still : count ≡ before → ◌≡◌ {A = Run} (record { count = count; nodes = nodes }) (ordered s run)
      ordering_still e =
          let c = g.counted in
          let m = g.met in
          let u = ap length passed in
          let q = pass_same ids srcs n 0 (passes ids srcs n g.k) (omega arith) in
          is_ordered (sym passed ∙ q ∙ settled ids srcs n g.k (pass_quiet ids srcs n (passes ids srcs n g.k) q))

      pub ordering_falls : (count ≡ before → ⊥) → count < n → (n - count) * 33 + (n - 0) < (n - before) * 33 + (n - i)
      ordering_falls f l =
          let c = g.counted in
          let m = g.met in
          let u = ap length passed in
          let a = pass_from_more ids srcs n 0 (passes ids srcs n g.k) in
          let w = g.few in
          let r = g.low in
          omega arith

      pub ordering_next : Ordering nodes marks count count 0
      unfolding passes
      ordering_next =
          let q : n ≡ n - 0 = omega arith in
          record {
            whole = g.whole;
            few = g.few;
            low = omega arith;
            k = suc g.k;
            met = g.counted ∙ ap length (sym passed);
            o = g.o;
            grown = g.grown;
            same = ap (pass_from ids srcs n 0) passed ∙ ap (λ (j : ℕ). pass_from ids srcs j 0 g.o) q;
            counted = g.counted;
            listed = g.listed;
            hold = g.hold;
          }

    module _ (l : i < n) where
      turn : pass_from ids srcs (n - i) i g.o ≡ pass_from ids srcs (n - (i + 1)) (i + 1) (step ids srcs g.o i)
      unfolding pass_from
      turn =
          let q : n - i ≡ suc (n - (i + 1)) = omega arith in
          ap (λ (j : ℕ). pass_from ids srcs j i g.o) q
          ∙ ap (λ (j : ℕ). pass_from ids srcs (n - (i + 1)) j (step ids srcs g.o i)) (sym (add-one i))

      module _ (node : Node) (is : node ≡ node_at run i) (b : Bool) (e : b ≡ fresh marks s node) where
        tested : b ≡ joins ids srcs g.o i
        tested = e ∙ marks_joins ids g.o marks g.hold s srcs i node (ap (λ m. m.id) is) (rw is refl)

        pub ordering_left : b ≡ false → Ordering nodes marks count before (i + 1)
        ordering_left f = record {
          whole = g.whole;
          few = g.few;
          low = omega arith;
          k = g.k;
          met = g.met;
          o = g.o;
          grown = g.grown;
          same = g.same ∙ turn ∙ ap (pass_from ids srcs (n - (i + 1)) (i + 1)) (step_left ids srcs g.o i (sym tested ∙ f));
          counted = g.counted;
          listed = g.listed;
          hold = g.hold;
        }

        module _ (t : b ≡ true) where
          joined : Grown ids srcs n (with g.o i)
          joined = more g.grown l ((reads_joins ids srcs g.o i).says (sym tested ∙ t))

          pub ordering_room : count < 32
          ordering_room = let a = grown_length joined in let c = length_with g.o i in let d = g.counted in let w = g.few in omega arith

          pub ordering_joined : (x : ℕ) → (x ≡ node.id) × (x < 256) → Ordering (set nodes count node) (set marks x true) (count + 1) before (i + 1)
          ordering_joined x v =
              let q : x ≡ ids i = v.0 ∙ ap (λ m. m.id) is in
              let w : ids i < 256 = rw (← q) v.1 in
              let p : map (node_at run) (with g.o i) ≡ map (node_at run) g.o ++ (node ∷ []) =
              map-append (node_at run) g.o (i ∷ []) ∙ ap (λ (m : Node). map (node_at run) g.o ++ (m ∷ [])) (sym is) in
              let r : count ≡ length (map (node_at run) g.o) = g.counted ∙ sym (length-map g.o (node_at run)) in
              record {
                whole = g.whole;
                few = g.few;
                low = omega arith;
                k = g.k;
                met = g.met;
                o = with g.o i;
                grown = joined;
                same = g.same ∙ turn ∙ ap (pass_from ids srcs (n - (i + 1)) (i + 1)) (step_joined ids srcs g.o i (sym tested ∙ t));
                counted = (let a = g.counted in let c = length_with g.o i in omega arith);
                listed = rw (g.listed, r) (pad_set blank_node most_entities (map (node_at run) g.o) node) ∙ ap (pad blank_node most_entities) (sym p);
                hold = rw q (marks_more ids g.o marks g.hold i w);
              }
