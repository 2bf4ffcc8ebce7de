-- The marks are those of the Clock Sources among the nodes before the one that the loop stands at.
use borrow.Author.Rules.{rules}
use Prim.Native.Nat.{ℕ, ◌+◌, ◌≤◌, ◌<◌}
use mathlib.Core.Path.{◌≡◌, sym, ap, ◌∙◌}
use mathlib.Core.Bool.{Bool, true, false}
use mathlib.Core.Logic.{⊎_elim}
use mathlib.Core.List.{List}
use native.Mathlib.Omega.{arith}
use lib.Dec.{eqb}
use lib.ListN.{length, get_or, set, take, replicate, length-set, length-replicate}
use lib.Seq.{get_or-set_same, get_or-set_other}
use Rattle.ground.specs.Pick.{no, Reads, reads_eq, reads_and, shows, refutes, decided}
use Rattle.ground.specs.Lists.{replicate_at}
use Rattle.ground.specs.Places.{first_in, first_more, somewhere, reads_somewhere}
use Rattle.entities.specs.declared.Node.{Node}
use Rattle.entities.specs.declared.Run.{Run}
use Rattle.entities.specs.Run.{held, id_at, kind_at}
use Rattle.links3.specs.Links.{is_clock_at, clock_below, ClockMarks}
use Rattle.run3.proofs.Nodes.{zeros, inside, taken, all_taken}
use Rattle.links3.proofs.clocks.Invariants.{Marked}
use Rattle.links3.proofs.clocks.Goals as goal
use Rattle.links3.proofs.clocks.Goals.{then-node-eq-CLOCK_SOURCE, else-node-eq-CLOCK_SOURCE}

module _ (run : Run) where
  start : Marked run (replicate 256 false) 0
  unfolding somewhere first_in
  start = record { low = omega arith; long = length-replicate 256 false; mark = λ x. replicate_at false 256 x }

  reads_clock : (x i : ℕ) → Reads (is_clock_at run x i) ((id_at run i ≡ x) × (kind_at run i ≡ 0x0B))
  reads_clock x i = reads_and _ _ (reads_eq (id_at run i) x) (reads_eq (kind_at run i) 0x0B)

  module _ (marks : List Bool) (i : ℕ) (g : Marked run marks i) where
    long_marks : length marks ≡ 256
    long_marks = g.long

    -- the i-th entity is no Clock Source with that ID
    same_as : (x : ℕ) → ((id_at run i ≡ x) × (kind_at run i ≡ 0x0B) → ⊥) → clock_below run i x ≡ clock_below run (i + 1) x
    unfolding somewhere
    same_as x f =
        sym (first_more (is_clock_at run x) (λ j. true) false i ∙ ap (λ (r : Bool). first_in (is_clock_at run x) (λ j. true) r 0 i) (no _ _ (refutes (reads_clock x i) f)))

    module _ (n : ℕ) (m : n ≡ held run) where
      over : length run.nodes ≡ 32 → length (take n run.nodes) ≤ i → ClockMarks run marks
      over w h =
          let a = g.low in
          let b = all_taken run n m w in
          let e : i ≡ held run = omega arith in
          record { holds = λ x. g.mark x ∙ ap (λ (j : ℕ). clock_below run j x) e }

      module _ (h : i < length (take n run.nodes)) where
        kept : ((get_or (take n run.nodes) i zeros).kind ≡ 0x0B → ⊥) → (next : List Bool) → next ≡ marks → Marked run next (i + 1)
        kept f next o =
            let t = ap (λ (y : Node). y.kind) (taken run n i h) in
            let l = inside run n m i h in
            rw o (record { low = omega arith; long = g.long; mark = λ x. g.mark x ∙ same_as x (λ q. f (t ∙ q.1)) })

        marked : (get_or (take n run.nodes) i zeros).kind ≡ 0x0B → (x : ℕ) → (x ≡ (get_or (take n run.nodes) i zeros).id) × (x < 256)
            → (next : List Bool) → next ≡ set marks x true → Marked run next (i + 1)
        marked q x w next o = rw o (record {
          low = let l = inside run n m i h in omega arith;
          long = length-set marks x true ∙ g.long;
          mark = λ y. ⊎_elim (here y) (other y) (decided (eqb y x) (reads_eq y x));
        })
          where
            own : x ≡ id_at run i
            own = w.0 ∙ ap (λ (y : Node). y.id) (taken run n i h)

            clock : kind_at run i ≡ 0x0B
            clock = sym (ap (λ (y : Node). y.kind) (taken run n i h)) ∙ q

            here : (y : ℕ) → y ≡ x → get_or (set marks x true) y false ≡ clock_below run (i + 1) y
            here y z =
                let a = g.long in
                let b = w.1 in
                ap (λ (j : ℕ). get_or (set marks x true) j false) z
                ∙ get_or-set_same marks x true false (omega arith)
                ∙ sym (shows (reads_somewhere (is_clock_at run y) _ (i + 1) (λ j l. reads_clock y j)) (i, omega arith, (sym (z ∙ own), clock)))

            other : (y : ℕ) → (y ≡ x → ⊥) → get_or (set marks x true) y false ≡ clock_below run (i + 1) y
            other y z = get_or-set_other marks x y true false z ∙ g.mark y ∙ same_as y (λ r. z (sym r.0 ∙ sym own))

ruleset laws = (start, over, long_marks, kept, marked, rules)

pub loop-node-init : goal.loop-node-init
loop-node-init c = search laws

pub loop-node-preserved : goal.loop-node-preserved
loop-node-preserved c = elim c.if-node-eq-CLOCK_SOURCE.branch [ then-node-eq-CLOCK_SOURCE w ↦ search laws | else-node-eq-CLOCK_SOURCE w ↦ search laws ]

pub returns : goal.returns
returns c = search laws
