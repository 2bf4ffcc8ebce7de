-- The loop stands behind the descriptors that it has counted: they stand in the first places, and the spare places are blank.
use borrow.Author.Rules.{rules}
use Prim.Native.Nat.{ℕ, ◌+◌, ◌-◌, ◌≤◌, ◌<◌, ◌^◌}
use mathlib.Core.Path.{◌≡◌, refl, sym, ap, ◌∙◌}
use mathlib.Core.List.{List, [], ◌∷◌, ◌++◌, append-nil}
use native.Mathlib.Omega.{arith}
use native.Mathlib.Nat.{add-zero}
use lib.ListN.{length, set, replicate, length-append}
use lib.Seq.{append_snoc, set_out}
use mir.Val.{Fits}
use mir.Syntax.{w64}
use Rattle.ground.specs.Lists.{part, part_length, total, total_append, pad, pad_blank, pad_length, pad_set}
use Rattle.scan.specs.Cutting.{end_at, rest}
use Rattle.scan.specs.CuttingLaws.{end_off, rest_none, rest_more}
use Rattle.scan.specs.Placed.{placed_from, seen, ahead, walk_over, walk_next, Next}
use Rattle.entities.specs.declared.Node.{Node}
use Rattle.entities.specs.Run.{most_entities, node_of, nodes_from, blank_node, run_in}
use Rattle.entities.proofs.RepresentsLemmas.{nodes_length, nodes_more}
use Rattle.run3.proofs.read_run.Invariants.{ed, Walked, Going}
use Rattle.run3.proofs.read_run.Goals as goal
use Rattle.run3.proofs.read_run.Goals.{then-count-lt-MOST_ENTITIES, else-count-lt-MOST_ENTITIES}

start : (s : List ℕ) (from : ℕ) (b : Node) → b ≡ blank_node → Walked s from (replicate 32 b) 0 from
unfolding total nodes_from
start s from b e =
    record {
      behind = [];
      whole = refl;
      place = sym (add-zero from);
      counted = refl;
      few = omega arith;
      filled = ap (λ (x : Node). replicate 32 x) e ∙ pad_blank blank_node 32;
    }

module _ (s : List ℕ) (from : ℕ) (nodes : List Node) (count at e : ℕ) (g : Walked s from nodes count at) (f : e ≡ end_at s at) where
  stop : e ≡ at → record { count = count; nodes = nodes } ≡ run_in ed from (rest s from)
  unfolding run_in
  stop h =
      let all : rest s from ≡ g.behind = g.whole ∙ ap (λ (l : List (List ℕ)). g.behind ++ l) (rest_none s at (sym f ∙ h)) ∙ append-nil g.behind in
      rw (all, g.counted, g.filled) refl

  module _ (h : e ≡ at → ⊥) where
    count_fits : length s < 2 ^ 64 → Fits w64 (count + 1)
    count_fits l = let o = end_off s at (λ q. h (f ∙ q)) in let c = g.few in record { fits = omega arith }

    here_fits : length s < 2 ^ 64 → at + length (part s at e) < 2 ^ 64
    here_fits l =
        let o = end_off s at (λ q. h (f ∙ q)) in
        let n : length (part s at e) ≡ e - at = part_length s at e (omega arith) in
        omega arith

    long : length nodes ≡ 32
    long = ap length g.filled ∙ pad_length blank_node most_entities (nodes_from ed from g.behind)

    on : (after : List Node) → after ≡ set nodes count (node_of ed at (part s at e)) → Walked s from after (count + 1) e
    unfolding total
    on after z =
        let o = end_off s at (λ q. h (f ∙ q)) in
        let d : List ℕ = part s at e in
        let b : List (List ℕ) = g.behind in
        let l : length d ≡ e - at = part_length s at e (omega arith) in
        let m : at + length d ≡ e = omega arith in
        let p = g.place in
        let c = g.counted in
        let few = g.few in
        let t : total (b ++ d ∷ []) ≡ total b + (length d + 0) = total_append b (d ∷ []) in
        let n : length (b ++ d ∷ []) ≡ length b + 1 = length-append b (d ∷ []) in
        let more : rest s at ≡ d ∷ rest s e = rw f (rest_more s at (λ q. h (f ∙ q))) in
        record {
          behind = b ++ d ∷ [];
          whole = g.whole ∙ ap (λ (r : List (List ℕ)). b ++ r) more ∙ sym (append_snoc b d (rest s e));
          place = omega arith;
          counted = omega arith;
          few = omega arith;
          filled =
              z ∙ ap (λ (y : List Node). set y count (node_of ed at d)) g.filled
              ∙ ap (λ (i : ℕ). set (pad blank_node most_entities (nodes_from ed from b)) i (node_of ed at d)) (c ∙ sym (nodes_length ed from b))
              ∙ pad_set blank_node most_entities (nodes_from ed from b) (node_of ed at d)
              ∙ ap (pad blank_node most_entities) (ap (λ (i : ℕ). nodes_from ed from b ++ node_of ed i d ∷ []) p ∙ sym (nodes_more ed from b d));
        }

    on_kept : (v : Node) → v ≡ node_of ed at (part s at e) → (after : List Node) → after ≡ set nodes count v → Walked s from after (count + 1) e
    on_kept v y after z = on after (z ∙ ap (set nodes count) y)

    on_full : 32 ≤ count → (after : List Node) → after ≡ nodes → Walked s from after (count + 1) e
    on_full l after z = on after (z ∙ (let n = long in sym (set_out nodes count (node_of ed at (part s at e)) (omega arith))))

begin : (s : List ℕ) (from : ℕ) (b : Node) (left : List (ℕ × List ℕ)) → b ≡ blank_node → left ≡ placed_from from (rest s from)
    → Going s from (replicate 32 b) 0 left
begin s from b left e c = record { at = from; comes = c; walked = start s from b e }

module _ (s : List ℕ) (from : ℕ) (nodes : List Node) (count : ℕ) (left : List (ℕ × List ℕ)) (g : Going s from nodes count left) where
  over : left ≡ [] → record { count = count; nodes = nodes } ≡ run_in ed from (rest s from)
  over h = stop s from nodes count g.at (end_at s g.at) g.walked refl (walk_over s g.at (sym g.comes ∙ h))

  room : length nodes ≡ 32
  room = ap length g.walked.filled ∙ pad_length blank_node most_entities (nodes_from ed from g.walked.behind)

  module _ (x : ℕ × List ℕ) (left' : List (ℕ × List ℕ)) (comes : left ≡ x ∷ left') where
    abbrev e : ℕ
    e = end_at s g.at

    n : Next s g.at x left'
    n = walk_next s g.at x left' (sym g.comes ∙ comes)

    count_next : length s < 2 ^ 64 → Fits w64 (count + 1)
    count_next = count_fits s from nodes count g.at e g.walked refl n.stands

    here_next : length s < 2 ^ 64 → x.0 + length x.1 < 2 ^ 64
    here_next l = rw (n.place, n.here) (here_fits s from nodes count g.at e g.walked refl n.stands l)

    kept : (v : Node) → v ≡ node_of ed x.0 x.1 → (after : List Node) → after ≡ set nodes count v → Going s from after (count + 1) left'
    kept v y after z =
        let w : v ≡ node_of ed g.at (part s g.at e) = y ∙ rw (n.place, n.here) refl in
        record { at = e; comes = n.behind; walked = on_kept s from nodes count g.at e g.walked refl n.stands v w after z }

    full : 32 ≤ count → (after : List Node) → after ≡ nodes → Going s from after (count + 1) left'
    full l after z = record { at = e; comes = n.behind; walked = on_full s from nodes count g.at e g.walked refl n.stands l after z }

ruleset laws = (begin, rules)

pub loop-at-init : goal.loop-at-init
loop-at-init c = search laws

pub node_of-requires : goal.node_of-requires
node_of-requires c = let l = here_next c.args.s.now c.args.from c.loop-at.nodes c.loop-at.count (ahead c.loop-at.at-iterator) (search rules) (seen (c.in-Some.at, c.in-Some.d)) (ahead c.next.new.self) (search rules) in search (l, rules)

pub overflow_add-count : goal.overflow_add-count
overflow_add-count c = let l = count_next c.args.s.now c.args.from c.loop-at.nodes c.loop-at.count (ahead c.loop-at.at-iterator) (search rules) (seen (c.in-Some.at, c.in-Some.d)) (ahead c.next.new.self) (search rules) in search (l, rules)

pub loop-at-preserved : goal.loop-at-preserved
loop-at-preserved c = elim c.if-count-lt-MOST_ENTITIES.branch [
  | then-count-lt-MOST_ENTITIES w ↦ (tt, tt, let k = kept c.args.s.now c.args.from c.loop-at.nodes c.loop-at.count (ahead c.loop-at.at-iterator) (search rules) (seen (c.in-Some.at, c.in-Some.d)) (ahead c.next.new.self) (search rules) in search (k, rules))
  | else-count-lt-MOST_ENTITIES w ↦ (tt, tt, let k = full c.args.s.now c.args.from c.loop-at.nodes c.loop-at.count (ahead c.loop-at.at-iterator) (search rules) (seen (c.in-Some.at, c.in-Some.d)) (ahead c.next.new.self) (search rules) in search (k, rules))
]

pub returns : goal.returns
returns c = over c.args.s.now c.args.from c.loop-at.nodes c.loop-at.count (ahead c.loop-at.at-iterator) (search rules) (search rules)
