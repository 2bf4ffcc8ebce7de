-- The loop stands behind the descriptors that it has counted: they stand in the first places, the spare places are blank, and the first
-- unlaid layout is the one that was met, or where none was the first from here on.
use borrow.Author.Rules.{rules}
use Prim.Native.Nat.{ℕ, ◌+◌, ◌-◌, ◌≤◌, ◌<◌, ◌^◌}
use mathlib.Core.Path.{◌≡◌, refl, sym, ap, ◌∙◌}
use mathlib.Core.Bool.{Bool, true, false}
use mathlib.Core.List.{List, [], ◌∷◌, ◌++◌, append-nil}
use native.Mathlib.Omega.{arith}
use native.Mathlib.Nat.{add-zero}
use lib.ListN.{length, set, replicate, length-append}
use lib.Seq.{append_snoc, set_out}
use mir.Val.{Fits}
use mir.Syntax.{w64}
use Rattle.std.specs.Prelude.{Option, Some, None}
use Rattle.ground.specs.Pick.{pick}
use Rattle.ground.specs.Lists.{part, part_length, total, total_append, pad, pad_blank, pad_length, pad_set}
use Rattle.ground.specs.First.{first_from, first_end}
use Rattle.scan.specs.Cutting.{end_at, rest}
use Rattle.scan.specs.CuttingLaws.{end_off, rest_none, rest_more}
use Rattle.scan.specs.Search.{searched}
use Rattle.scan.specs.Placed.{placed_from, seen, ahead, walk_over, walk_next, Next}
use Rattle.layout.specs.declared.Entity.{Entity}
use Rattle.layout.specs.Layout.{entity_of, is_unknown}
use Rattle.edition.specs.Audio.{audio}
use Rattle.entities.specs.declared.Node.{Node}
use Rattle.entities.specs.Run.{most_entities, node_of, nodes_from, blank_node, run_in, earlier, unlaid_at, walk_of}
use Rattle.entities.proofs.RepresentsLemmas.{nodes_length, nodes_more}
use Rattle.entities.proofs.read_run.Invariants.{is_unlaid, Walked, Going}
use Rattle.entities.proofs.read_run.Goals as goal
use Rattle.entities.proofs.read_run.Goals.{then-count-lt-MOST_ENTITIES, else-count-lt-MOST_ENTITIES}

start : (s : List ℕ) (from : ℕ) (b : Node) → b ≡ blank_node → Walked s from (replicate 32 b) 0 None from
unfolding total nodes_from searched earlier
start s from b e =
    record {
      behind = [];
      whole = refl;
      place = sym (add-zero from);
      counted = refl;
      few = omega arith;
      filled = ap (λ (x : Node). replicate 32 x) e ∙ pad_blank blank_node 32;
      first = refl;
    }

first_nowhere : (a : Option ℕ) → earlier a None ≡ a
unfolding earlier
first_nowhere None = refl
first_nowhere (Some p) = refl

-- one turn of the search, whether or not a unlaid layout was met before
first_turn : (a : Option ℕ) (x : Entity) (at : ℕ) (later : Option ℕ) → earlier a (pick (is_unknown x) (Some at) later) ≡ earlier (earlier a (unlaid_at x at)) later
unfolding earlier unlaid_at
first_turn (Some p) x at later = refl
first_turn None x at later = go (is_unknown x)
  where
    go : (b : Bool) → pick b (Some at) later ≡ earlier (pick b (Some at) None) later
    go true = refl
    go false = refl

module _ (s : List ℕ) (from : ℕ) (nodes : List Node) (count : ℕ) (unlaid : Option ℕ) (at e : ℕ) (g : Walked s from nodes count unlaid at) (f : e ≡ end_at s at) where
  stop : e ≡ at → record { run = record { count = count; nodes = nodes }; unlaid = unlaid } ≡ walk_of s from
  unfolding run_in walk_of
  stop h =
      let none : rest s at ≡ [] = rest_none s at (sym f ∙ h) in
      let all : rest s from ≡ g.behind = g.whole ∙ ap (λ (l : List (List ℕ)). g.behind ++ l) none ∙ append-nil g.behind in
      let found : searched is_unlaid s from ≡ unlaid = g.first ∙ ap (λ (l : List (List ℕ)). earlier unlaid (first_from is_unlaid at g.behind l)) none ∙ ap (earlier unlaid) (first_end is_unlaid at g.behind) ∙ first_nowhere unlaid in
      rw (found, all, g.counted, g.filled) refl

  module _ (h : e ≡ at → ⊥) where
    count_fits : length s < 2 ^ 64 → Fits w64 (count + 1)
    count_fits l = let o = end_off s at (λ q. h (f ∙ q)) in let c = g.few in record { fits = omega arith }

    here_fits : length s < 2 ^ 64 → at + length (part s at e) < 2 ^ 64
    here_fits l =
        let o = end_off s at (λ q. h (f ∙ q)) in
        let n : length (part s at e) ≡ e - at = part_length s at e (omega arith) in
        omega arith

    long : length nodes ≡ 32
    long = ap length g.filled ∙ pad_length blank_node most_entities (nodes_from audio from g.behind)

    module _ (x : Entity) (k : x ≡ entity_of (part s at e)) (next : Option ℕ) (w : next ≡ earlier unlaid (unlaid_at x at)) where
      on : (after : List Node) → after ≡ set nodes count (node_of audio at (part s at e)) → Walked s from after (count + 1) next e
      unfolding total first_from
      on after z =
          let o = end_off s at (λ q. h (f ∙ q)) in
          let d : List ℕ = part s at e in
          let b : List (List ℕ) = g.behind in
          let l : length d ≡ e - at = part_length s at e (omega arith) in
          let m : at + length d ≡ e = omega arith in
          let p = g.place in
          let c = g.counted in
          let few = g.few in
          let t : total (b ++ d ∷ []) ≡ total b + (length d + 0) = total_append b (d ∷ []) in
          let n : length (b ++ d ∷ []) ≡ length b + 1 = length-append b (d ∷ []) in
          let more : rest s at ≡ d ∷ rest s e = rw f (rest_more s at (λ q. h (f ∙ q))) in
          record {
            behind = b ++ d ∷ [];
            whole = g.whole ∙ ap (λ (r : List (List ℕ)). b ++ r) more ∙ sym (append_snoc b d (rest s e));
            place = omega arith;
            counted = omega arith;
            few = omega arith;
            filled =
                z ∙ ap (λ (y : List Node). set y count (node_of audio at d)) g.filled
                ∙ ap (λ (i : ℕ). set (pad blank_node most_entities (nodes_from audio from b)) i (node_of audio at d)) (c ∙ sym (nodes_length audio from b))
                ∙ pad_set blank_node most_entities (nodes_from audio from b) (node_of audio at d)
                ∙ ap (pad blank_node most_entities) (ap (λ (i : ℕ). nodes_from audio from b ++ node_of audio i d ∷ []) p ∙ sym (nodes_more audio from b d));
            first =
                g.first ∙ ap (λ (r : List (List ℕ)). earlier unlaid (first_from is_unlaid at b r)) more
                ∙ first_turn unlaid (entity_of d) at (first_from is_unlaid (at + length d) (b ++ d ∷ []) (rest s e))
                ∙ ap (λ (y : Entity). earlier (earlier unlaid (unlaid_at y at)) (first_from is_unlaid (at + length d) (b ++ d ∷ []) (rest s e))) (sym k)
                ∙ ap (λ (y : Option ℕ). earlier y (first_from is_unlaid (at + length d) (b ++ d ∷ []) (rest s e))) (sym w)
                ∙ ap (λ (i : ℕ). earlier next (first_from is_unlaid i (b ++ d ∷ []) (rest s e))) m;
          }

      on_kept : (v : Node) → v ≡ node_of audio at (part s at e) → (after : List Node) → after ≡ set nodes count v → Walked s from after (count + 1) next e
      on_kept v y after z = on after (z ∙ ap (set nodes count) y)

      on_full : 32 ≤ count → (after : List Node) → after ≡ nodes → Walked s from after (count + 1) next e
      on_full l after z = on after (z ∙ (let n = long in sym (set_out nodes count (node_of audio at (part s at e)) (omega arith))))

begin : (s : List ℕ) (from : ℕ) (b : Node) (left : List (ℕ × List ℕ)) → b ≡ blank_node → left ≡ placed_from from (rest s from)
    → Going s from (replicate 32 b) 0 None left
begin s from b left e c = record { at = from; comes = c; walked = start s from b e }

module _ (s : List ℕ) (from : ℕ) (nodes : List Node) (count : ℕ) (unlaid : Option ℕ) (left : List (ℕ × List ℕ))
    (g : Going s from nodes count unlaid left) where
  over : left ≡ [] → record { run = record { count = count; nodes = nodes }; unlaid = unlaid } ≡ walk_of s from
  over h = stop s from nodes count unlaid g.at (end_at s g.at) g.walked refl (walk_over s g.at (sym g.comes ∙ h))

  module _ (x : ℕ × List ℕ) (left' : List (ℕ × List ℕ)) (comes : left ≡ x ∷ left') where
    abbrev e : ℕ
    e = end_at s g.at

    n : Next s g.at x left'
    n = walk_next s g.at x left' (sym g.comes ∙ comes)

    count_next : length s < 2 ^ 64 → Fits w64 (count + 1)
    count_next = count_fits s from nodes count unlaid g.at e g.walked refl n.stands

    here_next : length s < 2 ^ 64 → x.0 + length x.1 < 2 ^ 64
    here_next l = rw (n.place, n.here) (here_fits s from nodes count unlaid g.at e g.walked refl n.stands l)

    module _ (y : Entity) (k : y ≡ entity_of x.1) (next : Option ℕ) (w : next ≡ earlier unlaid (unlaid_at y x.0)) where
      k' : y ≡ entity_of (part s g.at e)
      k' = k ∙ ap entity_of n.here

      w' : next ≡ earlier unlaid (unlaid_at y g.at)
      w' = w ∙ ap (λ (i : ℕ). earlier unlaid (unlaid_at y i)) n.place

      kept : (v : Node) → v ≡ node_of audio x.0 x.1 → (after : List Node) → after ≡ set nodes count v
          → Going s from after (count + 1) next left'
      kept v q after z =
          let u : v ≡ node_of audio g.at (part s g.at e) = q ∙ rw (n.place, n.here) refl in
          record { at = e; comes = n.behind; walked = on_kept s from nodes count unlaid g.at e g.walked refl n.stands y k' next w' v u after z }

      full : 32 ≤ count → (after : List Node) → after ≡ nodes → Going s from after (count + 1) next left'
      full l after z =
          record { at = e; comes = n.behind; walked = on_full s from nodes count unlaid g.at e g.walked refl n.stands y k' next w' l after z }

ruleset laws = (begin, rules)

pub loop-at-init : goal.loop-at-init
loop-at-init c = search laws

pub node_of-requires : goal.node_of-requires
node_of-requires c = let l = here_next c.args.s.now c.args.from c.loop-at.nodes c.loop-at.count c.loop-at.unlaid (ahead c.loop-at.at-iterator) (search rules) (seen (c.in-Some.at, c.in-Some.d)) (ahead c.next.new.self) (search rules) in search (l, rules)

pub overflow_add-count : goal.overflow_add-count
overflow_add-count c = let l = count_next c.args.s.now c.args.from c.loop-at.nodes c.loop-at.count c.loop-at.unlaid (ahead c.loop-at.at-iterator) (search rules) (seen (c.in-Some.at, c.in-Some.d)) (ahead c.next.new.self) (search rules) in search (l, rules)

pub loop-at-preserved : goal.loop-at-preserved
loop-at-preserved c = elim c.if-count-lt-MOST_ENTITIES.branch [
  | then-count-lt-MOST_ENTITIES w ↦ (tt, tt, let k = kept c.args.s.now c.args.from c.loop-at.nodes c.loop-at.count c.loop-at.unlaid (ahead c.loop-at.at-iterator) (search rules) (seen (c.in-Some.at, c.in-Some.d)) (ahead c.next.new.self) (search rules) c.read-entity.result (search rules) c.first_unlaid-unlaid.result (search rules) in search (k, rules))
  | else-count-lt-MOST_ENTITIES w ↦ (tt, tt, let k = full c.args.s.now c.args.from c.loop-at.nodes c.loop-at.count c.loop-at.unlaid (ahead c.loop-at.at-iterator) (search rules) (seen (c.in-Some.at, c.in-Some.d)) (ahead c.next.new.self) (search rules) c.read-entity.result (search rules) c.first_unlaid-unlaid.result (search rules) in search (k, rules))
]

pub returns : goal.returns
returns c = over c.args.s.now c.args.from c.loop-at.nodes c.loop-at.count c.loop-at.unlaid (ahead c.loop-at.at-iterator) (search rules) (search rules)
