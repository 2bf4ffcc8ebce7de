-- A search along the cutting; what stands behind a descriptor in it are the descriptors from its end on.
use borrow.Author.Rules.{rules}
use Prim.Native.Nat.{ℕ, ◌+◌, ◌-◌, ◌≤◌}
use lib.ListN.{length}
use Rattle.std.proofs.Common.{arith}
use mathlib.Core.Path.{◌≡◌, refl, sym, ap, ◌∙◌}
use mathlib.Core.Bool.{Bool, true, false}
use mathlib.Core.List.{List, [], ◌∷◌}
use Rattle.ground.specs.Lists.{part, part_length}
use Rattle.scan.specs.Cutting.{end_at, rest}
use Rattle.scan.specs.Search.{start, stop, hit, miss, ordered, inside}
use Rattle.scan.specs.Placed.{placed_from, seen, ahead, walk_over, walk_next, Next}
use Rattle.terminals.specs.Table.{bearer_at}
use Rattle.streaming.proofs.first_broken.Invariants.{Going}
use Rattle.std.specs.Prelude.{Option, Some, None}
use Rattle.terminals.specs.declared.Bearer.{Bearer}
use Rattle.streaming.specs.Tests.{broken_at, wrong_stream, first_broken}
use Rattle.streaming.specs.Laws.{broken_here}
use Rattle.streaming.proofs.first_broken.Goals as goal

module _ (find : ℕ → Option Bearer) (s : List ℕ) where
  abbrev wrong : List (List ℕ) → List ℕ → Bool
  wrong = wrong_stream find (rest s 0)

  begin : (left : List (ℕ × List ℕ)) → left ≡ placed_from 0 (rest s 0) → Going find s left
  begin left c = record { at = 0; comes = c; passed = start wrong s 0 }

  module _ (left : List (ℕ × List ℕ)) (g : Going find s left) where
    over : left ≡ [] → None ≡ first_broken find s
    unfolding first_broken
    over n = stop wrong s 0 g.at (end_at s g.at) g.passed refl (walk_over s g.at (sym g.comes ∙ n))

    module _ (x : ℕ × List ℕ) (left' : List (ℕ × List ℕ)) (comes : left ≡ x ∷ left') where
      abbrev e : ℕ
      e = end_at s g.at

      n : Next s g.at x left'
      n = walk_next s g.at x left' (sym g.comes ∙ comes)

      ends : x.0 + length x.1 ≡ e
      ends =
          let p = n.place in
          let i = inside s g.at e refl n.stands in
          let o = ordered s g.at e refl n.stands in
          let l : length x.1 ≡ e - g.at = ap length n.here ∙ part_length s g.at e i in
          omega arith

      within : x.0 + length x.1 ≤ length s
      within = rw ends (inside s g.at e refl n.stands)

      module _ (b : ℕ) (q : b ≡ x.0 + length x.1) (r : Bool) (t : r ≡ broken_at find s x.1 b) where
        told : r ≡ wrong g.passed.behind (part s g.at e)
        told = t ∙ rw (q, ends, n.here) (broken_here find s g.at e g.passed refl n.stands)

        found : r ≡ true → Some x.0 ≡ first_broken find s
        unfolding first_broken
        found y = ap Some n.place ∙ hit wrong s 0 g.at e g.passed refl n.stands (sym told ∙ y)

        on : r ≡ false → Going find s left'
        on y = record { at = e; comes = n.behind; passed = miss wrong s 0 g.at e g.passed refl n.stands (sym told ∙ y) }

ruleset laws = (begin, rules)

pub loop-at-init : goal.loop-at-init
loop-at-init c = search laws

pub loop-at-preserved : goal.loop-at-preserved
loop-at-preserved c = (
  tt,
  tt,
  on (bearer_at c.args.table.now) c.args.config.now (ahead c.loop-at.at-iterator) (search rules) (seen (c.in-Some.at, c.in-Some.d)) (ahead c.next.new.self) (search rules) _ refl c.is_broken.result (search rules) (search rules),
)

pub returns-then-is_broken : goal.returns-then-is_broken
returns-then-is_broken c = found (bearer_at c.args.table.now) c.args.config.now (ahead c.loop-at.at-iterator) (search rules) (seen (c.in-Some.at, c.in-Some.d)) (ahead c.next.new.self) (search rules) _ refl c.is_broken.result (search rules) (search rules)

pub overflow_add-at : goal.overflow_add-at
overflow_add-at c = let w : c.in-Some.at + length c.in-Some.d.now ≤ length c.args.config.now = within (bearer_at c.args.table.now) c.args.config.now (ahead c.loop-at.at-iterator) (search rules) (seen (c.in-Some.at, c.in-Some.d)) (ahead c.next.new.self) (search rules) in search (w, rules)

pub returns : goal.returns
returns c = over (bearer_at c.args.table.now) c.args.config.now (ahead c.loop-at.at-iterator) (search rules) (search rules)
