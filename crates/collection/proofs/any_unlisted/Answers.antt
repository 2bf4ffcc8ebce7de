-- The loop stands behind descriptors that open no such group, or one whose number is listed; the known numbers are those that stand before.
use borrow.Author.Rules.{rules}
use Prim.Native.Nat.{ℕ}
use mathlib.Core.Path.{◌≡◌, refl, sym, ◌∙◌}
use mathlib.Core.Bool.{Bool, true, false, not, ◌&&◌, ◌||◌, or-true, or-false}
use mathlib.Core.List.{List, [], ◌∷◌}
use lib.ListN.{get_or, replicate}
use borrow.Author.Tests.{eq-eqb, ne_eqb}
use Rattle.ground.specs.Pick.{true≠false}
use Rattle.ground.specs.Numbers.{byte}
use Rattle.ground.specs.Lists.{part}
use Rattle.ground.specs.First.{first_none_any, first_at_any}
use Rattle.scan.specs.Cutting.{end_at, rest}
use Rattle.scan.specs.Search.{searched, start, stop, hit, miss}
use Rattle.scan.specs.Placed.{placed_from, seen, ahead, walk_over, walk_next, Next}
use Rattle.search.specs.Want.{is_member, wants}
use Rattle.search.specs.declared.Want.TheVariants as want
use Rattle.search.specs.Before.{before_none, before_more, before_all}
use Rattle.collection.specs.Marks.{Holds, holds_none, holds_same, holds_more, is_grouped, unlisted_by, Met, other, member, Members}
use Rattle.collection.proofs.any_unlisted.Invariants.{test, stands, Going}
use Rattle.collection.proofs.any_unlisted.Goals as goal

begin : (s : List ℕ) (marks known : List Bool) (left : List (ℕ × List ℕ)) → left ≡ placed_from 0 (rest s 0) → known ≡ replicate 256 false
    → Going s marks known left
begin s marks known left c e =
    rw e (record { at = 0; comes = c; passed = start (test marks) s 0; holds = holds_none (λ k. before_none (want.Member k) s) })

module _ (s : List ℕ) (marks known : List Bool) (left : List (ℕ × List ℕ)) (g : Going s marks known left) where
  over : left ≡ [] → Members (rest s 0) marks known false
  unfolding searched wants
  over n =
      let h = walk_over s g.at (sym g.comes ∙ n) in
      record {
        told = sym (first_none_any (unlisted_by marks) 0 (rest s 0) (sym (stop (test marks) s 0 g.at (end_at s g.at) g.passed refl h)));
        marked = λ n. holds_same g.holds (λ k. before_all (want.Member k) s (test marks) g.at (end_at s g.at) g.passed refl h);
      }

  module _ (x : ℕ × List ℕ) (left' : List (ℕ × List ℕ)) (comes : left ≡ x ∷ left') where
    abbrev e : ℕ
    e = end_at s g.at

    abbrev d : List ℕ
    d = part s g.at (end_at s g.at)

    n : Next s g.at x left'
    n = walk_next s g.at x left' (sym g.comes ∙ comes)

    stands_more : (k : ℕ) → stands s e k ≡ (stands s g.at k || is_member k d)
    unfolding wants
    stands_more k = before_more (want.Member k) s (test marks) g.at e g.passed refl n.stands

    module _ (known' : List Bool) (r : Bool) (m : Met x.1 marks known known' r) where
      met : Met d marks known known' r
      met = rw n.here at m

      told : r ≡ unlisted_by marks d
      unfolding unlisted_by
      told = go met
        where
          go : Met d marks known known' r → r ≡ (is_grouped d && not (get_or marks (byte d 2) false))
          go (other a b c) = rw a b
          go (member a l b c) = rw a b

      unlisted_here : r ≡ true → Members (rest s 0) marks known' true
      unfolding searched
      unlisted_here y = record {
        told = sym (first_at_any (unlisted_by marks) 0 (rest s 0) g.at (sym (hit (test marks) s 0 g.at e g.passed refl n.stands (sym told ∙ y))));
        marked = λ n. absurd (true≠false n);
      }

      next : Met d marks known known' r → Holds (stands s e) known'
      unfolding is_member
      next (other a b c) = rw c (holds_same g.holds (λ k. rw (stands_more k, a) (sym (or-false (stands s g.at k)))))
      next (member a l b c) =
          rw c
          (holds_more (byte d 2) g.holds l
          (rw (stands_more (byte d 2), a, eq-eqb (byte d 2) (byte d 2) refl) (or-true (stands s g.at (byte d 2))))
          (λ k q. rw (stands_more k, a, ne_eqb (byte d 2) k (λ p. q (sym p))) (sym (or-false (stands s g.at k)))))

      listed_here : r ≡ false → Going s marks known' left'
      listed_here y = record {
        at = e;
        comes = n.behind;
        passed = miss (test marks) s 0 g.at e g.passed refl n.stands (sym told ∙ y);
        holds = next met;
      }

ruleset laws = (begin, rules)

pub loop-d-init : goal.loop-d-init
loop-d-init c = search laws

pub loop-d-preserved : goal.loop-d-preserved
loop-d-preserved c = (
  tt,
  tt,
  listed_here c.args.config.now c.args.listed.now c.loop-d.known (ahead c.loop-d.d-iterator) (search rules) (seen (c.in-Some.field-0-0, c.in-Some.d)) (ahead c.next.new.self) (search rules) c.is_unlisted.new.known c.is_unlisted.result (search rules) (search rules),
)

pub returns-then-is_unlisted : goal.returns-then-is_unlisted
returns-then-is_unlisted c = unlisted_here c.args.config.now c.args.listed.now c.loop-d.known (ahead c.loop-d.d-iterator) (search rules) (seen (c.in-Some.field-0-0, c.in-Some.d)) (ahead c.next.new.self) (search rules) c.is_unlisted.new.known c.is_unlisted.result (search rules) (search rules)

pub returns : goal.returns
returns c = over c.args.config.now c.args.listed.now c.loop-d.known (ahead c.loop-d.d-iterator) (search rules) (search rules)
