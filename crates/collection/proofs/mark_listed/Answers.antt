-- The loop stands behind distinct numbers, and those are the marked ones.
use borrow.Author.Rules.{rules}
use Prim.Native.Nat.{ℕ, suc, ◌+◌, ◌≤◌, ◌<◌}
use mathlib.Core.Path.{◌≡◌, refl, sym, ap, ◌∙◌}
use mathlib.Core.Bool.{Bool, true, false}
use mathlib.Core.List.{List, [], ◌∷◌, ◌++◌}
use native.Mathlib.Numerals.{add-one}
use lib.ListN.{length, get_or, set, take, drop, replicate}
use lib.Seq.{take_all, take-suc, split_at}
use lib.Dec.{eqb}
use Rattle.ground.specs.Pick.{true≠false}
use Rattle.ground.specs.Lists.{any}
use Rattle.collection.specs.Reading.{is_distinct}
use Rattle.collection.specs.Marks.{holds_none, holds_same, holds_more, Listed, any_last, any_but_last, distinct_more, distinct_twice}
use Rattle.collection.proofs.mark_listed.Invariants.{Marking}
use Rattle.collection.proofs.mark_listed.Goals as goal

begin : (l : List ℕ) (marks : List Bool) → marks ≡ replicate 256 false → Marking l marks 0
unfolding any is_distinct
begin l marks e = rw e (record { distinct = refl; holds = holds_none (λ k. refl) })

module _ (l : List ℕ) (marks : List Bool) (i : ℕ) (g : Marking l marks i) where
  all : length l ≤ i → Listed l marks true
  all h = let q : take i l ≡ l = take_all i l h in record { distinct = sym (rw q at g.distinct); marked = λ e. rw q at g.holds }

  module _ (h : i < length l) (x : ℕ) (w : (x ≡ get_or l i 0) × (x < 256)) where
    marked_as : get_or marks x false ≡ any (eqb (get_or l i 0)) (take i l)
    marked_as = g.holds.each x ∙ ap (λ (k : ℕ). any (eqb k) (take i l)) w.0

    twice : get_or marks x false ≡ true → Listed l marks false
    twice y = record {
      distinct = sym (ap is_distinct (split_at l i 0 h) ∙ distinct_twice (take i l) (get_or l i 0) (drop (suc i) l) (sym marked_as ∙ y));
      marked = λ e. absurd (true≠false (sym e));
    }

    once : get_or marks x false ≡ false → Marking l (set marks x true) (i + 1)
    once y =
        let q : take (i + 1) l ≡ take i l ++ x ∷ [] = rw add-one (take-suc l i 0 h ∙ ap (λ (k : ℕ). take i l ++ k ∷ []) (sym w.0)) in
        record {
          distinct = rw q (distinct_more (take i l) x g.distinct (sym (g.holds.each x) ∙ y));
          holds = holds_same (holds_more x g.holds w.1 (any_last x (take i l) x [] refl) (λ k f. any_but_last k (take i l) x f)) (λ k. ap (any (eqb k)) (sym q));
        }

ruleset laws = (begin, all, twice, once, rules)

pub loop-byte-init : goal.loop-byte-init
loop-byte-init c = search laws

pub returns-then-marks-number : goal.returns-then-marks-number
returns-then-marks-number c = twice _ _ _ c.loop-byte.invariant c.loop-byte-test.true _ c.index_of-number.ensures c.if-marks-number.true

pub loop-byte-preserved : goal.loop-byte-preserved
loop-byte-preserved c = search laws
