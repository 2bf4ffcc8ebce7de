-- By what stands last before the place: a mark, which is passed, another byte, or nothing.
use borrow.Author.Rules.{rules}
use Prim.Native.Nat.{ℕ, zero, suc, ◌+◌, ◌-◌, ◌≤◌, ◌<◌}
use mathlib.Core.Path.{◌≡◌, refl, sym, ◌∙◌}
use mathlib.Core.List.{List}
use native.Mathlib.Omega.{arith}
use lib.ListN.{length}
use borrow.Author.Tests.{eq-eqb, ne_eqb}
use Rattle.ground.specs.Pick.{yes, no}
use Rattle.ground.specs.Numbers.{byte}
use Rattle.marks.specs.Marks.{mark, before_marks, BeforeMarks}
use Rattle.marks.proofs.before_marks.Invariants.{Come}
use Rattle.marks.proofs.before_marks.Goals as goal

module _ (s : List ℕ) (end : ℕ) (g : Come s end) where
  over : end ≤ 0 → BeforeMarks s 0
  unfolding before_marks
  over h = record { same = at end h ∙ g.same; inside = omega arith }
    where
      at : (n : ℕ) → n ≤ 0 → 0 ≡ before_marks s n
      at zero l = refl
      at (suc n) l = absurd (omega arith)

  module _ (h : 0 < end) where
    turn_other : (byte s (end - 1) ≡ mark → ⊥) → BeforeMarks s (end - 1 + 1)
    unfolding before_marks
    turn_other d =
        let q : end - 1 + 1 ≡ end = omega arith in
        rw q (record { same = last end h d ∙ g.same; inside = g.inside })
      where
        last : (n : ℕ) → 0 < n → (byte s (n - 1) ≡ mark → ⊥) → n ≡ before_marks s n
        last zero l e = absurd (omega arith)
        last (suc n) l e = let q : suc n - 1 ≡ n = omega arith in sym (no _ _ (ne_eqb (byte s n) mark (rw q at e)))

    turn_mark : byte s (end - 1) ≡ mark → Come s (end - 1)
    unfolding before_marks
    turn_mark e = record { inside = let i = g.inside in omega arith; same = back end h e ∙ g.same }
      where
        back : (n : ℕ) → 0 < n → byte s (n - 1) ≡ mark → before_marks s (n - 1) ≡ before_marks s n
        back zero l e = absurd (omega arith)
        back (suc n) l e = let q : suc n - 1 ≡ n = omega arith in rw q (sym (yes _ _ (eq-eqb (byte s n) mark (rw q at e))))

ruleset laws = (over, turn_other, turn_mark, rules)

pub returns-then-lent-last : goal.returns-then-lent-last
returns-then-lent-last c = search laws

pub loop-last-preserved : goal.loop-last-preserved
loop-last-preserved c = search laws

pub returns : goal.returns
returns c = search laws
