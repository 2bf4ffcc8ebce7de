-- The reader's, then 62.
use borrow.Author.Rules.{rules}
use Prim.Native.Nat.{ℕ, ◌+◌, ◌-◌, ◌≤◌, ◌<◌}
use mathlib.Core.Path.{◌≡◌, sym, ◌∙◌}
use native.Mathlib.Omega.{arith}
use borrow.Author.Tests.{eq-eqb, ne_eqb, le-leb, lt-leb}
use Rattle.ground.specs.Pick.{yes, no}
use Rattle.ground.specs.Refuse.{none}
use Rattle.sides.specs.Sides.{most_together, admission_by}
use Rattle.sides.proofs.judge_reading.Goals as goal

module _ (x p c n : ℕ) where
  by_the_reader : (x ≡ 0 → ⊥) → record { number = x; place = p } ≡ admission_by x p c n
  unfolding admission_by
  by_the_reader h = sym (no _ _ (ne_eqb _ _ h))

  module _ (e : x ≡ 0) where
    passes : most_together < n + c → record { number = 62; place = 0 } ≡ admission_by x p c n
    unfolding admission_by
    passes l = sym (yes _ _ (eq-eqb _ _ e) ∙ no _ _ (lt-leb _ _ l))

    too_many : most_together < c → record { number = 62; place = 0 } ≡ admission_by x p c n
    too_many l = passes (omega arith)

    too_many_met : c ≤ most_together → most_together - c < n → record { number = 62; place = 0 } ≡ admission_by x p c n
    too_many_met l h = passes (omega arith)

    fits : c ≤ most_together → n ≤ most_together - c → none ≡ admission_by x p c n
    unfolding admission_by
    fits l h = let w : n + c ≤ most_together = omega arith in sym (yes _ _ (eq-eqb _ _ e) ∙ yes _ _ (le-leb _ _ w))

ruleset laws = (by_the_reader, too_many, too_many_met, fits, rules)

pub returns-then-number-ne0 : goal.returns-then-number-ne0
returns-then-number-ne0 c = search laws

pub returns-then-controls-gt-TOGETHER : goal.returns-then-controls-gt-TOGETHER
returns-then-controls-gt-TOGETHER c = search laws

pub returns-then-controls-met : goal.returns-then-controls-met
returns-then-controls-met c = search laws

pub returns : goal.returns
returns c = search laws
