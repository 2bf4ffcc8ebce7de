-- By its two ways out: it has no clock, or the mark decides.
use borrow.Author.Rules.{rules}
use Prim.Native.Nat.{ℕ, ◌<◌}
use mathlib.Core.Path.{◌≡◌, sym, ap, ◌∙◌}
use mathlib.Core.Bool.{Bool, true, false, not, ◌&&◌}
use mathlib.Core.List.{List}
use lib.ListN.{get_or}
use borrow.Author.Tests.{not-true, not-false}
use Rattle.layout3.specs.declared.Facts.{Facts}
use Rattle.links3.specs.Links.{wrong_clock_by}
use Rattle.links3.proofs.wrong_clock.Goals as goal

module _ (g f : Facts) (e : f ≡ g) where
  no_clock : (is_clock : ℕ → Bool) → not f.clocked ≡ true → false ≡ wrong_clock_by is_clock g
  unfolding wrong_clock_by
  no_clock is_clock h = sym (ap (λ (b : Bool). b && not (is_clock g.clock)) (sym (ap (λ (x : Facts). x.clocked) e) ∙ not-true f.clocked h))

  by_mark : (marks : List Bool) → not f.clocked ≡ false → (x : ℕ) → (x ≡ f.clock) × (x < 256)
      → not (get_or marks x false) ≡ wrong_clock_by (λ y. get_or marks y false) g
  unfolding wrong_clock_by
  by_mark marks h x w =
      ap (λ (i : ℕ). not (get_or marks i false)) (w.0 ∙ ap (λ (y : Facts). y.clock) e)
      ∙ sym (ap (λ (b : Bool). b && not (get_or marks g.clock false)) (sym (ap (λ (y : Facts). y.clocked) e) ∙ not-false f.clocked h))

ruleset laws = (no_clock, by_mark, rules)

pub returns-then-not-said : goal.returns-then-not-said
returns-then-not-said c = search laws

pub returns : goal.returns
returns c = search laws
