-- By its two ways out.
use borrow.Author.Rules.{rules}
use Prim.Native.Nat.{ℕ}
use mathlib.Core.Path.{◌≡◌, sym, ◌∙◌}
use mathlib.Core.List.{List}
use borrow.Author.Tests.{eq-eqb, ne_eqb}
use Rattle.ground.specs.Pick.{yes, no}
use Rattle.legal.specs.Sheet.{sheet_number}
use Rattle.differences.specs.Lines.{pair_number}
use Rattle.differences.proofs.check.Goals as goal

module _ (l r : List ℕ) (n : ℕ) (e : n ≡ sheet_number l) where
  of_left : (n ≡ 0 → ⊥) → n ≡ pair_number l r
  unfolding pair_number
  of_left h = e ∙ sym (no _ _ (ne_eqb (sheet_number l) 0 (λ z. h (e ∙ z))))

  of_right : n ≡ 0 → (m : ℕ) → m ≡ sheet_number r → m ≡ pair_number l r
  unfolding pair_number
  of_right z m f = f ∙ sym (yes _ _ (eq-eqb (sheet_number l) 0 (sym e ∙ z)))

ruleset laws = (of_left, of_right, rules)

pub returns-then-number-ne0 : goal.returns-then-number-ne0
returns-then-number-ne0 c = search laws

pub returns : goal.returns
returns c = search laws
