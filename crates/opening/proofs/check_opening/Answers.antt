-- By its four ways out: one for each of the three tests that fails, and the one where all hold.
use borrow.Author.Rules.{rules}
use Prim.Native.Nat.{ℕ}
use mathlib.Core.Path.{◌≡◌, sym, ◌∙◌}
use mathlib.Core.List.{List}
use lib.ListN.{length}
use borrow.Author.Tests.{eq-eqb, ne_eqb}
use Rattle.std.specs.Prelude.{Some, None}
use Rattle.ground.specs.Numbers.{byte, word}
use Rattle.opening.specs.Reading.{breach2}
use Rattle.opening.proofs.check_opening.Goals as goal

module _ (s : List ℕ) (a : ℕ) (e : a ≡ byte s 0) where
  not_nine : (a ≡ 9 → ⊥) → Some 0 ≡ breach2 s
  unfolding breach2
  not_nine h = simp (ne_eqb (byte s 0) 9 (λ q. h (e ∙ q)))

  module _ (h : a ≡ 9) (b : ℕ) (f : b ≡ byte s 1) where
    not_two : (b ≡ 2 → ⊥) → Some 0 ≡ breach2 s
    unfolding breach2
    not_two k = simp (eq-eqb (byte s 0) 9 (sym e ∙ h), ne_eqb (byte s 1) 2 (λ q. k (f ∙ q)))

    module _ (k : b ≡ 2) (c : ℕ) (g : c ≡ word s 2) where
      other_length : (c ≡ length s → ⊥) → Some 0 ≡ breach2 s
      unfolding breach2
      other_length l = simp (eq-eqb (byte s 0) 9 (sym e ∙ h), eq-eqb (byte s 1) 2 (sym f ∙ k), ne_eqb (word s 2) (length s) (λ q. l (g ∙ q)))

      right : c ≡ length s → None ≡ breach2 s
      unfolding breach2
      right l = simp (eq-eqb (byte s 0) 9 (sym e ∙ h), eq-eqb (byte s 1) 2 (sym f ∙ k), eq-eqb (word s 2) (length s) (sym g ∙ l))

ruleset laws = (not_nine, not_two, other_length, right, rules)

pub returns-then-byte_at-ne9 : goal.returns-then-byte_at-ne9
returns-then-byte_at-ne9 c = search laws

pub returns-then-byte_at-ne2 : goal.returns-then-byte_at-ne2
returns-then-byte_at-ne2 c = search laws

pub returns-then-word_at-config : goal.returns-then-word_at-config
returns-then-word_at-config c = search laws

pub returns : goal.returns
returns c = search laws
