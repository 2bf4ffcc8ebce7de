-- By its three ways out: not the kind, another kind, 15 hex.
use borrow.Author.Rules.{rules}
use Prim.Native.Nat.{ℕ}
use mathlib.Core.Path.{◌≡◌, sym, ap, ◌∙◌}
use mathlib.Core.Bool.{Bool, true, false, ◌&&◌}
use mathlib.Core.List.{List}
use lib.Dec.{eqb}
use borrow.Author.Tests.{eq-eqb, ne_eqb}
use Rattle.ground.specs.Pick.{yes, no}
use Rattle.ground.specs.Numbers.{byte}
use Rattle.differences.specs.Mended.{compared_as}
use Rattle.differences.proofs.compared.Goals as goal

module _ (a : List ℕ) (n x : ℕ) (e : x ≡ byte a n) where
  as_is : eqb n 1 && eqb (byte a n) 0x15 ≡ false → x ≡ compared_as n (byte a n)
  unfolding compared_as
  as_is f = e ∙ sym (no _ _ f)

  other_byte : (n ≡ 1 → ⊥) → x ≡ compared_as n (byte a n)
  other_byte d = as_is (ap (λ (b : Bool). b && eqb (byte a n) 0x15) (ne_eqb n 1 d))

  module _ (k : n ≡ 1) where
    here : (b : Bool) → eqb (byte a n) 0x15 ≡ b → eqb n 1 && eqb (byte a n) 0x15 ≡ b
    here b f = ap (λ (c : Bool). c && eqb (byte a n) 0x15) (eq-eqb n 1 k) ∙ f

    other_kind : (x ≡ 0x15 → ⊥) → x ≡ compared_as n (byte a n)
    other_kind d = as_is (here false (ne_eqb (byte a n) 0x15 (λ q. d (e ∙ q))))

    printed : x ≡ 0x15 → 5 ≡ compared_as n (byte a n)
    unfolding compared_as
    printed q = sym (yes _ _ (here true (eq-eqb (byte a n) 0x15 (sym e ∙ q))))

ruleset laws = (other_byte, other_kind, printed, rules)

pub returns-then-n-ne-KIND : goal.returns-then-n-ne-KIND
returns-then-n-ne-KIND c = search laws

pub returns-then-byte-ne-PRINTED : goal.returns-then-byte-ne-PRINTED
returns-then-byte-ne-PRINTED c = search laws

pub returns : goal.returns
returns c = search laws
