-- Eight bytes are read into the target, and the first two say what is asked of it.
use borrow.Author.Rules.{rules}
use Prim.Native.Nat.{ℕ}
use mathlib.Core.Path.{◌≡◌, sym, ◌∙◌}
use mathlib.Core.List.{List}
use lib.ListN.{length}
use borrow.Author.Tests.{eq-eqb, ne_eqb}
use Rattle.ground.specs.Pick.{yes, no}
use Rattle.ground.specs.Numbers.{byte, word}
use Rattle.setup.specs.declared.Asked.{Asked}
use Rattle.setup.specs.declared.Asked.TheVariants.{Unknown}
use Rattle.setup.specs.Setup.{asked_by, asked_of}
use Rattle.setup.proofs.read.Goals as goal

-- one law for each way out
module _ (s : List ℕ) where
  wrong_length : (length s ≡ 8 → ⊥) → Unknown ≡ asked_of s
  unfolding asked_of
  wrong_length h = sym (no _ _ (ne_eqb _ _ h))

  is_read : length s ≡ 8 → (n : ℕ) (r : Asked) → n ≡ word s 6
      → r ≡ asked_by (record { interface = byte s 4; unit = byte s 5; channel = byte s 2; selector = byte s 3; bytes = n }) (byte s 0) (byte s 1)
      → r ≡ asked_of s
  unfolding asked_of
  is_read h n r e f = f ∙ rw e (sym (yes _ _ (eq-eqb _ _ h)))

ruleset laws = (wrong_length, is_read, rules)

pub returns-then-setup-ne8 : goal.returns-then-setup-ne8
returns-then-setup-ne8 c = search laws

pub returns : goal.returns
returns c = search laws
