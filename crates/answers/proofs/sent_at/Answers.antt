-- One byte of the data or two, as many as the control's value has.
use borrow.Author.Rules.{rules}
use Prim.Native.Nat.{ℕ}
use mathlib.Core.Path.{◌≡◌, ap, sym, ◌∙◌}
use mathlib.Core.List.{List}
use native.Mathlib.Omega.{arith}
use lib.ListN.{take, drop}
use Rattle.ground.specs.Numbers.{byte, word}
use Rattle.table.specs.declared.Sense.{Sense}
use Rattle.table.specs.Controls.{size_of}
use Rattle.answers.specs.Held.{value_in}
use Rattle.answers.specs.AnswersLaws.{size_least, size_most, byte_sent, word_sent}
use Rattle.answers.proofs.sent_at.Goals as goal

-- one law for each way out
module _ (k : Sense) (d : List ℕ) (at size : ℕ) (z : size ≡ size_of k) (x : ℕ) where
  one : size ≡ 1 → x ≡ byte d at → x ≡ value_in (take (size_of k) (drop at d))
  one e f = f ∙ byte_sent d at ∙ ap (λ (n : ℕ). value_in (take n (drop at d))) (sym e ∙ z)

  two : (size ≡ 1 → ⊥) → x ≡ word d at → x ≡ value_in (take (size_of k) (drop at d))
  two e f =
      let l = size_least k in
      let m = size_most k in
      let q : 2 ≡ size_of k = omega arith in
      f ∙ word_sent d at ∙ ap (λ (n : ℕ). value_in (take n (drop at d))) q

ruleset laws = (one, two, rules)

pub returns-then-size-eq1 : goal.returns-then-size-eq1
returns-then-size-eq1 c = search laws

pub returns-else-size-eq1 : goal.returns-else-size-eq1
returns-else-size-eq1 c = search laws
