-- Three ways out: too many numbers, no room, or header and run are put. Header and run are so short that their length has two bytes.
use borrow.Author.Rules.{rules}
use Prim.Native.Nat.{ℕ, ◌+◌, ◌/◌, ◌%◌, ◌≤◌}
use mathlib.Core.Path.{◌≡◌, ap, ◌∙◌}
use mathlib.Core.List.{List, [], ◌∷◌}
use native.Mathlib.Omega.{arith}
use lib.ListN.{length, get_or}
use Rattle.laying.specs.Paste.{pasted_in}
use Rattle.writing.specs.Writing.{most_run, whole_of, room_then, WroteBy}
use Rattle.writing.specs.AnswerLaws.{many_numbers, no_room, whole_put}
use Rattle.writing.proofs.put_whole.Goals as goal

module _ (cs run before : List ℕ) (few : length cs ≤ 247) (short : length run ≤ most_run) where
  abbrev total : ℕ
  total = 8 + length cs + length run

  abbrev head : ℕ → ℕ → List ℕ
  head low high = (8 + length cs) ∷ 36 ∷ 1 ∷ 0 ∷ 1 ∷ low ∷ high ∷ length cs ∷ []

  put : (x a b after : List ℕ) → x ≡ (total % 256 ∷ total / 256 % 256 ∷ []) → total ≤ length before
      → a ≡ pasted_in 0 (head (get_or x 0 0) (get_or x 1 0)) before
      → b ≡ pasted_in 8 cs a → after ≡ pasted_in (8 + length cs) run b
      → WroteBy (room_then cs run (length before)) (whole_of cs run) before after (record { number = 0; place = 0; written = total })
  put x a b after e h p q r =
      let l : length run ≤ 8160 = short in
      let high : total / 256 % 256 ≡ total / 256 = omega arith in
      whole_put cs run before few a b after h
      (p ∙ ap (λ (y : List ℕ). pasted_in 0 (head (get_or y 0 0) (get_or y 1 0)) before) e ∙ ap (λ (n : ℕ). pasted_in 0 (head (total % 256) n) before) high)
      q r

ruleset laws = (many_numbers, no_room, put, rules)

pub returns-then-n-gt-MOST_NUMBERS : goal.returns-then-n-gt-MOST_NUMBERS
returns-then-n-gt-MOST_NUMBERS c = search laws

pub returns-then-out-total : goal.returns-then-out-total
returns-then-out-total c = search laws

pub returns : goal.returns
returns c = search laws
