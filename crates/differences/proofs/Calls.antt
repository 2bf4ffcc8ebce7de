-- A caller that asks for the first line, and then for the first above the one that it was told, is told all lines, each once, and then that there is none.
--   every_call  ==  THE LAW, for any bytes
use Prim.Native.Nat.{ℕ, zero, suc, ◌≤◌, ◌<◌}
use mathlib.Core.Path.{◌≡◌, refl, sym, ap, ◌∙◌}
use mathlib.Core.Option.{Option}
use mathlib.Core.Logic.{⊎_elim}
use mathlib.Core.List.Memᴰ
use mathlib.Core.List.{List, [], ◌∷◌, ◌++◌}
use lib.ListN.{length}
use lib.Seq.{append_snoc}
use native.Mathlib.Omega.{arith}
use borrow.Author.Tests.{lt-ltb}
use Rattle.ground.specs.Pick.{yes}
use Rattle.graph.specs.Members.{◌∈◌}
use Rattle.ground.specs.Rising.{Rising, more}
use Rattle.differences.specs.InTurn.{of_turn, turn_few, turn_rising}
use Rattle.differences.specs.Lines.{Line, line_id, last_id, line_at, lines_of, first_above}
use Rattle.differences.specs.LinesLaws.{line_own, line_few, passed, none_above}
use Rattle.differences.specs.Exact.{told_then, called, EveryCall}

module _ (l r : List ℕ) where
  -- the lines passed have IDs up to a, and those left have IDs above it
  from : (k a : ℕ) (before left : List Line) → lines_of l r ≡ before ++ left → ((x : Line) → x ∈ before → line_id x ≤ a)
      → ((x : Line) → x ∈ left → a < line_id x) → Rising line_id left → length left ≤ k → called l r (suc k) a ≡ left
  unfolding called first_above
  from k a before [] e low high rise few =
      ap (λ (x : Option Line). told_then x (called l r k)) (ap (first_above a) e ∙ passed a before [] low)
  from zero a before (x ∷ left) e low high rise few = absurd (omega arith)
  from (suc k) a before (x ∷ left) e low high (more above rise) few =
      ap (λ (y : Option Line). told_then y (called l r (suc k))) (ap (first_above a) e ∙ passed a before (x ∷ left) low ∙ yes _ _ (lt-ltb a (line_id x) (high x (Memᴰ.head refl))))
      ∙ ap (λ (ls : List Line). x ∷ ls) (from k (line_id x) (before ++ x ∷ []) left (e ∙ sym (append_snoc before x left)) lower above rise (omega arith))
    where
      lower : (y : Line) → y ∈ (before ++ x ∷ []) → line_id y ≤ line_id x
      lower y m =
          ⊎_elim
          (λ n. let p = low y n in let q = high x (Memᴰ.head refl) in omega arith)
          (λ n. ⊎_elim (λ (z : y ≡ x). let q : line_id y ≡ line_id x = ap line_id z in omega arith) (λ t. absurd (Memᴰ.not-nil t)) (Memᴰ.cases_cons n))
          (Memᴰ.append_cases before m)

  few : length (lines_of l r) ≤ last_id
  unfolding lines_of
  few = turn_few (line_at l r) (line_few l r) 1 last_id

  pub every_call : EveryCall l r
  unfolding lines_of
  every_call = record {
    all =
        from last_id 0 [] (lines_of l r) refl (λ x m. absurd (Memᴰ.not-nil m))
        (λ x m. let j = of_turn (line_at l r) 1 last_id m in let p = j.1 in let e = line_own l r j.0 x j.3 in omega arith)
        (turn_rising line_id (line_at l r) (line_few l r) (line_own l r) 1 last_id)
        few;
    ends = λ a. none_above a (lines_of l r);
    few = few;
  }
