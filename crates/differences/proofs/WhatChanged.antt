-- Document 02, No. 4, proved.
use Prim.Native.Nat.{ℕ}
use mathlib.Core.Path.{◌≡◌, refl, sym, ap, ◌∙◌}
use mathlib.Core.Bool.{Bool, true, false}
use mathlib.Core.Option.{Option, some}
use mathlib.Core.Logic.{◌⊎◌, inl, inr}
use mathlib.Core.List.Memᴰ
use mathlib.Core.List.{List, [], ◌∷◌}
use lib.Dec.{eqb, ltb}
use borrow.Author.Tests.{eq-eqb, ne_eqb}
use Rattle.ground.specs.Pick.{pick, yes, no, decided, reads_eq}
use Rattle.graph.specs.Members.{◌∈◌}
use Rattle.records.specs.Records.{record_size}
use Rattle.legal.specs.Sheet.{sheet_number}
use Rattle.legal.specs.Sheet.JudgedBy.{sheet}
use Rattle.legal.specs.SheetLaws.{sheet_judged, judged_one, sheet_given}
use Rattle.differences.specs.Lines.{Line, line_id, record_bearing, lines_of, first_above, difference_of, line_told, pair_number}
use Rattle.differences.specs.LinesLaws.{told_id, above_id}
use Rattle.differences.specs.Masks.{numbers_back}
use Rattle.differences.specs.WhatChanged.{JudgedPair, WhatChanged}
use Rattle.differences.specs.WhatChanged.JudgedPair.{by_left, by_right}
use Rattle.differences.proofs.Exactly.{LineSays, line_of_lem, lines_exact, no_line}
use Rattle.differences.proofs.Exactly.LineSays.{says_left, says_right, says_changed}
use Rattle.differences.proofs.Calls.{every_call}
use Rattle.differences.proofs.Rebuilding.{own_record, rebuilt_right}

module _ (l r : List ℕ) where
  pair_judged : JudgedPair l r (pair_number l r)
  unfolding pair_number
  pair_judged = go (decided (eqb (sheet_number l) 0) (reads_eq (sheet_number l) 0))
    where
      go : (sheet_number l ≡ 0) ⊎ (sheet_number l ≡ 0 → ⊥) → JudgedPair l r (pick (eqb (sheet_number l) 0) (sheet_number r) (sheet_number l))
      go (inl e) = rw (eq-eqb (sheet_number l) 0 e) (by_right (sheet_given record_size l (sheet_judged record_size l) e) (sheet_judged record_size r))
      go (inr n) = rw (ne_eqb (sheet_number l) 0 n) (by_left (sheet_judged record_size l) n)

  pair_one : (n : ℕ) → JudgedPair l r n → pair_number l r ≡ n
  unfolding pair_number
  pair_one n (by_left j f) = no _ _ (ne_eqb (sheet_number l) 0 (λ z. f (sym (judged_one record_size l j) ∙ z))) ∙ judged_one record_size l j
  pair_one n (by_right k j) = yes _ _ (eq-eqb (sheet_number l) 0 (judged_one record_size l (sheet k))) ∙ judged_one record_size r j

  -- what is told of the first line above a number is that line
  whole : (a : ℕ) (ls : List Line) → ((x : Line) → x ∈ ls → LineSays (line_id x) (record_bearing l (line_id x)) (record_bearing r (line_id x)) x)
      → line_told (difference_of (first_above a ls)) ≡ first_above a ls
  unfolding first_above
  whole a [] h = refl
  whole a (x ∷ ls) h = go (ltb a (line_id x)) (h x (Memᴰ.head refl)) (whole a ls (λ y m. h y (Memᴰ.tail m)))
    where
      of_line : {p q : Option (List ℕ)} {i : ℕ} {y : Line} → LineSays i p q y → line_told (difference_of (some y)) ≡ some y
      of_line (says_left p q) = refl
      of_line (says_right p q) = refl
      of_line {i = i} (says_changed {a} {b} p q d) = ap (λ (ns : List ℕ). some (Line.changed i ns)) (numbers_back a b)

      go : (b : Bool) → LineSays (line_id x) (record_bearing l (line_id x)) (record_bearing r (line_id x)) x → line_told (difference_of (first_above a ls)) ≡ first_above a ls
          → line_told (difference_of (pick b (some x) (first_above a ls))) ≡ pick b (some x) (first_above a ls)
      go true s ih = of_line s
      go false s ih = ih

pub what_changed : WhatChanged
what_changed = record {
  refused = pair_judged;
  one_number = pair_one;
  told_whole = λ l r a. whole l r a (lines_of l r) (λ x m. line_of_lem l r m);
  every_call = every_call;
  asked_next = λ l r a x e. (told_id x, above_id a (lines_of l r) x e);
  exact = λ l r s. lines_exact l r s.left s.right s.left_bytes s.right_bytes;
  no_line = λ l r s. no_line l r s.left s.right s.left_bytes s.right_bytes;
  rebuilt = λ l r s. rebuilt_right l r s.left s.right s.left_bytes s.right_bytes;
  own_record = own_record;
}
