-- The lines of two sheets, by what stands where.
--   record_first, record_none  ==  the record of an ID, where it stands first; none, where it stands nowhere
--   line_own, line_few  ==  a line of an ID bears it, and an ID has at most one
--   passed          ==  lines whose IDs are not above a number are passed over
--   told_id         ==  what an answer tells as the ID of a line is that line's
--   above_id, told_above, told_higher  ==  the line told has an ID above the number asked for, and an answer that tells an ID tells one above it;
--                   so does each difference that is answered
--   none_above      ==  none is told exactly where no line's ID is above it
--   lines_none, lines_some  ==  the first line above a number: there is none where no ID above it has one; the line of an ID where no ID
--                           between them has one
use Prim.Native.Nat.{ℕ, zero, suc, ◌+◌, ◌≤◌, ◌<◌}
use Rattle.std.specs.Prelude.{◌≡◌, Bool, ◌⊎◌, ◌↔◌, ltb}
use Rattle.std.proofs.Math.Path.{refl, ap, subst}
use Rattle.std.proofs.Common.{sym, ◌∙◌, inl, inr, eq-or-lt_of_le}
use Rattle.std.proofs.Math.Bool.{true, false}
use Rattle.std.proofs.Math.Option.{Option, none, some}
use Rattle.std.proofs.Math.Logic.{⊎_elim}
use mathlib.Core.List.Memᴰ
use mathlib.Core.List.{List, [], ◌∷◌, ◌++◌, append-nil}
use native.Mathlib.Omega.{arith}
use borrow.Author.Tests.{eq-eqb, ne_eqb, lt-ltb, le-ltb}
use Rattle.ground.specs.Pick.{pick, yes, no, Reads, decided, reads_lt}
use Rattle.ground.specs.Places.{first_some, first_none}
use Rattle.graph.specs.Members.{◌∈◌}
use Rattle.graph.specs.Borne.{bears}
use Rattle.layout.specs.FieldsLaws.{none_some, some_one}
use Rattle.legal.specs.Sheet.{count_in, record_at, id_at}
use Rattle.differences.specs.InTurn.{in_turn, AtMostOne}
use Rattle.std.specs.declared.option.Option.TheVariants.{Some}
use Rattle.differences.specs.declared.Difference.{Difference}
use Rattle.differences.specs.InTurn.AtMostOne.{nothing, one}
use Rattle.differences.specs.Lines.{Line, line_id, last_id, record_bearing, differing, changed_line, line_of, line_at, lines_of, first_above, difference_of, id_told}
use Rattle.differences.specs.Lines.Line.{left_only, right_only, changed}

module _ (s : List ℕ) (i : ℕ) where
  pub record_first : (k : ℕ) → k < count_in s → id_at s k ≡ i → ((j : ℕ) → j < k → id_at s j ≡ i → ⊥) → record_bearing s i ≡ some (record_at s k)
  unfolding record_bearing
  record_first k l e f =
      first_some (bears (id_at s) i) (λ j. some (record_at s j)) none (count_in s) k
      (record { inside = l; passes = eq-eqb (id_at s k) i e; none_before = λ j h. ne_eqb (id_at s j) i (f j h) })

  pub record_none : ((j : ℕ) → j < count_in s → id_at s j ≡ i → ⊥) → record_bearing s i ≡ none
  unfolding record_bearing
  record_none f = first_none (bears (id_at s) i) (λ j. some (record_at s j)) none (count_in s) (λ j h. ne_eqb (id_at s j) i (f j h))

only : {x y : Line} → x ∈ (y ∷ []) → x ≡ y
only m = ⊎_elim (λ e. e) (λ t. absurd (Memᴰ.not-nil t)) (Memᴰ.cases_cons m)

module _ (l r : List ℕ) (i : ℕ) where
  pub line_own : (x : Line) → x ∈ line_at l r i → line_id x ≡ i
  unfolding line_at
  line_own x m = go (record_bearing l i) (record_bearing r i) m
    where
      both : (ns : List ℕ) → x ∈ changed_line i ns → line_id x ≡ i
      both [] m = absurd (Memᴰ.not-nil m)
      both (n ∷ ns) m = ap line_id (only m)

      go : (a b : Option (List ℕ)) → x ∈ line_of i a b → line_id x ≡ i
      go none none m = absurd (Memᴰ.not-nil m)
      go (some a) none m = ap line_id (only m)
      go none (some b) m = ap line_id (only m)
      go (some a) (some b) m = both (differing a b) m

  pub line_few : AtMostOne (line_at l r i)
  unfolding line_at
  line_few = go (record_bearing l i) (record_bearing r i)
    where
      both : (ns : List ℕ) → AtMostOne (changed_line i ns)
      both [] = nothing
      both (n ∷ ns) = one

      go : (a b : Option (List ℕ)) → AtMostOne (line_of i a b)
      go none none = nothing
      go (some a) none = one
      go none (some b) = one
      go (some a) (some b) = both (differing a b)

pub told_id : (x : Line) → id_told (difference_of (some x)) ≡ line_id x
told_id (left_only i) = refl
told_id (right_only i) = refl
told_id (changed i ns) = refl

module _ (a : ℕ) where
  pub passed : (ls rest : List Line) → ((x : Line) → x ∈ ls → line_id x ≤ a) → first_above a (ls ++ rest) ≡ first_above a rest
  unfolding first_above
  passed [] rest h = refl
  passed (x ∷ ls) rest h = no _ _ (le-ltb a (line_id x) (h x (Memᴰ.head refl))) ∙ passed ls rest (λ y m. h y (Memᴰ.tail m))

  pub above_id : (ls : List Line) (x : Line) → first_above a ls ≡ some x → a < line_id x
  unfolding first_above
  above_id [] x e = absurd (none_some e)
  above_id (y ∷ ls) x e = go (ltb a (line_id y)) (reads_lt a (line_id y)) (above_id ls x) e
    where
      go : (b : Bool) → Reads b (a < line_id y) → (first_above a ls ≡ some x → a < line_id x) → pick b (some y) (first_above a ls) ≡ some x → a < line_id x
      go true r ih q = subst (λ (z : Line). a < line_id z) (some_one q) (r.says refl)
      go false r ih q = ih q

  pub none_above : (ls : List Line) → (first_above a ls ≡ none) ↔ ((x : Line) → x ∈ ls → line_id x ≤ a)
  unfolding first_above
  none_above ls = (to ls, λ h. ap (first_above a) (sym (append-nil ls)) ∙ passed ls [] h)
    where
      to : (ks : List Line) → first_above a ks ≡ none → (x : Line) → x ∈ ks → line_id x ≤ a
      to [] e x m = absurd (Memᴰ.not-nil m)
      to (y ∷ ks) e x m = go (ltb a (line_id y)) (reads_lt a (line_id y)) (to ks) e (Memᴰ.cases_cons m)
        where
          go : (b : Bool) → Reads b (a < line_id y) → (first_above a ks ≡ none → (z : Line) → z ∈ ks → line_id z ≤ a) → pick b (some y) (first_above a ks) ≡ none → (x ≡ y) ⊎ x ∈ ks → line_id x ≤ a
          go true r ih q k = absurd (none_some (sym q))
          go false r ih q (inl z) = let n = r.denies refl in let i : line_id x ≡ line_id y = ap line_id z in omega arith
          go false r ih q (inr k) = ih q x k

  pub told_above : (ls : List Line) → (id_told (difference_of (first_above a ls)) ≡ 0 → ⊥) → a < id_told (difference_of (first_above a ls))
  told_above ls n = go (first_above a ls) (above_id ls) n
    where
      go : (o : Option Line) → ((x : Line) → o ≡ some x → a < line_id x) → (id_told (difference_of o) ≡ 0 → ⊥) → a < id_told (difference_of o)
      go none h n = absurd (n refl)
      go (some x) h n = rw (told_id x) (h x refl)

  pub told_higher : (ls : List Line) (x : Difference) → Some x ≡ difference_of (first_above a ls) → a < id_told (Some x)
  told_higher ls x = go (first_above a ls) (above_id ls)
    where
      go : (o : Option Line) → ((y : Line) → o ≡ some y → a < line_id y) → Some x ≡ difference_of o → a < id_told (Some x)
      go none h e = let z : ◌≡◌ {A = ℕ} 0 1 = cc in absurd (omega arith)
      go (some y) h e = let q : id_told (Some x) ≡ line_id y = ap id_told e ∙ told_id y in let m = h y refl in omega arith

  module _ (t : ℕ → List Line) (own : (i : ℕ) (x : Line) → x ∈ t i → line_id x ≡ i) where
    -- what an ID that is not above the number has is passed over
    low : (i : ℕ) (rest : List Line) → i ≤ a → first_above a (t i ++ rest) ≡ first_above a rest
    low i rest h = passed (t i) rest (λ x m. let e = own i x m in omega arith)

    empty : (i : ℕ) (rest : List Line) → t i ≡ [] → first_above a (t i ++ rest) ≡ first_above a rest
    empty i rest e = ap (λ (ls : List Line). first_above a (ls ++ rest)) e

    on : (i : ℕ) (rest : List Line) → (a < i → t i ≡ []) → first_above a (t i ++ rest) ≡ first_above a rest
    on i rest h = ⊎_elim (λ (l : a < i). empty i rest (h l)) (λ (n : a < i → ⊥). low i rest (omega arith)) (decided (ltb a i) (reads_lt a i))

    turns_none : (i k : ℕ) → ((j : ℕ) → i ≤ j → j < i + k → a < j → t j ≡ []) → first_above a (in_turn t i k) ≡ none
    unfolding in_turn first_above
    turns_none i zero h = refl
    turns_none i (suc k) h = on i (in_turn t (suc i) k) (h i (omega arith) (omega arith)) ∙ turns_none (suc i) k (λ j l m. h j (omega arith) (omega arith))

    turns_some : (i k m : ℕ) (x : Line) → i ≤ m → m < i + k → a < m → t m ≡ x ∷ [] → ((j : ℕ) → a < j → j < m → t j ≡ [])
        → first_above a (in_turn t i k) ≡ some x
    unfolding in_turn first_above
    turns_some i zero m x l h g e none_before = absurd (omega arith)
    turns_some i (suc k) m x l h g e none_before =
        ⊎_elim
        here
        (λ (q : i < m). on i (in_turn t (suc i) k) (λ p. none_before i p q) ∙ turns_some (suc i) k m x q (omega arith) g e none_before)
        (eq-or-lt_of_le l)
      where
        here : i ≡ m → first_above a (in_turn t i (suc k)) ≡ some x
        here q =
            let n : line_id x ≡ m = own m x (rw e (Memᴰ.head refl)) in
            ap (λ (ls : List Line). first_above a (ls ++ in_turn t (suc i) k)) (ap t q ∙ e) ∙ yes _ _ (lt-ltb a (line_id x) (omega arith))

module _ (l r : List ℕ) (a : ℕ) where
  pub lines_none : ((j : ℕ) → a < j → j ≤ last_id → line_at l r j ≡ []) → first_above a (lines_of l r) ≡ none
  unfolding lines_of
  lines_none h = turns_none a (line_at l r) (line_own l r) 1 last_id (λ j p q g. h j g (omega arith))

  pub lines_some : (m : ℕ) (x : Line) → a < m → m ≤ last_id → line_at l r m ≡ x ∷ [] → ((j : ℕ) → a < j → j < m → line_at l r j ≡ [])
      → first_above a (lines_of l r) ≡ some x
  unfolding lines_of
  lines_some m x g h e none_before = turns_some a (line_at l r) (line_own l r) 1 last_id m x (omega arith) (omega arith) g e none_before
