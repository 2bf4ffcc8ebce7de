-- Laws of the search along the pins, whatever the width of the numbers: what is left to look at decides as the whole does.
--   read_at  ==  what stands at an index within a table, as the numbers of specs/ have it
--   at_id    ==  what stands at the index that a byte is
--   Passed ids numbers k   ==  what is left from the k-th ID on decides as the whole does
--   same_none, same_first  ==  of no IDs all numbers are one; of x, then xs, they are where each of xs has the number of x
--   passed_start, passed_over, passed_other, passed_more  ==  its start, behind pin 1; its two ends; its step
use Rattle.std.specs.Prelude.{ℕ, ◌+◌, ◌≤◌, ◌<◌, ◌≡◌, Bool, true, false, ◌&&◌, drop}
use Rattle.std.proofs.Math.Path.{refl, sym, ap}
use Rattle.std.specs.List.{list_all}
use Rattle.std.proofs.lemmas.List.{get_or_default}
use Rattle.std.proofs.Common.{◌∙◌, arith, add-one, drop_of_length-le, drop-cons, eq-eqb, ne_eqb}
use mathlib.Core.List.{List, [], ◌∷◌}
use Rattle.std.proofs.Math.Dec.{eqb}
use Rattle.std.proofs.Math.ListN.{length, get_or}
use Rattle.graph.specs.Members.{all}
use Rattle.pins.specs.Same.{numbers_at, one_number, all_same}

pub read_at : (xs : List ℕ) (i x : ℕ) → i < length xs → x ≡ get_or xs i x → x ≡ get_or xs i 0
read_at xs i x h e = e ∙ get_or_default xs i x 0 h

pub at_id : (numbers : List ℕ) (id x : ℕ) → (x ≡ id) × (x < 256) → get_or numbers x 0 ≡ get_or numbers id 0
at_id numbers id x e = ap (λ (y : ℕ). get_or numbers y 0) e.0

module _ (ids numbers : List ℕ) where
  abbrev of : List ℕ → List ℕ
  of l = numbers_at numbers l

  abbrev first : ℕ
  first = get_or (of ids) 0 0

  abbrev as_first : List ℕ → Bool
  as_first l = all (λ n. eqb n first) (of l)

  pub record Passed (k : ℕ) : Type 0 where
    pub left : all_same (of ids) ≡ as_first (drop k ids)

  pub passed_start : Passed 1
  unfolding numbers_at all_same all
  passed_start = record { left = behind ids }
    where
      behind : (l : List ℕ) → all_same (of l) ≡ all (λ n. eqb n (get_or (of l) 0 0)) (of (drop 1 l))
      behind [] = refl
      behind (x ∷ l) = ap (λ (b : Bool). b && all (λ n. eqb n (get_or numbers x 0)) (of l)) (eq-eqb (get_or numbers x 0) (get_or numbers x 0) refl)

  module _ (k : ℕ) (g : Passed k) where
    pub passed_over : length ids ≤ k → true ≡ all_same (of ids)
    unfolding numbers_at all
    passed_over h = sym (g.left ∙ ap as_first (drop_of_length-le ids h))

    module _ (h : k < length ids) (a : ℕ) (p : a ≡ get_or numbers (get_or ids k 0) 0) (b : ℕ) (q : b ≡ get_or numbers (get_or ids 0 0) 0) where
      first_is : b ≡ first
      unfolding numbers_at
      first_is = q ∙ go ids h
        where
          go : (l : List ℕ) → k < length l → get_or numbers (get_or l 0 0) 0 ≡ get_or (of l) 0 0
          go [] i = absurd (omega arith)
          go (z ∷ l) i = refl

      turn : all_same (of ids) ≡ eqb a b && as_first (drop (k + 1) ids)
      unfolding numbers_at all
      turn = g.left ∙ ap as_first (drop-cons ids k 0 h) ∙ rw (add-one, first_is, p) refl

      pub passed_other : (a ≡ b → ⊥) → false ≡ all_same (of ids)
      passed_other f = sym (turn ∙ ap (λ (z : Bool). z && as_first (drop (k + 1) ids)) (ne_eqb _ _ f))

      pub passed_more : a ≡ b → Passed (k + 1)
      passed_more e = record { left = turn ∙ ap (λ (z : Bool). z && as_first (drop (k + 1) ids)) (eq-eqb _ _ e) }

module _ (numbers : List ℕ) where
  pub same_none : (ids : List ℕ) → length ids ≡ 0 → true ≡ all_same (numbers_at numbers ids)
  unfolding numbers_at all_same all
  same_none [] h = refl
  same_none (x ∷ xs) h = absurd (omega arith)

  as_all : (n : ℕ) (xs : List ℕ) → list_all (λ y. eqb (get_or numbers y 0) n) xs ≡ all (λ m. eqb m n) (numbers_at numbers xs)
  unfolding numbers_at all
  as_all n [] = refl
  as_all n (y ∷ xs) = ap (λ (b : Bool). eqb (get_or numbers y 0) n && b) (as_all n xs)

  pub same_first : (ids : List ℕ) (x : ℕ) (xs : List ℕ) → ids ≡ x ∷ xs → (r : Bool)
      → r ≡ list_all (λ y. one_number numbers y x) xs → r ≡ all_same (numbers_at numbers ids)
  unfolding numbers_at all_same all
  same_first ids x xs e r h =
      h ∙ as_all (get_or numbers x 0) xs
      ∙ sym (rw e (ap (λ (b : Bool). b && all (λ m. eqb m (get_or numbers x 0)) (numbers_at numbers xs)) (eq-eqb (get_or numbers x 0) (get_or numbers x 0) refl)))
