-- The lowest ID above a number among the first of any IDs, and where it stands first.
--   no_id                       ==  a number above every ID: 256
--   LowestAbove ids a n x k    ==  x is the lowest of the first n IDs that is above a, and k the first index at which it stands; x is no_id where
--                                  there is none
--   Lower a y j x k x' k'      ==  of the lowest so far, x at index k, and the ID y at index j, the one that is the lowest above a is x' at k'
--   Standing l i r j           ==  l has an i-th record, and r a j-th
--   lowest_none, lowest_more   ==  among none; one ID more
use Rattle.std.specs.Prelude.{ℕ, ◌+◌, ◌≤◌, ◌<◌, ◌≡◌, refl, List}
use Rattle.std.proofs.Common.{⊎_elim, arith, eq-or-lt_of_le}
use Rattle.legal.specs.Sheet.{count_in}

abbrev pub no_id : ℕ
no_id = 256

pub record LowestAbove (ids : ℕ → ℕ) (a n x k : ℕ) : Type 0 where
  pub low : x ≤ no_id
  pub none_lower : (j : ℕ) → j < n → a < ids j → x ≤ ids j
  pub above : x < no_id → a < x
  pub inside : x < no_id → k < n
  pub stands : x < no_id → ids k ≡ x
  pub first : x < no_id → (j : ℕ) → j < k → ids j ≡ x → ⊥

pub data Lower (a y j x k x' k' : ℕ) : Type 0 where
  same : (a < y → x ≤ y) → x' ≡ x → k' ≡ k → Lower a y j x k x' k'
  fresh : a < y → y < x → x' ≡ y → k' ≡ j → Lower a y j x k x' k'

pub record Standing (l : List ℕ) (i : ℕ) (r : List ℕ) (j : ℕ) : Type 0 where
  pub on_left : i < count_in l
  pub on_right : j < count_in r

module _ (ids : ℕ → ℕ) (a : ℕ) where
  pub lowest_none : LowestAbove ids a 0 no_id 0
  lowest_none = record {
    low = omega arith;
    none_lower = λ j l. absurd (omega arith);
    above = λ l. absurd (omega arith);
    inside = λ l. absurd (omega arith);
    stands = λ l. absurd (omega arith);
    first = λ l. absurd (omega arith);
  }

  module _ {i x k : ℕ} (g : LowestAbove ids a i x k) where
    kept : (a < ids i → x ≤ ids i) → LowestAbove ids a (i + 1) x k
    kept h = record {
      low = g.low;
      none_lower = λ j l m. ⊎_elim (λ (e : j ≡ i). rw e (h (rw e at m))) (λ (s : j < i). g.none_lower j s m) (eq-or-lt_of_le (let q : j ≤ i = omega arith in q));
      above = g.above;
      inside = λ l. let m = g.inside l in omega arith;
      stands = g.stands;
      first = g.first;
    }

    taken : a < ids i → ids i < x → LowestAbove ids a (i + 1) (ids i) i
    taken h l = record {
      low = let m = g.low in omega arith;
      none_lower = λ j p m. ⊎_elim (λ (e : j ≡ i). rw e (let q : ids i ≤ ids i = omega arith in q)) (λ (s : j < i). let q = g.none_lower j s m in omega arith) (eq-or-lt_of_le (let q : j ≤ i = omega arith in q));
      above = λ p. h;
      inside = λ p. omega arith;
      stands = λ p. refl;
      first = λ p j s e. let q = g.none_lower j s (let z : a < ids j = omega arith in z) in omega arith;
    }

    pub lowest_more : {x' k' : ℕ} → Lower a (ids i) i x k x' k' → LowestAbove ids a (i + 1) x' k'
    lowest_more (same h e f) = rw (e, f) (kept h)
    lowest_more (fresh h l e f) = rw (e, f) (taken h l)
