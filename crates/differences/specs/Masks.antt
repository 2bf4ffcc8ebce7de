-- A mask, and the bits of a test along the numbers.
--   bits_of t i k   ==  the number whose lowest bit is t at i, the next t at i + 1, and so on for k bits
--   bits_below       ==  k bits are below 2 ^ k
--   mask_bits        ==  the mask of the numbers from i on that pass t has their bits, from bit i on
--   mask_zero        ==  a mask is 0 exactly where no bit is set
--   numbers_back     ==  the numbers that a mask of bytes was made of are those whose bits are set in it
use Rattle.std.specs.Prelude.{ℕ, zero, suc, ◌+◌, ◌*◌, ◌/◌, ◌%◌, ◌^◌, ◌<◌, ◌≡◌, refl, Bool, true, false, ◌↔◌, List, [], ◌∷◌, ◌++◌, eqb}
use Rattle.std.proofs.Common.{sym, ap, ◌∙◌, arith, add-zero, zero-add}
use Rattle.std.proofs.Math.Nat.{one-le-pow, pow-succ', div-div-eq-div-mul}
use Rattle.ground.specs.Pick.{pick}
use Rattle.records.specs.Records.{record_size}
use Rattle.differences.specs.InTurn.{in_turn, turn_same}
use Rattle.differences.specs.Lines.{differs, differing, bits_set, has_bit, numbers_of}

unfoldable pub bits_of : (ℕ → Bool) → ℕ → ℕ → ℕ
bits_of t i zero = 0
bits_of t i (suc k) = bits_of t (suc i) k * 2 + pick (t i) 1 0

pub bits_below : (t : ℕ → Bool) (i k : ℕ) → bits_of t i k < 2 ^ k
unfolding bits_of
bits_below t i zero = omega arith
bits_below t i (suc k) = go (t i) (bits_below t (suc i) k)
  where
    go : (b : Bool) → bits_of t (suc i) k < 2 ^ k → bits_of t (suc i) k * 2 + pick b 1 0 < 2 ^ suc k
    go true h = omega arith
    go false h = omega arith

pub mask_bits : (t : ℕ → Bool) (i k : ℕ) → bits_set (in_turn (λ n. pick (t n) (n ∷ []) []) i k) ≡ 2 ^ i * bits_of t i k
unfolding bits_of in_turn bits_set
mask_bits t i zero = omega arith
mask_bits t i (suc k) = go (t i) (mask_bits t (suc i) k)
  where
    go : (b : Bool) → bits_set (in_turn (λ n. pick (t n) (n ∷ []) []) (suc i) k) ≡ 2 ^ suc i * bits_of t (suc i) k
        → bits_set (pick b (i ∷ []) [] ++ in_turn (λ n. pick (t n) (n ∷ []) []) (suc i) k) ≡ 2 ^ i * (bits_of t (suc i) k * 2 + pick b 1 0)
    go true h = let e = rw (pow-succ' 2 i) at h in omega arith
    go false h = rw (pow-succ' 2 i) at h ∙ (let q : 2 * 2 ^ i * bits_of t (suc i) k ≡ 2 ^ i * (bits_of t (suc i) k * 2 + 0) = omega arith in q)

pub mask_zero : (ns : List ℕ) → (bits_set ns ≡ 0) ↔ (ns ≡ [])
unfolding bits_set
mask_zero [] = (λ e. refl, λ e. refl)
mask_zero (n ∷ ns) = (λ e. let h = one-le-pow n 2 (omega arith) in absurd (omega arith), λ e. ap bits_set e)

-- bit n of the bits of t from i on is t at i + n
bit_at : (t : ℕ → Bool) (k i n : ℕ) → n < k → has_bit (bits_of t i k) n ≡ t (i + n)
unfolding bits_of
bit_at t zero i n h = absurd (omega arith)
bit_at t (suc k) i zero h = go (t i) refl
  where
    go : (b : Bool) → t i ≡ b → eqb ((bits_of t (suc i) k * 2 + pick b 1 0) / 2 ^ 0 % 2) 1 ≡ t (i + 0)
    go true e = let odd : (bits_of t (suc i) k * 2 + 1) / 2 ^ 0 % 2 ≡ 1 = omega arith in ap (λ (m : ℕ). eqb m 1) odd ∙ sym (ap t (add-zero i) ∙ e)
    go false e = let even : (bits_of t (suc i) k * 2 + 0) / 2 ^ 0 % 2 ≡ 0 = omega arith in ap (λ (m : ℕ). eqb m 1) even ∙ sym (ap t (add-zero i) ∙ e)
bit_at t (suc k) i (suc n) h =
    let half : (bits_of t (suc i) k * 2 + pick (t i) 1 0) / 2 ≡ bits_of t (suc i) k = go (t i) in
    let q : suc i + n ≡ i + suc n = omega arith in
    ap (λ (m : ℕ). eqb (m % 2) 1) (ap (λ (d : ℕ). (bits_of t (suc i) k * 2 + pick (t i) 1 0) / d) (pow-succ' 2 n) ∙ sym (div-div-eq-div-mul _ 2 (2 ^ n)) ∙ ap (λ (m : ℕ). m / 2 ^ n) half)
    ∙ bit_at t k (suc i) n (omega arith) ∙ ap t q
  where
    go : (b : Bool) → (bits_of t (suc i) k * 2 + pick b 1 0) / 2 ≡ bits_of t (suc i) k
    go true = omega arith
    go false = omega arith

pub numbers_back : (a b : List ℕ) → numbers_of (bits_set (differing a b)) ≡ differing a b
unfolding numbers_of differing
numbers_back a b =
    let e : bits_set (differing a b) ≡ bits_of (differs a b) 0 record_size = mask_bits (differs a b) 0 record_size ∙ (let q : 2 ^ 0 * bits_of (differs a b) 0 record_size ≡ bits_of (differs a b) 0 record_size = omega arith in q) in
    rw e (turn_same _ _ 0 record_size (λ n l h. ap (λ (c : Bool). pick c (n ∷ []) []) (bit_at (differs a b) record_size 0 n h ∙ ap (differs a b) (zero-add n))))
