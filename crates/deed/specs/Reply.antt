-- A Get's bytes in the lent reply: "writes its bytes, low first, to the front of the reply and changes nothing else".
--   laid x b         ==  the buffer b with x at its front; laid_long: b's length; laid_front: b, where x is b's own front;
--                        laid_set, laid_behind: one element, or some, more
--   low_first n x     ==  the n bytes of the number x, "low first"; low_first_long: so many they are; low_first_cut: the first of them
--   Written w b n a  ==  the bytes w were written to the front of the buffer b, which is a then, and n is how many they are
--   bytes_put x size at end room  ==  the bytes of the number x of two bytes that are put behind the first `at` of a buffer of room bytes: the
--                        first `size` of them, as many as there are up to `end`; none where the buffer ends before that
--   Put w at b n a   ==  the bytes w were put into the buffer b behind its first `at`, and n is where they end; put_written: so the front of
--                        b and they are written
use Rattle.std.specs.Prelude.{ℕ, zero, suc, min, ◌+◌, ◌-◌, ◌≤◌, ◌<◌, ◌%◌, ◌/◌, ◌≡◌, refl, List, [], ◌∷◌, ◌++◌, leb, length, take, drop, set}
use Rattle.std.proofs.Common.{sym, ap, ◌∙◌, le_of_suc-le-suc, arith, length-append, length-drop, length-take-le, drop-drop, le-leb}
use Rattle.std.proofs.Math.Nat.{zero-min, min-zero, suc-min-suc}
use Rattle.std.proofs.Math.Seq.{take-append_seam, drop-append-add}
use Rattle.ground.specs.Pick.{pick, yes}

abbrev pub laid : {A : Type 0} → List A → List A → List A
laid x b = x ++ drop (length x) b

pub laid_long : {A : Type 0} (x b : List A) → length x ≤ length b → length (laid x b) ≡ length b
laid_long x b h = let k = length-append x (drop (length x) b) in let n = length-drop (length x) b in omega arith

pub laid_front : {A : Type 0} (n : ℕ) (b : List A) → laid (take n b) b ≡ b
laid_front zero b = refl
laid_front (suc n) [] = refl
laid_front (suc n) (y ∷ b) = ap (λ l. y ∷ l) (laid_front n b)

pub laid_set : {A : Type 0} (x b : List A) (y : A) → length x < length b → set (laid x b) (length x) y ≡ laid (x ++ y ∷ []) b
laid_set [] [] y h = absurd (omega arith)
laid_set [] (a ∷ b) y h = refl
laid_set (z ∷ x) [] y h = absurd (omega arith)
laid_set (z ∷ x) (a ∷ b) y h = ap (λ l. z ∷ l) (laid_set x b y (le_of_suc-le-suc h))

pub laid_behind : {A : Type 0} (x w b : List A) → laid (take (length x) (laid x b) ++ w) (laid x b) ≡ laid (x ++ w) b
laid_behind x w b =
    rw (take-append_seam x (drop (length x) b), length-append x w, drop-append-add x (drop (length x) b) (length w), drop-drop (length w) (length x) b)

unfoldable pub low_first : ℕ → ℕ → List ℕ
low_first zero x = []
low_first (suc n) x = x % 256 ∷ low_first n (x / 256)

pub low_first_long : (n x : ℕ) → length (low_first n x) ≡ n
unfolding low_first
low_first_long zero x = refl
low_first_long (suc n) x = ap suc (low_first_long n _)

-- the first of a number's bytes are as many bytes of it
pub low_first_cut : (k n x : ℕ) → take k (low_first n x) ≡ low_first (min k n) x
unfolding low_first
low_first_cut zero n x = rw (zero-min n)
low_first_cut (suc k) zero x = rw (min-zero (suc k))
low_first_cut (suc k) (suc n) x = rw (suc-min-suc k n, low_first_cut k n (x / 256))

pub record Written (w b : List ℕ) (n : ℕ) (a : List ℕ) : Type 0 where
  pub number : n ≡ length w
  pub lent : a ≡ laid w b

unfoldable pub bytes_put : ℕ → ℕ → ℕ → ℕ → ℕ → List ℕ
bytes_put x size at end room = pick (leb end room) (take (end - at) (take size (low_first 2 x))) []

pub record Put (w : List ℕ) (at : ℕ) (b : List ℕ) (n : ℕ) (a : List ℕ) : Type 0 where
  pub number : n ≡ at + length w
  pub lent : a ≡ laid (take at b ++ w) b

pub put_written : (x size at end : ℕ) (b : List ℕ) → size ≤ 2 → at ≤ end → end ≤ length b → (n : ℕ) (a : List ℕ) → Put (bytes_put x size at end (length b)) at b n a
    → Written (take at b ++ take (end - at) (low_first size x)) b n a
unfolding bytes_put
put_written x size at end b few low room n a p =
    let m : min size 2 ≡ size = omega arith in
    let e : bytes_put x size at end (length b) ≡ take (end - at) (low_first size x) =
    yes _ _ (le-leb end (length b) room) ∙ ap (take (end - at)) (low_first_cut size 2 x ∙ ap (λ (k : ℕ). low_first k x) m)
    in
    let q : Put (take (end - at) (low_first size x)) at b n a = rw e at p in
    record {
      number = q.number ∙ sym (length-append (take at b) (take (end - at) (low_first size x)) ∙ ap (λ (k : ℕ). k + length (take (end - at) (low_first size x))) (length-take-le at b (omega arith)));
      lent = q.lent;
    }
