-- Laws for the programs, which lend the front of an array to be filled: the lent part is as long as was asked, and the array that comes
-- back is as long as it was. No definition stands here.
--   front         ==  the first n bytes of a list that has as many are n
--   long_enough   ==  n bytes of an array of k, n at most k, are there
--   same_count    ==  an array whose front was lent and came back has as many bytes as it had
--   front_inside  ==  and the front fits in it again
--   front_again   ==  and the front is as long as it was
use Rattle.std.specs.Prelude.{ℕ, ◌+◌, ◌-◌, ◌≤◌, ◌≡◌, List, ◌++◌, length, take, drop}
use Rattle.std.proofs.Common.{sym, arith, length-append, length-drop, length-take-le}

pub front : (n : ℕ) (l : List ℕ) → n ≤ length l → n ≡ length (take n l)
front n l h = sym (length-take-le n l h)

module _ (n k : ℕ) (l m : List ℕ) (e : length l ≡ k) (h : n ≤ k) (f : length m ≡ length (take n l)) where
  whole : length (m ++ drop n l) ≡ k
  whole =
      let a : length (m ++ drop n l) ≡ length m + length (drop n l) = length-append m (drop n l) in
      let b : length (drop n l) ≡ length l - n = length-drop n l in
      let c : length (take n l) ≡ n = length-take-le n l (omega arith) in
      omega arith

  pub same_count : k ≡ length (m ++ drop n l)
  same_count = sym whole

  pub front_inside : n ≤ length (m ++ drop n l)
  front_inside = let w = whole in omega arith

  pub front_again : n ≡ length (take n (m ++ drop n l))
  front_again = sym (length-take-le n (m ++ drop n l) front_inside)

pub long_enough : (n k : ℕ) (l : List ℕ) → length l ≡ k → n ≤ k → n ≤ length l
long_enough n k l e h = omega arith
