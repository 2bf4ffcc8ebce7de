-- A slice that is written in two parts, the first m elements and then those from the m-th on, holds the one behind the other.
--   two_parts  ==  so it is: x was written to the first m elements of d, y to the others
use Prim.Native.Nat.{ℕ, ◌-◌, ◌≤◌}
use mathlib.Core.Path.{◌≡◌, refl, ◌∙◌}
use mathlib.Core.List.{List, [], ◌++◌, append-nil}
use native.Mathlib.Omega.{arith}
use lib.ListN.{length, drop, length-append, length-drop}
use lib.Seq.{take_at}
use borrow.Rule.Slice.PartMut.{put_mid}
use Rattle.std.proofs.lemmas.List.{drop_all}

module _ (d x : List ℕ) (m : ℕ) (h : m ≤ length d) (k : length x ≡ m) where
  long : length (x ++ drop m d) ≡ length d
  long = let l = length-drop m d in length-append x (drop m d) ∙ omega arith

  none_behind : drop (length (x ++ drop m d) - m) (drop m (x ++ drop m d)) ≡ []
  none_behind =
      let l = long in
      let r = length-drop m (x ++ drop m d) in
      drop_all (length (x ++ drop m d) - m) (drop m (x ++ drop m d)) (omega arith)

  pub two_parts : (y : List ℕ) → put_mid m (length (x ++ drop m d) - m) (x ++ drop m d) y ≡ x ++ y
  two_parts y = rw (take_at x (drop m d) m k, none_behind, append-nil y) refl
