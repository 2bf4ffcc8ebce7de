-- The bytes that have a place stand in front; the places behind them are spare.
use Prim.Native.Nat.{ℕ, zero, suc, ◌-◌}
use mathlib.Core.Path.{◌≡◌, refl, ap, ◌∙◌}
use mathlib.Core.List.{List, [], ◌∷◌, ◌++◌}
use native.Mathlib.Omega.{arith}
use lib.ListN.{length, take, drop, replicate, length-take}
use borrow.Author.Rules.{rules}
use borrow.Rule.Slice.PartMut.{put_mid}
use Rattle.std.specs.Prelude.{min}
use Rattle.std.proofs.Math.Nat.{zero-sub, suc-sub-suc}
use Rattle.ground.specs.Lists.{pad, pad_blank, take_least}
use Rattle.records.proofs.TwoParts.{two_parts}
use Rattle.records.proofs.fill.Goals as goal

in_parts : (n : ℕ) (b : List ℕ) → take n b ++ replicate (n - length b) 0 ≡ pad 0 n b
unfolding pad
in_parts zero b = rw (zero-sub (length b)) refl
in_parts (suc n) [] = let z : suc n - 0 ≡ suc n = omega arith in rw z (pad_blank 0 (suc n))
in_parts (suc n) (x ∷ b) = rw (suc-sub-suc n (length b)) (ap (λ (l : List ℕ). x ∷ l) (in_parts n b))

filled : (d b x y : List ℕ) (m : ℕ) → m ≡ min (length d) (length b) → x ≡ take m b → y ≡ replicate (length d - m) 0
    → put_mid m (length (x ++ drop m d) - m) (x ++ drop m d) y ≡ pad 0 (length d) b
filled d b x y m e f g =
    let l = length-take m b in
    let k : length x ≡ m = ap length f ∙ omega arith in
    let r : length d - m ≡ length d - length b = omega arith in
    rw (two_parts d x m (omega arith) k y, g, r, f, e, take_least (length d) b) (in_parts (length d) b)

pub returns : goal.returns
returns c = search (filled, rules)
