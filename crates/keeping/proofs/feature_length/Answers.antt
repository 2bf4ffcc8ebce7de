-- Sum and product of small numbers, which fit.
use borrow.Author.Rules.{rules}
use Prim.Native.Nat.{ℕ, ◌+◌, ◌*◌, ◌≤◌, ◌<◌}
use mathlib.Core.Path.{◌≡◌, refl}
use native.Mathlib.Nat.{mul-le-mul}
use native.Mathlib.Omega.{arith}
use mir.Val.{Fits}
use mir.Syntax.{w64}
use Rattle.edition.specs.Audio.{feature_length}
use Rattle.keeping.proofs.feature_length.Goals as goal

module _ (c n : ℕ) (h : c < 256) (k : n < 256) where
  small : (c + 1) * n ≤ 256 * 255
  small = let a : c + 1 ≤ 256 = omega arith in let b : n ≤ 255 = omega arith in mul-le-mul a b

  product_fits : Fits w64 ((c + 1) * n)
  product_fits = let s : (c + 1) * n ≤ 65280 = small in record { fits = omega arith }

  sum_fits : Fits w64 (7 + (c + 1) * n)
  sum_fits = let s : (c + 1) * n ≤ 65280 = small in record { fits = omega arith }

made : (c n : ℕ) → 7 + (c + 1) * n ≡ feature_length c n
unfolding feature_length
made c n = refl

ruleset laws = (product_fits, sum_fits, made, rules)

pub returns : goal.returns
returns c = search laws
