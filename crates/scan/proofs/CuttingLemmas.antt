-- Laws of what stands beside it in specs.
--   cutting_exists   ==  .. the scan answers nowhere exactly where there is one
--   cutting_misfit   ==  .. and a place exactly where that is the first at which no descriptor stands
use Rattle.std.specs.Prelude.{ℕ, ◌+◌, ◌≤◌, ◌<◌, ◌≡◌, refl, Bool, true, false, ◌↔◌, length, drop, ltb, Some, None}
use mathlib.Core.List.{List, [], ◌∷◌, ◌++◌, flatten, Memᴰ}
use Rattle.std.proofs.Math.ListN.{get_or-eq_default}
use Rattle.std.proofs.Common.{arith, ltb-true, ltb-false}
use Rattle.ground.specs.Numbers.{byte}
use Rattle.ground.specs.Lists.{part, total}
use Rattle.scan.specs.Cutting.{one_byte, Descriptor, Cutting, Rule3, end_at, rest, breach3, Misfit}
use Rattle.scan.specs.PieceLaws as pieces
use Rattle.scan.proofs.PieceLemmas as pieces_laws

module _ (s : List ℕ) where
  pub cutting_exists : (breach3 s ≡ None) ↔ Rule3 s
  cutting_exists = pieces_laws.cut_exists one_byte s

  pub cutting_misfit : (p : ℕ) → (breach3 s ≡ Some p) ↔ Misfit s p
  cutting_misfit = pieces_laws.cut_misfit one_byte s
