use Prim.Native.Nat.{ℕ, ◌-◌, ◌≤◌}
use mathlib.Core.Path.{◌≡◌}
use mathlib.Core.List.{List}
use lib.ListN.{length}
use Rattle.scan.specs.Search.{Passed}
use Rattle.opening.specs.Rules1and2.{most_bytes}
use Rattle.interfaces.specs.Reading.{wrong_interface}
use Rattle.interfaces.specs.Pairs.{Pairs}
use Rattle.interfaces.specs.Tops.{control_before, Tops}
use Rattle.interfaces.proofs.first_wrong_interface.Given as goal

pub record Going (s tops pairs : List ℕ) (count control at : ℕ) : Type 0 where
  pub few : length s ≤ most_bytes
  pub passed : Passed wrong_interface s 0 at
  pub topped : Tops s at tops
  pub paired : Pairs s at pairs count
  pub seen : control ≡ control_before s at

abbrev pub invariant-loop-at : goal.invariant-loop-at
invariant-loop-at l = Going l.config l.tops l.pairs l.count l.control l.at

abbrev pub decreases-loop-at : goal.decreases-loop-at
decreases-loop-at l = length l.config - l.at
