-- At most 128, or more.
use borrow.Author.Rules.{rules}
use Prim.Native.Nat.{ℕ, ◌≤◌, ◌<◌}
use mathlib.Core.Path.{◌≡◌, sym}
use borrow.Author.Tests.{le-leb, lt-leb}
use Rattle.std.specs.Prelude.{Some, None}
use Rattle.ground.specs.Pick.{yes, no}
use Rattle.controls.specs.Controls.{breach15}
use Rattle.controls.proofs.check_count.Goals as goal

few : (k p : ℕ) → k ≤ 128 → None ≡ breach15 k p
unfolding breach15
few k p h = sym (yes _ _ (le-leb k 128 h))

many : (k p : ℕ) → 128 < k → Some p ≡ breach15 k p
unfolding breach15
many k p h = sym (no _ _ (lt-leb k 128 h))

ruleset laws = (few, many, rules)

pub returns-then-table-le-CONTROLS : goal.returns-then-table-le-CONTROLS
returns-then-table-le-CONTROLS c = search laws

pub returns : goal.returns
returns c = search laws
