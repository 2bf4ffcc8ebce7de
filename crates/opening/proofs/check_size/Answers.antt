-- By its three ways out: too short, too long, or neither.
use borrow.Author.Rules.{rules}
use Prim.Native.Nat.{ℕ, ◌≤◌, ◌<◌}
use mathlib.Core.Path.{◌≡◌}
use mathlib.Core.List.{List}
use lib.ListN.{length}
use borrow.Author.Tests.{le-leb, lt-leb}
use Rattle.std.specs.Prelude.{Some, None}
use Rattle.opening.specs.Reading.{breach1}
use Rattle.opening.proofs.check_size.Goals as goal

module _ (s : List ℕ) where
  short : length s < 9 → Some 0 ≡ breach1 s
  unfolding breach1
  short h = simp (lt-leb 9 (length s) h)

  long : 9 ≤ length s → 4096 < length s → Some 0 ≡ breach1 s
  unfolding breach1
  long h k = simp (le-leb 9 (length s) h, lt-leb (length s) 4096 k)

  right : 9 ≤ length s → length s ≤ 4096 → None ≡ breach1 s
  unfolding breach1
  right h k = simp (le-leb 9 (length s) h, le-leb (length s) 4096 k)

ruleset laws = (short, long, right, rules)

pub returns-then-config-lt9 : goal.returns-then-config-lt9
returns-then-config-lt9 c = search laws

pub returns-then-config-gt-MOST_BYTES : goal.returns-then-config-gt-MOST_BYTES
returns-then-config-gt-MOST_BYTES c = search laws

pub returns : goal.returns
returns c = search laws
