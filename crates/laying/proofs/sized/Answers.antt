-- A stretch longer than 255 is enough to pass it.
use borrow.Author.Rules.{rules}
use Prim.Native.Nat.{ℕ, ◌+◌, ◌<◌}
use mathlib.Core.Path.{◌≡◌}
use native.Mathlib.Omega.{arith}
use Rattle.std.specs.declared.option.Option.TheVariants.{None}
use Rattle.laying.specs.Laying.{short_of}
use Rattle.laying.specs.LayingLaws.{short_some, short_none}
use Rattle.laying.proofs.sized.Goals as goal

first_long : (a b c : ℕ) → 255 < b → None ≡ short_of (a + b + c)
first_long a b c h = short_none (a + b + c) (omega arith)

second_long : (a b c : ℕ) → 255 < c → None ≡ short_of (a + b + c)
second_long a b c h = short_none (a + b + c) (omega arith)

ruleset laws = (first_long, second_long, short_some, short_none, rules)

pub returns-then-first-gt-MOST_LONG : goal.returns-then-first-gt-MOST_LONG
returns-then-first-gt-MOST_LONG c = search laws

pub returns-then-second-gt-MOST_LONG : goal.returns-then-second-gt-MOST_LONG
returns-then-second-gt-MOST_LONG c = search laws

pub returns-then-n-gt-MOST_LONG : goal.returns-then-n-gt-MOST_LONG
returns-then-n-gt-MOST_LONG c = search laws

pub returns : goal.returns
returns c = search laws
