-- The two descriptors are the one that stands at the place and the one at its end.
use borrow.Author.Rules.{rules}
use Prim.Native.Nat.{ℕ}
use mathlib.Core.Path.{◌≡◌, refl}
use mathlib.Core.Bool.{Bool}
use mathlib.Core.List.{List}
use Rattle.ground.specs.Lists.{part}
use Rattle.scan.specs.Cutting.{end_at}
use Rattle.std.specs.Prelude.{Option}
use Rattle.terminals.specs.declared.Bearer.{Bearer}
use Rattle.streaming.specs.Tests.{described_by, described_at}
use Rattle.streaming.proofs.described_at.Goals as goal

both : (find : ℕ → Option Bearer) (s g f : List ℕ) (from a : ℕ) (r : Bool) → a ≡ end_at s from → g ≡ part s from (end_at s from) → f ≡ part s a (end_at s a) → r ≡ described_by find g f → r ≡ described_at find s from
unfolding described_at
both find s g f from a r p h k m = rw (m, h, k, p) refl

ruleset laws = (both, rules)

pub returns : goal.returns
returns c = search laws
