-- The places are the callees' answers.
use borrow.Author.Rules.{rules}
use Prim.Native.Nat.{ℕ, ◌+◌}
use mathlib.Core.Path.{◌≡◌, refl}
use mathlib.Core.List.{List}
use lib.ListN.{length}
use Rattle.ground.specs.Refuse.{place_or}
use Rattle.scan.specs.Cutting.{end_at}
use Rattle.search.specs.Want.{found_from}
use Rattle.search.specs.declared.Want.TheVariants as want
use Rattle.groups.specs.Reading.{frame_from, run_end}
use Rattle.groups.proofs.frame_from.Goals as goal

made : (s : List ℕ) (c r e : ℕ) → r ≡ end_at s (c + 9) → e ≡ place_or (found_from s r want.NotClass) (length s) → record { control = c; header = c + 9; run = r; end = e } ≡ frame_from s c
unfolding frame_from run_end
made s c r e f g = rw (g, f) refl

ruleset laws = (made, rules)

pub returns : goal.returns
returns c = search laws
