use borrow.Author.Rules.{rules}
use Prim.Native.Nat.{ℕ, ◌-◌, ◌≤◌, ◌<◌}
use mathlib.Core.Path.{◌≡◌, sym, ◌∙◌}
use mathlib.Core.Bool.{Bool, true, false}
use mathlib.Core.List.{List}
use lib.ListN.{length}
use Rattle.ground.specs.Lists.{part}
use Rattle.scan.specs.Cutting.{end_by}
use Rattle.scan.specs.Search.{PassedBy, start, stop_by, hit_by, miss, ordered_by, inside_by, falls_by}
use Rattle.buffer.specs.Clusters.{two_bytes}
use Rattle.buffer.specs.Reading.{bearing, found_cluster}
use Rattle.buffer.proofs.find.Given as goal

abbrev pub Come : List ℕ → ℕ → ℕ → Type 0
Come s id at = PassedBy two_bytes (λ b k. bearing id k) s 0 at

abbrev pub invariant-loop-at : goal.invariant-loop-at
invariant-loop-at l = Come l.s l.id l.at

abbrev pub decreases-loop-at : goal.decreases-loop-at
decreases-loop-at l = length l.s - l.at
