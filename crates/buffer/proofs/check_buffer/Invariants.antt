use borrow.Author.Rules.{rules}
use Prim.Native.Nat.{ℕ, ◌+◌, ◌-◌, ◌≤◌, ◌<◌}
use mathlib.Core.Path.{◌≡◌, sym, ap, ◌∙◌}
use mathlib.Core.Bool.{Bool, true, false, ◌||◌}
use mathlib.Core.List.{List, ◌++◌, append-nil}
use lib.ListN.{length}
use lib.Dec.{eqb}
use borrow.Author.Tests.{eq-eqb, ne_eqb}
use Rattle.ground.specs.Pick.{yes, no}
use Rattle.ground.specs.Lists.{part, total}
use Rattle.ground.specs.First.{is_before}
use Rattle.scan.specs.Cutting.{end_by, reach_by, breach_by}
use Rattle.scan.specs.PieceLaws.{rest_none}
use Rattle.scan.specs.Search.{PassedBy, start, stop_by, hit_by, miss, ordered_by, inside_by, falls_by}
use Rattle.buffer.specs.Clusters.{two_bytes, cluster_id}
use Rattle.buffer.specs.Reading.{pieces, found_cluster, is_wrong_cluster, found_or, breach51}
use Rattle.buffer.specs.BufferLaws.{wrong_before}
use Rattle.buffer.proofs.check_buffer.Given as goal

abbrev pub Come : List ℕ → ℕ → Type 0
Come s at = PassedBy two_bytes is_wrong_cluster s 0 at

abbrev pub invariant-loop-at : goal.invariant-loop-at
invariant-loop-at l = Come l.s l.at

abbrev pub decreases-loop-at : goal.decreases-loop-at
decreases-loop-at l = length l.s - l.at
