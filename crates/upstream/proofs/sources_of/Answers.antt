-- The node that is made of the two numbers at an ID has its source IDs.
use borrow.Author.Rules.{rules}
use Prim.Native.Nat.{ℕ, ◌<◌}
use mathlib.Core.Path.{◌≡◌, ap, ◌∙◌}
use mathlib.Core.List.{List}
use lib.ListN.{get_or, take, drop}
use Rattle.upstream.specs.Telling.{sources_by}
use Rattle.upstream.proofs.sources_of.Goals as goal

named : (r s firsts counts : List ℕ) (at x : ℕ) → (at ≡ x) × (at < 256) → r ≡ take (get_or counts at 0) (drop (get_or firsts at 0) s) → r ≡ sources_by s firsts counts x
unfolding sources_by
named r s firsts counts at x w e = e ∙ ap (sources_by s firsts counts) w.0

ruleset laws = (named, rules)

pub returns : goal.returns
returns c = search laws
