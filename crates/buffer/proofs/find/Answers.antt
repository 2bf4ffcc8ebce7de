-- A search along the cluster descriptors: the loop form of every search.
use borrow.Author.Rules.{rules}
use Prim.Native.Nat.{ℕ, ◌-◌, ◌≤◌, ◌<◌}
use mathlib.Core.Path.{◌≡◌, sym, ◌∙◌}
use mathlib.Core.Bool.{Bool, true, false}
use mathlib.Core.List.{List}
use lib.ListN.{length}
use Rattle.std.specs.Prelude.{Some, None}
use Rattle.ground.specs.Lists.{part}
use Rattle.scan.specs.Cutting.{end_by}
use Rattle.scan.specs.Search.{PassedBy, start, stop_by, hit_by, miss, ordered_by, inside_by, falls_by}
use Rattle.buffer.specs.Clusters.{two_bytes}
use Rattle.buffer.specs.Reading.{bearing, found_cluster}
use Rattle.buffer.proofs.find.Invariants.{Come}
use Rattle.buffer.proofs.find.Goals as goal

begins : (s : List ℕ) (id : ℕ) → Come s id 0
begins s id = start (λ b k. bearing id k) s 0

module _ (s : List ℕ) (at e : ℕ) (f : e ≡ end_by two_bytes s at) (h : e ≡ at → ⊥) where
  low : at ≤ e
  low = ordered_by two_bytes s at e f h

  high : e ≤ length s
  high = inside_by two_bytes s at e f h

  less : length s - e < length s - at
  less = falls_by two_bytes s at e f h

module _ (s : List ℕ) (id at e : ℕ) (g : Come s id at) (f : e ≡ end_by two_bytes s at) where
  none : e ≡ at → None ≡ found_cluster s id
  unfolding found_cluster
  none h = stop_by (λ b k. bearing id k) s 0 at e g f h

  module _ (h : e ≡ at → ⊥) (r : Bool) (t : r ≡ bearing id (part s at e)) where
    here : r ≡ true → Some at ≡ found_cluster s id
    unfolding found_cluster
    here y = hit_by (λ b k. bearing id k) s 0 at e g f h (sym t ∙ y)

    on : r ≡ false → Come s id e
    on y = miss (λ b k. bearing id k) s 0 at e g f h (sym t ∙ y)

ruleset laws = (begins, none, low, high, less, here, on, rules)

pub loop-at-init : goal.loop-at-init
loop-at-init c = search laws

pub returns-then-e-at : goal.returns-then-e-at
returns-then-e-at c = search laws

pub slice_bounds-bears-count : goal.slice_bounds-bears-count
slice_bounds-bears-count c = search laws

pub slice_bounds-bears-start : goal.slice_bounds-bears-start
slice_bounds-bears-start c = search laws

pub slice_bounds-bears-end : goal.slice_bounds-bears-end
slice_bounds-bears-end c = search laws

pub returns-then-bears : goal.returns-then-bears
returns-then-bears c = search laws

pub loop-at-smaller : goal.loop-at-smaller
loop-at-smaller c = search laws

pub loop-at-preserved : goal.loop-at-preserved
loop-at-preserved c = search laws
