-- A search along the cluster descriptors for an ID that is 0 or repeated; where none is found, the scan has reached the end or the place of a misfit.
use borrow.Author.Rules.{rules}
use Prim.Native.Nat.{ℕ, ◌+◌, ◌-◌, ◌≤◌, ◌<◌}
use mathlib.Core.Path.{◌≡◌, sym, ap, ◌∙◌}
use mathlib.Core.Bool.{Bool, true, false, ◌||◌}
use mathlib.Core.List.{List, ◌++◌, append-nil}
use lib.ListN.{length}
use lib.Dec.{eqb}
use borrow.Author.Tests.{eq-eqb, ne_eqb}
use Rattle.std.specs.Prelude.{Option, Some, None}
use Rattle.ground.specs.Pick.{yes, no}
use Rattle.ground.specs.Lists.{part, total}
use Rattle.ground.specs.First.{is_before}
use Rattle.scan.specs.Cutting.{end_by, reach_by, breach_by}
use Rattle.scan.specs.PieceLaws.{rest_none}
use Rattle.scan.specs.Search.{PassedBy, start, stop_by, hit_by, miss, ordered_by, inside_by, falls_by}
use Rattle.buffer.specs.Clusters.{two_bytes, cluster_id}
use Rattle.buffer.specs.Reading.{pieces, found_cluster, is_wrong_cluster, found_or, breach51}
use Rattle.buffer.specs.BufferLaws.{wrong_before}
use Rattle.buffer.proofs.check_buffer.Invariants.{Come}
use Rattle.buffer.proofs.check_buffer.Goals as goal

begins : (s : List ℕ) → Come s 0
begins s = start is_wrong_cluster s 0

module _ (s : List ℕ) (at e : ℕ) (f : e ≡ end_by two_bytes s at) (h : e ≡ at → ⊥) where
  low : at ≤ e
  low = ordered_by two_bytes s at e f h

  high : e ≤ length s
  high = inside_by two_bytes s at e f h

  less : length s - e < length s - at
  less = falls_by two_bytes s at e f h

module _ (s : List ℕ) (at e : ℕ) (g : Come s at) (f : e ≡ end_by two_bytes s at) where
  module _ (h : e ≡ at) where
    reached : reach_by two_bytes s 0 ≡ at
    unfolding reach_by
    reached =
        let p = g.place in
        let all : pieces s ≡ g.behind = g.whole ∙ ap (λ (r : List (List ℕ)). g.behind ++ r) (rest_none two_bytes s at (sym f ∙ h)) ∙ append-nil g.behind in
        ap (λ (r : List (List ℕ)). 0 + total r) all ∙ sym p

    none_wrong : breach51 s ≡ breach_by two_bytes s
    unfolding breach51 found_or
    none_wrong = ap (λ (r : Option ℕ). found_or r (breach_by two_bytes s)) (sym (stop_by is_wrong_cluster s 0 at e g f h))

    tiled : at ≡ length s → None ≡ breach51 s
    unfolding breach_by
    tiled q = sym (none_wrong ∙ yes _ _ (eq-eqb _ _ (reached ∙ q)))

    untiled : (at ≡ length s → ⊥) → Some at ≡ breach51 s
    unfolding breach_by
    untiled n = sym (none_wrong ∙ no _ _ (ne_eqb _ _ (λ q. n (sym reached ∙ q))) ∙ ap Some reached)

  module _ (h : e ≡ at → ⊥) (r : Bool)
      (t : r ≡ (eqb (cluster_id (part s at e)) 0 || is_before (found_cluster s (cluster_id (part s at e))) at)) where
    test : r ≡ is_wrong_cluster g.behind (part s at e)
    unfolding is_wrong_cluster
    test = t ∙ ap (λ (b : Bool). eqb (cluster_id (part s at e)) 0 || b) (wrong_before s at g (cluster_id (part s at e)))

    here : r ≡ true → Some at ≡ breach51 s
    unfolding breach51 found_or
    here y = ap (λ (x : Option ℕ). found_or x (breach_by two_bytes s)) (hit_by is_wrong_cluster s 0 at e g f h (sym test ∙ y))

    on : r ≡ false → Come s e
    on y = miss is_wrong_cluster s 0 at e g f h (sym test ∙ y)

ruleset laws = (begins, tiled, untiled, low, high, less, here, on, rules)

pub loop-at-init : goal.loop-at-init
loop-at-init c = search laws

pub returns-then-at-s : goal.returns-then-at-s
returns-then-at-s c = search laws

pub returns-then-e-at : goal.returns-then-e-at
returns-then-e-at c = search laws

pub slice_bounds-is_wrong-count : goal.slice_bounds-is_wrong-count
slice_bounds-is_wrong-count c = search laws

pub slice_bounds-is_wrong-start : goal.slice_bounds-is_wrong-start
slice_bounds-is_wrong-start c = search laws

pub slice_bounds-is_wrong-end : goal.slice_bounds-is_wrong-end
slice_bounds-is_wrong-end c = search laws

pub returns-then-is_wrong : goal.returns-then-is_wrong
returns-then-is_wrong c = search laws

pub loop-at-preserved : goal.loop-at-preserved
loop-at-preserved c = search laws
