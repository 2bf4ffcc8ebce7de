-- The loop has found none that breaks the rule before the node that it stands at.
use borrow.Author.Rules.{rules}
use Prim.Native.Nat.{ℕ, ◌+◌, ◌≤◌, ◌<◌}
use mathlib.Core.Path.{◌≡◌, ap, ◌∙◌}
use mathlib.Core.Bool.{Bool, true, false, not}
use mathlib.Core.List.{List}
use native.Mathlib.Omega.{arith}
use native.Mathlib.Nat.{min-le_left, min-le_right}
use lib.ListN.{length, get_or, take, length-take}
use Rattle.std.proofs.lemmas.List.{get_or-take, length-take-le}
use Rattle.std.specs.Prelude.{Some, None}
use Rattle.ground.specs.Places.{come_none, come_here, come_more, come_over}
use Rattle.entities.specs.declared.Node.{Node}
use Rattle.entities.specs.declared.Run.{Run}
use Rattle.entities.specs.Run.{most_entities, blank_node, held, node_at, place_at}
use Rattle.keeping3.specs.Keeping.{cluster_behind, keeps_by, breach13}
use Rattle.keeping3.proofs.check_clusters.Invariants.{wrong, Passed}
use Rattle.keeping3.proofs.check_clusters.Goals as goal

abbrev zeros : Node
zeros = record { place = 0; first = 0; pins = 0; id = 0; kind = 0; feeds = false }

module _ (s b : List ℕ) (run : Run) (given : List ℕ) where
  start : Passed s b run given 0
  start = come_none (wrong s b run given) (λ j. Some (place_at run j)) None (held run)

  module _ (n : ℕ) (m : n ≡ held run) (i : ℕ) (g : Passed s b run given i) where
    over : length run.nodes ≡ 32 → length (take n run.nodes) ≤ i → None ≡ breach13 s b run (cluster_behind b given)
    unfolding breach13
    over w h =
        let l : held run ≤ most_entities = min-le_right run.count most_entities in
        let a = length-take-le n run.nodes (omega arith) in
        come_over (wrong s b run given) (λ j. Some (place_at run j)) None (held run) i g (omega arith)

    module _ (h : i < length (take n run.nodes)) (r : Bool) (f : r ≡ keeps_by s b (get_or (take n run.nodes) i zeros) (cluster_behind b given)) where
      inside : i < n
      inside = let a = length-take n run.nodes in let b = min-le_left n (length run.nodes) in omega arith

      taken : get_or (take n run.nodes) i zeros ≡ node_at run i
      unfolding blank_node
      taken = get_or-take n run.nodes i zeros inside

      asked : not r ≡ wrong s b run given i
      asked = ap not (f ∙ ap (λ (y : Node). keeps_by s b y (cluster_behind b given)) taken)

      here : not r ≡ true → Some (get_or (take n run.nodes) i zeros).place ≡ breach13 s b run (cluster_behind b given)
      unfolding breach13
      here y =
          ap (λ (x : Node). Some x.place) taken
          ∙ come_here (wrong s b run given) (λ j. Some (place_at run j)) None (held run) i g (let a = inside in omega arith) (not r) asked y

      on : not r ≡ false → Passed s b run given (i + 1)
      on y = come_more (wrong s b run given) (λ j. Some (place_at run j)) None (held run) i g (let a = inside in omega arith) (not r) asked y

ruleset laws = (start, over, here, on, rules)

pub returns-then-not-kept : goal.returns-then-not-kept
returns-then-not-kept c = search laws

pub loop-node-preserved : goal.loop-node-preserved
loop-node-preserved c = search laws

pub returns : goal.returns
returns c = search laws
