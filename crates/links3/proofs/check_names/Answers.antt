-- The loop has found none whose cluster ID is unknown before the node that it stands at.
use borrow.Author.Rules.{rules}
use Prim.Native.Nat.{ℕ, ◌+◌, ◌≤◌, ◌<◌}
use mathlib.Core.Path.{◌≡◌, ap, ◌∙◌}
use mathlib.Core.Bool.{Bool, true, false}
use mathlib.Core.List.{List}
use native.Mathlib.Omega.{arith}
use lib.ListN.{length, get_or, take}
use Rattle.std.specs.Prelude.{Some, None}
use Rattle.ground.specs.Places.{come_none, come_here, come_more, come_over}
use Rattle.edition3.specs.Third.{said_by}
use Rattle.entities.specs.declared.Node.{Node}
use Rattle.entities.specs.declared.Run.{Run}
use Rattle.entities.specs.Run.{held, place_at, descriptor_of}
use Rattle.links3.specs.Links.{unknown_by, breach52}
use Rattle.run3.proofs.Nodes.{zeros, inside, taken, all_taken}
use Rattle.links3.proofs.check_names.Invariants.{wrong, Passed}
use Rattle.links3.proofs.check_names.Goals as goal

module _ (s b : List ℕ) (run : Run) where
  start : Passed s b run 0
  start = come_none (wrong s b run) (λ j. Some (place_at run j)) None (held run)

  module _ (n : ℕ) (m : n ≡ held run) (i : ℕ) (g : Passed s b run i) where
    over : length run.nodes ≡ 32 → length (take n run.nodes) ≤ i → None ≡ breach52 s b run
    unfolding breach52
    over w h = come_over (wrong s b run) (λ j. Some (place_at run j)) None (held run) i g (let a = all_taken run n m w in omega arith)

    module _ (h : i < length (take n run.nodes)) (r : Bool) (f : r ≡ unknown_by b (said_by (descriptor_of s (get_or (take n run.nodes) i zeros)))) where
      asked : r ≡ wrong s b run i
      asked = f ∙ ap (λ (y : Node). unknown_by b (said_by (descriptor_of s y))) (taken run n i h)

      here : r ≡ true → Some (get_or (take n run.nodes) i zeros).place ≡ breach52 s b run
      unfolding breach52
      here y =
          ap (λ (x : Node). Some x.place) (taken run n i h)
          ∙ come_here (wrong s b run) (λ j. Some (place_at run j)) None (held run) i g (let a = inside run n m i h in omega arith) r asked y

      on : r ≡ false → Passed s b run (i + 1)
      on y = come_more (wrong s b run) (λ j. Some (place_at run j)) None (held run) i g (let a = inside run n m i h in omega arith) r asked y

ruleset laws = (start, over, here, on, rules)

pub returns-then-is_unknown : goal.returns-then-is_unknown
returns-then-is_unknown c = search laws

pub loop-node-preserved : goal.loop-node-preserved
loop-node-preserved c = search laws

pub returns : goal.returns
returns c = search laws
