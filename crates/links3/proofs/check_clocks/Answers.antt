-- The loop has found none whose clock ID is no Clock Source's before the node that it stands at.
use borrow.Author.Rules.{rules}
use Prim.Native.Nat.{ℕ, ◌+◌, ◌≤◌, ◌<◌}
use mathlib.Core.Path.{◌≡◌, ap, ◌∙◌}
use mathlib.Core.Bool.{Bool, true, false, not, ◌&&◌}
use mathlib.Core.List.{List}
use native.Mathlib.Omega.{arith}
use lib.ListN.{length, get_or, take}
use Rattle.std.specs.Prelude.{Some, None}
use Rattle.ground.specs.Places.{come_none, come_here, come_more, come_over}
use Rattle.edition3.specs.Third.{said_by}
use Rattle.entities.specs.declared.Node.{Node}
use Rattle.entities.specs.declared.Run.{Run}
use Rattle.entities.specs.Run.{held, place_at, descriptor_of}
use Rattle.links3.specs.Links.{said_at, ClockMarks, wrong_clock_by, breach_clock}
use Rattle.run3.proofs.Nodes.{zeros, inside, taken, all_taken}
use Rattle.links3.proofs.check_clocks.Invariants.{wrong, Passed}
use Rattle.links3.proofs.check_clocks.Goals as goal

module _ (s : List ℕ) (run : Run) where
  start : Passed s run 0
  start = come_none (wrong s run) (λ j. Some (place_at run j)) None (held run)

  module _ (n : ℕ) (m : n ≡ held run) (i : ℕ) (g : Passed s run i) where
    over : length run.nodes ≡ 32 → length (take n run.nodes) ≤ i → None ≡ breach_clock s run
    unfolding breach_clock
    over w h = come_over (wrong s run) (λ j. Some (place_at run j)) None (held run) i g (let a = all_taken run n m w in omega arith)

    module _ (h : i < length (take n run.nodes)) (marks : List Bool) (o : ClockMarks run marks) (r : Bool)
        (f : r ≡ wrong_clock_by (λ x. get_or marks x false) (said_by (descriptor_of s (get_or (take n run.nodes) i zeros)))) where
      asked : r ≡ wrong s run i
      unfolding wrong_clock_by
      asked =
          f ∙ ap (λ (y : Node). wrong_clock_by (λ x. get_or marks x false) (said_by (descriptor_of s y))) (taken run n i h)
          ∙ ap (λ (b : Bool). (said_at s run i).clocked && not b) (o.holds (said_at s run i).clock)

      here : r ≡ true → Some (get_or (take n run.nodes) i zeros).place ≡ breach_clock s run
      unfolding breach_clock
      here y =
          ap (λ (x : Node). Some x.place) (taken run n i h)
          ∙ come_here (wrong s run) (λ j. Some (place_at run j)) None (held run) i g (let a = inside run n m i h in omega arith) r asked y

      on : r ≡ false → Passed s run (i + 1)
      on y = come_more (wrong s run) (λ j. Some (place_at run j)) None (held run) i g (let a = inside run n m i h in omega arith) r asked y

ruleset laws = (start, over, here, on, rules)

pub returns-then-wrong_clock : goal.returns-then-wrong_clock
returns-then-wrong_clock c = search laws

pub loop-node-preserved : goal.loop-node-preserved
loop-node-preserved c = search laws

pub returns : goal.returns
returns c = search laws
