use Prim.Native.Nat.{ℕ, ◌+◌, ◌-◌, ◌*◌, ◌<◌, ◌≤◌}
use mathlib.Core.Path.{◌≡◌}
use mathlib.Core.List.{List}
use mathlib.Core.Logic.{⊎_elim}
use mathlib.Core.Bool.{Bool, true, false}
use native.Mathlib.Omega.{arith}
use lib.Dec.{ltb}
use mir.Val.{Fits}
use mir.Syntax.{w64}
use lib.ListN.{length, get_or, set, take}
use Rattle.ground.specs.Pick.{decided, reads_lt}
use Rattle.entities.specs.declared.Node.{Node}
use Rattle.entities.specs.declared.Run.{Run}
use Rattle.entities.specs.Run.{blank_node}
use Rattle.entities.proofs.Looked.{item, inside}
use Rattle.entities.proofs.Looked as looked
use Rattle.ranks.specs.Order.{fresh, ordered}
use Rattle.ranks.specs.Ordering.{Ordering, ordering_room, ordering_joined, ordering_left, ordering_next, ordering_falls, ordering_still}
use Rattle.ranks.proofs.order_of.Given as goal

module _ (s : List ℕ) (run : Run) (n : ℕ) (nodes : List Node) (marks : List Bool) (count before i : ℕ) (g : Ordering s run n nodes marks count before i) where
  -- the pass is over
  module _ (w : length run.nodes ≡ 32) (h : length (take n run.nodes) ≤ i) where
    passed : n ≤ i
    passed = let a = looked.over run n i g.whole w h in let b = g.whole in omega arith

    pub next : Ordering s run n nodes marks count count 0
    next = ordering_next s run n nodes marks count before i g passed

    pub still : count ≡ before → ◌≡◌ {A = Run} (record { count = count; nodes = nodes }) (ordered s run)
    still e = ordering_still s run n nodes marks count before i g passed e

    pub falls : (count ≡ before → ⊥) → before < n → n - count < n - before
    falls f l =
        ⊎_elim
        (λ (k : count < n). let a = ordering_falls s run n nodes marks count before i g passed f k in let b = passed in omega arith)
        (λ (k : count < n → ⊥). omega arith)
        (decided (ltb count n) (reads_lt count n))

  -- an entity is looked at
  module _ (h : i < length (take n run.nodes)) where
    abbrev node : Node
    node = get_or (take n run.nodes) i blank_node

    here : i < n
    here = let a = inside run n i g.whole h in let b = g.whole in omega arith

    module _ (b : Bool) (e : b ≡ fresh marks s node) where
      pub room : b ≡ true → count < 32
      room t = ordering_room s run n nodes marks count before i g here node (item run n i g.whole h) b e t

      pub offset_fits : b ≡ true → Fits w64 (count * 24)
      offset_fits t = let a = room t in record { fits = omega arith }

      pub count_fits : b ≡ true → Fits w64 (count + 1)
      count_fits t = let a = room t in record { fits = omega arith }

      -- behind the branch, by the arm that was gone through
      module _ (nodes' : List Node) (marks' : List Bool) (count' : ℕ) where
        pub joined : b ≡ true → (x : ℕ) → (x ≡ node.id) × (x < 256) → nodes' ≡ set nodes count node → marks' ≡ set marks x true → count' ≡ count + 1
            → Ordering s run n nodes' marks' count' before (i + 1)
        joined t x v p q r = rw (p, q, r) (ordering_joined s run n nodes marks count before i g here node (item run n i g.whole h) b e t x v)

        pub left : b ≡ false → nodes' ≡ nodes → marks' ≡ marks → count' ≡ count → Ordering s run n nodes' marks' count' before (i + 1)
        left f p q r = rw (p, q, r) (ordering_left s run n nodes marks count before i g here node (item run n i g.whole h) b e f)

abbrev pub invariant-loop-count : goal.invariant-loop-count
invariant-loop-count l = Ordering l.config l.run l.n l.nodes l.marks l.count l.count 0

abbrev pub decreases-loop-count : goal.decreases-loop-count
decreases-loop-count l = l.n - l.count

abbrev pub invariant-loop-node : goal.invariant-loop-node
invariant-loop-node l = Ordering l.config l.fn.run l.n l.nodes l.marks l.count l.before l.node-index
