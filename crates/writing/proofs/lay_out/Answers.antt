-- The loop has laid the descriptors that it has passed; each turn lays the next, or stops at it.
use borrow.Author.Rules.{rules}
use Prim.Native.Nat.{ℕ, ◌+◌, ◌≤◌, ◌<◌}
use mathlib.Core.Path.{◌≡◌}
use mathlib.Core.Bool.{Bool, true, false}
use mathlib.Core.List.{List}
use native.Mathlib.Omega.{arith}
use native.Mathlib.Nat.{min-le_left}
use lib.ListN.{length, get_or, take, length-take}
use mir.Val.{Fits}
use mir.Syntax.{w64}
use Rattle.std.proofs.lemmas.List.{get_or-take}
use Rattle.std.specs.Prelude.{Some, None}
use Rattle.ground.specs.Lists.{part}
use Rattle.fields.specs.Listed.{written_as, listed_with, blank_item}
use Rattle.layout.specs.Withdrawn.{is_wrong}
use Rattle.laying.specs.Laying.{Lay}
use Rattle.writing.specs.declared.EntityList.{EntityList}
use Rattle.writing.specs.Writing.{list_of, descriptors_of, LaidRun}
use Rattle.writing.specs.LaidLaws.{Laying, laying_start, laying_over, too_long, turn_room, turn_fits, wrong_here, laying_on}
use Rattle.writing.proofs.lay_out.Goals as goal

module _ (v : List ℕ) (l : EntityList) (few : l.count ≤ 32) (out : List ℕ) (at i : ℕ) (g : Laying (descriptors_of (list_of v l)) out at i) where
  over : length l.items ≡ 32 → length (take l.count l.items) ≤ i → LaidRun (descriptors_of (list_of v l)) out None at
  over n h = laying_over v l few out at i g (let e = length-take l.count l.items in omega arith)

  module _ (h : i < length (take l.count l.items)) where
    below : i < l.count
    below = let e = length-take l.count l.items in omega (arith, min-le_left l.count (length l.items))

    module _ (after : List ℕ) (size : ℕ) (t : Lay (written_as (listed_with v (get_or (take l.count l.items) i blank_item))) at out after size) where
      laid : Lay (written_as (listed_with v (get_or l.items i blank_item))) at out after size
      laid = rw (get_or-take l.count l.items i blank_item below) at t

      none : size ≡ 0 → LaidRun (descriptors_of (list_of v l)) after (Some i) 0
      none = too_long v l few out at i g below after size laid

      module _ (z : size ≡ 0 → ⊥) where
        end_fits : Fits w64 (at + size)
        end_fits = let n = turn_fits v l few out at i g below after size laid z in record { fits = omega arith }

        end_room : at + size ≤ length after
        end_room = turn_room v l few out at i g below after size laid z

        module _ (b : Bool) (w : b ≡ is_wrong (part after at (at + size))) where
          wrong : b ≡ true → LaidRun (descriptors_of (list_of v l)) after (Some i) 0
          wrong = wrong_here v l few out at i g below after size laid z b w

          on : b ≡ false → Laying (descriptors_of (list_of v l)) after (at + size) (i + 1)
          on = laying_on v l few out at i g below after size laid z b w

ruleset start = (laying_start, rules)

ruleset stops = (none, rules)

ruleset fit = (end_fits, rules)

ruleset rooms = (end_room, rules)

ruleset hit = (wrong, rules)

ruleset turns = (on, rules)

ruleset ends = (over, rules)

pub loop-i-init : goal.loop-i-init
loop-i-init c = search start

pub returns-then-size-eq0 : goal.returns-then-size-eq0
returns-then-size-eq0 c = search stops

pub overflow_add-end : goal.overflow_add-end
overflow_add-end c = search fit

pub slice_bounds-is_wrong-end : goal.slice_bounds-is_wrong-end
slice_bounds-is_wrong-end c = search rooms

pub returns-then-is_wrong : goal.returns-then-is_wrong
returns-then-is_wrong c = search hit

pub loop-i-preserved : goal.loop-i-preserved
loop-i-preserved c = search turns

pub returns : goal.returns
returns c = search ends
