-- The pass has come to an index: the controls before it are right and none stands twice, and their keys are kept.
use Rattle.std.specs.Prelude.{ℕ, ◌≤◌, ◌<◌, ◌+◌, ◌≡◌, List, Bool, true, false, not, length, set, take, slice_index_or}
use Rattle.std.proofs.Common.{rules, ap, ◌∙◌, arith}
use Rattle.table.specs.declared.Control.{Control}
use Rattle.table.specs.declared.Table.{Table}
use Rattle.table.specs.Controls.{most_controls, blank_control, at}
use Rattle.table.proofs.Counted.{looked_all, looked_inside, looked_at}
use Rattle.single.specs.Tests.{sound_control}
use Rattle.sound.specs.Sound.{sound_of}
use Rattle.sound.specs.Rising.{Keyed, key_among, passed_many, KeysKept, kept_start, kept_inside, kept_unsound, kept_twin, kept_on, kept_over}
use Rattle.sound.proofs.sound_any_order.Goals as goal

module _ (t : Table) (keys : List ℕ) (n : ℕ) (g : KeysKept t keys n) where
  over : length t.controls ≡ most_controls → length (take t.count t.controls) ≤ n → true ≡ sound_of t
  over f h = kept_over t keys n g (looked_all t t.count n f g.passed.few h)

  module _ (h : n < length (take t.count t.controls)) where
    abbrev here : Control
    here = slice_index_or (take t.count t.controls) n blank_control

    inside : n < t.count
    inside = looked_inside t t.count n h

    has_place : n < most_controls
    has_place = kept_inside t keys n g inside

    few : n ≤ most_controls
    few = let l = has_place in omega arith

    looked : here ≡ at t n
    looked = looked_at t t.count n h

    module _ (b : Bool) (e : b ≡ sound_control here) where
      unsound : not b ≡ true → false ≡ sound_of t
      unsound = kept_unsound t keys n g inside b (e ∙ ap sound_control looked)

      module _ (ok : not b ≡ false) (k : ℕ) (d : Keyed here k) (a : Bool) (f : a ≡ key_among keys n k) where
        twin : a ≡ true → false ≡ sound_of t
        twin = kept_twin t keys n g inside b (e ∙ ap sound_control looked) ok k (rw looked at d) a f

        on : a ≡ false → KeysKept t (set keys n k) (n + 1)
        on = kept_on t keys n g inside b (e ∙ ap sound_control looked) ok k (rw looked at d) a f

ruleset laws = (passed_many, kept_start, over, has_place, few, unsound, twin, on, rules)

pub returns-then-table-gt-CONTROLS : goal.returns-then-table-gt-CONTROLS
returns-then-table-gt-CONTROLS c = search laws

pub returns-then-not-sound_control : goal.returns-then-not-sound_control
returns-then-not-sound_control c = search laws

pub returns-then-among : goal.returns-then-among
returns-then-among c = search laws

pub loop-index-preserved : goal.loop-index-preserved
loop-index-preserved c = search laws

pub returns : goal.returns
returns c = search laws
