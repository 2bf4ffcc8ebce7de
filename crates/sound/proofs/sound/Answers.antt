-- The pass has come to an index: the controls before it are right, and each unit's top is above their keys, so that none stands twice.
use Rattle.std.specs.Prelude.{ℕ, ◌≤◌, ◌<◌, ◌+◌, ◌≡◌, List, Bool, true, false, not, length, get_or, set, take, slice_index_or}
use Rattle.std.proofs.Common.{rules, ap, ◌∙◌}
use Rattle.table.specs.declared.Control.{Control}
use Rattle.table.specs.declared.Table.{Table}
use Rattle.table.specs.Controls.{most_controls, blank_control, at}
use Rattle.table.proofs.Counted.{looked_all, looked_inside, looked_at}
use Rattle.single.specs.Tests.{sound_control}
use Rattle.sound.specs.Sound.{sound_of}
use Rattle.sound.specs.Rising.{Keyed, passed_many, TopsAbove, rising_few, rising_start, rising_unsound, rising_on, rising_over}
use Rattle.sound.proofs.sound.Goals as goal

module _ (t : Table) (tops : List ℕ) (n : ℕ) (g : TopsAbove t tops n) where
  over : length t.controls ≡ most_controls → length (take t.count t.controls) ≤ n → true ≡ sound_of t
  over f h = rising_over t tops n g (looked_all t t.count n f (rising_few t tops n g) h)

  module _ (h : n < length (take t.count t.controls)) where
    abbrev here : Control
    here = slice_index_or (take t.count t.controls) n blank_control

    inside : n < t.count
    inside = looked_inside t t.count n h

    looked : here ≡ at t n
    looked = looked_at t t.count n h

    module _ (b : Bool) (e : b ≡ sound_control here) where
      unsound : not b ≡ true → false ≡ sound_of t
      unsound = rising_unsound t tops n g inside b (e ∙ ap sound_control looked)

      on : not b ≡ false → (u : ℕ) → (u ≡ here.unit) × (u < 256) → (k : ℕ) → Keyed here k → get_or tops u 0 ≤ k → TopsAbove t (set tops u (k + 1)) (n + 1)
      on ok u w k d low =
          rising_on t tops n g inside b (e ∙ ap sound_control looked) ok u (w.0 ∙ ap (λ (c : Control). c.unit) looked, w.1) k (rw looked at d) low

ruleset laws = (passed_many, rising_start, over, unsound, on, rules)

pub returns-then-count-gt-CONTROLS : goal.returns-then-count-gt-CONTROLS
returns-then-count-gt-CONTROLS c = search laws

pub returns-then-not-sound_control : goal.returns-then-not-sound_control
returns-then-not-sound_control c = search laws

pub loop-control-preserved : goal.loop-control-preserved
loop-control-preserved c = search laws

pub returns : goal.returns
returns c = search laws
