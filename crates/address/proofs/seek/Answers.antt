-- The pass asks 30 and gives the seats; past it 30 has nothing against the table, and the seats tell who is addressed.
use Rattle.std.specs.Prelude.{ℕ, ◌≤◌, ◌<◌, ◌+◌, ◌≡◌, List, Bool, true, false, not, ◌&&◌, leb, length, get_or, set, take, slice_index_or}
use Rattle.std.proofs.Common.{rules, ap, ◌∙◌}
use Rattle.ground.specs.Pick.{pick}
use Rattle.table.specs.declared.Control.{Control}
use Rattle.table.specs.declared.Table.{Table}
use Rattle.table.specs.Controls.{most_controls, blank_control, at}
use Rattle.table.proofs.Counted.{looked_all, looked_inside, looked_at}
use Rattle.single.specs.Tests.{sound_control}
use Rattle.sound.specs.Sound.{sound_of}
use Rattle.sound.specs.Rising.{Keyed, passed_many}
use Rattle.address.specs.Addressed.{most_addressed}
use Rattle.address.specs.AddressedLaws.{is_named}
use Rattle.address.proofs.Seeking.{sought_unsound, Seeking, seeking_start, seeking_inside, seeking_channel, seeking_unsound, seeking_on, twice_unsound, sought_in_order, sought_any_order}
use Rattle.address.proofs.seek.Goals as goal
use Rattle.address.proofs.seek.Goals.{else-not-rising-via-then-not-rising+else-not-sound_any_order, else-not-rising-via-else-not-rising}

module _ (t : Table) (u ch s : ℕ) (tops seats : List ℕ) (rising : Bool) (n : ℕ) (g : Seeking t u ch s tops seats rising n) where
  over : length t.controls ≡ most_controls → length (take t.count t.controls) ≤ n → t.count ≤ n
  over f h = looked_all t t.count n f g.few h

  module _ (h : n < length (take t.count t.controls)) where
    abbrev here : Control
    here = slice_index_or (take t.count t.controls) n blank_control

    inside : n < t.count
    inside = looked_inside t t.count n h

    looked : here ≡ at t n
    looked = looked_at t t.count n h

    has_place : n < most_controls
    has_place = seeking_inside t u ch s tops seats rising n g inside

    module _ (b : Bool) (e : b ≡ sound_control here) where
      tested : b ≡ sound_control (at t n)
      tested = e ∙ ap sound_control looked

      unsound : not b ≡ true → false ≡ sound_of t
      unsound = seeking_unsound t u ch s tops seats rising n g inside b tested

      module _ (ok : not b ≡ false) (k : ℕ) (m : (k ≡ here.channel) × (k < 256)) where
        on_channel : (k ≡ (at t n).channel) × (k < 256)
        on_channel = (m.0 ∙ ap (λ (c : Control). c.channel) looked, m.1)

        channel : k < most_addressed
        channel = seeking_channel t u ch s tops seats rising n g inside b tested ok k on_channel

        on : (v : ℕ) → v ≡ pick (is_named u ch s here) (n + 1) (get_or seats k 0) → (own : ℕ) → (own ≡ here.unit) × (own < 256) → (key : ℕ) → Keyed here key
            → Seeking t u ch s (set tops own (key + 1)) (set seats k v) (rising && leb (get_or tops own 0) key) (n + 1)
        on v f own w key d =
            seeking_on t u ch s tops seats rising n g inside b tested ok k on_channel v
            (f ∙ ap (λ (c : Control). pick (is_named u ch s c) (n + 1) (get_or seats k 0)) looked)
            own (w.0 ∙ ap (λ (c : Control). c.unit) looked, w.1) key (rw looked at d)

ruleset behind = (over, sought_unsound, twice_unsound, sought_in_order, sought_any_order, rules)

ruleset laws = (passed_many, sought_unsound, seeking_start, has_place, channel, unsound, on, rules)

pub returns-then-table-gt-CONTROLS : goal.returns-then-table-gt-CONTROLS
returns-then-table-gt-CONTROLS c = search laws

pub loop-index-init : goal.loop-index-init
loop-index-init c = search laws

pub returns-then-not-sound_control : goal.returns-then-not-sound_control
returns-then-not-sound_control c = search laws

pub bounds-seats-of : goal.bounds-seats-of
bounds-seats-of c = search laws

pub bounds-seats-of-in-loop-index : goal.bounds-seats-of-in-loop-index
bounds-seats-of-in-loop-index c = search laws

pub loop-index-preserved : goal.loop-index-preserved
loop-index-preserved c = search laws

pub returns-then-not-sound_any_order : goal.returns-then-not-sound_any_order
returns-then-not-sound_any_order c = search behind

pub returns : goal.returns
returns c =
    elim c.else-not-rising.branch [ else-not-rising-via-then-not-rising+else-not-sound_any_order w ↦ search behind | else-not-rising-via-else-not-rising w ↦ search behind ]
