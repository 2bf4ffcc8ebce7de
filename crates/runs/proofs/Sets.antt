-- What an accepted Set leaves at each index of the table.
--   shared       ==  what is sent to a control that is addressed
--   set_here     ==  where it stands then is the control with what is stored for that; set_other: every other index is as it was
--   set_keeps    ==  every index holds the same control, with as many pins
--   set_count, set_room, set_sound_after  ==  there are as many, with as much room, and 30 has nothing against the table
use Prim.Native.Nat.{ℕ}
use mathlib.Core.Path.{◌≡◌, refl, sym, ◌∙◌}
use mathlib.Core.List.{List}
use lib.ListN.{length, length-map}
use Rattle.ground.specs.Numbers.{Bytes}
use Rattle.graph.specs.Members.{◌∈◌}
use Rattle.table.specs.declared.Control.{Control}
use Rattle.table.specs.declared.Table.{Table}
use Rattle.table.specs.Controls.{at, sense_of}
use Rattle.table.specs.Same.{Same}
use Rattle.single.specs.Meaning.{SoundAs}
use Rattle.sound.specs.Meaning.{Sound}
use Rattle.answers.specs.Held.{value_in, stored_for, with_cur}
use Rattle.answers.specs.Answers.{held_by, all_set}
use Rattle.answers.proofs.AnswersLemmas.{sets_long}
use Rattle.runs.specs.Runs.{addressed_by}
use Rattle.runs.proofs.Stored.{Pair, pair_in, stored_count, stored_room, stored_here, stored_other, stored_same, stored_pins, stored_sound}
use Rattle.runs.proofs.Shares.{Sent, sent_to_lem}
use Rattle.runs.proofs.Taken.{addressed_at, SetTaken}
use Rattle.runs.proofs.Addressing.{addressed_apart, addressed_low, addressed_inside}
use Rattle.runs.proofs.Kept.{set_same, set_sound}

module _ (t : Table) (s d : List ℕ) (v : Table) (sound : Sound t) (a : SetTaken t s d v) where
  abbrev new : List Control
  new = all_set (addressed_by t s) d

  pub shared : (p : ℕ) → p ∈ addressed_at t s → Sent t p (addressed_at t s) d
  shared p m = sent_to_lem t p (addressed_at t s) d a.ready a.taken a.sized m

  long : length new ≡ length (addressed_at t s)
  long = sets_long (addressed_by t s) d ∙ length-map (addressed_at t s) (at t)

  pair_here : (q : ℕ) (c : Control) → Pair (addressed_at t s) new q c → at v q ≡ c
  pair_here q c h = rw a.table (stored_here t (addressed_at t s) new (addressed_apart t s) (addressed_inside t s sound) q c h)

  pub set_here : (p : ℕ) (m : p ∈ addressed_at t s) → at v p ≡ with_cur (stored_for (held_by (at t p)) (at t p) (value_in (shared p m).piece)) (at t p)
  set_here p m = pair_here p _ (shared p m).pair

  pub set_other : (q : ℕ) → (q ∈ addressed_at t s → ⊥) → at v q ≡ at t q
  set_other q n = rw a.table (stored_other t (addressed_at t s) new q n)

  -- what is stored at an index is the control of that index
  module _ (q : ℕ) (c : Control) (h : Pair (addressed_at t s) new q c) where
    own : Sent t q (addressed_at t s) d
    own = shared q (pair_in h)

    is : c ≡ with_cur (stored_for (held_by (at t q)) (at t q) (value_in own.piece)) (at t q)
    is = sym (pair_here q c h) ∙ pair_here q _ own.pair

    alike : Same c (at t q) × (c.pins ≡ (at t q).pins)
    alike = rw is (set_same _ (at t q), refl)

    sound_new : Bytes d → SoundAs (sense_of c.selector) c
    sound_new b = rw is (set_sound (at t q) own.piece (sound.each q (addressed_low t s q (pair_in h))) (own.bytes b) own.sized own.taken)

  pub set_count : v.count ≡ t.count
  set_count = rw a.table (stored_count t (addressed_at t s) new)

  pub set_room : length v.controls ≡ length t.controls
  set_room = rw a.table (stored_room t (addressed_at t s) new)

  pub set_keeps : (q : ℕ) → Same (at v q) (at t q)
  set_keeps q = rw a.table (stored_same t (addressed_at t s) new (addressed_apart t s) (addressed_inside t s sound) long alike q)

  pub set_pins : (q : ℕ) → (at v q).pins ≡ (at t q).pins
  set_pins q = rw a.table (stored_pins t (addressed_at t s) new (addressed_apart t s) (addressed_inside t s sound) long alike q)

  pub set_sound_after : Bytes d → Sound v
  set_sound_after b = rw a.table (stored_sound t (addressed_at t s) new (addressed_apart t s) (addressed_inside t s sound) long alike (λ q c h. sound_new q c h b) sound)
