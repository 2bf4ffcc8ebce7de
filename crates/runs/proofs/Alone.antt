-- An accepted Set changes the addressed controls alone (demand 2): every other control, and every spare place, is what it was, and each
-- addressed one is still the same control, with as many pins. And no step leaves a table that 30 turns away.
--   alone         ==  so does every step's table
--   run_interface ==  no run changes the AudioControl number
--   step_sound, run_sound  ==  no step, and no run, leaves a table that 30 turns away
use Prim.Native.Nat.{ℕ, ◌<◌}
use mathlib.Core.Path.{◌≡◌, refl}
use mathlib.Core.List.Memᴰ
use mathlib.Core.List.{List, [], ◌∷◌}
use mathlib.Core.Bool.{true}
use mathlib.Core.Logic.{⊎_elim}
use native.Mathlib.Omega.{arith}
use lib.Dec.{eqb}
use lib.ListN.{length, length-set}
use Rattle.ground.specs.Numbers.{Bytes}
use Rattle.ground.specs.Pick.{decided, reads_eq}
use Rattle.setting.specs.declared.Range.{Range}
use Rattle.table.specs.declared.Control.{Control}
use Rattle.table.specs.declared.Table.{Table}
use Rattle.table.specs.Controls.{at}
use Rattle.table.specs.Keys.{Key}
use Rattle.sound.specs.Sound.{sound_of}
use Rattle.table.specs.Same.{same_self}
use Rattle.sound.specs.Meaning.{Sound, sound_reads}
use Rattle.table.specs.Placed.{placed_here, placed_elsewhere, placed_keeps}
use Rattle.address.specs.AddressedLaws.{found_stands}
use Rattle.loads.specs.Load.{loaded_with}
use Rattle.request.specs.declared.State.{State}
use Rattle.request.specs.Outcome.{Outcome, table_after}
use Rattle.request.specs.Outcome.Outcome.{refused, got, done}
use Rattle.request.specs.Load.{load_of}
use Rattle.request.specs.Request.{request_of}
use Rattle.runs.specs.Runs.{Step, next, after, sent, Wired}
use Rattle.runs.specs.Runs.Step.{load, request}
use Rattle.runs.specs.Promises.{Alone}
use Rattle.runs.proofs.Taken.{LoadTaken, SetTaken, load_taken, set_taken}
use Rattle.runs.proofs.Addressing.{addressed_low, among_names}
use Rattle.runs.proofs.Sets.{set_other, set_keeps, set_pins, set_count, set_room, set_sound_after}
use Rattle.runs.proofs.Kept.{load_same, index_inside}
use Rattle.runs.proofs.Moved.{one_step}

untouched : (t : Table) (step : Step) → Alone t step t
untouched t step = record { count = refl; room = refl; others = λ q h. refl; same = λ q. same_self (at t q); pins = λ q. refl }

sound_of_lem : (t : Table) → sound_of t ≡ true → Sound t
sound_of_lem t e = (sound_reads t).says e

-- a load stores one control, a Set those that it addresses
load_stored : (t : Table) (k : Key) (range : Range) (w : ℕ) (v : Table) → LoadTaken t k range w v → Alone t (load k range w) v
load_stored t k range w v a = rw a.table (record {
  count = refl;
  room = length-set t.controls p new;
  others = λ q n. placed_elsewhere t p new q (λ i. let h = found_stands t k p a.there in n (rw i h.inside) (rw i h.bears));
  same = placed_keeps t p inside new (load_same a.sort range w (at t p));
  pins = λ q.
      ⊎_elim
      (λ (i : q ≡ p). rw (i, placed_here t p inside new))
      (λ (i : q ≡ p → ⊥). rw (placed_elsewhere t p new q i))
      (decided (eqb q p) (reads_eq q p));
})
  where
    p : ℕ
    p = a.index

    new : Control
    new = loaded_with a.sort range w (at t p)

    inside : p < length t.controls
    inside = index_inside t k p a.there (sound_of_lem t a.sound)

set_stored : (t : Table) (s d : List ℕ) (room : ℕ) (v : Table) → SetTaken t s d v → Alone t (request s d room) v
set_stored t s d room v a =
    let h = sound_of_lem t a.sound in
    record {
      count = set_count t s d v h a;
      room = set_room t s d v h a;
      others = λ q n. set_other t s d v h a q (λ m. n (addressed_low t s q m) (among_names t s q m));
      same = set_keeps t s d v h a;
      pins = set_pins t s d v h a;
    }

module _ (st : State) where
  abbrev t : Table
  t = st.table

  load_alone : (k : Key) (range : Range) (w : ℕ) (o : Outcome) → load_of st k.unit k.channel k.selector range w ≡ o
      → Alone t (load k range w) (table_after t o)
  load_alone k range w (refused n) e = untouched t (load k range w)
  load_alone k range w (got bytes) e = untouched t (load k range w)
  load_alone k range w (done v) e = load_stored t k range w v (load_taken st k range w v e)

  request_alone : (s d : List ℕ) (room : ℕ) (o : Outcome) → request_of st s d room ≡ o → Alone t (request s d room) (table_after t o)
  request_alone s d room (refused m) e = untouched t (request s d room)
  request_alone s d room (got bytes) e = untouched t (request s d room)
  request_alone s d room (done v) e = set_stored t s d room v (set_taken st s d room v e)

  load_sound_after : (k : Key) (range : Range) (w : ℕ) → Sound t → (o : Outcome) → load_of st k.unit k.channel k.selector range w ≡ o
      → Sound (table_after t o)
  load_sound_after k range w s (refused n) e = s
  load_sound_after k range w s (got bytes) e = s
  load_sound_after k range w s (done v) e =
      let a = load_taken st k range w v e in
      rw e at (one_step st k a.index s a.there (load k range w) (λ i. omega arith)).sound

  request_sound_after : (su d : List ℕ) (room : ℕ) → Bytes d → Sound t → (o : Outcome) → request_of st su d room ≡ o → Sound (table_after t o)
  request_sound_after su d room b s (refused m) e = s
  request_sound_after su d room b s (got bytes) e = s
  request_sound_after su d room b s (done v) e =
      set_sound_after t su d v s (set_taken st su d room v e) b

pub alone : (st : State) (step : Step) → Alone st.table step (next st step).table
alone st (load k range w) = load_alone st k range w _ refl
alone st (request s d room) = request_alone st s d room _ refl

pub step_sound : (st : State) (step : Step) → Bytes (sent step) → Sound st.table → Sound (next st step).table
step_sound st (load k range w) b s = load_sound_after st k range w s _ refl
step_sound st (request su d room) b s = request_sound_after st su d room b s _ refl

pub run_sound : (st : State) (run : List Step) → Wired run → Sound st.table → Sound (after st run).table
unfolding after
run_sound st [] w s = s
run_sound st (step ∷ run) w s =
    run_sound (next st step) run (λ x m. w x (Memᴰ.tail m)) (step_sound st step (w step (Memᴰ.head refl)) s)

pub run_interface : (st : State) (run : List Step) → (after st run).control ≡ st.control
unfolding after
run_interface st [] = refl
run_interface st (step ∷ run) = run_interface (next st step) run
