-- Demand 2 of both sides, proved: a side's microphone goes through a run of the request layer, and the other side is nowhere in it.
--   Living x st run  ==  what is kept along the run; EveryRun follows from it
--   duet_runs        ==  THE THEOREM
use Prim.Native.Nat.{ℕ}
use mathlib.Core.Path.{◌≡◌, refl, sym, ap, ◌∙◌}
use mathlib.Core.Bool.{Bool, true, false}
use mathlib.Core.List.Memᴰ
use mathlib.Core.List.{List, [], ◌∷◌, ◌++◌, Memᴰ}
use mathlib.Core.Logic.{⊎_elim}
use native.Mathlib.Omega.{arith}
use lib.Dec.{eqb}
use lib.ListN.{length}
use Rattle.ground.specs.Pick.{pick, yes, shows, true≠false}
use Rattle.ground.specs.Numbers.{Bytes}
use Rattle.setting.specs.declared.Range.{Range}
use Rattle.table.specs.Keys.{Key}
use Rattle.sound.specs.Meaning.{Sound}
use Rattle.sound.specs.Fresh.{fresh_sound}
use Rattle.setup.specs.Setup.{asked_of}
use Rattle.topology.specs.Reading.{reading_of}
use Rattle.reader.proofs.Tables.{reader_table}
use Rattle.request.specs.declared.State.{State}
use Rattle.request.specs.Outcome.{Outcome}
use Rattle.plug.specs.Plugged.{state_of}
use Rattle.request.specs.Request.{request_of}
use Rattle.runs.specs.Runs as runs
use Rattle.runs.specs.Runs.Step.{load as single-load, request as single-request}
use Rattle.runs.proofs.Alone.{run_interface}
use Rattle.demands.proofs.Demand2.{runs_so}
use Rattle.sides.specs.declared.Side.{Side}
use Rattle.sides.specs.declared.Side.TheVariants as side
use Rattle.sides.specs.declared.Addressee.{Addressee}
use Rattle.sides.specs.declared.Addressee.TheVariants.{Nobody, At}
use Rattle.sides.specs.Sides.{addressee_of, own_setup}
use Rattle.duet.specs.declared.Socket.{Socket}
use Rattle.duet.specs.declared.Duet.{Duet}
use Rattle.duet.specs.Box.{socket_of, with_socket, empty_socket, empty_duet}
use Rattle.duet.specs.BoxLaws.{own_socket}
use Rattle.duet.specs.Coming.{refusal, unplug_answer}
use Rattle.admission.specs.Plugging.{Plugging, plug_of, duet_after}
use Rattle.admission.specs.Plugging.Plugging.{refused, let_in}
use Rattle.duet.specs.Asking.{load_in, request_in, socket_after, box_after, answer_in, answer_for}
use Rattle.duets.specs.DuetRuns.Life.{none, since}
use Rattle.duets.specs.Steps.{Step, is_for, is_of, box_next, box_after_run, sent_by, Carried}
use Rattle.duets.specs.Steps.Step.{plug, unplug, load, request}
use Rattle.duets.specs.DuetRuns.{Life, life_plug, life_more, life_ask, own_life, life_next, life_of, ReadState, Lived, DuetRuns}
use Rattle.duets.proofs.Named.{at_side}
use Rattle.duets.proofs.DuetRows.{reads_box}
use Rattle.duets.proofs.Sound.{Fit, fit_empty, fit_next, fit_run, same_side_lem, other_next, was_let_in, load_came, request_came}

record Living (x : Socket) (st : State) (run : List runs.Step) : Type 0 where
  plugged : x.plugged ≡ true
  read : ReadState st
  state : x.state ≡ runs.after st run
  wired : runs.Wired run

abbrev Along : Socket → Life → Type 0
Along x none = x.plugged ≡ false
Along x (since st run) = Living x st run

after_more : (st : State) (run : List runs.Step) (x : runs.Step) → runs.after st (run ++ x ∷ []) ≡ runs.next (runs.after st run) x
unfolding runs.after
after_more st [] x = refl
after_more st (y ∷ run) x = after_more (runs.next st y) run x

wired_more : (run : List runs.Step) (x : runs.Step) → runs.Wired run → Bytes (runs.sent x) → runs.Wired (run ++ x ∷ [])
wired_more run x w b y m =
    ⊎_elim (λ (k : Memᴰ y run). w y k) (λ (k : Memᴰ y (x ∷ [])). rw (Memᴰ.eq_of_singleton k) b) (Memᴰ.append_cases run m)

-- a step of the request layer at the socket
live_more : (x : Socket) (st : State) (run : List runs.Step) → Living x st run → (step : runs.Step) → Bytes (runs.sent step) → (o : Outcome)
    → o ≡ runs.step_of x.state step → Living (socket_after x o) st (run ++ step ∷ [])
live_more x st run l step b o e = record {
  plugged = l.plugged;
  read = l.read;
  state = rw e (ap (λ (s : State). runs.next s step) l.state ∙ sym (after_more st run step));
  wired = wired_more run step l.wired b;
}

along_load : (b : Duet) (k : Side) → Fit b → (key : Key) (range : Range) (w : ℕ) (l : Life) → Along (socket_of b k) l
    → Along (socket_of (box_after b k (load_in b k key.unit key.channel key.selector range w)) k) (life_more l (single-load key range w))
along_load b k h key range w none a = rw (own_socket b k _) a
along_load b k h key range w (since st run) a =
    rw (own_socket b k _)
    (live_more (socket_of b k) st run a (single-load key range w) (λ i. omega arith) _ (load_came b k h key range w ∙ yes _ _ a.plugged))

along_ask : (b : Duet) (k : Side) → Fit b → (s d : List ℕ) (room : ℕ) → addressee_of (asked_of s) ≡ At k → Bytes d → (l : Life) → Along (socket_of b k) l
    → Along (socket_of (box_after b k (request_in b s d room)) k) (life_ask l s d room)
along_ask b k h s d room e w none a = rw (own_socket b k _) a
along_ask b k h s d room e w (since st run) a =
    let c : (socket_of b k).state.control ≡ st.control = ap (λ (z : State). z.control) a.state ∙ run_interface st run in
    rw (own_socket b k _)
    (live_more (socket_of b k) st run a (single-request (own_setup st.control s) d room) w _
    (request_came b k h s d room e ∙ yes _ _ a.plugged ∙ ap (λ (n : ℕ). request_of (socket_of b k).state (own_setup n s) d room) c))

along_plug : (b : Duet) (k : Side) (s d : List ℕ) (l : Life) → Along (socket_of b k) l → (o : Plugging) → plug_of b k s (length d) ≡ o
    → Along (socket_of (duet_after b k o) k) (life_plug o l)
unfolding runs.after
along_plug b k s d l a (refused n p) e = a
along_plug b k s d l a (let_in r) e =
    let t = was_let_in b k s (length d) r e in
    rw (own_socket b k _) (record {
      plugged = refl;
      read = record { configuration = s; room = length d; accepted = t.accepted; state = ap state_of t.reading };
      state = refl;
      wired = λ x m. absurd (Memᴰ.not-nil m);
    })

along_unplug : (b : Duet) (k : Side) → Fit b → (l : Life) → Along (socket_of b k) l
    → Along (socket_of (unplug_answer b k).duet k) (pick (eqb (unplug_answer b k).number 0) none l)
unfolding unplug_answer
along_unplug b k h l a = rw h (go (socket_of b k).plugged)
  where
    go : (y : Bool)
        → Along (socket_of (pick y (record { number = 0; written = 0; duet = with_socket b k empty_socket }) (refusal b 63)).duet k)
        (pick (eqb (pick y (record { number = 0; written = 0; duet = with_socket b k empty_socket }) (refusal b 63)).number 0) none l)
    go true = rw (own_socket b k empty_socket) refl
    go false = a

along_own : (b : Duet) (k : Side) (x : Step) → Fit b → Bytes (sent_by x) → is_of k x ≡ true → (l : Life) → Along (socket_of b k) l
    → Along (socket_of (box_next b x) k) (own_life b x l)
unfolding answer_in
along_own b k (plug j s d) h w e l a = rw (same_side_lem k j e) (along_plug b k s d l a _ refl)
along_own b k (unplug j) h w e l a = rw (same_side_lem k j e) (along_unplug b k h l a)
along_own b k (load j key range v) h w e l a = rw (same_side_lem k j e) (along_load b k h key range v l a)
along_own b k (request s d y) h w e l a = go (addressee_of (asked_of s)) refl e
  where
    go : (v : Addressee) → addressee_of (asked_of s) ≡ v → is_for k v ≡ true → Along (socket_of (answer_for b v (request_in b s d (length y))).duet k) (life_ask l s d (length y))
    go (Nobody n) f i = absurd (true≠false (sym i))
    go (At j) f i = rw (same_side_lem k j i) (along_ask b k h s d (length y) (f ∙ ap At (same_side_lem k j i)) w l a)

along_next : (b : Duet) (k : Side) (x : Step) → Fit b → Bytes (sent_by x) → (l : Life) → Along (socket_of b k) l → Along (socket_of (box_next b x) k) (life_next k b x l)
along_next b k x h w l a = go (is_of k x) refl
  where
    go : (p : Bool) → is_of k x ≡ p → Along (socket_of (box_next b x) k) (pick p (own_life b x l) l)
    go true e = along_own b k x h w e l a
    go false e = rw (other_next b k x e) a

along_run : (k : Side) (run : List Step) (b : Duet) → Fit b → Carried run → (l : Life) → Along (socket_of b k) l
    → Along (socket_of (box_after_run b run) k) (life_of k b run l)
unfolding box_after_run life_of
along_run k [] b h c l a = a
along_run k (x ∷ run) b h c l a =
    let w = c x (Memᴰ.head refl) in
    along_run k run (box_next b x) (fit_next b x h w) (λ y m. c y (Memᴰ.tail m)) (life_next k b x l) (along_next b k x h w l a)

read_sound : (st : State) → ReadState st → Sound st.table
read_sound st r =
    rw r.state (fresh_sound (reading_of r.configuration r.room).table (reader_table r.configuration r.room))

lived : (x : Socket) (l : Life) → Along x l → Lived x l
lived x none a = a
lived x (since st run) a = record {
  plugged = a.plugged;
  read = a.read;
  state = a.state;
  every = runs_so st (read_sound st a.read) run a.wired;
}

-- THE THEOREM
pub duet_runs : DuetRuns
duet_runs = record {
  lives = λ k run c. lived (socket_of (box_after_run empty_duet run) k) (life_of k empty_duet run none) (along_run k run empty_duet fit_empty c none (empty_side k));
  thirty = λ run c. (reads_box (box_after_run empty_duet run)).says (fit_run run empty_duet fit_empty c);
  loads_handed = λ b k h p u ch s range w. load_came b k (shows (reads_box b) h) (record { unit = u; channel = ch; selector = s }) range w ∙ yes _ _ p;
  requests_handed = λ b k h p s d room w e. request_came b k (shows (reads_box b) h) s d room (at_side s k w e) ∙ yes _ _ p;
  not_elsewhere = λ s w m. ((refl, w.1), refl);
  others = other_next;
}
  where
    empty_side : (k : Side) → (socket_of empty_duet k).plugged ≡ false
    empty_side side.Left = refl
    empty_side side.Right = refl
