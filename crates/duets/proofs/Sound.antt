-- From an empty box 30 never comes: what each step puts in a socket has nothing against it, and both sides stay within 192.
--   Fit b          ==  30 has nothing against the box
--   put_fit        ==  .. nor against the one with such a socket put in
--   fit_empty, fit_next, fit_run  ==  the empty box is so, each step keeps it, and so does every run
--   other_put, other_next  ==  a step of another side, or of none, leaves a side's socket as it was
--   same_side_lem      ==  what the test of two sides says
use Prim.Native.Nat.{ℕ, ◌+◌, ◌≤◌}
use mathlib.Core.Path.{◌≡◌, refl, sym, ap, ◌∙◌}
use mathlib.Core.Bool.{Bool, true, false, ◌&&◌}
use mathlib.Core.List.Memᴰ
use mathlib.Core.List.{List, [], ◌∷◌}
use lib.Dec.{eqb, leb}
use lib.ListN.{length}
use native.Mathlib.Omega.{arith}
use borrow.Author.Tests.{le-leb, leb-true}
use Rattle.ground.specs.Pick.{pick, yes, no, Reads, shows, reads_eq, reads_le, true≠false}
use Rattle.ground.specs.Numbers.{Bytes}
use Rattle.setting.specs.declared.Range.{Range}
use Rattle.table.specs.Keys.{Key}
use Rattle.sound.specs.Sound.{sound_of}
use Rattle.sound.specs.Meaning.{sound_reads}
use Rattle.sound.specs.Fresh.{fresh_sound}
use Rattle.setup.specs.Setup.{asked_of}
use Rattle.topology.specs.declared.Reading.{Reading}
use Rattle.topology.specs.Reading.{reading_of}
use Rattle.reader.proofs.Tables.{reader_table}
use Rattle.reader.proofs.Shows.{controls_counted}
use Rattle.request.specs.declared.State.{State}
use Rattle.request.specs.Outcome.{Outcome}
use Rattle.request.specs.Outcome.Outcome.{refused as refuses}
use Rattle.plug.specs.Plugged.{state_of}
use Rattle.request.specs.Load.{load_of}
use Rattle.request.specs.Request.{request_of}
use Rattle.runs.specs.Runs as runs
use Rattle.runs.specs.Runs.Step.{load as single-load, request as single-request}
use Rattle.runs.proofs.Alone.{alone, step_sound}
use Rattle.sides.specs.declared.Side.{Side}
use Rattle.sides.specs.declared.Side.TheVariants.{Left, Right}
use Rattle.sides.specs.declared.Addressee.{Addressee}
use Rattle.sides.specs.declared.Addressee.TheVariants.{Nobody, At}
use Rattle.sides.specs.Sides.{most_together, addressee_of, own_setup}
use Rattle.duet.specs.declared.Socket.{Socket}
use Rattle.duet.specs.declared.Duet.{Duet}
use Rattle.duet.specs.Box.{other_side, socket_of, with_socket, empty_socket, empty_duet, controls_on, sound_socket, sound_beside, sound_duet}
use Rattle.duet.specs.BoxLaws.{sound_split, kept_socket}
use Rattle.admission.proofs.PluggingLemmas.{plug_cases}
use Rattle.duet.specs.Coming.{refusal, unplug_answer}
use Rattle.admission.specs.Plugging.{Plugging, plug_of, duet_after}
use Rattle.admission.specs.Plugging.Plugging.{refused, let_in}
use Rattle.duet.specs.Asking.{handed_to, asked_on, request_in, loaded_on, load_in, box_after, answer_in, answer_for}
use Rattle.duets.specs.Steps.{Step, same_side, is_for, is_of, box_next, box_after_run, sent_by, Carried}
use Rattle.duets.specs.Steps.Step.{plug, unplug, load, request}

abbrev pub Fit : Duet → Type 0
Fit b = sound_duet b ≡ true

and_left : (x y : Bool) → (x && y) ≡ true → x ≡ true
and_left true y e = refl
and_left false y e = e

and_right : (x y : Bool) → (x && y) ≡ true → y ≡ true
and_right true y e = e
and_right false y e = absurd (true≠false (sym e))

and_both : (x y : Bool) → x ≡ true → y ≡ true → (x && y) ≡ true
and_both x y e f = rw (e, f) refl

pub fit_empty : Fit empty_duet
unfolding sound_duet sound_socket controls_on
fit_empty = refl

module _ (b : Duet) (k : Side) where
  pub own_sound : Fit b → sound_socket (socket_of b k) ≡ true
  own_sound h = and_left (sound_socket (socket_of b k)) (sound_beside b k) (sym (sound_split b k) ∙ h)

  beside_sound : Fit b → sound_beside b k ≡ true
  beside_sound h = and_right (sound_socket (socket_of b k)) (sound_beside b k) (sym (sound_split b k) ∙ h)

  other_sound : Fit b → sound_socket (socket_of b (other_side k)) ≡ true
  unfolding sound_beside
  other_sound h =
      and_right (leb (controls_on (socket_of b k) + controls_on (socket_of b (other_side k))) most_together) (sound_socket (socket_of b (other_side k))) (beside_sound h)

  within : Fit b → controls_on (socket_of b k) + controls_on (socket_of b (other_side k)) ≤ most_together
  unfolding sound_beside
  within h =
      leb-true _ _
      (and_left (leb (controls_on (socket_of b k) + controls_on (socket_of b (other_side k))) most_together) (sound_socket (socket_of b (other_side k))) (beside_sound h))

pub put_fit : (b : Duet) (k : Side) → Fit b → (x : Socket) → sound_socket x ≡ true → controls_on x + controls_on (socket_of b (other_side k)) ≤ most_together
    → Fit (with_socket b k x)
unfolding sound_duet
put_fit b Left h x s l =
    and_both (leb (controls_on x + controls_on b.right) most_together) (sound_socket x && sound_socket b.right) (le-leb _ _ l)
    (and_both (sound_socket x) (sound_socket b.right) s (other_sound b Left h))
put_fit b Right h x s l =
    let m : controls_on b.left + controls_on x ≤ most_together = omega arith in
    and_both (leb (controls_on b.left + controls_on x) most_together) (sound_socket b.left && sound_socket x) (le-leb _ _ m)
    (and_both (sound_socket b.left) (sound_socket x) (other_sound b Right h) s)

pub same_side_lem : (k j : Side) → same_side k j ≡ true → j ≡ k
same_side_lem Left Left e = refl
same_side_lem Left Right e = absurd (true≠false (sym e))
same_side_lem Right Left e = absurd (true≠false (sym e))
same_side_lem Right Right e = refl

pub other_put : (b : Duet) (k j : Side) (x : Socket) → same_side k j ≡ false → socket_of (with_socket b j x) k ≡ socket_of b k
other_put b Left Left x e = absurd (true≠false e)
other_put b Left Right x e = refl
other_put b Right Left x e = refl
other_put b Right Right x e = absurd (true≠false e)

other_unplug : (b : Duet) (k j : Side) → same_side k j ≡ false → socket_of (unplug_answer b j).duet k ≡ socket_of b k
unfolding unplug_answer
other_unplug b k j e = go (sound_duet b) (socket_of b j).plugged
  where
    go : (x y : Bool)
        → socket_of (pick x (pick y (record { number = 0; written = 0; duet = with_socket b j empty_socket }) (refusal b 63)) (refusal b 30)).duet k ≡ socket_of b k
    go true true = other_put b k j empty_socket e
    go true false = refl
    go false y = refl

other_answer : (b : Duet) (k : Side) (a : Addressee) (o : Outcome) → is_for k a ≡ false → socket_of (answer_for b a o).duet k ≡ socket_of b k
unfolding answer_in
other_answer b k (Nobody n) o f = refl
other_answer b k (At j) o f = other_put b k j _ f

-- what is not the side's leaves its socket, in every box whatever
pub other_next : (b : Duet) (k : Side) (x : Step) → is_of k x ≡ false → socket_of (box_next b x) k ≡ socket_of b k
other_next b k (plug j s d) e = go (plug_of b j s (length d))
  where
    go : (o : Plugging) → socket_of (duet_after b j o) k ≡ socket_of b k
    go (refused n p) = refl
    go (let_in r) = other_put b k j _ e
other_next b k (unplug j) e = other_unplug b k j e
other_next b k (load j key range w) e = other_put b k j _ e
other_next b k (request s d h) e = other_answer b k (addressee_of (asked_of s)) (request_in b s d (length h)) e

-- what was let in is the reading, and it had room
pub record Entered (b : Duet) (k : Side) (s : List ℕ) (room : ℕ) (r : Reading) : Type 0 where
  pub reading : r ≡ reading_of s room
  pub accepted : (reading_of s room).number ≡ 0
  pub roomy : controls_on (socket_of b (other_side k)) + (reading_of s room).controls ≤ most_together

pub was_let_in : (b : Duet) (k : Side) (s : List ℕ) (room : ℕ) (r : Reading) → plug_of b k s room ≡ let_in r → Entered b k s room r
was_let_in b k s room r e =
    go (sound_duet b) (socket_of b k).plugged (eqb (reading_of s room).number 0) (reads_eq _ 0) (leb (met + (reading_of s room).controls) most_together) (reads_le _ _)
    (sym (plug_cases b k s room) ∙ e)
  where
    met : ℕ
    met = controls_on (socket_of b (other_side k))

    go : (x y z : Bool) → Reads z ((reading_of s room).number ≡ 0) → (v : Bool) → Reads v (met + (reading_of s room).controls ≤ most_together)
        → pick x (pick y (refused 61 0) (pick z (pick v (let_in (reading_of s room)) (refused 62 0)) (refused (reading_of s room).number (reading_of s room).place))) (refused 30 0) ≡ let_in r
        → Entered b k s room r
    go false y z f v g e = absurd (let n : ◌≡◌ {A = ℕ} 0 1 = cc in omega arith)
    go true true z f v g e = absurd (let n : ◌≡◌ {A = ℕ} 0 1 = cc in omega arith)
    go true false false f v g e = absurd (let n : ◌≡◌ {A = ℕ} 0 1 = cc in omega arith)
    go true false true f false g e = absurd (let n : ◌≡◌ {A = ℕ} 0 1 = cc in omega arith)
    go true false true f true g e = record { reading = let q : reading_of s room ≡ r = cc in sym q; accepted = f.says refl; roomy = g.says refl }

plugged_fit : (b : Duet) (k : Side) → Fit b → (s : List ℕ) (room : ℕ) (r : Reading) → Entered b k s room r → Fit (with_socket b k (record { plugged = true; state = state_of r }))
unfolding sound_socket controls_on
plugged_fit b k h s room r t =
    put_fit b k h (record { plugged = true; state = state_of r })
    (rw t.reading (shows (sound_reads (reading_of s room).table) (fresh_sound (reading_of s room).table (reader_table s room))))
    (rw t.reading (let n = controls_counted s room in let m = t.roomy in omega arith))

-- a step of the request layer at a socket that has a microphone
module _ (b : Duet) (k : Side) (h : Fit b) (step : runs.Step) (f : (socket_of b k).plugged ≡ true) where
  abbrev st : State
  st = (socket_of b k).state

  abbrev stepped : Socket
  stepped = record { plugged = (socket_of b k).plugged; state = runs.next st step }

  stepped_sound : Bytes (runs.sent step) → sound_socket stepped ≡ true
  unfolding sound_socket
  stepped_sound bytes =
      let q : sound_of st.table ≡ true = sym (yes (sound_of st.table) true f) ∙ own_sound b k h in
      yes (sound_of (runs.next st step).table) true f ∙ shows (sound_reads (runs.next st step).table) (step_sound st step bytes ((sound_reads st.table).says q))

  stepped_count : controls_on stepped + controls_on (socket_of b (other_side k)) ≤ most_together
  unfolding controls_on
  stepped_count =
      let q : pick (socket_of b k).plugged (runs.next st step).table.count 0 ≡ pick (socket_of b k).plugged st.table.count 0 = ap (λ (n : ℕ). pick (socket_of b k).plugged n 0) (alone st step).count in
      let l = within b k h in
      omega arith

-- a load or a request, where the socket may be empty
pub outcome_fit : (b : Duet) (k : Side) → Fit b → (step : runs.Step) → Bytes (runs.sent step) → (o : Outcome)
    → o ≡ pick (socket_of b k).plugged (runs.step_of (socket_of b k).state step) (refuses 63) → Fit (box_after b k o)
outcome_fit b k h step bytes o e = go (socket_of b k).plugged refl
  where
    go : (p : Bool) → (socket_of b k).plugged ≡ p → Fit (box_after b k o)
    go false f = rw (e ∙ no _ _ f) (rw (kept_socket b k) h)
    go true f = rw (e ∙ yes _ _ f) (put_fit b k h (stepped b k h step f) (stepped_sound b k h step f bytes) (stepped_count b k h step f))

empty_fit : (b : Duet) (k : Side) → Fit b → Fit (with_socket b k empty_socket)
unfolding sound_socket controls_on
empty_fit b k h = put_fit b k h empty_socket refl (let l = within b k h in omega arith)

unplug_fit : (b : Duet) (k : Side) → Fit b → Fit (unplug_answer b k).duet
unfolding unplug_answer
unplug_fit b k h = go (sound_duet b) (socket_of b k).plugged
  where
    go : (x y : Bool) → Fit (pick x (pick y (record { number = 0; written = 0; duet = with_socket b k empty_socket }) (refusal b 63)) (refusal b 30)).duet
    go true true = empty_fit b k h
    go true false = h
    go false y = h

pub load_came : (b : Duet) (k : Side) → Fit b → (key : Key) (range : Range) (w : ℕ)
    → load_in b k key.unit key.channel key.selector range w
    ≡ pick (socket_of b k).plugged (load_of (socket_of b k).state key.unit key.channel key.selector range w) (refuses 63)
unfolding load_in loaded_on
load_came b k h key range w = yes _ _ h

pub request_came : (b : Duet) (k : Side) → Fit b → (s d : List ℕ) (room : ℕ) → addressee_of (asked_of s) ≡ At k
    → request_in b s d room ≡ pick (socket_of b k).plugged (request_of (socket_of b k).state (own_setup (socket_of b k).state.control s) d room) (refuses 63)
unfolding request_in handed_to
request_came b k h s d room e = yes _ _ h ∙ ap (λ (z : Addressee). asked_on b z s d room) e

answered_fit : (b : Duet) → Fit b → (s d y : List ℕ) → Bytes d → (a : Addressee) → addressee_of (asked_of s) ≡ a
    → Fit (answer_for b a (request_in b s d (length y))).duet
unfolding answer_in
answered_fit b h s d y bytes (Nobody n) e = h
answered_fit b h s d y bytes (At j) e =
    outcome_fit b j h (single-request (own_setup (socket_of b j).state.control s) d (length y)) bytes (request_in b s d (length y)) (request_came b j h s d (length y) e)

pub fit_next : (b : Duet) (x : Step) → Fit b → Bytes (sent_by x) → Fit (box_next b x)
fit_next b (plug k s d) h w = go (plug_of b k s (length d)) refl
  where
    go : (o : Plugging) → plug_of b k s (length d) ≡ o → Fit (duet_after b k o)
    go (refused n p) e = h
    go (let_in r) e = plugged_fit b k h s (length d) r (was_let_in b k s (length d) r e)
fit_next b (unplug k) h w = unplug_fit b k h
fit_next b (load k key range w) h bytes =
    outcome_fit b k h (single-load key range w) (λ i. omega arith) (load_in b k key.unit key.channel key.selector range w) (load_came b k h key range w)
fit_next b (request s d y) h bytes = answered_fit b h s d y bytes (addressee_of (asked_of s)) refl

pub fit_run : (run : List Step) (b : Duet) → Fit b → Carried run → Fit (box_after_run b run)
unfolding box_after_run
fit_run [] b h c = h
fit_run (x ∷ run) b h c = fit_run run (box_next b x) (fit_next b x h (c x (Memᴰ.head refl))) (λ y m. c y (Memᴰ.tail m))
