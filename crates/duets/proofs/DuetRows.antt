-- The rows of the duet box, proved.
--   reads_box   ==  the test of the box decides 30's sentence
--   duet_rows   ==  THE THEOREM
use Prim.Native.Nat.{ℕ, ◌+◌, ◌≤◌, ◌<◌}
use mathlib.Core.Path.{◌≡◌, refl, sym, ap, ◌∙◌, subst}
use mathlib.Core.Bool.{Bool, true, false, ◌&&◌}
use mathlib.Core.List.{List, []}
use mathlib.Core.Logic.{inl, inr}
use native.Mathlib.Omega.{arith}
use lib.Dec.{eqb, leb}
use lib.ListN.{length}
use Rattle.ground.specs.Pick.{pick, Reads, reads_same, reads_and, reads_eq, reads_le, true≠false}
use Rattle.ground.specs.Numbers.{byte}
use Rattle.setting.specs.declared.Range.{Range}
use Rattle.table.specs.Keys.{Key}
use Rattle.sound.specs.Sound.{sound_of}
use Rattle.sound.specs.Meaning.{Sound, sound_reads}
use Rattle.setup.specs.declared.Asked.{Asked}
use Rattle.setup.specs.Setup.{WellAsked, asked_of}
use Rattle.setup.specs.Asking as asking
use Rattle.setup.proofs.AskingLemmas as asking_laws
use Rattle.setup.specs.Asking.{Asking}
use Rattle.topology.specs.Reading.{reading_of}
use Rattle.deed.specs.Reply.{laid}
use Rattle.request.specs.Outcome.{Outcome, number_of, bytes_of}
use Rattle.request.specs.Outcome.Outcome.{refused as refuses, got, done}
use Rattle.request.specs.Load.{load_of}
use Rattle.request.specs.Request.{request_of}
use Rattle.runs.specs.RequestRows.{Row, given, passed, NoRow, request_rows}
use Rattle.runs.proofs.Rows.{request_rows_lem, load_rows_lem, request_row_one, load_row_one}
use Rattle.sides.specs.declared.Side.{Side}
use Rattle.sides.specs.declared.Side.TheVariants.{Left, Right}
use Rattle.sides.specs.declared.Addressee.{Addressee}
use Rattle.sides.specs.declared.Addressee.TheVariants.{Nobody, At}
use Rattle.sides.specs.Sides.{most_together, addressee_by, addressee_of, own_setup}
use Rattle.duet.specs.declared.Socket.{Socket}
use Rattle.duet.specs.declared.Duet.{Duet}
use Rattle.duet.specs.Box.{other_side, socket_of, with_socket, empty_socket, controls_on, together, sound_socket, sound_duet}
use Rattle.duet.specs.BoxLaws.{kept_socket}
use Rattle.admission.proofs.PluggingLemmas.{plug_cases}
use Rattle.duet.specs.Coming.{refusal, unplug_answer}
use Rattle.admission.specs.Plugging.{Plugging, plug_of, duet_after}
use Rattle.admission.specs.Plugging.Plugging.{refused, let_in}
use Rattle.duet.specs.Asking.{handed_to, asked_on, request_in, loaded_on, load_in, box_after, answer_in, answer_for}
use Rattle.duets.specs.Steps.{Step, presented_for, seen_plug, seen_in, box_next}
use Rattle.duets.specs.Steps.Step.{plug, unplug, load, request}
use Rattle.duets.specs.DuetRows.{SoundBox, plug_rows, unplug_rows, side_load_rows, EmptyNamed, OnSide, side_request_rows, number_in, PlugPlace, lent_by, DuetRows}

reads_socket : (x : Socket) → Reads (sound_socket x) (x.plugged ≡ true → Sound x.state.table)
unfolding sound_socket
reads_socket x = go x.plugged
  where
    go : (p : Bool) → Reads (pick p (sound_of x.state.table) true) (p ≡ true → Sound x.state.table)
    go true = reads_same (sound_reads x.state.table) (λ h e. h) (λ h. h refl)
    go false = record { says = λ e f. absurd (true≠false (sym f)); denies = λ e h. true≠false e }

pub reads_box : (b : Duet) → Reads (sound_duet b) (SoundBox b)
unfolding sound_duet
reads_box b =
    reads_same
    (reads_and (leb (together b) most_together) (sound_socket b.left && sound_socket b.right) (reads_le (together b) most_together) (reads_and (sound_socket b.left) (sound_socket b.right) (reads_socket b.left) (reads_socket b.right)))
    (λ h. record { each = both h.1.0 h.1.1; few = h.0 })
    (λ h. (h.few, (h.each Left, h.each Right)))
  where
    both : (b.left.plugged ≡ true → Sound b.left.state.table) → (b.right.plugged ≡ true → Sound b.right.state.table)
        → (k : Side) → (socket_of b k).plugged ≡ true → Sound (socket_of b k).state.table
    both l r Left = l
    both l r Right = r

plug_rows_lem : (b : Duet) (k : Side) (s : List ℕ) (room : ℕ) → plug_rows b k s room (number_in (plug_of b k s room))
plug_rows_lem b k s room =
    rw (plug_cases b k s room)
    (go (sound_duet b) (reads_box b) (socket_of b k).plugged refl (eqb (reading_of s room).number 0) (reads_eq (reading_of s room).number 0) (leb (met + (reading_of s room).controls) most_together) (reads_le (met + (reading_of s room).controls) most_together))
  where
    met : ℕ
    met = controls_on (socket_of b (other_side k))

    go : (x : Bool) → Reads x (SoundBox b) → (y : Bool) → (socket_of b k).plugged ≡ y → (z : Bool) → Reads z ((reading_of s room).number ≡ 0)
        → (v : Bool) → Reads v (controls_on (socket_of b (other_side k)) + (reading_of s room).controls ≤ most_together)
        → plug_rows b k s room (number_in (pick x (pick y (refused 61 0) (pick z (pick v (let_in (reading_of s room)) (refused 62 0)) (refused (reading_of s room).number (reading_of s room).place))) (refused 30 0)))
    go false f y e z g v h = given (f.denies refl) refl
    go true f true e z g v h = passed (λ n. n (f.says refl)) (given e refl)
    go true f false e false g v h = passed (λ n. n (f.says refl)) (passed (λ t. true≠false (sym t ∙ e)) (given (g.denies refl) refl))
    go true f false e true g false h =
        passed (λ n. n (f.says refl)) (passed (λ t. true≠false (sym t ∙ e)) (passed (λ n. n (g.says refl)) (given (let q = h.denies refl in omega_out q) refl)))
      where
        omega_out : (controls_on (socket_of b (other_side k)) + (reading_of s room).controls ≤ most_together → ⊥)
            → most_together < controls_on (socket_of b (other_side k)) + (reading_of s room).controls
        omega_out q = omega arith
    go true f false e true g true h =
        passed (λ n. n (f.says refl)) (passed (λ t. true≠false (sym t ∙ e)) (passed (λ n. n (g.says refl)) (passed (λ l. let q = h.says refl in omega arith) refl)))

unplug_rows_lem : (b : Duet) (k : Side) → unplug_rows b k (unplug_answer b k).number
unfolding unplug_answer
unplug_rows_lem b k = go (sound_duet b) (reads_box b) (socket_of b k).plugged refl
  where
    go : (x : Bool) → Reads x (SoundBox b) → (y : Bool) → (socket_of b k).plugged ≡ y
        → unplug_rows b k (pick x (pick y (record { number = 0; written = 0; duet = with_socket b k empty_socket }) (refusal b 63)) (refusal b 30)).number
    go false f y e = given (f.denies refl) refl
    go true f false e = passed (λ n. n (f.says refl)) (given e refl)
    go true f true e = passed (λ n. n (f.says refl)) (passed (λ t. true≠false (sym e ∙ t)) refl)

side_load_rows_lem : (b : Duet) (k : Side) (key : Key) (range : Range) (w : ℕ)
    → side_load_rows b k key range w (number_of (load_in b k key.unit key.channel key.selector range w))
unfolding load_in loaded_on
side_load_rows_lem b k key range w = go (sound_duet b) (reads_box b) (socket_of b k).plugged refl
  where
    go : (x : Bool) → Reads x (SoundBox b) → (y : Bool) → (socket_of b k).plugged ≡ y
        → side_load_rows b k key range w (number_of (pick x (pick y (load_of (socket_of b k).state key.unit key.channel key.selector range w) (refuses 63)) (refuses 30)))
    go false f y e = given (f.denies refl) refl
    go true f false e = passed (λ n. n (f.says refl)) (given e refl)
    go true f true e = passed (λ n. n (f.says refl)) (passed (λ t. true≠false (sym e ∙ t)) (load_rows_lem (socket_of b k).state key range w))

one_side : (k j : Side) → presented_for k ≡ presented_for j → k ≡ j
one_side Left Left e = refl
one_side Left Right e = absurd (omega arith)
one_side Right Left e = absurd (omega arith)
one_side Right Right e = refl

-- a presented number that is a side's is 0 or 1
is_side : (s : List ℕ) (k : Side) → byte s 4 ≡ presented_for k → ((byte s 4 ≡ 0 → ⊥) × (byte s 4 ≡ 1 → ⊥)) → ⊥
is_side s Left e n = n.0 e
is_side s Right e n = n.1 e

abbrev Behind31 : Duet → List ℕ → List ℕ → ℕ → ℕ → Type 0
Behind31 b s d room = Row 63 (EmptyNamed b s) (Row 32 ((byte s 4 ≡ 0 → ⊥) × (byte s 4 ≡ 1 → ⊥)) (OnSide b s d room))

handed_rows : (b : Duet) (s d : List ℕ) (room : ℕ) (k : Side) → byte s 4 ≡ presented_for k → Behind31 b s d room (number_of (handed_to (socket_of b k) s d room))
unfolding handed_to
handed_rows b s d room k e = go (socket_of b k).plugged refl
  where
    go : (y : Bool) → (socket_of b k).plugged ≡ y
        → Behind31 b s d room (number_of (pick y (request_of (socket_of b k).state (own_setup (socket_of b k).state.control s) d room) (refuses 63)))
    go false f = given (record { side = k; named = e; vacant = f }) refl
    go true f =
        passed (λ v. true≠false (sym f ∙ ap (λ (j : Side). (socket_of b j).plugged) (one_side k v.side (sym e ∙ v.named)) ∙ v.vacant))
        (passed (is_side s k e)
        (record { side = k; named = e; rows = request_rows_lem (socket_of b k).state (own_setup (socket_of b k).state.control s) d room }))

named_rows : (b : Duet) (s d : List ℕ) (room : ℕ) → Behind31 b s d room (number_of (asked_on b (addressee_by (byte s 4)) s d room))
unfolding addressee_by
named_rows b s d room = go (eqb (byte s 4) 0) (reads_eq (byte s 4) 0) (eqb (byte s 4) 1) (reads_eq (byte s 4) 1)
  where
    elsewhere : (byte s 4 ≡ 0 → ⊥) → (byte s 4 ≡ 1 → ⊥) → (k : Side) → byte s 4 ≡ presented_for k → ⊥
    elsewhere m n k e = is_side s k e (m, n)

    go : (x : Bool) → Reads x (byte s 4 ≡ 0) → (y : Bool) → Reads y (byte s 4 ≡ 1)
        → Behind31 b s d room (number_of (asked_on b (pick x (At Left) (pick y (At Right) (Nobody 32))) s d room))
    go true f y g = handed_rows b s d room Left (f.says refl)
    go false f true g = handed_rows b s d room Right (g.says refl)
    go false f false g = passed (λ v. elsewhere (f.denies refl) (g.denies refl) v.side v.named) (given (f.denies refl, g.denies refl) refl)

asked_rows_lem : (b : Duet) (s d : List ℕ) (room : ℕ) {v : Asked} → Asking s v
    → Row 31 (WellAsked s → ⊥) (Behind31 b s d room) (number_of (asked_on b (addressee_of v) s d room))
asked_rows_lem b s d room (asking.none n) = given n refl
asked_rows_lem b s d room (asking.sets l a) = passed (λ n. n (l, inl a)) (named_rows b s d room)
asked_rows_lem b s d room (asking.gets part l a c) = passed (λ n. n (l, inr a)) (named_rows b s d room)

side_request_rows_lem : (b : Duet) (s d : List ℕ) (room : ℕ) → side_request_rows b s d room (number_of (request_in b s d room))
unfolding request_in
side_request_rows_lem b s d room = go (sound_duet b) (reads_box b)
  where
    go : (x : Bool) → Reads x (SoundBox b) → side_request_rows b s d room (number_of (pick x (asked_on b (addressee_of (asked_of s)) s d room) (refuses 30)))
    go false f = given (f.denies refl) refl
    go true f = passed (λ n. n (f.says refl)) (asked_rows_lem b s d room (asking_laws.asking s))

-- the rows say one number
row_one : {n : ℕ} {When : Type 0} {rest : ℕ → Type 0} → ((i j : ℕ) → rest i → rest j → i ≡ j) → (i j : ℕ) → Row n When rest i → Row n When rest j → i ≡ j
row_one h i j (given w e) (given v f) = e ∙ sym f
row_one h i j (given w e) (passed n r) = absurd (n w)
row_one h i j (passed n r) (given w e) = absurd (n w)
row_one h i j (passed n r) (passed m q) = h i j r q

none_one : (i j : ℕ) → NoRow i → NoRow j → i ≡ j
none_one i j e f = e ∙ sym f

on_side_one : (b : Duet) (s d : List ℕ) (room i j : ℕ) → OnSide b s d room i → OnSide b s d room j → i ≡ j
on_side_one b s d room i j x y =
    request_row_one (socket_of b x.side).state (own_setup (socket_of b x.side).state.control s) d room i j x.rows
    (subst (λ (k : Side). request_rows (socket_of b k).state (own_setup (socket_of b k).state.control s) d room j) (one_side y.side x.side (sym y.named ∙ x.named)) y.rows)

-- the reader's place, or none
plug_places : (b : Duet) (k : Side) (s : List ℕ) (room n p : ℕ) → plug_of b k s room ≡ refused n p → PlugPlace s room n p
plug_places b k s room n p e =
    go (sound_duet b) (socket_of b k).plugged (eqb (reading_of s room).number 0) (leb (controls_on (socket_of b (other_side k)) + (reading_of s room).controls) most_together)
    (sym (plug_cases b k s room) ∙ e)
  where
    go : (x y z v : Bool)
        → pick x (pick y (refused 61 0) (pick z (pick v (let_in (reading_of s room)) (refused 62 0)) (refused (reading_of s room).number (reading_of s room).place))) (refused 30 0) ≡ refused n p
        → PlugPlace s room n p
    go false y z v e = let i : 30 ≡ n = cc in let j : 0 ≡ p = cc in inl (inl (sym i), sym j)
    go true true z v e = let i : 61 ≡ n = cc in let j : 0 ≡ p = cc in inl (inr (inl (sym i)), sym j)
    go true false true true e = absurd (let i : ◌≡◌ {A = ℕ} 0 1 = cc in omega arith)
    go true false true false e = let i : 62 ≡ n = cc in let j : 0 ≡ p = cc in inl (inr (inr (sym i)), sym j)
    go true false false v e = let i : (reading_of s room).number ≡ n = cc in let j : (reading_of s room).place ≡ p = cc in inr (sym i, sym j)

-- what an unplugging leaves is the other side's
emptied : (b : Duet) (k : Side) → together (with_socket b k empty_socket) ≡ controls_on (socket_of b (other_side k))
unfolding controls_on
emptied b Left = omega arith
emptied b Right = omega arith

room_given_back : (b : Duet) (k : Side) → (unplug_answer b k).number ≡ 0 → together (unplug_answer b k).duet ≡ controls_on (socket_of b (other_side k))
unfolding unplug_answer
room_given_back b k = go (sound_duet b) (socket_of b k).plugged
  where
    go : (x y : Bool) → (pick x (pick y (record { number = 0; written = 0; duet = with_socket b k empty_socket }) (refusal b 63)) (refusal b 30)).number ≡ 0
        → together (pick x (pick y (record { number = 0; written = 0; duet = with_socket b k empty_socket }) (refusal b 63)) (refusal b 30)).duet ≡ controls_on (socket_of b (other_side k))
    go true true e = emptied b k
    go true false e = absurd (omega arith)
    go false y e = absurd (omega arith)

-- a refused step leaves all as it stood
plug_keeps : (b : Duet) (k : Side) (s d : List ℕ) (o : Plugging) → ((seen_plug s d o).number ≡ 0 → ⊥) → (duet_after b k o ≡ b) × ((seen_plug s d o).lent ≡ d)
plug_keeps b k s d (refused n p) h = (refl, refl)
plug_keeps b k s d (let_in r) h = absurd (h refl)

unplug_keeps : (b : Duet) (k : Side) → ((unplug_answer b k).number ≡ 0 → ⊥) → (unplug_answer b k).duet ≡ b
unfolding unplug_answer
unplug_keeps b k = go (sound_duet b) (socket_of b k).plugged
  where
    go : (x y : Bool) → ((pick x (pick y (record { number = 0; written = 0; duet = with_socket b k empty_socket }) (refusal b 63)) (refusal b 30)).number ≡ 0 → ⊥)
        → (pick x (pick y (record { number = 0; written = 0; duet = with_socket b k empty_socket }) (refusal b 63)) (refusal b 30)).duet ≡ b
    go true true h = absurd (h refl)
    go true false h = refl
    go false y h = refl

outcome_keeps : (b : Duet) (k : Side) (l : List ℕ) (o : Outcome) → (number_of o ≡ 0 → ⊥) → (box_after b k o ≡ b) × (laid (bytes_of o) l ≡ l)
outcome_keeps b k l (refuses n) h = (kept_socket b k, refl)
outcome_keeps b k l (got bytes) h = absurd (h refl)
outcome_keeps b k l (done t) h = absurd (h refl)

answer_keeps : (b : Duet) (a : Addressee) (l : List ℕ) (o : Outcome) → (number_of o ≡ 0 → ⊥) → ((answer_for b a o).duet ≡ b) × (laid (bytes_of o) l ≡ l)
unfolding answer_in
answer_keeps b (At k) l o h = outcome_keeps b k l o h
answer_keeps b (Nobody n) l o h = (refl, (outcome_keeps b Left l o h).1)

step_keeps : (b : Duet) (x : Step) → ((seen_in b x).number ≡ 0 → ⊥) → (box_next b x ≡ b) × ((seen_in b x).lent ≡ lent_by x)
step_keeps b (plug k s d) h = plug_keeps b k s d (plug_of b k s (length d)) h
step_keeps b (unplug k) h = (unplug_keeps b k h, refl)
step_keeps b (load k key range w) h = outcome_keeps b k [] (load_in b k key.unit key.channel key.selector range w) h
step_keeps b (request s d l) h = answer_keeps b (addressee_of (asked_of s)) l (request_in b s d (length l)) h

-- THE THEOREM
pub duet_rows : DuetRows
duet_rows = record {
  plugs = plug_rows_lem;
  unplugs = unplug_rows_lem;
  loads = side_load_rows_lem;
  requests = side_request_rows_lem;
  one_plug = λ b k s room. row_one (row_one (row_one (row_one none_one)));
  one_unplug = λ b k. row_one (row_one none_one);
  one_load = λ b k key range w. row_one (row_one (load_row_one (socket_of b k).state key range w));
  one_request = λ b s d room. row_one (row_one (row_one (row_one (on_side_one b s d room))));
  places = plug_places;
  keeps = step_keeps;
  room_back = room_given_back;
}
