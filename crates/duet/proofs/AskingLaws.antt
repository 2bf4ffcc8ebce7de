-- Loads and requests on a side: each way out of the code, once over the side.
--   refused_answer  ==  a refusal's answer leaves the box as it stood
--   given_answer    ==  what the request layer answers on a side that has a microphone (answer_of is the word of its contract)
--   Guarded o st    ==  o is 30 where 30 has something against the state's table, as each outcome of the request layer is
--   load_guarded, request_guarded  ==  so it is of a load and of a request: 30 is the first row of what the request layer promises of their numbers
--   nobody_there, somebody_there  ==  what it says of a side that no state, or a state, is found there
--   load_barred, load_handed  ==  the ways of a load
--   ask_barred, ask_handed    ==  the ways of a request for a side
--   nobody_thirty, nobody_refused, side_asked  ==  the ways of a request
use Prim.Native.Nat.{ℕ}
use mathlib.Core.Path.{◌≡◌, refl, sym, ap, ◌∙◌}
use mathlib.Core.Bool.{Bool, true, false, not}
use mathlib.Core.List.{List}
use native.Mathlib.Omega.{arith}
use lib.ListN.{length}
use borrow.Author.Tests.{not-true, not-false}
use Rattle.std.specs.declared.result.Result.{Result}
use Rattle.std.specs.declared.result.Result.TheVariants.{Ok, Err}
use Rattle.ground.specs.Pick.{pick, yes, no}
use Rattle.setting.specs.declared.Range.{Range}
use Rattle.sound.specs.Sound.{sound_of}
use Rattle.sound.specs.Meaning.{Sound, sound_reads}
use Rattle.deed.specs.Reply.{laid}
use Rattle.setup.specs.declared.Asked.{Asked}
use Rattle.setup.specs.Setup.{asked_of}
use Rattle.request.specs.declared.State.{State}
use Rattle.request.specs.declared.Answer as request
use Rattle.request.specs.Outcome.{Outcome, number_of, bytes_of, answer_of, Answered}
use Rattle.request.specs.Outcome.Outcome.{refused, got, done}
use Rattle.request.specs.Load.{load_of}
use Rattle.request.specs.Request.{request_of}
use Rattle.runs.specs.RequestRows.{Row, given, passed, load_rows, request_rows}
use Rattle.runs.proofs.Rows.{load_rows_lem, request_rows_lem}
use Rattle.sides.specs.declared.Side.{Side}
use Rattle.sides.specs.declared.Addressee.{Addressee}
use Rattle.sides.specs.declared.Addressee.TheVariants.{Nobody, At}
use Rattle.sides.specs.Sides.{addressee_of, own_setup}
use Rattle.duet.specs.declared.Duet.{Duet}
use Rattle.duet.specs.declared.Answer.{Answer}
use Rattle.duet.specs.Box.{socket_of, with_socket, sound_beside, sound_duet}
use Rattle.duet.specs.BoxLaws.{kept_socket, unsound_beside, sound_empty, own_or_rest}
use Rattle.duet.specs.Coming.{refusal}
use Rattle.duet.specs.Asking.{occupant_of, handed_to, loaded_on, load_in, asked_on, request_on, request_in, answer_in, answer_for, answered_by, HandedDown, AnsweredIn}

pub refused_answer : (b : Duet) (k : Side) (n : ℕ) (o : Outcome) → o ≡ refused n → refusal b n ≡ answer_in b k o
unfolding answer_in
refused_answer b k n o e = ap (λ (x : Duet). record { number = n; written = 0; duet = x }) (sym (kept_socket b k)) ∙ sym (ap (answer_in b k) e)

pub given_answer : (b : Duet) (k : Side) → (socket_of b k).plugged ≡ true → (o : Outcome) → answered_by b k (answer_of (socket_of b k).state o) ≡ answer_in b k o
unfolding answer_in answer_of
given_answer b k e o = ap (λ (p : Bool). answer_in_with p) (sym e)
  where
    answer_in_with : Bool → Answer
    answer_in_with p = record {
      number = (answer_of (socket_of b k).state o).number;
      written = (answer_of (socket_of b k).state o).written;
      duet = with_socket b k (record { plugged = p; state = (answer_of (socket_of b k).state o).state });
    }

abbrev pub Guarded : Outcome → State → Type 0
Guarded o st = sound_of st.table ≡ false → o ≡ refused 30

by_number : (n : ℕ) → (n ≡ 0 → ⊥) → (o : Outcome) → number_of o ≡ n → o ≡ refused n
by_number n h (refused m) e = ap refused e
by_number n h (got bytes) e = absurd (h (sym e))
by_number n h (done t) e = absurd (h (sym e))

first_row : (st : State) (o : Outcome) {rest : ℕ → Type 0} → Row 30 (Sound st.table → ⊥) rest (number_of o) → Guarded o st
first_row st o (given n e) f = by_number 30 (λ z. omega arith) o e
first_row st o (passed n r) f = absurd (n ((sound_reads st.table).denies f))

pub load_guarded : (st : State) (u ch s : ℕ) (range : Range) (w : ℕ) → Guarded (load_of st u ch s range w) st
unfolding load_rows
load_guarded st u ch s range w = first_row st (load_of st u ch s range w) (load_rows_lem st (record { unit = u; channel = ch; selector = s }) range w)

pub request_guarded : (st : State) (s d : List ℕ) (room : ℕ) → Guarded (request_of st s d room) st
unfolding request_rows
request_guarded st s d room = first_row st (request_of st s d room) (request_rows_lem st s d room)

module _ (b : Duet) (k : Side) where
  pub nobody_there : (n : ℕ) → Err n ≡ occupant_of b k → (o : Outcome) → pick (sound_duet b) (pick (socket_of b k).plugged o (refused 63)) (refused 30) ≡ refused n
  unfolding occupant_of
  nobody_there n e o = go (sound_beside b k) refl (socket_of b k).plugged refl e
    where
      go : (x : Bool) → sound_beside b k ≡ x → (y : Bool) → (socket_of b k).plugged ≡ y → ◌≡◌ {A = Result State ℕ} (Err n) (pick x (pick y (Ok (socket_of b k).state) (Err 63)) (Err 30))
          → pick (sound_duet b) (pick (socket_of b k).plugged o (refused 63)) (refused 30) ≡ refused n
      go true s true t e = let z : ◌≡◌ {A = ℕ} 0 1 = cc in absurd (omega arith)
      go true s false t e = let z : n ≡ 63 = cc in yes _ _ (sound_empty b k s t) ∙ no _ _ t ∙ ap refused (sym z)
      go false s y t e = let z : n ≡ 30 = cc in no _ _ (unsound_beside b k s) ∙ ap refused (sym z)

  pub somebody_there : (st : State) → Ok st ≡ occupant_of b k → (sound_beside b k ≡ true) × (((socket_of b k).plugged ≡ true) × (st ≡ (socket_of b k).state))
  unfolding occupant_of
  somebody_there st e = go (sound_beside b k) refl (socket_of b k).plugged refl e
    where
      go : (x : Bool) → sound_beside b k ≡ x → (y : Bool) → (socket_of b k).plugged ≡ y → ◌≡◌ {A = Result State ℕ} (Ok st) (pick x (pick y (Ok (socket_of b k).state) (Err 63)) (Err 30))
          → (sound_beside b k ≡ true) × (((socket_of b k).plugged ≡ true) × (st ≡ (socket_of b k).state))
      go true s true t e = let z : st ≡ (socket_of b k).state = cc in (s, (t, z))
      go true s false t e = let z : ◌≡◌ {A = ℕ} 0 1 = cc in absurd (omega arith)
      go false s y t e = let z : ◌≡◌ {A = ℕ} 0 1 = cc in absurd (omega arith)

module _ (b : Duet) (k : Side) (q : Result State ℕ) (h : q ≡ occupant_of b k) where
  module _ (u ch s : ℕ) (range : Range) (w : ℕ) (r : Answer) where
    pub load_barred : (n : ℕ) → q ≡ Err n → r ≡ refusal b n → r ≡ answer_in b k (load_in b k u ch s range w)
    unfolding load_in loaded_on
    load_barred n t e = e ∙ refused_answer b k n _ (nobody_there b k n (sym t ∙ h) (load_of (socket_of b k).state u ch s range w))

    pub load_handed : (st : State) → q ≡ Ok st → (p : request.Answer) → p ≡ answer_of st (load_of st u ch s range w)
        → r ≡ answered_by b k p → r ≡ answer_in b k (load_in b k u ch s range w)
    unfolding load_in loaded_on
    load_handed st t p g e =
        let c = somebody_there b k st (sym t ∙ h) in
        let o = load_of (socket_of b k).state u ch s range w in
        e
        ∙ ap (answered_by b k) (g ∙ ap (λ (y : State). answer_of y (load_of y u ch s range w)) c.1.1)
        ∙ given_answer b k c.1.0 o
        ∙ ap (answer_in b k) (sym (own_or_rest b k c.0 c.1.0 o (load_guarded (socket_of b k).state u ch s range w)))

  module _ (s d l : List ℕ) (r : Answer) where
    pub ask_barred : (n : ℕ) → q ≡ Err n → r ≡ refusal b n → HandedDown b k s d l r l
    unfolding handed_to
    ask_barred n t e =
        let st = (socket_of b k).state in
        let o : request_on b k s d (length l) ≡ refused n = nobody_there b k n (sym t ∙ h) (request_of st (own_setup st.control s) d (length l)) in
        record { result = e ∙ refused_answer b k n _ o; lent = ap (λ (y : Outcome). laid (bytes_of y) l) (sym o) }

    pub ask_handed : (st : State) → q ≡ Ok st → (own : List ℕ) → own ≡ own_setup st.control s → (p : request.Answer) (y : List ℕ)
        → Answered st (request_of st own d (length l)) l p y → r ≡ answered_by b k p → HandedDown b k s d l r y
    unfolding handed_to
    ask_handed st t own i p y g e =
        let c = somebody_there b k st (sym t ∙ h) in
        let x = (socket_of b k).state in
        let o = request_of x (own_setup x.control s) d (length l) in
        let j : request_on b k s d (length l) ≡ o = own_or_rest b k c.0 c.1.0 o (request_guarded x (own_setup x.control s) d (length l)) in
        let w : request_of st own d (length l) ≡ o = ap (λ (z : List ℕ). request_of st z d (length l)) i ∙ ap (λ (z : State). request_of z (own_setup z.control s) d (length l)) c.1.1 in
        record {
          result =
              e
              ∙ ap (answered_by b k) (g.result ∙ ap (answer_of st) w ∙ ap (λ (z : State). answer_of z o) c.1.1)
              ∙ given_answer b k c.1.0 o
              ∙ ap (answer_in b k) (sym j);
          lent = g.lent ∙ ap (λ (z : Outcome). laid (bytes_of z) l) (w ∙ sym j);
        }

module _ (b : Duet) (s d l : List ℕ) (r : Answer) (m : Asked) (g : m ≡ asked_of s) (v : Addressee) (j : v ≡ addressee_of m) where
  told : v ≡ addressee_of (asked_of s)
  told = j ∙ ap addressee_of g

  module _ (n : ℕ) (e : v ≡ Nobody n) (a : Bool) (h : a ≡ sound_duet b) where
    nobodys : (o : ℕ) → request_in b s d (length l) ≡ refused o → r ≡ refusal b o → AnsweredIn b s d l r l
    nobodys o i q = record {
      result = q ∙ ap (λ (z : Outcome). answer_for b (Nobody n) z) (sym i) ∙ ap (λ (z : Addressee). answer_for b z (request_in b s d (length l))) (sym e ∙ told);
      lent = ap (λ (z : Outcome). laid (bytes_of z) l) (sym i);
    }

    pub nobody_thirty : not a ≡ true → r ≡ refusal b 30 → AnsweredIn b s d l r l
    unfolding request_in
    nobody_thirty t = nobodys 30 (no _ _ (sym h ∙ not-true a t))

    pub nobody_refused : not a ≡ false → r ≡ refusal b n → AnsweredIn b s d l r l
    unfolding request_in
    nobody_refused t = nobodys n (yes _ _ (sym h ∙ not-false a t) ∙ ap (λ (z : Addressee). asked_on b z s d (length l)) (sym told ∙ e))

  pub side_asked : (k : Side) → v ≡ At k → (y : List ℕ) → HandedDown b k s d l r y → AnsweredIn b s d l r y
  unfolding request_in
  side_asked k e y q =
      let o : request_on b k s d (length l) ≡ request_in b s d (length l) = ap (λ (z : Addressee). pick (sound_duet b) (asked_on b z s d (length l)) (refused 30)) (sym e ∙ told) in
      record {
        result = q.result ∙ ap (answer_in b k) o ∙ ap (λ (z : Addressee). answer_for b z (request_in b s d (length l))) (sym e ∙ told);
        lent = q.lent ∙ ap (λ (z : Outcome). laid (bytes_of z) l) o;
      }
