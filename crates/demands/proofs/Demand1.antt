-- Demand 1, proved.
--   refusing, refused_answer  ==  where the answer's number is not 0 the verdict's is not, and the answer is what a refusal of that verdict answers
use Prim.Native.Nat.{ℕ}
use mathlib.Core.Path.{◌≡◌, refl, sym, ap, ◌∙◌}
use mathlib.Core.List.{List}
use mathlib.Core.Logic.{◌⊎◌, inl, inr, ◌↔◌}
use lib.ListN.{length}
use lib.Dec.{eqb}
use borrow.Author.Tests.{ne_eqb}
use Rattle.ground.specs.declared.Refusal.{Refusal}
use Rattle.ground.specs.Pick.{no, decided, reads_eq}
use Rattle.topology.specs.declared.Reading.{Reading}
use Rattle.topology.specs.Reading.{verdict_of, refused_reading, reading_of, sheet_of}
use Rattle.reader.specs.Refusals.{Refused, Shown}
use Rattle.reader.proofs.Exactly.{accepted_exactly, refused_exactly}
use Rattle.reader.proofs.Shows.{number_told}
use Rattle.request.specs.declared.State.{State}
use Rattle.request.specs.declared.Answer.{Answer}
use Rattle.deed.specs.Reply.{laid}
use Rattle.request.specs.Outcome.{Outcome, number_of, bytes_of, answer_of, Answered}
use Rattle.request.specs.Outcome.Outcome.{refused, got, done}
use Rattle.request.specs.Load.{load_of}
use Rattle.request.specs.Request.{request_of}
use Rattle.runs.specs.RequestRows.{request_rows, load_rows}
use Rattle.runs.proofs.Rows.{request_rows_lem, load_rows_lem, step_rows_lem, step_row_one}
use Rattle.runs.proofs.Refusals.{refused_keeps, answered_one}
use Rattle.demands.specs.Demand1.{RefusedReading, RefusedAnswer, Agree, Demand1}

-- the answer's number and place are the verdict's
module _ (s : List ℕ) (room : ℕ) where
  accepts : ((reading_of s room).number ≡ 0) ↔ Shown s room
  accepts =
      (λ e. (accepted_exactly s room).0 (sym (number_told s room) ∙ e), λ t. number_told s room ∙ (accepted_exactly s room).1 t)

  module _ (n : (reading_of s room).number ≡ 0 → ⊥) where
    pub refusing : (verdict_of s room).number ≡ 0 → ⊥
    refusing e = n (number_told s room ∙ e)

    pub refused_answer : reading_of s room ≡ refused_reading (verdict_of s room)
    unfolding reading_of
    refused_answer = no _ _ (ne_eqb _ _ refusing)

    place_told : (reading_of s room).place ≡ (verdict_of s room).place
    unfolding refused_reading
    place_told = ap (λ (r : Reading). r.place) refused_answer

    told : verdict_of s room ≡ record { number = (reading_of s room).number; place = (reading_of s room).place }
    told = rw (number_told s room, place_told)

  exactly : (n p : ℕ) → (n ≡ 0 → ⊥) → (((reading_of s room).number ≡ n) × ((reading_of s room).place ≡ p)) ↔ Refused s room n p
  exactly n p z = (to, of)
    where
      to : ((reading_of s room).number ≡ n) × ((reading_of s room).place ≡ p) → Refused s room n p
      to (e, f) =
          (refused_exactly s room n p z).0
          (told (λ q. z (sym e ∙ q))
          ∙ ap (λ (i : ℕ). record { number = i; place = (reading_of s room).place }) e
          ∙ ap (λ (i : ℕ). record { number = n; place = i }) f)

      of : Refused s room n p → ((reading_of s room).number ≡ n) × ((reading_of s room).place ≡ p)
      of r =
          let v = (refused_exactly s room n p z).1 r in
          let m : (reading_of s room).number ≡ n = number_told s room ∙ ap (λ (x : Refusal). x.number) v in
          (m, place_told (λ q. z (sym m ∙ q)) ∙ ap (λ (x : Refusal). x.place) v)

module _ (s d : List ℕ) where
  refuses : ((reading_of s (length d)).number ≡ 0 → ⊥) → RefusedReading s d
  unfolding refused_reading sheet_of
  refuses n =
      let a = refused_answer s (length d) n in
      record {
        named = (exactly s (length d) (reading_of s (length d)).number (reading_of s (length d)).place n).0 (refl, refl);
        interface = ap (λ (r : Reading). r.control) a;
        no_entities = ap (λ (r : Reading). r.entities) a;
        no_controls = ap (λ (r : Reading). r.controls) a;
        no_table = ap (λ (r : Reading). r.table) a;
        sheet = no _ _ (ne_eqb _ _ (refusing s (length d) n));
      }

  answers : (((reading_of s (length d)).number ≡ 0) × Shown s (length d)) ⊎ RefusedReading s d
  answers = go (decided (eqb (reading_of s (length d)).number 0) (reads_eq (reading_of s (length d)).number 0))
    where
      go : ((reading_of s (length d)).number ≡ 0) ⊎ ((reading_of s (length d)).number ≡ 0 → ⊥)
          → (((reading_of s (length d)).number ≡ 0) × Shown s (length d)) ⊎ RefusedReading s d
      go (inl e) = inl (e, (accepts s (length d)).0 e)
      go (inr n) = inr (refuses n)

answer_refuses : (Rows : ℕ → Type 0) (st : State) (o : Outcome) → Rows (number_of o) → (r : Answer) → r ≡ answer_of st o → (r.number ≡ 0 → ⊥)
    → RefusedAnswer Rows st r
unfolding answer_of
answer_refuses Rows st (refused n) row r e h = record { row = rw e row; none_written = ap (λ (x : Answer). x.written) e; state = ap (λ (x : Answer). x.state) e }
answer_refuses Rows st (got bytes) row r e h = absurd (h (ap (λ (x : Answer). x.number) e))
answer_refuses Rows st (done u) row r e h = absurd (h (ap (λ (x : Answer). x.number) e))

-- two calls that differ in what the lent reply held
unread : (st : State) (s d b c : List ℕ) → length b ≡ length c → (r q : Answer) (a e : List ℕ)
    → Answered st (request_of st s d (length b)) b r a → Answered st (request_of st s d (length c)) c q e → (r ≡ q) × Agree r.written b a c e
unfolding answer_of
unread st s d b c l r q a e x y =
    let o : request_of st s d (length c) ≡ request_of st s d (length b) = ap (λ (m : ℕ). request_of st s d m) (sym l) in (
      x.result ∙ ap (answer_of st) (sym o) ∙ sym y.result,
      record {
        bytes = bytes_of (request_of st s d (length b));
        counted = sym (ap (λ (z : Answer). z.written) x.result);
        left = x.lent;
        right = y.lent ∙ ap (λ (z : Outcome). laid (bytes_of z) c) o;
      },
    )

pub demand_1 : Demand1
unfolding answer_of
demand_1 = record {
  reader_answers = answers;
  reader_refuses = refuses;
  reader_accepts = accepts;
  reader_exactly = exactly;
  load_refuses = λ st k range w r e h.
      answer_refuses (load_rows st k range w) st (load_of st k.unit k.channel k.selector range w) (load_rows_lem st k range w) r e h;
  request_refuses = λ st setup «data» b r a k h.
      let o = request_of st setup «data» (length b) in (
        answer_refuses (request_rows st setup «data» (length b)) st o (request_rows_lem st setup «data» (length b)) r k.result h,
        k.lent ∙ (refused_keeps st.table b o (λ e. h (ap (λ (x : Answer). x.number) k.result ∙ e))).reply,
      );
  numbers = step_rows_lem;
  one_number = step_row_one;
  one_answer = λ st setup «data» b r q a e. answered_one st (request_of st setup «data» (length b)) b r q a e;
  reply_unread = unread;
}
