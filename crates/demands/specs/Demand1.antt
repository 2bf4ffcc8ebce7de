-- Demand 1: "Each entry point takes every input there is, ends, and refuses bad input itself. A refusal comes only in a case that the
-- papers name, gives a number and, for descriptors, a place, and leaves the lent sheet, the lent reply and the table of controls as
-- they stood. Nothing handed back depends on the descriptor bytes after the call." That each entry point takes every input and ends is
-- its contract, which has no `requires`; here is what a refusal says and leaves. What is handed back is numbers: it equals a
-- definition over the inputs at the call, and holds no part of the lent bytes. The one exception is the duet box's stretch (document 02, No. 11), a part of
-- a lent configuration: crate extent, `stretch`.
--   RefusedReading s d  ==  what the reader answers and leaves where it refuses: the number and the place are those that the papers
--                           give, "interface number 0, zero counts and an empty table; the sheet keeps its bytes"
--   RefusedAnswer Rows st r  ==  what an answer r says where it refuses: the number of the first of the Rows that applies, nothing
--                               written, and st, the state as it stood
--   Agree n b a c e     ==  two replies, b that became a and c that became e, agree in the bytes written, n of them
--   Demand1             ==  of every configuration and sheet, the reader's number is 0, and the bytes are a configuration with room for
--                           its records, or it refuses so; "at no other time": it accepts exactly where they are such (reader_accepts),
--                           and gives a number and a place exactly where they are those of the first row that applies
--                           (reader_exactly); and every answer that the contract of a load or a request allows and
--                           whose number is not 0 refuses so, the request with the reply as it stood. In every state whatever the number is
--                           that of the first row that applies (numbers), and the rows say one number. Two results that the contract of a
--                           request allows are equal (one_answer), and they do not hang on what the reply held (reply_unread)
use Rattle.std.specs.Prelude.{ℕ, ◌≡◌, List, ◌⊎◌, ◌↔◌, length}
use Rattle.setting.specs.declared.Range.{Range}
use Rattle.table.specs.Controls.{empty_table}
use Rattle.table.specs.Keys.{Key}
use Rattle.topology.specs.Reading.{reading_of, sheet_of}
use Rattle.reader.specs.Refusals.{Refused, Shown}
use Rattle.request.specs.declared.State.{State}
use Rattle.request.specs.declared.Answer.{Answer}
use Rattle.deed.specs.Reply.{laid}
use Rattle.request.specs.Outcome.{number_of, answer_of, Answered}
use Rattle.request.specs.Load.{load_of}
use Rattle.request.specs.Request.{request_of}
use Rattle.runs.specs.Runs.{Step, step_of}
use Rattle.runs.specs.RequestRows.{request_rows, load_rows, step_rows}

pub record RefusedReading (s d : List ℕ) : Type 0 where
  pub named : Refused s (length d) (reading_of s (length d)).number (reading_of s (length d)).place
  pub interface : (reading_of s (length d)).control ≡ 0
  pub no_entities : (reading_of s (length d)).entities ≡ 0
  pub no_controls : (reading_of s (length d)).controls ≡ 0
  pub no_table : (reading_of s (length d)).table ≡ empty_table
  pub sheet : sheet_of s d ≡ d

pub record RefusedAnswer (Rows : ℕ → Type 0) (st : State) (r : Answer) : Type 0 where
  pub row : Rows r.number
  pub none_written : r.written ≡ 0
  pub state : r.state ≡ st

pub record Agree (n : ℕ) (b a c e : List ℕ) : Type 0 where
  pub bytes : List ℕ
  pub counted : length bytes ≡ n
  pub left : a ≡ laid bytes b
  pub right : e ≡ laid bytes c

pub record Demand1 : Type 0 where
  pub reader_answers : (s d : List ℕ) → (((reading_of s (length d)).number ≡ 0) × Shown s (length d)) ⊎ RefusedReading s d
  pub reader_refuses : (s d : List ℕ) → ((reading_of s (length d)).number ≡ 0 → ⊥) → RefusedReading s d
  pub reader_accepts : (s : List ℕ) (room : ℕ) → ((reading_of s room).number ≡ 0) ↔ Shown s room
  pub reader_exactly : (s : List ℕ) (room n p : ℕ) → (n ≡ 0 → ⊥)
      → (((reading_of s room).number ≡ n) × ((reading_of s room).place ≡ p)) ↔ Refused s room n p
  pub load_refuses : (st : State) (k : Key) (range : Range) (w : ℕ) (r : Answer)
      → r ≡ answer_of st (load_of st k.unit k.channel k.selector range w)
      → (r.number ≡ 0 → ⊥) → RefusedAnswer (load_rows st k range w) st r
  -- b is the reply at the call, a what it holds afterwards
  pub request_refuses : (st : State) (setup «data» b : List ℕ) (r : Answer) (a : List ℕ) → Answered st (request_of st setup «data» (length b)) b r a
      → (r.number ≡ 0 → ⊥) → RefusedAnswer (request_rows st setup «data» (length b)) st r × (a ≡ b)
  pub numbers : (st : State) (step : Step) → step_rows st step (number_of (step_of st step))
  pub one_number : (st : State) (step : Step) (m n : ℕ) → step_rows st step m → step_rows st step n → m ≡ n
  pub one_answer : (st : State) (setup «data» b : List ℕ) (r q : Answer) (a e : List ℕ)
      → Answered st (request_of st setup «data» (length b)) b r a → Answered st (request_of st setup «data» (length b)) b q e → (r ≡ q) × (a ≡ e)
  pub reply_unread : (st : State) (setup «data» b c : List ℕ) → length b ≡ length c → (r q : Answer) (a e : List ℕ)
      → Answered st (request_of st setup «data» (length b)) b r a → Answered st (request_of st setup «data» (length c)) c q e → (r ≡ q) × Agree r.written b a c e
