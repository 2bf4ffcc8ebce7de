-- Document 01, "What the contracts owe": "Turned away must be: a reader that refuses everything (demand 3), one that gives a single sheet
-- for all, or writes none (demands 2 and 3), a responder that stalls always or answers zero (2), one that stores the first Set and only
-- acknowledges later ones (2, over runs), and counts of entities or controls not taken from the bytes (2)." Each is shown of whatever
-- keeps the contract: functions that answer what the entry points' contracts say.
--   KeepsReading answers leaves  ==  these answer as the reader's contract says, and leave the sheet so
--   ReadersTurnedAway        ==  none of the wrong readers is such
--   get_mute, set_mute, reply  ==  mute of case A's Feature Unit, on the master channel: a Get of CUR, a Set; a reply of one byte
--   KeepsRequest answers leaves  ==  these answer as the request's contract says, and leave the reply so
--   after_set st x, mute_told st  ==  of such: the state after a Set of mute to x; what a Get of mute leaves in the reply
--   case_state                ==  the state that case A leaves
--   RespondersTurnedAway     ==  none of the wrong responders is such (stores_first is told of one control and two Sets; that every
--                                accepted Set of every run is stored is Demand2's)
--   TurnedAway               ==  THE STATEMENT: whatever keeps the contract of a reader is none of the wrong readers, and whatever keeps that
--                                of a request is none of the wrong responders
use Rattle.std.specs.Prelude.{ℕ, ◌<◌, ◌≡◌, List, [], ◌∷◌, length}
use Rattle.ground.specs.Numbers.{byte}
use Rattle.topology.specs.declared.Reading.{Reading}
use Rattle.topology.specs.Reading.{reading_of, sheet_of}
use Rattle.request.specs.declared.State.{State}
use Rattle.request.specs.declared.Answer.{Answer}
use Rattle.request.specs.Outcome.{Answered}
use Rattle.request.specs.Request.{request_of}
use Rattle.demands.specs.Cases.{lent, case_table}

module _ (answers : List ℕ → List ℕ → Reading) (leaves : List ℕ → List ℕ → List ℕ) where
  pub record KeepsReading : Type 0 where
    pub answer : (s d : List ℕ) → answers s d ≡ reading_of s (length d)
    pub sheet : (s d : List ℕ) → leaves s d ≡ sheet_of s d

  pub record ReadersTurnedAway : Type 0 where
    pub refuses_everything : ((s d : List ℕ) → (answers s d).number ≡ 0 → ⊥) → ⊥
    pub single_sheet : (one : List ℕ) → ((s : List ℕ) → (answers s lent).number ≡ 0 → leaves s lent ≡ one) → ⊥
    pub writes_none : ((s d : List ℕ) → (answers s d).number ≡ 0 → leaves s d ≡ d) → ⊥
    pub fixed_entities : (n : ℕ) → ((s : List ℕ) → (answers s lent).number ≡ 0 → (answers s lent).entities ≡ n) → ⊥
    pub fixed_controls : (n : ℕ) → ((s : List ℕ) → (answers s lent).number ≡ 0 → (answers s lent).controls ≡ n) → ⊥

abbrev pub get_mute : List ℕ
get_mute = 0xA1 ∷ 0x81 ∷ 0 ∷ 1 ∷ 0 ∷ 2 ∷ 1 ∷ 0 ∷ []

abbrev pub set_mute : List ℕ
set_mute = 0x21 ∷ 0x01 ∷ 0 ∷ 1 ∷ 0 ∷ 2 ∷ 1 ∷ 0 ∷ []

-- neither of a mute's bytes
abbrev pub reply : List ℕ
reply = 7 ∷ []

abbrev pub case_state : State
case_state = record { control = 0; table = case_table }

module _ (answers : State → List ℕ → List ℕ → List ℕ → Answer) (leaves : State → List ℕ → List ℕ → List ℕ → List ℕ) where
  abbrev pub KeepsRequest : Type 0
  KeepsRequest = (st : State) (setup «data» b : List ℕ) → Answered st (request_of st setup «data» (length b)) b (answers st setup «data» b) (leaves st setup «data» b)

  abbrev pub after_set : State → ℕ → State
  after_set st x = (answers st set_mute (x ∷ []) []).state

  abbrev pub mute_told : State → List ℕ
  mute_told st = leaves st get_mute [] reply

  pub record RespondersTurnedAway : Type 0 where
    pub stalls_always : ((st : State) (setup «data» b : List ℕ) → (answers st setup «data» b).number ≡ 0 → ⊥) → ⊥
    pub answers_zero : ((st : State) (setup «data» b : List ℕ) (i : ℕ) → i < (answers st setup «data» b).written → byte (leaves st setup «data» b) i ≡ 0)
        → ⊥
    pub stores_first : mute_told (after_set (after_set case_state 1) 0) ≡ mute_told (after_set case_state 1) → ⊥

pub record TurnedAway : Type 0 where
  pub readers : (answers : List ℕ → List ℕ → Reading) (leaves : List ℕ → List ℕ → List ℕ) → KeepsReading answers leaves → ReadersTurnedAway answers leaves
  pub responders : (answers : State → List ℕ → List ℕ → List ℕ → Answer) (leaves : State → List ℕ → List ℕ → List ℕ → List ℕ)
      → KeepsRequest answers leaves → RespondersTurnedAway answers leaves
