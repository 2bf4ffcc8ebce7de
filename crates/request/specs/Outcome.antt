-- What a load or a request comes to, and what the caller sees of it.
--   Outcome           ==  refused n: refusal n; got bytes: a Get answered with these bytes; done t: a load or a Set taken,
--                         after which t is the table
--   number_of o        ==  0 or the number of the refusal
--   bytes_of o         ==  the bytes written: "An accepted Get writes its bytes", and nothing else writes any
--   table_after t o    ==  the table: "All leave table and reply as they stood"; a Get "changes nothing else"
--   state_after st o   ==  the state: the same AudioControl number, and that table
--   answer_of st o     ==  the answer of the entry points
--   Answered st o b r a  ==  the function's result r and what the reply holds at exit, a, are those of o; b is the reply at entry
--   refusal st n      ==  the answer of refusal n
--   deed_answer st i d ==  the answer where the deed d is done at index i of the table
use Rattle.std.specs.Prelude.{ℕ, Result, Ok, Err, ◌≡◌, List, [], length}
use Rattle.table.specs.declared.Table.{Table}
use Rattle.table.specs.Controls.{placed}
use Rattle.table.specs.declared.Control.{Control}
use Rattle.deed.specs.Reply.{laid}
use Rattle.request.specs.declared.State.{State}
use Rattle.request.specs.declared.Answer.{Answer}

pub data Outcome : Type 0 where
  refused : ℕ → Outcome
  got : List ℕ → Outcome
  done : Table → Outcome

abbrev pub number_of : Outcome → ℕ
number_of (refused n) = n
number_of (got bytes) = 0
number_of (done t) = 0

abbrev pub bytes_of : Outcome → List ℕ
bytes_of (refused n) = []
bytes_of (got bytes) = bytes
bytes_of (done t) = []

abbrev pub table_after : Table → Outcome → Table
table_after t (refused n) = t
table_after t (got bytes) = t
table_after t (done u) = u

abbrev pub state_after : State → Outcome → State
state_after st o = record { control = st.control; table = table_after st.table o }

unfoldable pub answer_of : State → Outcome → Answer
answer_of st o = record { number = number_of o; written = length (bytes_of o); state = state_after st o }

pub record Answered (st : State) (o : Outcome) (b : List ℕ) (r : Answer) (a : List ℕ) : Type 0 where
  pub result : r ≡ answer_of st o
  pub lent : a ≡ laid (bytes_of o) b

abbrev pub refusal : State → ℕ → Answer
refusal st n = record { number = n; written = 0; state = st }

abbrev pub deed_answer : State → ℕ → Result Control ℕ → Answer
deed_answer st i (Err n) = refusal st n
deed_answer st i (Ok c) = record { number = 0; written = 0; state = record { control = st.control; table = placed st.table i c } }
