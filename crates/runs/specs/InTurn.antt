-- Several controls at once (document 02, No. 2): "The outcome, before that cut, equals the single requests done one after another in that
-- order, when none would be refused, and the table is untouched otherwise." The cut is that of a Get's bytes to wLength; the order is that of
-- the addressed controls, the lowest channel first.
--   single_of s c       ==  the setup s as it asks the control c alone: the channel number is c's, and wLength is c's size
--   singles_of s cs d   ==  the single requests: one of each of the controls cs, in their order, with its piece of the data d and a reply that
--                          just holds its value
--   none_refused st run ==  no step of the run is refused, each on the state that the one before it left
--   replies_of st run   ==  the bytes that the steps are answered with, one after another
--   OfWhole s d room cs  ==  the reason of 37 or of 39, which is of the whole block: "wLength is not the control's size, or Set data is not that
--                          long", "the reply buffer is shorter than the bytes to be sent"
--   Equals st s run o  ==  the outcome o is that of the run: accepted, it leaves the state that the run leaves, and its bytes are the first
--                          wLength of the run's
--   Untouched st o     ==  o is a refusal: it leaves the state as it stood, and has no bytes
--   InTurn st s d room cs  ==  the request of the setup s, with the data d and a reply of room bytes, is the single requests of the controls cs
--                          together where none of them is refused and neither of those is given, and otherwise leaves all untouched
use Rattle.std.specs.Prelude.{ℕ, ◌<◌, ◌≡◌, List, [], ◌∷◌, ◌++◌, Bool, true, false, ◌&&◌, ◌⊎◌, take}
use Rattle.ground.specs.Numbers.{byte, word}
use Rattle.table.specs.declared.Control.{Control}
use Rattle.setup.specs.Setup.{AsksSet, AsksGet}
use Rattle.answers.specs.Answers.{size_in, rest_of}
use Rattle.request.specs.declared.State.{State}
use Rattle.request.specs.Outcome.{Outcome, bytes_of, state_after}
use Rattle.request.specs.Request.{request_of}
use Rattle.runs.specs.Runs.{Step, step_of, accepted, next, after}
use Rattle.runs.specs.Runs.Step.{request}
use Rattle.runs.specs.RequestRows.{WrongSetLength, bytes_sent}

abbrev pub single_of : List ℕ → Control → List ℕ
single_of s c = byte s 0 ∷ byte s 1 ∷ c.channel ∷ byte s 3 ∷ byte s 4 ∷ byte s 5 ∷ size_in c ∷ 0 ∷ []

unfoldable pub singles_of : List ℕ → List Control → List ℕ → List Step
singles_of s [] d = []
singles_of s (c ∷ cs) d = request (single_of s c) (take (size_in c) d) (size_in c) ∷ singles_of s cs (rest_of c d)

unfoldable pub none_refused : State → List Step → Bool
none_refused st [] = true
none_refused st (step ∷ run) = accepted (step_of st step) && none_refused (next st step) run

unfoldable pub replies_of : State → List Step → List ℕ
replies_of st [] = []
replies_of st (step ∷ run) = bytes_of (step_of st step) ++ replies_of (next st step) run

abbrev pub OfWhole : List ℕ → List ℕ → ℕ → List Control → Type 0
OfWhole s d room cs = (AsksSet s × WrongSetLength s d cs) ⊎ (AsksGet s × (room < bytes_sent s cs))

pub record Equals (st : State) (s : List ℕ) (run : List Step) (o : Outcome) : Type 0 where
  pub taken : accepted o ≡ true
  pub state : state_after st o ≡ after st run
  pub bytes : bytes_of o ≡ take (word s 6) (replies_of st run)

pub record Untouched (st : State) (o : Outcome) : Type 0 where
  pub refused : accepted o ≡ false
  pub state : state_after st o ≡ st
  pub bytes : bytes_of o ≡ []

pub record InTurn (st : State) (s d : List ℕ) (room : ℕ) (cs : List Control) : Type 0 where
  pub together : none_refused st (singles_of s cs d) ≡ true → (OfWhole s d room cs → ⊥) → Equals st s (singles_of s cs d) (request_of st s d room)
  pub otherwise : (none_refused st (singles_of s cs d) ≡ false) ⊎ OfWhole s d room cs → Untouched st (request_of st s d room)
