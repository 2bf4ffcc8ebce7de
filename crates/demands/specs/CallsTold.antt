-- What calls answer is what the words of a run have: so the theorems over runs (Demand2, AnyOrder, TurnedAway), which
-- speak of `step_of`, `next` and `after`, are of the code. It is said of every result that the contracts of
-- `plug::plug_in`, `request::load` and `request::request` allow.
--   StepAnswered st step r  ==  the answer r is what the step comes to in the state st: it has that number, tells as
--                               many bytes written as that has, and its state is the next
--   Called st run z         ==  the loads and requests of the run, called one after another from the state st, each on
--                               the state of the answer before it, have answers that their contracts allow, and z is
--                               the state of the last
--   CallsTold               ==  THE STATEMENT. plugs: a plug-in answers the reading and leaves the sheet that the
--                               reader's definitions give, and its state is the one with which runs begin; loads,
--                               requests: every answer is what the step comes to, and a request leaves those bytes at
--                               the front of the reply; calls: the calls of a run leave the state after it, and no
--                               other
use Rattle.std.specs.Prelude.{ℕ, ◌≡◌, List, [], ◌∷◌, ◌↔◌, length}
use Rattle.setting.specs.declared.Range.{Range}
use Rattle.table.specs.Keys.{Key}
use Rattle.deed.specs.Reply.{laid}
use Rattle.topology.specs.Reading.{reading_of, sheet_of}
use Rattle.request.specs.declared.State.{State}
use Rattle.request.specs.declared.Answer.{Answer}
use Rattle.request.specs.Outcome.{number_of, bytes_of, answer_of, Answered}
use Rattle.request.specs.Load.{load_of}
use Rattle.request.specs.Request.{request_of}
use Rattle.plug.specs.declared.Plugged.{Plugged}
use Rattle.plug.specs.Plugged.{state_of, PluggedIn}
use Rattle.runs.specs.Runs.{Step, step_of, next, after}
use Rattle.runs.specs.Runs.Step.{load, request}

pub record StepAnswered (st : State) (step : Step) (r : Answer) : Type 0 where
  pub number : r.number ≡ number_of (step_of st step)
  pub written : r.written ≡ length (bytes_of (step_of st step))
  pub state : r.state ≡ next st step

-- b is the reply at a request's call, a what it holds afterwards
pub data Called : State → List Step → State → Type 0 where
  none : {st : State} → Called st [] st
  loaded : {st z : State} {k : Key} {range : Range} {w : ℕ} {run : List Step} (r : Answer)
      → r ≡ answer_of st (load_of st k.unit k.channel k.selector range w)
      → Called r.state run z → Called st (load k range w ∷ run) z
  asked : {st z : State} {s d : List ℕ} {room : ℕ} {run : List Step} (b : List ℕ) (r : Answer) (a : List ℕ)
      → length b ≡ room → Answered st (request_of st s d (length b)) b r a
      → Called r.state run z → Called st (request s d room ∷ run) z

pub record CallsTold : Type 0 where
  -- s is the configuration, d the lent sheet, a what it holds afterwards
  pub plugs : (s d : List ℕ) (r : Plugged) (a : List ℕ) → PluggedIn s d r a
      → (r.reading ≡ reading_of s (length d)) × (a ≡ sheet_of s d) × (r.state ≡ state_of (reading_of s (length d)))
  pub loads : (st : State) (k : Key) (range : Range) (w : ℕ) (r : Answer)
      → r ≡ answer_of st (load_of st k.unit k.channel k.selector range w) → StepAnswered st (load k range w) r
  -- s is the setup, d the data, b the reply at the call, a what it holds afterwards
  pub requests : (st : State) (s d b : List ℕ) (r : Answer) (a : List ℕ)
      → Answered st (request_of st s d (length b)) b r a
      → StepAnswered st (request s d (length b)) r × (a ≡ laid (bytes_of (step_of st (request s d (length b)))) b)
  pub calls : (st z : State) (run : List Step) → Called st run z ↔ (z ≡ after st run)
