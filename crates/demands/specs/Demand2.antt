-- Demand 2: "Reading equals the Audio 1.0 class definition as document 01 narrows it. After every run of loads and requests each answer is
-- the one its definition gives: a Get returns the addressed control, an accepted Set stores the closest available setting (silence as
-- itself), and changes that control alone." (Document 02, No. 2: "the addressed control" reads as "the addressed controls".) What the
-- reading is stands in Demand3; here are the runs that begin with a plug-in.
--   now_is st run   ==  the state that the run leaves; Accepted st run step: the next step is accepted in it
--   EveryRun st run ==  what is true of every run of loads and requests from the state st. Refusal 30 has nothing against the table it
--                       leaves, the AudioControl number is what it was, and the controls that the words of a run find addressed
--                       (addressed_by, by which numbers_in goes) are those of the papers' words, Addressed; so is the number that numbers_in
--                       finds in a Set: that of the control's piece of the data (shares), and none for a control that the
--                       request does not address (spares). Of the next step: it has the
--                       number of the first row of the papers' table that applies, 0 where none does, and is accepted, as the
--                       words of a run have it (accepted), exactly where that is 0; an accepted Get returns the
--                       first wLength bytes of the addressed controls', and no Get changes the table; an accepted Set stores in each
--                       the closest available setting to its own value, and no Set writes to the reply; an accepted load stores the
--                       range and that; every other control is as it was; and a request of several controls is the single requests
--                       one after another. Over the whole run: each control is what its last accepted load and Set made it, and so
--                       each accepted Get is answered
--   Demand2         ==  whatever is plugged in, the table is as document 01 has it before any load: first values, nothing loaded, spare
--                       places zero; and all that is true of every run from that state whose data are bytes (Wired), as every lent
--                       slice's are
use Rattle.std.specs.Prelude.{ℕ, ◌≡◌, List, [], ◌∷◌, eqb}
use Rattle.setting.specs.declared.Range.{Range}
use Rattle.ground.specs.Numbers.{byte, Bytes}
use Rattle.table.specs.declared.Control.{Control}
use Rattle.table.specs.Keys.{Key, Bears, StandsAt, InTable}
use Rattle.sound.specs.Meaning.{Sound}
use Rattle.sound.specs.Fresh.{Fresh}
use Rattle.setup.specs.Setup.{AsksSet, AsksGet, WellAsked}
use Rattle.answers.specs.Held.{value_in}
use Rattle.request.specs.declared.State.{State}
use Rattle.plug.specs.declared.Plugged.{Plugged}
use Rattle.request.specs.Outcome.{number_of, bytes_of}
use Rattle.plug.specs.Plugged.{PluggedIn}
use Rattle.runs.specs.Runs.{named_by, addressed_by, Step, step_of, accepted, next, after, ranges_in, numbers_in, told, Wired}
use Rattle.runs.specs.Runs.Step.{load, request}
use Rattle.runs.specs.RequestRows.{Names, Addressed, step_rows}
use Rattle.runs.specs.InTurn.{InTurn}
use Rattle.runs.specs.Promises.{GetGiven, Share, SetStored, LoadStored, Alone, Moved, GetAnswered}

module _ (st : State) (run : List Step) where
  abbrev pub now_is : State
  now_is = after st run

  abbrev pub Accepted : Step → Type 0
  Accepted step = number_of (step_of now_is step) ≡ 0

  pub record EveryRun : Type 0 where
    pub sound : Sound now_is.table
    pub interface : now_is.control ≡ st.control
    pub addressed : (setup : List ℕ) → Addressed now_is.table setup (addressed_by now_is.table setup)
    pub shares : (setup «data» : List ℕ) (room : ℕ) (k : Key) → AsksSet setup → (cs : List Control) → Addressed now_is.table setup cs → (c : Control) → Bears k c
        → (piece : List ℕ) → Share cs «data» c piece → numbers_in k now_is.table (request setup «data» room) ≡ value_in piece ∷ []
    pub spares : (setup «data» : List ℕ) (room : ℕ) (k : Key) → ((c : Control) → InTable now_is.table c → Names (named_by setup) c → Bears k c → ⊥)
        → numbers_in k now_is.table (request setup «data» room) ≡ []
    pub numbers : (step : Step) → step_rows now_is step (number_of (step_of now_is step))
    pub accepts : (step : Step) → accepted (step_of now_is step) ≡ eqb (number_of (step_of now_is step)) 0
    pub next_get : (setup «data» : List ℕ) (room : ℕ) → AsksGet setup → Accepted (request setup «data» room)
        → GetGiven now_is.table setup (bytes_of (step_of now_is (request setup «data» room)))
    pub get_keeps : (setup «data» : List ℕ) (room : ℕ) → AsksGet setup → (next now_is (request setup «data» room)).table ≡ now_is.table
    pub next_set : (setup «data» : List ℕ) (room : ℕ) → Bytes «data» → AsksSet setup → Accepted (request setup «data» room)
        → SetStored now_is.table setup «data» (next now_is (request setup «data» room)).table
    pub set_silent : (setup «data» : List ℕ) (room : ℕ) → AsksSet setup → bytes_of (step_of now_is (request setup «data» room)) ≡ []
    pub next_load : (k : Key) (range : Range) (w : ℕ) → Accepted (load k range w)
        → LoadStored now_is.table k range w (next now_is (load k range w)).table
    pub alone : (step : Step) → Alone now_is.table step (next now_is step).table
    pub stored : (k : Key) (i : ℕ) → StandsAt st.table k i
        → Moved st.table k i (told (ranges_in k) st run) (told (numbers_in k) st run) now_is.table
    pub together : (setup «data» : List ℕ) (room : ℕ) → Bytes «data» → WellAsked setup → byte setup 4 ≡ now_is.control
        → (cs : List Control) → Addressed now_is.table setup cs → (cs ≡ [] → ⊥) → InTurn now_is setup «data» room cs
    pub gets : (setup «data» : List ℕ) (room : ℕ) → AsksGet setup → Accepted (request setup «data» room)
        → GetAnswered st run setup (bytes_of (step_of now_is (request setup «data» room)))

pub record Demand2 : Type 0 where
  -- s is the configuration, d the lent sheet, a what it holds afterwards
  pub plugged_fresh : (s d : List ℕ) (r : Plugged) (a : List ℕ) → PluggedIn s d r a → Fresh r.state.table
  pub every_run : (s d : List ℕ) (r : Plugged) (a : List ℕ) → PluggedIn s d r a → (run : List Step) → Wired run → EveryRun r.state run
