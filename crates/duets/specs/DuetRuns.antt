-- Demand 2 of the duet box (document 02, No. 11): "Demand 2 reads "the addressed control of the addressed side"." Over every run of plug-ins,
-- unpluggings, loads and requests on both sides, from the empty box.
--   Life             ==  what a side's microphone has lived through: none is in; or the state that its plug-in left, and the loads and requests since,
--                        as the request layer has them, each with the microphone's own number
--   life_plug o l, life_more l x, life_ask l s d room  ==  what a plug-in that comes to o, a step x and a request make of the life l
--   own_life b step l ==  what a step of the side makes of it; life_next k b step l: what any step does
--   life_of k b run l ==  .. along a run
--   ReadState st     ==  st is the state that the reader answers of some configuration, which it accepts
--   Lives x st run   ==  the socket x has a microphone, whose state is what the run leaves of st, a state as it is read; and of st and the run all is
--                        true that demand 2 asks of the request layer (EveryRun, crate demands): each next answer is the one its definition gives
--   Lived x l        ==  .. where the life is such; a socket of no life is empty
--   DuetRuns         ==  lives: so it is of both sides after every run whose data are bytes. thirty: 30 has nothing against the box then; so "It holds
--                        at most 192 controls for both sides together". loads_handed, requests_handed: a load on a side and a request that presents its
--                        number are the request layer's, on that side's state, the request with the microphone's own number, for which neither 31 nor 32
--                        is given there (not_elsewhere). others: a step that is not a side's leaves that side's socket as it was, in every box whatever
use Rattle.std.specs.Prelude.{ℕ, ◌≡◌, true, false, List, [], ◌∷◌, ◌++◌, eqb, length}
use Rattle.ground.specs.Pick.{pick}
use Rattle.ground.specs.Numbers.{byte}
use Rattle.setting.specs.declared.Range.{Range}
use Rattle.setup.specs.Setup.{WellAsked}
use Rattle.topology.specs.Reading.{reading_of}
use Rattle.request.specs.declared.State.{State}
use Rattle.plug.specs.Plugged.{state_of}
use Rattle.request.specs.Load.{load_of}
use Rattle.request.specs.Request.{request_of}
use Rattle.runs.specs.Runs as runs
use Rattle.runs.specs.Runs.Step.{load as single-load, request as single-request}
use Rattle.demands.specs.Demand2.{EveryRun}
use Rattle.sides.specs.declared.Side.{Side}
use Rattle.sides.specs.Sides.{own_setup}
use Rattle.duet.specs.declared.Socket.{Socket}
use Rattle.duet.specs.declared.Duet.{Duet}
use Rattle.duet.specs.Box.{socket_of, empty_duet}
use Rattle.duet.specs.Coming.{unplug_answer}
use Rattle.admission.specs.Plugging.{Plugging, plug_of}
use Rattle.admission.specs.Plugging.Plugging.{refused, let_in}
use Rattle.duet.specs.Asking.{load_in, request_in}
use Rattle.duets.specs.Steps.{Step, presented_for, is_of, box_next, box_after_run, Carried}
use Rattle.duets.specs.Steps.Step.{plug, unplug, load, request}
use Rattle.duets.specs.DuetRows.{SoundBox}

pub data Life : Type 0 where
  none : Life
  since : State → List runs.Step → Life

abbrev pub life_plug : Plugging → Life → Life
life_plug (refused n p) l = l
life_plug (let_in r) l = since (state_of r) []

abbrev pub life_more : Life → runs.Step → Life
life_more none x = none
life_more (since st run) x = since st (run ++ x ∷ [])

abbrev pub life_ask : Life → List ℕ → List ℕ → ℕ → Life
life_ask none s d room = none
life_ask (since st run) s d room = since st (run ++ single-request (own_setup st.control s) d room ∷ [])

abbrev pub own_life : Duet → Step → Life → Life
own_life b (plug j s d) l = life_plug (plug_of b j s (length d)) l
own_life b (unplug j) l = pick (eqb (unplug_answer b j).number 0) none l
own_life b (load j key range w) l = life_more l (single-load key range w)
own_life b (request s d h) l = life_ask l s d (length h)

abbrev pub life_next : Side → Duet → Step → Life → Life
life_next k b x l = pick (is_of k x) (own_life b x l) l

unfoldable pub life_of : Side → Duet → List Step → Life → Life
life_of k b [] l = l
life_of k b (x ∷ run) l = life_of k (box_next b x) run (life_next k b x l)

pub record ReadState (st : State) : Type 0 where
  pub configuration : List ℕ
  pub room : ℕ
  pub accepted : (reading_of configuration room).number ≡ 0
  pub state : st ≡ state_of (reading_of configuration room)

pub record Lives (x : Socket) (st : State) (run : List runs.Step) : Type 0 where
  pub plugged : x.plugged ≡ true
  pub read : ReadState st
  pub state : x.state ≡ runs.after st run
  pub every : EveryRun st run

abbrev pub Lived : Socket → Life → Type 0
Lived x none = x.plugged ≡ false
Lived x (since st run) = Lives x st run

pub record DuetRuns : Type 0 where
  pub lives : (k : Side) (run : List Step) → Carried run → Lived (socket_of (box_after_run empty_duet run) k) (life_of k empty_duet run none)
  pub thirty : (run : List Step) → Carried run → SoundBox (box_after_run empty_duet run)
  pub loads_handed : (b : Duet) (k : Side) → SoundBox b → (socket_of b k).plugged ≡ true → (u ch s : ℕ) (range : Range) (w : ℕ)
      → load_in b k u ch s range w ≡ load_of (socket_of b k).state u ch s range w
  pub requests_handed : (b : Duet) (k : Side) → SoundBox b → (socket_of b k).plugged ≡ true → (s d : List ℕ) (room : ℕ) → WellAsked s → byte s 4 ≡ presented_for k
      → request_in b s d room ≡ request_of (socket_of b k).state (own_setup (socket_of b k).state.control s) d room
  pub not_elsewhere : (s : List ℕ) → WellAsked s → (m : ℕ) → WellAsked (own_setup m s) × (byte (own_setup m s) 4 ≡ m)
  pub others : (b : Duet) (k : Side) (x : Step) → is_of k x ≡ false → socket_of (box_next b x) k ≡ socket_of b k
