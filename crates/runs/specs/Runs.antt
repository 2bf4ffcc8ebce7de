-- Runs: loads and requests, one after another, each on the state that the one before it left.
--   named_by s         ==  what a setup names: the unit is "wIndex high byte", and "wValue is selector (high) and channel (low)"
--   addressed_by t s   ==  the controls of the table t that the setup s addresses, in the order in which the request takes them, as they are
--                         found; that they are Addressed, with no search, is demand 2's (EveryRun, addressed)
--   Step              ==  a load of a range and a CUR to the control of a key, or a request: the setup, the data of a Set and the length
--                         of the lent reply
--   step_of st step    ==  what the step comes to in the state st
--   accepted o        ==  it is not refused; of a step, exactly where its number is 0 (EveryRun, accepts)
--   next st step      ==  the state after the step; after st run: after the run
--   same_key k l       ==  the two are the same control
--   share_of k cs d    ==  the number that the data d of a Set of the controls cs send to the one of the key k, if it is among them, as it is
--                         found; that it is the number of the piece that Share gives it, with no search, is demand 2's (EveryRun, shares)
--   ranges_in k t step   ==  the range that the step gives to k, if it is a load of k
--   numbers_in k t step  ==  the number that the step, in the table t, asks k to take, if it is a load of k or a Set that addresses k
--   heard f st step   ==  what f finds in the step, if it is accepted in the state st
--   told f st run     ==  what f finds in the accepted steps of the run, in their order
--   last_of x xs       ==  the last of xs, or x where there is none
--   some_of xs         ==  there is one
--   sent step         ==  the data of a request
--   Wired run         ==  the data of every request of the run are bytes
use Rattle.std.specs.Prelude.{ℕ, Bool, true, false, ◌&&◌, eqb}
use mathlib.Core.List.{List, [], ◌∷◌, ◌++◌, map, Memᴰ}
use Rattle.ground.specs.Pick.{pick}
use Rattle.ground.specs.Numbers.{byte, Bytes}
use Rattle.setting.specs.declared.Range.{Range}
use Rattle.table.specs.declared.Control.{Control}
use Rattle.table.specs.declared.Table.{Table}
use Rattle.table.specs.Controls.{at, answers_to}
use Rattle.table.specs.Keys.{Key}
use Rattle.address.specs.Addressed.{addressed_in}
use Rattle.setup.specs.Setup.{asks_set}
use Rattle.answers.specs.Answers.{sent_to, rest_of}
use Rattle.request.specs.declared.State.{State}
use Rattle.request.specs.Outcome.{Outcome, state_after}
use Rattle.request.specs.Outcome.Outcome.{refused, got, done}
use Rattle.request.specs.Load.{load_of}
use Rattle.request.specs.Request.{request_of}

abbrev pub named_by : List ℕ → Key
named_by s = record { unit = byte s 5; channel = byte s 2; selector = byte s 3 }

abbrev pub addressed_by : Table → List ℕ → List Control
addressed_by t s = map (at t) (addressed_in t (byte s 5) (byte s 2) (byte s 3))

pub data Step : Type 0 where
  load : Key → Range → ℕ → Step
  request : List ℕ → List ℕ → ℕ → Step

abbrev pub step_of : State → Step → Outcome
step_of st (load k range w) = load_of st k.unit k.channel k.selector range w
step_of st (request s d room) = request_of st s d room

abbrev pub accepted : Outcome → Bool
accepted (refused n) = false
accepted (got bytes) = true
accepted (done t) = true

abbrev pub next : State → Step → State
next st step = state_after st (step_of st step)

unfoldable pub after : State → List Step → State
after st [] = st
after st (step ∷ run) = after (next st step) run

abbrev pub same_key : Key → Key → Bool
same_key k l = eqb k.unit l.unit && (eqb k.channel l.channel && eqb k.selector l.selector)

unfoldable pub share_of : Key → List Control → List ℕ → List ℕ
share_of k [] d = []
share_of k (c ∷ cs) d = pick (answers_to k.unit k.channel k.selector c) (sent_to c d ∷ []) (share_of k cs (rest_of c d))

abbrev pub ranges_in : Key → Table → Step → List Range
ranges_in k t (load l range w) = pick (same_key k l) (range ∷ []) []
ranges_in k t (request s d room) = []

abbrev pub numbers_in : Key → Table → Step → List ℕ
numbers_in k t (load l range w) = pick (same_key k l) (w ∷ []) []
numbers_in k t (request s d room) = pick (asks_set s) (share_of k (addressed_by t s) d) []

abbrev pub heard : {A : Type 0} → (Table → Step → List A) → State → Step → List A
heard f st step = pick (accepted (step_of st step)) (f st.table step) []

unfoldable pub told : {A : Type 0} → (Table → Step → List A) → State → List Step → List A
told f st [] = []
told f st (step ∷ run) = heard f st step ++ told f (next st step) run

unfoldable pub last_of : {A : Type 0} → A → List A → A
last_of x [] = x
last_of x (y ∷ ys) = last_of y ys

abbrev pub some_of : {A : Type 0} → List A → Bool
some_of [] = false
some_of (x ∷ xs) = true

abbrev pub sent : Step → List ℕ
sent (load k range w) = []
sent (request s d room) = d

abbrev pub Wired : List Step → Type 0
Wired run = (step : Step) → Memᴰ step run → Bytes (sent step)
