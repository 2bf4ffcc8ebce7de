-- Runs of the duet box: plug-ins, unpluggings, loads and requests on both sides, one after another, each on the box that the one before it left.
--   Step              ==  a plug-in on a side of a configuration with a sheet lent; an unplugging; a load on a side; a request: the setup, the data
--                         of a Set and the lent reply
--   same_side k j      ==  the two are one side; is_for k a: the addressee a is the side k
--   presented_for k    ==  the presented number of the side k: "Presented interface 0 is the left AudioControl, 1 the right"
--   is_of k step       ==  the step is the side k's; which request is a side's is told by the presented number, and one that 31 refuses is no side's
--                         (`named` of StepsTold.antt says so of its bytes)
--   Seen              ==  what a step's caller sees: number and place, the microphone's AudioControl number, the counts of entities and controls, how
--                         many bytes of the reply were written, and what the lent sheet or reply holds then
--   seen_plug s d o, seen_outcome h o, seen_number n  ==  .. of a plug-in that comes to o, of a load or a request that comes to o, of an unplugging
--   seen_in b step     ==  .. of the step in the box b
--   box_next b step    ==  the box after the step; box_after_run b run: after the run
--   seen_by k b run    ==  what the side k sees in the run, step by step
--   steps_of k run     ==  the side's own steps, buffers and all
--   met_at b k step, met_by k b run  ==  how many controls of the other side a plug-in of k met, and each of the run's
--   sent_by step       ==  the data of a request
--   Carried run       ==  the data of every request of the run are bytes, as every lent slice's are
use Rattle.std.specs.Prelude.{ℕ, Bool, true, false, length}
use mathlib.Core.List.{List, [], ◌∷◌, ◌++◌, Memᴰ}
use Rattle.ground.specs.Pick.{pick}
use Rattle.ground.specs.Numbers.{Bytes}
use Rattle.setting.specs.declared.Range.{Range}
use Rattle.table.specs.Keys.{Key}
use Rattle.deed.specs.Reply.{laid}
use Rattle.setup.specs.Setup.{asked_of}
use Rattle.topology.specs.Reading.{sheet_of}
use Rattle.request.specs.Outcome.{Outcome, number_of, bytes_of}
use Rattle.sides.specs.declared.Side.{Side}
use Rattle.sides.specs.declared.Side.TheVariants.{Left, Right}
use Rattle.sides.specs.declared.Addressee.{Addressee}
use Rattle.sides.specs.declared.Addressee.TheVariants.{Nobody, At}
use Rattle.sides.specs.Sides.{addressee_of}
use Rattle.duet.specs.declared.Duet.{Duet}
use Rattle.duet.specs.Box.{other_side, socket_of, controls_on}
use Rattle.duet.specs.Coming.{unplug_answer}
use Rattle.admission.specs.Plugging.{Plugging, plug_of, duet_after}
use Rattle.admission.specs.Plugging.Plugging.{refused, let_in}
use Rattle.duet.specs.Asking.{load_in, request_in, box_after, answer_for}

pub data Step : Type 0 where
  plug : Side → List ℕ → List ℕ → Step
  unplug : Side → Step
  load : Side → Key → Range → ℕ → Step
  request : List ℕ → List ℕ → List ℕ → Step

abbrev pub same_side : Side → Side → Bool
same_side Left Left = true
same_side Left Right = false
same_side Right Left = false
same_side Right Right = true

abbrev pub presented_for : Side → ℕ
presented_for Left = 0
presented_for Right = 1

abbrev pub is_for : Side → Addressee → Bool
is_for k (Nobody n) = false
is_for k (At j) = same_side k j

abbrev pub is_of : Side → Step → Bool
is_of k (plug j s d) = same_side k j
is_of k (unplug j) = same_side k j
is_of k (load j key range w) = same_side k j
is_of k (request s d h) = is_for k (addressee_of (asked_of s))

pub record Seen : Type 0 where
  pub number : ℕ
  pub place : ℕ
  pub interface : ℕ
  pub entities : ℕ
  pub controls : ℕ
  pub written : ℕ
  pub lent : List ℕ

abbrev pub seen_plug : List ℕ → List ℕ → Plugging → Seen
seen_plug s d (refused n p) = record { number = n; place = p; interface = 0; entities = 0; controls = 0; written = 0; lent = d }
seen_plug s d (let_in r) = record {
  number = 0;
  place = 0;
  interface = r.control;
  entities = r.entities;
  controls = r.controls;
  written = 0;
  lent = sheet_of s d;
}

abbrev pub seen_number : ℕ → Seen
seen_number n = record { number = n; place = 0; interface = 0; entities = 0; controls = 0; written = 0; lent = [] }

abbrev pub seen_outcome : List ℕ → Outcome → Seen
seen_outcome h o = record {
  number = number_of o;
  place = 0;
  interface = 0;
  entities = 0;
  controls = 0;
  written = length (bytes_of o);
  lent = laid (bytes_of o) h;
}

abbrev pub seen_in : Duet → Step → Seen
seen_in b (plug k s d) = seen_plug s d (plug_of b k s (length d))
seen_in b (unplug k) = seen_number (unplug_answer b k).number
seen_in b (load k key range w) = seen_outcome [] (load_in b k key.unit key.channel key.selector range w)
seen_in b (request s d h) = seen_outcome h (request_in b s d (length h))

abbrev pub box_next : Duet → Step → Duet
box_next b (plug k s d) = duet_after b k (plug_of b k s (length d))
box_next b (unplug k) = (unplug_answer b k).duet
box_next b (load k key range w) = box_after b k (load_in b k key.unit key.channel key.selector range w)
box_next b (request s d h) = (answer_for b (addressee_of (asked_of s)) (request_in b s d (length h))).duet

unfoldable pub box_after_run : Duet → List Step → Duet
box_after_run b [] = b
box_after_run b (x ∷ run) = box_after_run (box_next b x) run

unfoldable pub seen_by : Side → Duet → List Step → List Seen
seen_by k b [] = []
seen_by k b (x ∷ run) = pick (is_of k x) (seen_in b x ∷ seen_by k (box_next b x) run) (seen_by k (box_next b x) run)

unfoldable pub steps_of : Side → List Step → List Step
steps_of k [] = []
steps_of k (x ∷ run) = pick (is_of k x) (x ∷ steps_of k run) (steps_of k run)

abbrev pub met_at : Duet → Side → Step → List ℕ
met_at b k (plug j s d) = controls_on (socket_of b (other_side k)) ∷ []
met_at b k (unplug j) = []
met_at b k (load j key range w) = []
met_at b k (request s d h) = []

unfoldable pub met_by : Side → Duet → List Step → List ℕ
met_by k b [] = []
met_by k b (x ∷ run) = pick (is_of k x) (met_at b k x ++ met_by k (box_next b x) run) (met_by k (box_next b x) run)

abbrev pub sent_by : Step → List ℕ
sent_by (plug k s d) = []
sent_by (unplug k) = []
sent_by (load k key range w) = []
sent_by (request s d h) = d

abbrev pub Carried : List Step → Type 0
Carried run = (x : Step) → Memᴰ x run → Bytes (sent_by x)
