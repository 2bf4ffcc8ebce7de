-- What a step's caller sees is what the function answers, and the next box is the answer's: so the theorems over runs are of the code.
--   admitted_seen r a, answer_seen r a  ==  what is seen of an answer r, where the lent sheet or reply holds a at exit
--   StepsTold        ==  of every result that the contract of a plug-in, an unplugging, a load and a request allows; and whose a request is, by its
--                        bytes (named): a side's are those that 31 does not refuse and whose byte 4 is the side's presented number
use Rattle.std.specs.Prelude.{ℕ, ◌≡◌, true, List, [], ◌↔◌}
use Rattle.ground.specs.Numbers.{byte}
use Rattle.setting.specs.declared.Range.{Range}
use Rattle.table.specs.Keys.{Key}
use Rattle.setup.specs.Setup.{WellAsked}
use Rattle.sides.specs.declared.Side.{Side}
use Rattle.duet.specs.declared.Duet.{Duet}
use Rattle.admission.specs.declared.Admitted.{Admitted}
use Rattle.duet.specs.declared.Answer.{Answer}
use Rattle.duet.specs.Coming.{unplug_answer}
use Rattle.admission.specs.Plugging.{PlugsIn}
use Rattle.duet.specs.Asking.{load_in, answer_in, AnsweredIn}
use Rattle.duets.specs.Steps.{presented_for, is_of, Seen, seen_in, box_next}
use Rattle.duets.specs.Steps.Step.{plug, unplug, load, request}

abbrev pub admitted_seen : Admitted → List ℕ → Seen
admitted_seen r a = record {
  number = r.number;
  place = r.place;
  interface = r.control;
  entities = r.entities;
  controls = r.controls;
  written = 0;
  lent = a;
}

abbrev pub answer_seen : Answer → List ℕ → Seen
answer_seen r a = record { number = r.number; place = 0; interface = 0; entities = 0; controls = 0; written = r.written; lent = a }

pub record StepsTold : Type 0 where
  pub plugs : (b : Duet) (k : Side) (s d : List ℕ) (r : Admitted) (a : List ℕ) → PlugsIn b k s d r a
      → (seen_in b (plug k s d) ≡ admitted_seen r a) × (box_next b (plug k s d) ≡ r.duet)
  pub unplugs : (b : Duet) (k : Side) (r : Answer) → r ≡ unplug_answer b k → (seen_in b (unplug k) ≡ answer_seen r []) × (box_next b (unplug k) ≡ r.duet)
  pub loads : (b : Duet) (k : Side) (key : Key) (range : Range) (w : ℕ) (r : Answer)
      → r ≡ answer_in b k (load_in b k key.unit key.channel key.selector range w)
      → ((seen_in b (load k key range w)).number ≡ r.number) × (((seen_in b (load k key range w)).written ≡ r.written) × (box_next b (load k key range w) ≡ r.duet))
  pub requests : (b : Duet) (s d h : List ℕ) (r : Answer) (a : List ℕ) → AnsweredIn b s d h r a
      → (seen_in b (request s d h) ≡ answer_seen r a) × (box_next b (request s d h) ≡ r.duet)
  pub named : (k : Side) (s d h : List ℕ) → (is_of k (request s d h) ≡ true) ↔ (WellAsked s × (byte s 4 ≡ presented_for k))
