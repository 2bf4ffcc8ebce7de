-- A microphone's reading for a side that meets n controls on the other; and the answer where it is let in.
--   admission_unless x r  ==  what comes of the reading r: the refusal x, or its counts and the request layer's state of it
--   admission_of n r   ==  .. by the reader's refusal or 62
--   Admits n s d r a  ==  r is that of the configuration s, and a the sheet d at exit
--   welcomed b k q    ==  the answer where q is let in on the side k of the box b
use Rattle.std.specs.Prelude.{ℕ, ◌≡◌, List, length, eqb}
use Rattle.std.specs.declared.result.Result.{Result}
use Rattle.std.specs.declared.result.Result.TheVariants.{Ok, Err}
use Rattle.ground.specs.declared.Refusal.{Refusal}
use Rattle.ground.specs.Pick.{pick}
use Rattle.topology.specs.declared.Reading.{Reading}
use Rattle.topology.specs.Reading.{reading_of}
use Rattle.plug.specs.Plugged.{state_of}
use Rattle.sides.specs.declared.Side.{Side}
use Rattle.sides.specs.Sides.{admission_by}
use Rattle.duet.specs.declared.Duet.{Duet}
use Rattle.duet.specs.Coming.{occupied}
use Rattle.admission.specs.declared.Admitted.{Admitted}
use Rattle.admission.specs.declared.Admission.{Admission}
use Rattle.admission.specs.Plugging.{admitted_by, sheet_after}

abbrev pub admission_unless : Refusal → Reading → Result Admission Refusal
admission_unless x r = pick (eqb x.number 0) (Ok (record { entities = r.entities; controls = r.controls; state = state_of r })) (Err x)

abbrev pub admission_of : ℕ → Reading → Result Admission Refusal
admission_of n r = admission_unless (admission_by r.number r.place r.controls n) r

pub record Admits (n : ℕ) (s d : List ℕ) (r : Result Admission Refusal) (a : List ℕ) : Type 0 where
  pub result : r ≡ admission_of n (reading_of s (length d))
  pub sheet : a ≡ sheet_after s d (admitted_by n (reading_of s (length d)))

abbrev pub welcomed : Duet → Side → Admission → Admitted
welcomed b k q = record {
  number = 0;
  place = 0;
  control = q.state.control;
  entities = q.entities;
  controls = q.controls;
  duet = occupied b k q.state;
}
