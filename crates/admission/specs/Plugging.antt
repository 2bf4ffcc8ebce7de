-- A microphone is plugged in on a side: "30 comes first wherever a state is given"; "plugging in gives 61 if the side is taken, then the reader's, then 62
-- if both sides' controls would pass 192".
--   Plugging          ==  what a plug-in comes to: refused n p: refusal n, at place p where it is the reader's; let_in r: the reading r, whose state
--                         is the side's from then on
--   let_in_unless x r   ==  the reading r is let in, unless it is refused by x
--   admitted_by n r    ==  .. on a side that met n controls on the other: the reader's refusals, then 62 (admission_by, crate sides)
--   plug_of b k s room ==  the plug-in of the configuration s on the side k of the box b, with a sheet of room bytes lent
--   turned_away b n p  ==  the answer of a refusal at a plug-in: "interface number 0, zero counts"
--   duet_after b k o   ==  the box after a plug-in that comes to o: a refusal leaves it as it stood
--   plug_answer b k o  ==  what is answered
--   sheet_after s d o  ==  what the lent sheet d holds then: a refusal leaves it, so that 62 is known before it is written
--   PlugsIn b k s d r a  ==  of the plug-in of the configuration s with the sheet d lent, r is the answer, and a the sheet at exit
use Rattle.std.specs.Prelude.{ℕ, ◌≡◌, List, eqb, length}
use Rattle.ground.specs.declared.Refusal.{Refusal}
use Rattle.ground.specs.Pick.{pick}
use Rattle.topology.specs.declared.Reading.{Reading}
use Rattle.topology.specs.Reading.{reading_of, sheet_of}
use Rattle.plug.specs.Plugged.{state_of}
use Rattle.sides.specs.declared.Side.{Side}
use Rattle.sides.specs.Sides.{admission_by}
use Rattle.duet.specs.declared.Duet.{Duet}
use Rattle.duet.specs.Box.{other_side, socket_of, controls_on, sound_duet}
use Rattle.duet.specs.Coming.{occupied}
use Rattle.admission.specs.declared.Admitted.{Admitted}

pub data Plugging : Type 0 where
  refused : ℕ → ℕ → Plugging
  let_in : Reading → Plugging

abbrev pub let_in_unless : Refusal → Reading → Plugging
let_in_unless x r = pick (eqb x.number 0) (let_in r) (refused x.number x.place)

unfoldable pub admitted_by : ℕ → Reading → Plugging
admitted_by n r = let_in_unless (admission_by r.number r.place r.controls n) r

unfoldable pub plug_of : Duet → Side → List ℕ → ℕ → Plugging
plug_of b k s room =
    pick (sound_duet b)
    (pick (socket_of b k).plugged (refused 61 0) (admitted_by (controls_on (socket_of b (other_side k))) (reading_of s room)))
    (refused 30 0)

abbrev pub duet_after : Duet → Side → Plugging → Duet
duet_after b k (refused n p) = b
duet_after b k (let_in r) = occupied b k (state_of r)

abbrev pub turned_away : Duet → ℕ → ℕ → Admitted
turned_away b n p = record { number = n; place = p; control = 0; entities = 0; controls = 0; duet = b }

abbrev pub plug_answer : Duet → Side → Plugging → Admitted
plug_answer b k (refused n p) = turned_away b n p
plug_answer b k (let_in r) = record {
  number = 0;
  place = 0;
  control = r.control;
  entities = r.entities;
  controls = r.controls;
  duet = duet_after b k (let_in r);
}

abbrev pub sheet_after : List ℕ → List ℕ → Plugging → List ℕ
sheet_after s d (refused n p) = d
sheet_after s d (let_in r) = sheet_of s d

pub record PlugsIn (b : Duet) (k : Side) (s d : List ℕ) (r : Admitted) (a : List ℕ) : Type 0 where
  pub result : r ≡ plug_answer b k (plug_of b k s (length d))
  pub sheet : a ≡ sheet_after s d (plug_of b k s (length d))
