-- The refusals of the duet box, row by row, in document 02's words and order: what is answered is the number of the first row that is given, or 0 where
-- none is (Row, NoRow: crate runs).
--   SoundBox b        ==  30 is not given: each table that there is is one, and there are no more than 192 controls in all
--   plug_rows b k s room   ==  "61 if the side is taken, then the reader's, then 62 if both sides' controls would pass 192"
--   unplug_rows b k    ==  "63 for an empty side"
--   side_load_rows b k key range w  ==  the same, then the request layer's rows of a load
--   EmptyNamed b s    ==  the setup's presented number is that of an empty side
--   OnSide b s d room m  ==  it is that of a side, and m is what the request layer's rows say of its state and the setup with the microphone's own number
--   side_request_rows b s d room  ==  30, 31, "63 for an empty side, a request after 31 and in front of 32; a presented number other than 0 and 1 is 32", then the rest
--   number_in o        ==  the number of what a plug-in comes to
--   PlugPlace s room n p  ==  the place p goes with the refusal n of a plug-in: 30, 61 and 62 have none, the reader's its own
--   lent_by step       ==  what the lent sheet or reply holds before the step
--   DuetRows          ==  in every box whatever, every step's number is the one that its rows say (plugs, unplugs, loads, requests), and there is no
--                         other (one_plug, one_unplug, one_load, one_request); a refused plug-in has its place (places); a refused step leaves the box,
--                         and the lent sheet or reply, as they stood (keeps); and "Unplugging a side gives its room back": what the box then holds is
--                         the other side's (room_back)
use Rattle.std.specs.Prelude.{ℕ, ◌+◌, ◌≤◌, ◌<◌, ◌≡◌, true, false, List, [], ◌⊎◌}
use Rattle.ground.specs.Numbers.{byte}
use Rattle.setting.specs.declared.Range.{Range}
use Rattle.table.specs.Keys.{Key}
use Rattle.sound.specs.Meaning.{Sound}
use Rattle.setup.specs.Setup.{WellAsked}
use Rattle.topology.specs.Reading.{reading_of}
use Rattle.request.specs.Outcome.{number_of}
use Rattle.runs.specs.RequestRows.{Row, NoRow, load_rows, request_rows}
use Rattle.sides.specs.declared.Side.{Side}
use Rattle.sides.specs.Sides.{most_together, own_setup}
use Rattle.duet.specs.declared.Duet.{Duet}
use Rattle.duet.specs.Box.{other_side, socket_of, controls_on, together}
use Rattle.duet.specs.Coming.{unplug_answer}
use Rattle.admission.specs.Plugging.{Plugging, plug_of}
use Rattle.admission.specs.Plugging.Plugging.{refused, let_in}
use Rattle.duet.specs.Asking.{load_in, request_in}
use Rattle.duets.specs.Steps.{Step, presented_for, seen_in, box_next}
use Rattle.duets.specs.Steps.Step.{plug, unplug, load, request}

pub record SoundBox (b : Duet) : Type 0 where
  pub each : (k : Side) → (socket_of b k).plugged ≡ true → Sound (socket_of b k).state.table
  pub few : together b ≤ most_together

abbrev pub plug_rows : Duet → Side → List ℕ → ℕ → ℕ → Type 0
plug_rows b k s room =
    Row 30 (SoundBox b → ⊥)
    (Row 61 ((socket_of b k).plugged ≡ true)
    (Row (reading_of s room).number ((reading_of s room).number ≡ 0 → ⊥)
    (Row 62 (most_together < controls_on (socket_of b (other_side k)) + (reading_of s room).controls)
    NoRow)))

abbrev pub unplug_rows : Duet → Side → ℕ → Type 0
unplug_rows b k = Row 30 (SoundBox b → ⊥) (Row 63 ((socket_of b k).plugged ≡ false) NoRow)

abbrev pub side_load_rows : Duet → Side → Key → Range → ℕ → ℕ → Type 0
side_load_rows b k key range w = Row 30 (SoundBox b → ⊥) (Row 63 ((socket_of b k).plugged ≡ false) (load_rows (socket_of b k).state key range w))

pub record EmptyNamed (b : Duet) (s : List ℕ) : Type 0 where
  pub side : Side
  pub named : byte s 4 ≡ presented_for side
  pub vacant : (socket_of b side).plugged ≡ false

pub record OnSide (b : Duet) (s d : List ℕ) (room m : ℕ) : Type 0 where
  pub side : Side
  pub named : byte s 4 ≡ presented_for side
  pub rows : request_rows (socket_of b side).state (own_setup (socket_of b side).state.control s) d room m

abbrev pub side_request_rows : Duet → List ℕ → List ℕ → ℕ → ℕ → Type 0
side_request_rows b s d room =
    Row 30 (SoundBox b → ⊥)
    (Row 31 (WellAsked s → ⊥)
    (Row 63 (EmptyNamed b s)
    (Row 32 ((byte s 4 ≡ 0 → ⊥) × (byte s 4 ≡ 1 → ⊥))
    (OnSide b s d room))))

abbrev pub number_in : Plugging → ℕ
number_in (refused n p) = n
number_in (let_in r) = 0

abbrev pub PlugPlace : List ℕ → ℕ → ℕ → ℕ → Type 0
PlugPlace s room n p =
    (((n ≡ 30) ⊎ ((n ≡ 61) ⊎ (n ≡ 62))) × (p ≡ 0))
    ⊎ ((n ≡ (reading_of s room).number) × (p ≡ (reading_of s room).place))

abbrev pub lent_by : Step → List ℕ
lent_by (plug k s d) = d
lent_by (unplug k) = []
lent_by (load k key range w) = []
lent_by (request s d h) = h

pub record DuetRows : Type 0 where
  pub plugs : (b : Duet) (k : Side) (s : List ℕ) (room : ℕ) → plug_rows b k s room (number_in (plug_of b k s room))
  pub unplugs : (b : Duet) (k : Side) → unplug_rows b k (unplug_answer b k).number
  pub loads : (b : Duet) (k : Side) (key : Key) (range : Range) (w : ℕ)
      → side_load_rows b k key range w (number_of (load_in b k key.unit key.channel key.selector range w))
  pub requests : (b : Duet) (s d : List ℕ) (room : ℕ) → side_request_rows b s d room (number_of (request_in b s d room))
  pub one_plug : (b : Duet) (k : Side) (s : List ℕ) (room m n : ℕ) → plug_rows b k s room m → plug_rows b k s room n → m ≡ n
  pub one_unplug : (b : Duet) (k : Side) (m n : ℕ) → unplug_rows b k m → unplug_rows b k n → m ≡ n
  pub one_load : (b : Duet) (k : Side) (key : Key) (range : Range) (w m n : ℕ) → side_load_rows b k key range w m → side_load_rows b k key range w n → m ≡ n
  pub one_request : (b : Duet) (s d : List ℕ) (room m n : ℕ) → side_request_rows b s d room m → side_request_rows b s d room n → m ≡ n
  pub places : (b : Duet) (k : Side) (s : List ℕ) (room n p : ℕ) → plug_of b k s room ≡ refused n p → PlugPlace s room n p
  pub keeps : (b : Duet) (x : Step) → ((seen_in b x).number ≡ 0 → ⊥) → (box_next b x ≡ b) × ((seen_in b x).lent ≡ lent_by x)
  pub room_back : (b : Duet) (k : Side) → (unplug_answer b k).number ≡ 0 → together (unplug_answer b k).duet ≡ controls_on (socket_of b (other_side k))
