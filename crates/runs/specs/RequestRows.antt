-- The paper's table of refusals, row by row, in its own words and with no search: each row's number and when it is given. The rows are
-- tried in this order, and what is answered is the number of the first that is given, or 0 where none is. The rows 34 to 39 speak of the
-- addressed controls, a list in the order in which a request takes them.
--   Row n When rest m        ==  m is the number answered by the row n, which is given when When, and behind it the rows rest
--   NoRow m                  ==  behind the last row m is 0
--   Owned t u                ==  u is a "unit with controls" of the table t
--   Names k c                ==  a request that names k is about the control c: the one of its unit, channel and selector, or, by "channel number
--                                255 of a Feature Unit", any that has its unit and selector; a Selector's control, of selector 0, has no such form
--   ByChannel cs             ==  the channels rise along the list
--   Addressed t s cs         ==  cs are the controls of the table t that the setup s names, each once, the lowest channel first
--   Along t s rows m         ==  the addressed controls are such a list, and m is what the rows say of it
--   HasRange s               ==  a control with selector s is ranged, of some sort
--   Unloaded c               ==  c is a "ranged control not loaded"
--   Outside k c x            ==  x is "other than 0, 1" for a yes/no, or "outside its pins" for the Selector's control c
--   Beyond cs d              ==  one of the numbers that the data d send to the controls is outside what its control takes
--   RangedThere t k          ==  the control of the key k is in the table, and it is ranged
--   InRange s range w        ==  range is legal for a control with selector s, and no number too wide
--   WrongSetLength s d cs    ==  wLength is not the size of the controls, or the data d of a Set are not that long
--   bytes_sent s cs           ==  how many bytes a Get sends: wLength, or all where that is larger
--   request_rows st s d room  ==  rows 30 to 39, for the setup s, the data d and a reply of room bytes: 30, asked_rows (31 to 33), and of the
--                                addressed controls addressed_rows (34), control_rows (35 to 37) and last_rows (38, 39)
--   load_rows st k range w    ==  rows 30, 20 and 21
--   step_rows st step         ==  those of the two that the step is tried against
use Rattle.std.specs.Prelude.{ℕ, ◌≤◌, ◌<◌, min, ◌≡◌, List, [], ◌∷◌, false, ◌⊎◌, ◌↔◌, length}
use Rattle.ground.specs.Numbers.{byte, word}
use Rattle.ground.specs.Lists.{SomeOf}
use Rattle.ground.specs.Rising.{Rising}
use Rattle.graph.specs.Members.{◌∈◌}
use Rattle.setting.specs.Setting.{span_of}
use Rattle.setting.specs.Meaning.{Legal}
use Rattle.setting.specs.declared.Range.{Range}
use Rattle.setting.specs.declared.Sort.{Sort}
use Rattle.table.specs.declared.Control.{Control}
use Rattle.table.specs.declared.Table.{Table}
use Rattle.table.specs.declared.Sense.{Sense}
use Rattle.table.specs.declared.Sense.TheVariants.{Unknown, YesNo, Ranged, Pin}
use Rattle.table.specs.Controls.{at, sense_of}
use Rattle.table.specs.Keys.{Key, Bears, InTable}
use Rattle.sound.specs.Meaning.{Sound}
use Rattle.setup.specs.Setup.{AsksSet, AsksGet, WellAsked}
use Rattle.answers.specs.Answers.{held_by, sizes_of, sent_to, rest_of}
use Rattle.request.specs.declared.State.{State}
use Rattle.runs.specs.Runs.{named_by, Step}
use Rattle.runs.specs.Runs.Step.{load, request}

pub data Row (n : ℕ) (When : Type 0) (rest : ℕ → Type 0) (m : ℕ) : Type 0 where
  given : When → m ≡ n → Row n When rest m
  passed : (When → ⊥) → rest m → Row n When rest m

abbrev pub NoRow : ℕ → Type 0
NoRow m = m ≡ 0

pub record Owned (t : Table) (u : ℕ) : Type 0 where
  pub index : ℕ
  pub inside : index < t.count
  pub unit : (at t index).unit ≡ u

pub record Names (k : Key) (c : Control) : Type 0 where
  pub unit : c.unit ≡ k.unit
  pub selector : c.selector ≡ k.selector
  pub channel : (c.channel ≡ k.channel) ⊎ ((k.channel ≡ 255) × (k.selector ≡ 0 → ⊥))

abbrev pub ByChannel : List Control → Type 0
ByChannel cs = Rising (λ c. c.channel) cs

pub record Addressed (t : Table) (s : List ℕ) (cs : List Control) : Type 0 where
  pub each : (c : Control) → c ∈ cs ↔ (InTable t c × Names (named_by s) c)
  pub rising : ByChannel cs

abbrev pub Along : Table → List ℕ → (List Control → ℕ → Type 0) → ℕ → Type 0
Along t s rows m = (cs : List Control) × (Addressed t s cs × rows cs m)

abbrev pub HasRange : ℕ → Type 0
HasRange s = (k : Sort) × (sense_of s ≡ Ranged k)

abbrev pub Unloaded : Control → Type 0
Unloaded c = HasRange c.selector × (c.loaded ≡ false)

abbrev pub Outside : Sense → Control → ℕ → Type 0
Outside Unknown c x = ⊥
Outside YesNo c x = 1 < x
Outside (Ranged k) c x = ⊥
Outside Pin c x = (x < 1) ⊎ (c.pins < x)

pub data Beyond : List Control → List ℕ → Type 0 where
  first : {c : Control} {cs : List Control} {d : List ℕ} → Outside (held_by c) c (sent_to c d) → Beyond (c ∷ cs) d
  later : {c : Control} {cs : List Control} {d : List ℕ} → Beyond cs (rest_of c d) → Beyond (c ∷ cs) d

pub record RangedThere (t : Table) (k : Key) : Type 0 where
  pub control : Control
  pub there : InTable t control
  pub bears : Bears k control
  pub ranged : HasRange k.selector

pub record InRange (s : ℕ) (range : Range) (w : ℕ) : Type 0 where
  pub sort : Sort
  pub ranged : sense_of s ≡ Ranged sort
  pub legal : Legal sort range
  pub fits : w < span_of sort

abbrev pub WrongSetLength : List ℕ → List ℕ → List Control → Type 0
WrongSetLength s d cs = (word s 6 ≡ sizes_of cs → ⊥) ⊎ (length d ≡ sizes_of cs → ⊥)

abbrev pub bytes_sent : List ℕ → List Control → ℕ
bytes_sent s cs = min (word s 6) (sizes_of cs)

abbrev pub last_rows : List ℕ → List ℕ → ℕ → List Control → ℕ → Type 0
last_rows s d room cs =
    Row 38 (AsksSet s × Beyond cs d)
    (Row 39 (AsksGet s × (room < bytes_sent s cs))
    NoRow)

-- MIN, MAX and RES are the requests from A1/82 on
abbrev pub control_rows : List ℕ → List ℕ → ℕ → List Control → ℕ → Type 0
control_rows s d room cs =
    Row 35 (AsksGet s × ((0x82 ≤ byte s 1) × SomeOf (λ c. HasRange c.selector → ⊥) cs))
    (Row 36 (SomeOf Unloaded cs)
    (Row 37 (AsksSet s × WrongSetLength s d cs)
    (last_rows s d room cs)))

abbrev pub addressed_rows : List ℕ → List ℕ → ℕ → List Control → ℕ → Type 0
addressed_rows s d room cs = Row 34 (cs ≡ []) (control_rows s d room cs)

abbrev pub asked_rows : State → List ℕ → List ℕ → ℕ → ℕ → Type 0
asked_rows st s d room =
    Row 31 (WellAsked s → ⊥)
    (Row 32 (byte s 4 ≡ st.control → ⊥)
    (Row 33 (Owned st.table (byte s 5) → ⊥)
    (Along st.table s (addressed_rows s d room))))

unfoldable pub request_rows : State → List ℕ → List ℕ → ℕ → ℕ → Type 0
request_rows st s d room = Row 30 (Sound st.table → ⊥) (asked_rows st s d room)

unfoldable pub load_rows : State → Key → Range → ℕ → ℕ → Type 0
load_rows st k range w =
    Row 30 (Sound st.table → ⊥)
    (Row 20 (RangedThere st.table k → ⊥)
    (Row 21 (InRange k.selector range w → ⊥)
    NoRow))

abbrev pub step_rows : State → Step → ℕ → Type 0
step_rows st (load k range w) = load_rows st k range w
step_rows st (request s d room) = request_rows st s d room
