-- A sheet moved from one form to the other (document 02, No. 7): "A mover turns an old sheet into a new one and back. .. the mover gives 41 or 42 by
-- the form it is given, then 43 for those last sixteen bytes, 44 for too little room; a refusal writes nothing." Every word is of any bytes.
--   other_of f       ==  the form that a sheet is moved from, where f is the one that it is moved to
--   more_bytes       ==  the bytes that a record of the new form has more: 16, its last
--   as_new a         ==  the old record a as a new one: sixteen more 00
--   as_old a         ==  the new record a as an old one: its first sixteen bytes
--   record_to f a    ==  the record a, of the other form, as one of the form f
--   moved_to f s     ==  the moved sheet: the records of s, of the other form, each as one of the form f, one after another
--   HasMore a       ==  the record a has "a byte other than 00 in its last sixteen"
--   LosesMore s     ==  some record of s, a sheet of the new form, has
--   LosesTo f s     ==  .. and it is moved to the old form
--   JudgedMove f s n m  ==  m is the number that the paper gives the move of s to the form f with n bytes lent, by the rows in order
--   has_more a, loses_more s, loses_to f s  ==  the tests of these
--   move_number f s n    ==  the number of that move, 0 where it is not refused
--   written_by f s n     ==  how many bytes it writes
--   room_after f s d     ==  what the lent room d holds after it
--   Move f s d m w e    ==  the answer of a move: the number m, w bytes written, and the room e after it
use Rattle.std.specs.Prelude.{ℕ, ◌+◌, ◌-◌, ◌≤◌, ◌<◌, ◌≡◌, Bool, false, not, length, take, drop, replicate, eqb, ltb}
use mathlib.Core.List.{List, ◌++◌, map, flatten}
use Rattle.ground.specs.Pick.{pick}
use Rattle.ground.specs.Numbers.{byte}
use Rattle.ground.specs.Places.{somewhere}
use Rattle.records.specs.Records.{record_size}
use Rattle.legal.specs.declared.Form.{Form}
use Rattle.legal.specs.declared.Form.TheVariants.{Old, New}
use Rattle.legal.specs.Forms.{old_size, record_size_of}
use Rattle.legal.specs.Sheet.{count_in, record_at, records_by, SheetBy, JudgedBy, number_by}

unfoldable pub other_of : Form → Form
other_of Old = New
other_of New = Old

abbrev pub more_bytes : ℕ
more_bytes = record_size - old_size

abbrev pub as_new : List ℕ → List ℕ
as_new a = a ++ replicate more_bytes 0

abbrev pub as_old : List ℕ → List ℕ
as_old a = take old_size a

unfoldable pub record_to : Form → List ℕ → List ℕ
record_to Old a = as_old a
record_to New a = as_new a

unfoldable pub moved_to : Form → List ℕ → List ℕ
moved_to f s = flatten (map (record_to f) (records_by (record_size_of (other_of f)) s))

abbrev pub HasMore : List ℕ → Type 0
HasMore a = (n : ℕ) × (n < more_bytes) × (byte a (old_size + n) ≡ 0 → ⊥)

abbrev pub LosesMore : List ℕ → Type 0
LosesMore s = (i : ℕ) × (i < count_in s) × HasMore (record_at s i)

abbrev pub LosesTo : Form → List ℕ → Type 0
LosesTo Old s = LosesMore s
LosesTo New s = ⊥

pub data JudgedMove (f : Form) (s : List ℕ) (n : ℕ) : ℕ → Type 0 where
  by_form : {m : ℕ} → JudgedBy (record_size_of (other_of f)) s m → (m ≡ 0 → ⊥) → JudgedMove f s n m
  by_more : SheetBy (record_size_of (other_of f)) s → LosesTo f s → JudgedMove f s n 43
  by_room : SheetBy (record_size_of (other_of f)) s → (LosesTo f s → ⊥) → n < length (moved_to f s) → JudgedMove f s n 44
  moved : SheetBy (record_size_of (other_of f)) s → (LosesTo f s → ⊥) → length (moved_to f s) ≤ n → JudgedMove f s n 0

unfoldable pub has_more : List ℕ → Bool
has_more a = somewhere (λ n. not (eqb (byte a (old_size + n)) 0)) more_bytes

unfoldable pub loses_more : List ℕ → Bool
loses_more s = somewhere (λ i. has_more (record_at s i)) (count_in s)

unfoldable pub loses_to : Form → List ℕ → Bool
loses_to Old s = loses_more s
loses_to New s = false

unfoldable pub move_number : Form → List ℕ → ℕ → ℕ
move_number f s n =
    pick (eqb (number_by (record_size_of (other_of f)) s) 0) (pick (loses_to f s) 43 (pick (ltb n (length (moved_to f s))) 44 0)) (number_by (record_size_of (other_of f)) s)

unfoldable pub written_by : Form → List ℕ → ℕ → ℕ
written_by f s n = pick (eqb (move_number f s n) 0) (length (moved_to f s)) 0

unfoldable pub room_after : Form → List ℕ → List ℕ → List ℕ
room_after f s d = pick (eqb (move_number f s (length d)) 0) (moved_to f s ++ drop (length (moved_to f s)) d) d

pub record Move (f : Form) (s d : List ℕ) (m w : ℕ) (e : List ℕ) : Type 0 where
  pub number : m ≡ move_number f s (length d)
  pub written : w ≡ written_by f s (length d)
  pub room : e ≡ room_after f s d
