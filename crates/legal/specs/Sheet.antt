-- What a sheet is (document 01, "The sheet": records, "no header"; document 02, No. 4: "42 an ID of zero or one that stands twice"; No. 7: "41
-- becomes over 1,024 or not a multiple of 32", before it over 512 or not a multiple of 16). Every word here is of any bytes: those behind the last
-- whole record are in none. Each is said once, of records of k bytes; those without k are of the form that the reader writes.
--   most_by k, most_sheet          ==  the most bytes of a sheet: 32 records, so 1,024 bytes of the reader's form and 512 of the old one
--   new_numbers                  ==  "over 1,024 or not a multiple of 32": so it is
--   count_by k s, count_in s       ==  how many records stand in s
--   record_by k s i, record_at s i ==  the i-th of them, counted from 0
--   records_by k s, records_in s   ==  all of them, one after another
--   id_of a                       ==  the ID of the record a: its first byte
--   id_by k s i, id_at s i         ==  the ID of the i-th record of s: the byte where that record begins
--   WrongLengthBy k s, WrongLength s  ==  length over that of 32 records or not a multiple of a record's
--   WrongIdBy k s, WrongId s     ==  "an ID of zero or one that stands twice": some record's ID is zero, or that of an earlier record
--   SheetBy k s, Sheet s         ==  the bytes s are a sheet: of legal length, each ID its record's own and not zero
--   JudgedBy k s n, Judged s n   ==  n is the number that the paper gives the bytes s: 41 or 42, the lower first, or 0 for a sheet
--   bad_length_by k s, bad_ids_by k s  ==  the tests of the two
--   number_by k s, sheet_number s  ==  the number by which s is refused as a sheet, the lower first; 0 where it is one
use Rattle.std.specs.Prelude.{ℕ, ◌*◌, ◌/◌, ◌%◌, ◌≤◌, ◌<◌, ◌≡◌, refl, Bool, not, ◌||◌, ◌⊎◌, List, length, take, drop, eqb, ltb}
use Rattle.ground.specs.Pick.{pick}
use Rattle.ground.specs.Numbers.{byte}
use Rattle.ground.specs.Places.{somewhere}
use Rattle.graph.specs.Tables.{tabulate}
use Rattle.graph.specs.Borne.{wrong_id, Own}
use Rattle.entities.specs.Run.{most_entities}
use Rattle.records.specs.Records.{record_size}

abbrev pub id_of : List ℕ → ℕ
id_of a = byte a 0

abbrev pub most_by : ℕ → ℕ
most_by k = most_entities * k

abbrev pub count_by : ℕ → List ℕ → ℕ
count_by k s = length s / k

abbrev pub record_by : ℕ → List ℕ → ℕ → List ℕ
record_by k s i = take k (drop (i * k) s)

unfoldable pub records_by : ℕ → List ℕ → List (List ℕ)
records_by k s = tabulate (count_by k s) (record_by k s)

abbrev pub id_by : ℕ → List ℕ → ℕ → ℕ
id_by k s i = byte s (i * k)

abbrev pub WrongLengthBy : ℕ → List ℕ → Type 0
WrongLengthBy k s = (most_by k < length s) ⊎ (length s % k ≡ 0 → ⊥)

abbrev pub WrongIdBy : ℕ → List ℕ → Type 0
WrongIdBy k s = (i : ℕ) × (i < count_by k s) × ((id_by k s i ≡ 0) ⊎ ((j : ℕ) × (j < i) × (id_by k s j ≡ id_by k s i)))

pub record SheetBy (k : ℕ) (s : List ℕ) : Type 0 where
  pub short : length s ≤ most_by k
  pub whole : length s % k ≡ 0
  pub own : Own (id_by k s) (count_by k s)

pub data JudgedBy (k : ℕ) (s : List ℕ) : ℕ → Type 0 where
  wrong_length : WrongLengthBy k s → JudgedBy k s 41
  wrong_id_lem : (WrongLengthBy k s → ⊥) → WrongIdBy k s → JudgedBy k s 42
  sheet : SheetBy k s → JudgedBy k s 0

unfoldable pub bad_length_by : ℕ → List ℕ → Bool
bad_length_by k s = ltb (most_by k) (length s) || not (eqb (length s % k) 0)

unfoldable pub bad_ids_by : ℕ → List ℕ → Bool
bad_ids_by k s = somewhere (wrong_id (id_by k s)) (count_by k s)

unfoldable pub number_by : ℕ → List ℕ → ℕ
number_by k s = pick (bad_length_by k s) 41 (pick (bad_ids_by k s) 42 0)

abbrev pub most_sheet : ℕ
most_sheet = most_by record_size

pub new_numbers : (most_sheet ≡ 1024) × (record_size ≡ 32)
new_numbers = (refl, refl)

abbrev pub count_in : List ℕ → ℕ
count_in = count_by record_size

abbrev pub record_at : List ℕ → ℕ → List ℕ
record_at = record_by record_size

abbrev pub records_in : List ℕ → List (List ℕ)
records_in = records_by record_size

abbrev pub id_at : List ℕ → ℕ → ℕ
id_at = id_by record_size

abbrev pub WrongLength : List ℕ → Type 0
WrongLength = WrongLengthBy record_size

abbrev pub WrongId : List ℕ → Type 0
WrongId = WrongIdBy record_size

abbrev pub Sheet : List ℕ → Type 0
Sheet = SheetBy record_size

abbrev pub Judged : List ℕ → ℕ → Type 0
Judged = JudgedBy record_size

abbrev pub sheet_number : List ℕ → ℕ
sheet_number = number_by record_size
