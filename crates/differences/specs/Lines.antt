-- The differences of two sheets (document 02, No. 4): "by rising ID: `left ID` or `right ID` for one that stands on that side only, or `changed ID`
-- with the numbers of the bytes that differ, and nothing for equal records". Every word is of any bytes; what a sheet is stands in `legal`.
--   Line              ==  a line of the answer: `left ID` (left_only), `right ID` (right_only), or `changed ID N N ..` (changed)
--   line_id x          ==  the line's ID
--   last_id            ==  the highest ID that a byte holds: 255
--   record_bearing s i ==  the record of s that bears the ID i, the first where several do; none where it stands nowhere
--   differs a b n     ==  the test that the records a and b differ in byte n, counted from 0; kinds 05 and 15 hex count as the same (document 02, No. 6)
--   differing a b     ==  the numbers of the bytes in which they differ, rising
--   changed_line i ns  ==  the line of an ID that stands on both sides: none where no byte differs
--   line_of i a b      ==  the line of the ID i, whose record on the left is a and on the right b
--   line_at l r i      ==  the line of the ID i, for the sheets l and r
--   lines_of l r       ==  all lines, by rising ID from 1
--   first_above a ls   ==  the first of the lines ls whose ID is above a
--   bits_set ns        ==  the number whose bits ns are set
--   difference_of x    ==  how an answer tells a line, case by case; `None` where there is none
--   has_bit m n        ==  the test that bit n of the number m is set
--   numbers_of m       ==  the numbers of the bytes whose bits are set in m, rising
--   line_told d        ==  .. and the line that an answer tells: the paper's words for each of its cases
--   id_told d          ==  the ID that an answer tells, 0 where it tells none
--   pair_number l r    ==  the number by which l and r are refused as two sheets: "both of the left and then those of the right"
use Rattle.std.specs.Prelude.{ℕ, ◌+◌, ◌/◌, ◌%◌, ◌^◌, Bool, not, List, [], ◌∷◌, eqb, ltb}
use Rattle.std.proofs.Math.Option.{Option, none, some}
use Rattle.ground.specs.Pick.{pick}
use Rattle.ground.specs.Numbers.{byte}
use Rattle.ground.specs.Places.{first_in}
use Rattle.graph.specs.Borne.{bears}
use Rattle.records.specs.Records.{record_size}
use Rattle.legal.specs.Sheet.{count_in, record_at, id_at, sheet_number}
use Rattle.std.specs.declared.option.Option as answer
use Rattle.std.specs.declared.option.Option.TheVariants.{None, Some}
use Rattle.differences.specs.declared.Difference.{Difference}
use Rattle.differences.specs.declared.Difference.TheVariants as difference
use Rattle.differences.specs.InTurn.{in_turn}
use Rattle.differences.specs.Mended.{compared_as}

pub data Line : Type 0 where
  left_only : ℕ → Line
  right_only : ℕ → Line
  changed : ℕ → List ℕ → Line

abbrev pub line_id : Line → ℕ
line_id (left_only i) = i
line_id (right_only i) = i
line_id (changed i ns) = i

abbrev pub last_id : ℕ
last_id = 255

unfoldable pub record_bearing : List ℕ → ℕ → Option (List ℕ)
record_bearing s i = first_in (bears (id_at s) i) (λ j. some (record_at s j)) none 0 (count_in s)

abbrev pub differs : List ℕ → List ℕ → ℕ → Bool
differs a b n = not (eqb (compared_as n (byte a n)) (compared_as n (byte b n)))

unfoldable pub differing : List ℕ → List ℕ → List ℕ
differing a b = in_turn (λ n. pick (differs a b n) (n ∷ []) []) 0 record_size

abbrev pub changed_line : ℕ → List ℕ → List Line
changed_line i [] = []
changed_line i (n ∷ ns) = changed i (n ∷ ns) ∷ []

abbrev pub line_of : ℕ → Option (List ℕ) → Option (List ℕ) → List Line
line_of i none none = []
line_of i (some a) none = left_only i ∷ []
line_of i none (some b) = right_only i ∷ []
line_of i (some a) (some b) = changed_line i (differing a b)

unfoldable pub line_at : List ℕ → List ℕ → ℕ → List Line
line_at l r i = line_of i (record_bearing l i) (record_bearing r i)

unfoldable pub lines_of : List ℕ → List ℕ → List Line
lines_of l r = in_turn (line_at l r) 1 last_id

unfoldable pub first_above : ℕ → List Line → Option Line
first_above a [] = none
first_above a (x ∷ ls) = pick (ltb a (line_id x)) (some x) (first_above a ls)

unfoldable pub bits_set : List ℕ → ℕ
bits_set [] = 0
bits_set (n ∷ ns) = 2 ^ n + bits_set ns

abbrev pub difference_of : Option Line → answer.Option Difference
difference_of none = None
difference_of (some (left_only i)) = Some (difference.LeftOnly i)
difference_of (some (right_only i)) = Some (difference.RightOnly i)
difference_of (some (changed i ns)) = Some (difference.Changed i (bits_set ns))

abbrev pub has_bit : ℕ → ℕ → Bool
has_bit m n = eqb (m / 2 ^ n % 2) 1

unfoldable pub numbers_of : ℕ → List ℕ
numbers_of m = in_turn (λ n. pick (has_bit m n) (n ∷ []) []) 0 record_size

abbrev pub line_told : answer.Option Difference → Option Line
line_told None = none
line_told (Some (difference.LeftOnly i)) = some (left_only i)
line_told (Some (difference.RightOnly i)) = some (right_only i)
line_told (Some (difference.Changed i mask)) = some (changed i (numbers_of mask))

abbrev pub id_told : answer.Option Difference → ℕ
id_told None = 0
id_told (Some (difference.LeftOnly i)) = i
id_told (Some (difference.RightOnly i)) = i
id_told (Some (difference.Changed i mask)) = i

unfoldable pub pair_number : List ℕ → List ℕ → ℕ
pair_number l r = pick (eqb (sheet_number l) 0) (sheet_number r) (sheet_number l)
