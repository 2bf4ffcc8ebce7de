-- The writer (document 02, No. 9): what it writes, and its refusals as the paper has them, "8 to 13 and 17 as the reader would give them, 9 also for
-- an entity that would pass 255 bytes, the place being the entity's index from 0 in the list, and 0 for 8, 47 and 48; then 47 if the collection
-- list has more than 247 numbers; then 48 if the buffer is too short, which stays untouched".
--   list_of v l       ==  the entities of the list l, whose sources and control bytes or masks stand in the lent slice v
--   descriptors_of ls ==  their descriptors, the run
--   header_with cs n  ==  the header with the collection list cs before a run of n bytes (000, table 4-2): its length, type and subtype, the class
--                        definition's release 1.00, the length of header and run together, how many numbers there are, and these
--   whole_of cs r     ==  the header, then the run's bytes r; written_of ls cs: those of the list ls
--   most_numbers, most_run  ==  247, and the bytes of the longest run: 32 descriptors of 255
--   TooLong d, WrongIn d  ==  it passes 255 bytes; rule 9 is broken: a wrong layout, or too long. wrong_in d: the test
--   breach8, breach9, breach47, breach48  ==  where these are broken first
--   entities_then ds r, room_then cs run m  ==  the refusals of the entities, and r behind them; those of the collection list and of m bytes of room
--   writer_verdict ls cs m  ==  the writer's refusal, 0 and 0 where there is none
--   answers_in r      ==  the number and place of an answer
--   WroteBy v w b a r   ==  the lent buffer b became a, and the answer is r, by the verdict v and the bytes w: in front where nothing is refused, the
--                        bytes past them as they stood; all of them as they stood where something is
--   Writes ls cs b a r  ==  .. by the list and the collection list
--   wrong_told r, refusal_told r, size_told r  ==  what such a result says: the place of the first wrong layout; the refusal; how many bytes, 0 of none
--   LaidRun, JudgedRun  ==  what is known of the run's bytes once the list was laid out, once it was judged
-- THE ROWS, in the reader's words:
--   entity_rows ds behind  ==  the rows 8, 9, 17 and 10 to 13, of the descriptors of a list, and the rows behind them
--   room_rows cs run m  ==  the rows 47 and 48
--   writer_rows ls cs m  ==  all of them, and 47 and 48
use Rattle.std.specs.Prelude.{ℕ, ◌+◌, ◌*◌, ◌/◌, ◌%◌, ◌≤◌, ◌<◌, ◌≡◌, Bool, ◌||◌, ◌⊎◌, length, get_or, drop, eqb, ltb, leb, Option, Some, None}
use Rattle.std.specs.declared.result.Result.{Result}
use Rattle.std.specs.declared.result.Result.TheVariants.{Ok, Err}
use mathlib.Core.List.{List, [], ◌∷◌, ◌++◌, map, flatten}
use Rattle.ground.specs.declared.Refusal.{Refusal}
use Rattle.ground.specs.Pick.{pick, within}
use Rattle.ground.specs.Lists.{pad, part}
use Rattle.ground.specs.Places.{first_in}
use Rattle.ground.specs.Refuse.{none, refuse, kept_at}
use Rattle.ground.specs.Rows.{Rows, row, end}
use Rattle.graph.specs.Members.{◌∈◌}
use Rattle.layout.specs.Fields.{descriptor_type}
use Rattle.layout.specs.Withdrawn.{is_wrong}
use Rattle.edition.specs.Audio.{audio}
use Rattle.entities.specs.Run.{most_entities}
use Rattle.cutting.specs.Rules1to9.{Rule8, WrongLayout, BrokenAt}
use Rattle.fields.specs.Listed.{Listed, written_as, listed_with, blank_item}
use Rattle.laying.specs.Laying.{most_long}
use Rattle.indices.specs.Indices.{indexed_then}
use Rattle.indices.specs.IndexLaws.{FirstIndex, judged_rows}
use Rattle.writing.specs.declared.EntityList.{EntityList}
use Rattle.writing.specs.declared.Wrote.{Wrote}

abbrev pub most_numbers : ℕ
most_numbers = 247

abbrev pub most_run : ℕ
most_run = most_entities * most_long

abbrev pub list_of : List ℕ → EntityList → List Listed
list_of v l = map (listed_with v) (pad blank_item l.count l.items)

abbrev pub descriptors_of : List Listed → List (List ℕ)
descriptors_of ls = map written_as ls

abbrev pub header_with : List ℕ → ℕ → List ℕ
header_with cs n =
    (8 + length cs) ∷ descriptor_type ∷ 1 ∷ 0 ∷ 1 ∷ (8 + length cs + n) % 256 ∷ (8 + length cs + n) / 256 ∷ length cs ∷ cs

abbrev pub whole_of : List ℕ → List ℕ → List ℕ
whole_of cs run = header_with cs (length run) ++ run

abbrev pub written_of : List Listed → List ℕ → List ℕ
written_of ls cs = whole_of cs (flatten (descriptors_of ls))

-- ---- the refusals

abbrev pub TooLong : List ℕ → Type 0
TooLong d = most_long < length d

abbrev pub WrongIn : List ℕ → Type 0
WrongIn d = WrongLayout audio d ⊎ TooLong d

unfoldable pub wrong_in : List ℕ → Bool
wrong_in d = is_wrong d || ltb most_long (length d)

unfoldable pub breach8 : List (List ℕ) → Option ℕ
breach8 ds = kept_at (within 1 (length ds) most_entities) 0

unfoldable pub breach9 : List (List ℕ) → Option ℕ
breach9 ds = first_in (λ i. wrong_in (get_or ds i [])) (λ i. Some i) None 0 (length ds)

unfoldable pub entities_then : List (List ℕ) → Refusal → Refusal
entities_then ds r = refuse 8 (breach8 ds) (refuse 9 (breach9 ds) (indexed_then (flatten ds) r))

unfoldable pub breach47 : List ℕ → Option ℕ
breach47 cs = kept_at (leb (length cs) most_numbers) 0

unfoldable pub breach48 : List ℕ → List ℕ → ℕ → Option ℕ
breach48 cs run m = kept_at (leb (length (whole_of cs run)) m) 0

unfoldable pub room_then : List ℕ → List ℕ → ℕ → Refusal
room_then cs run m = refuse 47 (breach47 cs) (refuse 48 (breach48 cs run m) none)

unfoldable pub writer_verdict : List Listed → List ℕ → ℕ → Refusal
writer_verdict ls cs m = entities_then (descriptors_of ls) (room_then cs (flatten (descriptors_of ls)) m)

-- ---- the answer

abbrev pub answers_in : Wrote → Refusal
answers_in r = record { number = r.number; place = r.place }

pub record WroteBy (v : Refusal) (w before after : List ℕ) (r : Wrote) : Type 0 where
  pub refused : answers_in r ≡ v
  pub written : r.written ≡ pick (eqb v.number 0) (length w) 0
  pub lent : after ≡ pick (eqb v.number 0) (w ++ drop (length w) before) before

abbrev pub Writes : List Listed → List ℕ → List ℕ → List ℕ → Wrote → Type 0
Writes ls cs before after r = WroteBy (writer_verdict ls cs (length before)) (written_of ls cs) before after r

-- ---- on the way to it

abbrev pub wrong_told : Result ℕ ℕ → Option ℕ
wrong_told (Ok n) = None
wrong_told (Err i) = Some i

abbrev pub refusal_told : Result ℕ Refusal → Refusal
refusal_told (Ok n) = none
refusal_told (Err r) = r

abbrev pub size_told : {E : Type 0} → Result ℕ E → ℕ
size_told (Ok n) = n
size_told (Err e) = 0

pub record LaidRun (ds : List (List ℕ)) (after : List ℕ) (wrong : Option ℕ) (size : ℕ) : Type 0 where
  pub first : wrong ≡ breach9 ds
  pub bytes : wrong ≡ None → part after 0 size ≡ flatten ds
  pub room : size ≤ length after
  pub long : length after ≡ most_run

pub record JudgedRun (ds : List (List ℕ)) (after : List ℕ) (r : Refusal) (size : ℕ) : Type 0 where
  pub same : r ≡ entities_then ds none
  pub bytes : r.number ≡ 0 → part after 0 size ≡ flatten ds
  pub room : size ≤ length after
  pub long : length after ≡ most_run

-- ---- the rows

abbrev pub entity_rows : (ds : List (List ℕ)) → Rows → Rows
entity_rows ds behind =
    row 8 (Rule8 ds) (BrokenAt 0 (Rule8 ds)) (λ m.
    row 9 ((d : List ℕ) → d ∈ ds → WrongIn d → ⊥) (FirstIndex (λ b d. WrongIn d) ds) (λ l. judged_rows ds (λ w a b c e. behind)))

abbrev pub room_rows : List ℕ → List ℕ → ℕ → Rows
room_rows cs run m =
    row 47 (length cs ≤ most_numbers) (BrokenAt 0 (length cs ≤ most_numbers)) (λ n.
    row 48 (length (whole_of cs run) ≤ m) (BrokenAt 0 (length (whole_of cs run) ≤ m)) (λ k. end))

abbrev pub writer_rows : List Listed → List ℕ → ℕ → Rows
writer_rows ls cs m = entity_rows (descriptors_of ls) (room_rows cs (flatten (descriptors_of ls)) m)
