-- A reading into a draft of at most 1,024 bytes, and the sheet written from it.
--   draft_reading   ==  the draft's reading is the sheet's: a whole sheet is read as a longer one is
--   records_inside  ==  the records that are read fit in what was lent
--   records_held    ==  .. and in the draft
--   records_copied  ==  they stand in the draft's front, and copied to the sheet's they are what the reader would have written
use Prim.Native.Nat.{ℕ, ◌+◌, ◌*◌, ◌≤◌, ◌<◌, min}
use mathlib.Core.Path.{◌≡◌, sym, ap, ◌∙◌}
use mathlib.Core.List.{List, ◌++◌, append_assoc}
use mathlib.Core.Logic.{⊎_elim}
use native.Mathlib.Omega.{arith}
use lib.Dec.{ltb}
use lib.ListN.{length, take, drop, length-append}
use lib.Seq.{take_at}
use Rattle.ground.specs.Pick.{decided, reads_lt}
use Rattle.records.specs.Records.{record_size, records_length}
use Rattle.records.specs.Sheet.{records_of, records_same}
use Rattle.topology.specs.declared.Reading.{Reading}
use Rattle.topology.specs.Reading.{clusters_at, reading_of, sheet_of}
use Rattle.topology.specs.Verdict.{reading_whole}
use Rattle.reader.specs.Refusals.{Shown}
use Rattle.reader.specs.Configuration.{Configuration}
use Rattle.reader.proofs.Surveyed.{kept_survey, represented}
use Rattle.reader.proofs.Exactly.{accepted_exactly, clusters_on}
use Rattle.reader.proofs.Shows.{number_told, answer_shows, sheet_shows, run, cluster}
use Rattle.records.specs.Sheet.{whole_sheet}

module _ (s : List ℕ) where
  pub draft_reading : (room : ℕ) → reading_of s (min room whole_sheet) ≡ reading_of s room
  draft_reading room =
      ⊎_elim
      (λ (h : room < whole_sheet). let e : min room whole_sheet ≡ room = omega arith in ap (reading_of s) e)
      (λ (n : room < whole_sheet → ⊥). let e : min room whole_sheet ≡ whole_sheet = omega arith in ap (reading_of s) e ∙ sym (reading_whole s room (omega arith)))
      (decided (ltb room whole_sheet) (reads_lt room whole_sheet))

  shown : (room : ℕ) → (reading_of s room).number ≡ 0 → Shown s room
  shown room e = (accepted_exactly s room).0 (sym (number_told s room) ∙ e)

  records_long : (t : Configuration s) → length (records_of (run s t) (cluster s t)) ≡ length (run s t) * record_size
  records_long t =
      let r = represented s t.kept in
      ap length (sym (records_same r (clusters_at s (kept_survey t.kept)) (cluster s t) (clusters_on s t.kept t.connected)))
      ∙ records_length _ _ _ _
      ∙ ap (λ (n : ℕ). n * record_size) r.counted

  pub records_inside : (room : ℕ) → (reading_of s room).number ≡ 0 → (reading_of s room).entities * record_size ≤ room
  records_inside room e =
      let t = shown room e in
      let n : (reading_of s room).entities ≡ length (run s t.0) = ap (λ (r : Reading). r.entities) (answer_shows s t.0 room t.1) in
      let h = t.1 in
      rw n h

  pub records_held : (z w : List ℕ) → (reading_of s (length z)).number ≡ 0 → (reading_of s (length z)).entities * record_size ≤ length (sheet_of s z ++ w)
  records_held z w e =
      let t = shown (length z) e in
      let n : (reading_of s (length z)).entities ≡ length (run s t.0) = ap (λ (r : Reading). r.entities) (answer_shows s t.0 (length z) t.1) in
      let g = records_of (run s t.0) (cluster s t.0) in
      let x = drop (length (run s t.0) * record_size) z in
      let a : length (sheet_of s z ++ w) ≡ length (sheet_of s z) + length w = length-append (sheet_of s z) w in
      let b : length (sheet_of s z) ≡ length g + length x = ap length (sheet_shows s t.0 z t.1) ∙ length-append g x in
      let c : length g ≡ length (run s t.0) * record_size = records_long t.0 in
      rw n (omega arith)

  -- z is the lent front of the draft, w what stands behind it, d the sheet
  pub records_copied : (z w d : List ℕ) → length z ≤ length d → (reading_of s (length z)).number ≡ 0
      → take ((reading_of s (length z)).entities * record_size) (sheet_of s z ++ w) ++ drop ((reading_of s (length z)).entities * record_size) d ≡ sheet_of s d
  records_copied z w d l e =
      let t = shown (length z) e in
      let h = t.1 in
      let g = records_of (run s t.0) (cluster s t.0) in
      let k = length (run s t.0) * record_size in
      let n : (reading_of s (length z)).entities ≡ length (run s t.0) = ap (λ (r : Reading). r.entities) (answer_shows s t.0 (length z) h) in
      ap (λ (m : ℕ). take (m * record_size) (sheet_of s z ++ w) ++ drop (m * record_size) d) n
      ∙ ap (λ (x : List ℕ). take k (x ++ w) ++ drop k d) (sheet_shows s t.0 z h)
      ∙ ap (λ (x : List ℕ). take k x ++ drop k d) (append_assoc g (drop k z) w)
      ∙ ap (λ (x : List ℕ). x ++ drop k d) (take_at g (drop k z ++ w) k (records_long t.0))
      ∙ sym (sheet_shows s t.0 d (omega arith))
