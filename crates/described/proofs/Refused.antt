-- The writer's refusals are exactly the rules of the list: row by row, what decides each.
use Prim.Native.Nat.{ℕ}
use mathlib.Core.Path.{◌≡◌, refl, sym, ap}
use mathlib.Core.Logic.{◌⊎◌, inl}
use mathlib.Core.List.Memᴰ
use mathlib.Core.List.{List, [], ◌∷◌, flatten, Memᴰ}
use mathlib.Core.Logic.{⊎_elim}
use native.Mathlib.Omega.{arith}
use lib.ListN.{length, get_or}
use Rattle.ground.specs.declared.Refusal.{Refusal}
use Rattle.ground.specs.Pick.{reads_within, reads_le}
use Rattle.ground.specs.First.{sound_each}
use Rattle.ground.specs.Places.{breach_nowhere, breach_at}
use Rattle.ground.specs.Indexed.{WrongAt, sound_index}
use Rattle.ground.specs.Refuse.{none, refuse}
use Rattle.ground.specs.Rows.{Rows, Decides, Answers, Numbered, kept_decides}
use Rattle.graph.specs.Members.{◌∈◌}
use Rattle.scan.specs.Cutting.{Descriptor}
use Rattle.layout.specs.Fields.{LaidOut, body_of}
use Rattle.layout.specs.Withdrawn.{Printed}
use Rattle.entities.specs.Run.{most_entities}
use Rattle.cutting.specs.Rules1to9.{Rule8}
use Rattle.fields.specs.Listed.{Listed, wrong, laid, printed, written_as}
use Rattle.laying.specs.LayingLaws.{long_printed}
use Rattle.indices.specs.Indices.{indexed_then}
use Rattle.indices.specs.IndexLaws.{FirstIndex, judged_rows_lem}
use Rattle.writing.specs.Writing.{most_numbers, descriptors_of, whole_of, WrongIn, wrong_in, breach8, breach9, entities_then, breach47, breach48, room_then, writer_verdict, entity_rows, room_rows, writer_rows}
use Rattle.writing.specs.LaidLaws.{reads_wrong_in}

-- no bytes are no layout
pub empty_unlaid : LaidOut [] → ⊥
empty_unlaid l = let n : ◌≡◌ {A = ℕ} 0 (length (body_of l.fields)) = ap length l.same in omega arith

pub empty_unprinted : Printed [] → ⊥
empty_unprinted p = let k = p.kind in omega arith

-- what is laid, and not wrong, tells its own length first
listed_descriptor : (l : Listed) → (WrongIn (written_as l) → ⊥) → Descriptor (written_as l)
listed_descriptor wrong n = absurd (n (inl (empty_unlaid, empty_unprinted)))
listed_descriptor (laid f) n = record { long = omega arith; own = refl }
listed_descriptor (printed i s k) n = let e = long_printed i k s in record { long = omega arith; own = sym e }

pub all_descriptors : (ls : List Listed) → ((d : List ℕ) → d ∈ descriptors_of ls → WrongIn d → ⊥) → (d : List ℕ) → d ∈ descriptors_of ls → Descriptor d
all_descriptors [] h d m = absurd (Memᴰ.not-nil m)
all_descriptors (l ∷ ls) h d m =
    ⊎_elim (λ e. rw e (listed_descriptor l (h (written_as l) (Memᴰ.head refl)))) (λ k. all_descriptors ls (λ x j. h x (Memᴰ.tail j)) d k) (Memᴰ.cases_cons m)

module _ (ds : List (List ℕ)) where
  decides_8 : Decides (breach8 ds) (Rule8 ds) (λ q. (q ≡ 0) × (Rule8 ds → ⊥))
  unfolding breach8
  decides_8 = kept_decides 0 (reads_within 1 (length ds) most_entities)

  decides_9 : Decides (breach9 ds) ((d : List ℕ) → d ∈ ds → WrongIn d → ⊥) (FirstIndex (λ b d. WrongIn d) ds)
  unfolding breach9
  decides_9 =
      let n = breach_nowhere (length ds) (λ i. i) (WrongAt (λ b d. WrongIn d) ds) (λ i. wrong_in (get_or ds i [])) (λ i l. reads_wrong_in (get_or ds i [])) in
      let x = sound_index (λ b d. WrongIn d) ds in
      let y = sound_each WrongIn ds in
      record { kept = (λ e. y.0 (x.0 (n.0 e)), λ h. n.1 (x.1 (y.1 h))); broken = breach_at (length ds) (λ i. i) (WrongAt (λ b d. WrongIn d) ds) (λ i. wrong_in (get_or ds i [])) (λ i l. reads_wrong_in (get_or ds i [])) }

module _ (cs run : List ℕ) (m : ℕ) where
  room_answers : Answers (room_rows cs run m) (room_then cs run m)
  unfolding room_then breach47 breach48
  room_answers = (
    breach47 cs,
    refuse 48 (breach48 cs run m) none,
    refl,
    kept_decides 0 (reads_le (length cs) most_numbers),
    λ n. (breach48 cs run m, none, refl, kept_decides 0 (reads_le (length (whole_of cs run)) m), λ k. refl),
  )

module _ (ls : List Listed) where
  abbrev ds : List (List ℕ)
  ds = descriptors_of ls

  pub entity_answers : (behind : Rows) (r : Refusal) → Answers behind r → Answers (entity_rows ds behind) (entities_then ds r)
  unfolding entities_then
  entity_answers behind r h = (
    breach8 ds,
    refuse 9 (breach9 ds) (indexed_then (flatten ds) r),
    refl,
    decides_8 ds,
    λ m. (
      breach9 ds,
      indexed_then (flatten ds) r,
      refl,
      decides_9 ds,
      λ l. judged_rows_lem ds (all_descriptors ls l) (λ d i w. l d i (inl w)) m.1 (λ w a b c e. behind) r (λ w a b c e. h),
    ),
  )

  pub verdict_answers : (cs : List ℕ) (m : ℕ) → Answers (writer_rows ls cs m) (writer_verdict ls cs m)
  unfolding writer_verdict
  verdict_answers cs m = entity_answers (room_rows cs (flatten ds) m) (room_then cs (flatten ds) m) (room_answers cs (flatten ds) m)

  pub numbered : (cs : List ℕ) (m : ℕ) → Numbered (writer_rows ls cs m)
  numbered cs m =
      (λ e. omega arith, λ k. (λ e. omega arith, λ l. (λ e. omega arith, λ w. (λ e. omega arith, λ a. (λ e. omega arith, λ b. (λ e. omega arith, λ c. (λ e. omega arith, λ e. (λ q. omega arith, λ n. (λ q. omega arith, λ j. tt)))))))))
