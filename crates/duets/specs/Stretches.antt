-- The stretch, said of the run's descriptors and with no search: "For a side and an ID it also gives back that entity's own descriptor bytes .. That
-- side's must be one the reader accepts, 16 apart; a refusal comes with an empty stretch"; "an unknown ID is 64".
--   StretchShown s  ==  of the configuration s that is lent for the side. shown: the stretch of an entity's ID is that entity's descriptor, byte for
--                       byte, and nothing is refused; unknown: an ID that no entity bears is 64; by_the_reader: what the reader refuses with room for
--                       every record is refused so, at its place, whatever the ID; but_16: and what it refuses by another number than 16, with a
--                       sheet of any length; never_16: 16 is never given; empty: a refusal comes with an empty stretch; told_apart: nothing
--                       else does, so that an empty stretch tells of a refusal
use Rattle.std.specs.Prelude.{ℕ, ◌≤◌, ◌≡◌, List, [], Err}
use Rattle.ground.specs.Refuse.{none}
use Rattle.graph.specs.Members.{◌∈◌}
use Rattle.edition.specs.Edition.{own_id}
use Rattle.topology.specs.Reading.{reading_of}
use Rattle.reader.specs.Configuration.{run_of, Configuration}
use Rattle.extent.specs.Stretch.{located_in, refusal_of, bytes_at}
use Rattle.records.specs.Sheet.{whole_sheet}

pub record StretchShown (s : List ℕ) : Type 0 where
  pub shown : (t : Configuration s) (d : List ℕ) → d ∈ run_of t.kept
      → (refusal_of (located_in s (own_id d)) ≡ none) × (bytes_at s (located_in s (own_id d)) ≡ d)
  pub unknown : (t : Configuration s) (x : ℕ) → ((d : List ℕ) → d ∈ run_of t.kept → own_id d ≡ x → ⊥) → located_in s x ≡ Err (record { number = 64; place = 0 })
  pub by_the_reader : (x room : ℕ) → whole_sheet ≤ room → ((reading_of s room).number ≡ 0 → ⊥)
      → located_in s x ≡ Err (record { number = (reading_of s room).number; place = (reading_of s room).place })
  pub but_16 : (x room : ℕ) → ((reading_of s room).number ≡ 0 → ⊥) → ((reading_of s room).number ≡ 16 → ⊥)
      → located_in s x ≡ Err (record { number = (reading_of s room).number; place = (reading_of s room).place })
  pub never_16 : (x : ℕ) → (refusal_of (located_in s x)).number ≡ 16 → ⊥
  pub empty : (x : ℕ) → ((refusal_of (located_in s x)).number ≡ 0 → ⊥) → bytes_at s (located_in s x) ≡ []
  pub told_apart : (x : ℕ) → (refusal_of (located_in s x)).number ≡ 0 → bytes_at s (located_in s x) ≡ [] → ⊥
