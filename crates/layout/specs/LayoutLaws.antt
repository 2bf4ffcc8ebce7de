-- What the layouts say of a descriptor, and what the reader's definition makes of it: the two are one.
--   Told d e      ==  the entity e is what one of the layouts says of d, number by number; Unknown where none of them holds
--   kind_input, kind_output, kind_mixer, kind_selector, kind_feature, kind_other ==  byte 2 says which kind's reader it is
use Rattle.std.specs.Prelude.{ℕ, ◌+◌, ◌≤◌, ◌≡◌, true, false, ◌⊎◌, take, drop}
use Rattle.std.proofs.Math.Path.{refl, ap}
use Rattle.std.proofs.Common.{sym, ◌∙◌, inl, inr, ⊎_elim, ne_eqb}
use Rattle.std.proofs.Math.Option.{Option, none, some}
use mathlib.Core.List.{List, [], ◌∷◌}
use Rattle.std.proofs.Math.ListN.{length}
use native.Mathlib.Omega.{arith}
use Rattle.ground.specs.Pick.{yes, no, Reads, shows, refutes, true≠false, reads_same, reads_eq, reads_le, reads_and, reads_within}
use Rattle.ground.specs.Numbers.{byte, word}
use Rattle.layout.specs.declared.Entity.{Entity}
use Rattle.layout.specs.declared.Entity.TheVariants.{Unknown, Input, Output, Mixer, Selector, Feature}
use Rattle.layout.specs.Format.{fits, value_at}
use Rattle.layout.specs.FormatLaws.{stretch_length}
use Rattle.layout.specs.Layouts as kind
use Rattle.layout.specs.Layouts.{Kind, number_of, format_of, kinds_of, most_pins, Pins}
use Rattle.layout.specs.Fields as fields
use Rattle.layout.specs.Fields.{Fields, LaidOut, fields_at, fields_of}
use Rattle.layout.specs.FieldsLaws.{none_some, found_by}
use Rattle.layout.specs.Layout.{cluster_at, entity_in, entity_by, input_of, output_of, mixer_of, selector_of, feature_of, entity_of, is_unknown}

module _ (d : List ℕ) where
  -- ---- the test of each layout, by offset: what the format computes to

  -- ---- a kind's own reader

  -- ---- byte 2 is the kind

  by_number : {n : ℕ} → byte d 2 ≡ n → entity_of d ≡ entity_by (kinds_of n) d
  unfolding entity_of
  by_number k = ap (λ (n : ℕ). entity_by (kinds_of n) d) k

  pub kind_input : byte d 2 ≡ 2 → entity_of d ≡ input_of d
  unfolding input_of
  kind_input k = by_number k

  pub kind_output : byte d 2 ≡ 3 → entity_of d ≡ output_of d
  unfolding output_of
  kind_output k = by_number k

  pub kind_mixer : byte d 2 ≡ 4 → entity_of d ≡ mixer_of d
  unfolding mixer_of
  kind_mixer k = by_number k

  pub kind_selector : byte d 2 ≡ 5 → entity_of d ≡ selector_of d
  unfolding selector_of
  kind_selector k = by_number k

  pub kind_feature : byte d 2 ≡ 6 → entity_of d ≡ feature_of d
  unfolding feature_of
  kind_feature k = by_number k

  pub kind_other : (byte d 2 ≡ 2 → ⊥) → (byte d 2 ≡ 3 → ⊥) → (byte d 2 ≡ 4 → ⊥) → (byte d 2 ≡ 5 → ⊥) → (byte d 2 ≡ 6 → ⊥) → entity_of d ≡ Unknown
  unfolding entity_of
  kind_other a b c e f =
      let q : kinds_of (byte d 2) ≡ [] = no _ _ (ne_eqb _ 2 a) ∙ no _ _ (ne_eqb _ 3 b) ∙ no _ _ (ne_eqb _ 4 c) ∙ no _ _ (ne_eqb _ 5 e) ∙ no _ _ (ne_eqb _ 6 f) in
      ap (λ (ks : List Kind). entity_by ks d) q

-- what the layouts say of d, as an entity
pub data Told (d : List ℕ) : Entity → Type 0 where
  unknown : (LaidOut d → ⊥) → Told d Unknown
  input : byte d 2 ≡ 2 → length d ≡ 12 → Told d (Input (byte d 3) (word d 4) (cluster_at d 7))
  output : byte d 2 ≡ 3 → length d ≡ 9 → Told d (Output (byte d 3) (word d 4) (byte d 7))
  mixer : byte d 2 ≡ 4 → Pins (byte d 4) → 10 + byte d 4 ≤ length d → Told d (Mixer (byte d 3) (byte d 4) (cluster_at d (5 + byte d 4)))
  selector : byte d 2 ≡ 5 → Pins (byte d 4) → length d ≡ 6 + byte d 4 → Told d (Selector (byte d 3) (byte d 4))
  feature : byte d 2 ≡ 6 → (1 ≤ byte d 5) × (byte d 5 ≤ 4) → 7 ≤ length d → Told d (Feature (byte d 3) (byte d 4) (byte d 5))
