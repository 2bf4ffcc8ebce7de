-- Laws of what stands beside it in specs.
--   told, told_only ==  what the reader computes is told by the layouts, and nothing else is
--   laid_out      ==  a descriptor has a layout or it has none
--   reads_unknown ==  what the reader takes for Unknown has none of the layouts (refusals 9 and 17)
--   input_right, input_wrong, output_right, output_wrong, mixer_right, mixer_wrong, selector_right, selector_wrong,
--   feature_right, feature_wrong  ==  what a kind's own reader makes of its layout, and of any other
--   entity_input, entity_output, entity_mixer, entity_selector, entity_feature, entity_unknown ==  one equation for each layout,
--                     and where there is none
--   selector_pins ==  a Selector's pins are 1 to 24
use Rattle.std.specs.Prelude.{ℕ, ◌+◌, ◌≤◌, ◌≡◌, true, false, ◌⊎◌, take, drop}
use Rattle.std.proofs.Math.Path.{refl, ap}
use Rattle.std.proofs.Common.{sym, ◌∙◌, inl, inr, ⊎_elim}
use Rattle.std.proofs.Math.Option.{Option, none, some}
use mathlib.Core.List.{List, [], ◌∷◌}
use Rattle.std.proofs.Math.ListN.{length}
use native.Mathlib.Omega.{arith}
use Rattle.ground.specs.Pick.{yes, no, Reads, shows, refutes, true≠false, reads_same, reads_eq, reads_le, reads_and, reads_within}
use Rattle.ground.specs.Numbers.{byte, word}
use Rattle.layout.specs.declared.Entity.{Entity}
use Rattle.layout.specs.declared.Entity.TheVariants.{Unknown, Input, Output, Mixer, Selector, Feature}
use Rattle.layout.specs.Format.{fits, value_at}
use Rattle.layout.specs.FormatLaws.{stretch_length}
use Rattle.layout.specs.Layouts as kind
use Rattle.layout.specs.Layouts.{Kind, number_of, format_of, kinds_of, most_pins, Pins}
use Rattle.layout.specs.Fields as fields
use Rattle.layout.specs.Fields.{Fields, LaidOut, fields_at, fields_of}
use Rattle.layout.specs.FieldsLaws.{none_some, found_by}
use Rattle.layout.proofs.FieldsLemmas.{laid_fields, laid_only}
use Rattle.layout.specs.Layout.{cluster_at, entity_in, entity_by, input_of, output_of, mixer_of, selector_of, feature_of, entity_of, is_unknown}
use Rattle.layout.specs.LayoutLaws.{kind_input, kind_output, kind_mixer, kind_selector, kind_feature, Told, unknown, input, output, mixer, selector, feature}

module _ (d : List ℕ) where
  abbrev p : ℕ
  p = byte d 4

  input_fits : Reads (fits (format_of kind.input) d 3) (length d ≡ 12)
  input_fits = reads_eq (length d) 12

  output_fits : Reads (fits (format_of kind.output) d 3) (length d ≡ 9)
  output_fits = reads_eq (length d) 9

  mixer_fits : Reads (fits (format_of kind.mixer) d 3) (Pins p × (10 + p ≤ length d))
  mixer_fits =
      reads_same (reads_and _ _ (reads_within 1 p most_pins) (reads_le _ (length d)))
      (λ h. let m = h.1 in (h.0, omega arith))
      (λ h. let m = h.1 in (h.0, omega arith))

  selector_fits : Reads (fits (format_of kind.selector) d 3) (Pins p × (length d ≡ 6 + p))
  selector_fits =
      reads_same (reads_and _ _ (reads_within 1 p most_pins) (reads_eq (length d) _))
      (λ h. let m = h.1 in (h.0, omega arith))
      (λ h. let m = h.1 in (h.0, omega arith))

  feature_fits : Reads (fits (format_of kind.feature) d 3) (((1 ≤ byte d 5) × (byte d 5 ≤ 4)) × (7 ≤ length d))
  feature_fits = reads_and _ _ (reads_within 1 (byte d 5) 4) (reads_le 7 (length d))

  right : {P : Type 0} (k : Kind) (ks : List Kind) → Reads (fits (format_of k) d 3) P → P
      → entity_by (k ∷ ks) d ≡ entity_in (some (fields_at k (value_at (format_of k) d 3)))
  right k ks r h = ap (entity_in) (yes _ _ (shows r h))

  wrong : {P : Type 0} (k : Kind) (ks : List Kind) → Reads (fits (format_of k) d 3) P → (P → ⊥) → entity_by (k ∷ ks) d ≡ entity_by ks d
  wrong k ks r n = ap (entity_in) (no _ _ (refutes r n))

  pub input_right : length d ≡ 12 → input_of d ≡ Input (byte d 3) (word d 4) (cluster_at d 7)
  unfolding input_of
  input_right l = right kind.input [] input_fits l

  pub input_wrong : (length d ≡ 12 → ⊥) → input_of d ≡ Unknown
  unfolding input_of
  input_wrong n = wrong kind.input [] input_fits n

  pub output_right : length d ≡ 9 → output_of d ≡ Output (byte d 3) (word d 4) (byte d 7)
  unfolding output_of
  output_right l = right kind.output [] output_fits l

  pub output_wrong : (length d ≡ 9 → ⊥) → output_of d ≡ Unknown
  unfolding output_of
  output_wrong n = wrong kind.output [] output_fits n

  pub mixer_right : Pins p → 10 + p ≤ length d → mixer_of d ≡ Mixer (byte d 3) p (cluster_at d (5 + p))
  unfolding mixer_of
  mixer_right q l =
      let s : length (take p (drop 5 d)) ≡ p = stretch_length d 5 p (omega arith) in
      let k : 5 + p + 1 + 2 ≡ 5 + p + 3 = omega arith in
      right kind.mixer [] mixer_fits (q, l) ∙ rw (s, k) refl

  pub mixer_wrong : (Pins p → 10 + p ≤ length d → ⊥) → mixer_of d ≡ Unknown
  unfolding mixer_of
  mixer_wrong n = wrong kind.mixer [] mixer_fits (λ h. n h.0 h.1)

  pub selector_right : Pins p → length d ≡ 6 + p → selector_of d ≡ Selector (byte d 3) p
  unfolding selector_of
  selector_right q l =
      let s : length (take p (drop 5 d)) ≡ p = stretch_length d 5 p (omega arith) in
      right kind.selector [] selector_fits (q, l) ∙ rw s refl

  pub selector_wrong : (Pins p → length d ≡ 6 + p → ⊥) → selector_of d ≡ Unknown
  unfolding selector_of
  selector_wrong n = wrong kind.selector [] selector_fits (λ h. n h.0 h.1)

  pub feature_right : (1 ≤ byte d 5) × (byte d 5 ≤ 4) → 7 ≤ length d → feature_of d ≡ Feature (byte d 3) (byte d 4) (byte d 5)
  unfolding feature_of
  feature_right q l = right kind.feature [] feature_fits (q, l)

  pub feature_wrong : ((1 ≤ byte d 5) × (byte d 5 ≤ 4) → 7 ≤ length d → ⊥) → feature_of d ≡ Unknown
  unfolding feature_of
  feature_wrong n = wrong kind.feature [] feature_fits (λ h. n h.0 h.1)

  -- what each layout says of a descriptor that has it
  pub entity_input : byte d 2 ≡ 2 → length d ≡ 12 → entity_of d ≡ Input (byte d 3) (word d 4) (cluster_at d 7)
  entity_input k l = (kind_input d) k ∙ input_right l

  pub entity_output : byte d 2 ≡ 3 → length d ≡ 9 → entity_of d ≡ Output (byte d 3) (word d 4) (byte d 7)
  entity_output k l = (kind_output d) k ∙ output_right l

  pub entity_mixer : byte d 2 ≡ 4 → Pins p → 10 + p ≤ length d → entity_of d ≡ Mixer (byte d 3) p (cluster_at d (5 + p))
  entity_mixer k q l = (kind_mixer d) k ∙ mixer_right q l

  pub entity_selector : byte d 2 ≡ 5 → Pins p → length d ≡ 6 + p → entity_of d ≡ Selector (byte d 3) p
  entity_selector k q l = (kind_selector d) k ∙ selector_right q l

  pub entity_feature : byte d 2 ≡ 6 → (1 ≤ byte d 5) × (byte d 5 ≤ 4) → 7 ≤ length d → entity_of d ≡ Feature (byte d 3) (byte d 4) (byte d 5)
  entity_feature k q l = (kind_feature d) k ∙ feature_right q l

  pub entity_unknown : (LaidOut d → ⊥) → entity_of d ≡ Unknown
  unfolding entity_of
  entity_unknown n = go (fields_of d) refl
    where
      go : (o : Option Fields) → fields_of d ≡ o → entity_in o ≡ Unknown
      go none e = refl
      go (some f) e = absurd (n (laid_fields d f e))

  -- a descriptor has a layout or it has none
  pub laid_out : LaidOut d ⊎ (LaidOut d → ⊥)
  laid_out = go (fields_of d) refl
    where
      go : (o : Option Fields) → fields_of d ≡ o → LaidOut d ⊎ (LaidOut d → ⊥)
      go none e = inr (λ l. none_some (sym e ∙ laid_only d l))
      go (some f) e = inl (laid_fields d f e)

-- THE LAWS: what the reader computes is told by the layouts, and nothing else is
pub told : (d : List ℕ) → Told d (entity_of d)
told d = ⊎_elim of (λ n. rw (entity_unknown d n) (unknown n)) (laid_out d)
  where
    by_kind : (k : Kind) → byte d 2 ≡ number_of k → fits (format_of k) d 3 ≡ true → Told d (entity_of d)
    by_kind kind.input e t = let h = (input_fits d).says t in rw (entity_input d e h) (input e h)
    by_kind kind.output e t = let h = (output_fits d).says t in rw (entity_output d e h) (output e h)
    by_kind kind.mixer e t = let h = (mixer_fits d).says t in rw (entity_mixer d e h.0 h.1) (mixer e h.0 h.1)
    by_kind kind.selector e t = let h = (selector_fits d).says t in rw (entity_selector d e h.0 h.1) (selector e h.0 h.1)
    by_kind kind.feature e t = let h = (feature_fits d).says t in rw (entity_feature d e h.0 h.1) (feature e h.0 h.1)

    of : LaidOut d → Told d (entity_of d)
    of l = let t = found_by d l.fields (laid_only d l) in by_kind t.kind t.number t.passes

pub told_only : {d : List ℕ} {e : Entity} → Told d e → entity_of d ≡ e
told_only {d} (unknown n) = entity_unknown d n
told_only {d} (input k l) = entity_input d k l
told_only {d} (output k l) = entity_output d k l
told_only {d} (mixer k q l) = entity_mixer d k q l
told_only {d} (selector k q l) = entity_selector d k q l
told_only {d} (feature k q l) = entity_feature d k q l

-- what the reader computes, and that there is no layout
pub reads_unknown : (d : List ℕ) → Reads (is_unknown (entity_of d)) (LaidOut d → ⊥)
unfolding is_unknown entity_of
reads_unknown d = go (fields_of d) refl
  where
    known : (f : Fields) → is_unknown (entity_in (some f)) ≡ false
    known (fields.input i t a c l m n) = refl
    known (fields.output i t a s n) = refl
    known (fields.mixer i s c l m k n) = refl
    known (fields.selector i s n) = refl
    known (fields.feature i s z k n) = refl

    go : (o : Option Fields) → fields_of d ≡ o → Reads (is_unknown (entity_in o)) (LaidOut d → ⊥)
    go none e = record { says = λ t l. none_some (sym e ∙ laid_only d l); denies = λ t. absurd (true≠false t) }
    go (some f) e = record { says = λ t. absurd (true≠false (sym t ∙ known f)); denies = λ t n. n (laid_fields d f e) }

pub selector_pins : (d : List ℕ) → LaidOut d → byte d 2 ≡ 5 → Pins (byte d 4)
selector_pins d o e = of (told d)
  where
    of : {x : Entity} → Told d x → Pins (byte d 4)
    of (unknown n) = absurd (n o)
    of (input k l) = absurd (omega arith)
    of (output k l) = absurd (omega arith)
    of (mixer k q l) = absurd (omega arith)
    of (selector k q l) = q
    of (feature k q l) = absurd (omega arith)
