-- What the layouts of the 3.0 edition say of a descriptor, and what the reader's definition makes of it: the two are one.
--   Told d e      ==  the entity e is what one of the layouts says of d, number by number; Unknown where none of them holds
--   told          ==  what the reader computes is told by the layouts
--   reads_unknown ==  what the reader takes for Unknown has none of the layouts (refusal 9)
--   input_right, input_wrong, output_right, output_wrong, mixer_right, mixer_wrong, selector_right, selector_wrong, feature_right, feature_wrong,
--   clock_right, clock_wrong  ==  what a kind's own reader makes of its layout, and of any other
--   kind_input, kind_output, kind_mixer, kind_selector, kind_feature, kind_clock, kind_other  ==  byte 2 says which kind's reader it is
--   laid_decided  ==  a descriptor has one of the layouts, or none
--   pins_few      ==  at most 24 pins
--   sources_within  ==  the sources of what a descriptor is stand inside it
--   sources_laid  ==  they are those that the fields of its layout hold
use Rattle.std.specs.Prelude.{ℕ, ◌+◌, ◌≤◌, ◌≡◌, refl, Bool, true, false, ◌⊎◌, List, ◌∷◌, length, take, drop, eqb}
use Rattle.std.proofs.Common.{sym, ◌∙◌, inl, inr, arith, ne_eqb, eqb-true}
use Rattle.std.proofs.Math.Path.{ap}
use Rattle.std.proofs.Math.Option.{Option, none, some}
use Rattle.ground.specs.Pick.{pick, yes, no, Reads, shows, refutes, true≠false, reads_same, reads_eq, reads_le, reads_and, reads_within}
use Rattle.ground.specs.Numbers.{byte, word}
use Rattle.layout.specs.Layouts.{most_pins, Pins}
use Rattle.layout.specs.Format.{emit, fits, value_at, fed}
use Rattle.layout.specs.FormatLaws.{found, again, fits_inside, here_at, after_at, open_at, stretch_length, fed_part}
use Rattle.layout.specs.FieldsLaws.{none_some, some_one}
use Rattle.layout3.specs.declared.Entity.{Entity}
use Rattle.layout3.specs.declared.Entity.TheVariants.{Unknown, Input, Output, Mixer, Selector, Feature, Clock}
use Rattle.layout3.specs.Layouts as kind
use Rattle.layout3.specs.Layouts.{Kind, number_of, format_of, kind_by, LaidOut}
use Rattle.layout3.specs.Layout.{entity_at, entity_by, input_of, output_of, mixer_of, selector_of, feature_of, clock_of, entity_in, entity_of, is_unknown}
use Rattle.layout3.specs.Facts.{facts_of}

kind_number : (k : Kind) → kind_by (number_of k) ≡ some k
kind_number kind.input = refl
kind_number kind.output = refl
kind_number kind.mixer = refl
kind_number kind.selector = refl
kind_number kind.feature = refl
kind_number kind.clock = refl

-- the layout of a subtype has that number
kind_told : (n : ℕ) (k : Kind) → kind_by n ≡ some k → n ≡ number_of k
kind_told n k =
    one 2 kind.input refl (eqb n 2) refl
    (one 3 kind.output refl (eqb n 3) refl
    (one 5 kind.mixer refl (eqb n 5) refl
    (one 6 kind.selector refl (eqb n 6) refl
    (one 7 kind.feature refl (eqb n 7) refl (one 0x0B kind.clock refl (eqb n 0x0B) refl (λ e. absurd (none_some e)))))))
  where
    one : (m : ℕ) (j : Kind) → m ≡ number_of j → (b : Bool) → eqb n m ≡ b → {o : Option Kind} → (o ≡ some k → n ≡ number_of k)
        → pick b (some j) o ≡ some k → n ≡ number_of k
    one m j q true t r e = eqb-true n m t ∙ q ∙ ap number_of (some_one e)
    one m j q false t r e = r e

module _ (d : List ℕ) where
  abbrev p : ℕ
  p = byte d 4

  -- the test of each layout, by offset: what the format computes to
  input_fits : Reads (fits (format_of kind.input) d 3) (length d ≡ 20)
  input_fits = reads_eq (length d) 20

  output_fits : Reads (fits (format_of kind.output) d 3) (length d ≡ 19)
  output_fits = reads_eq (length d) 19

  mixer_fits : Reads (fits (format_of kind.mixer) d 3) (Pins p × (13 + p ≤ length d))
  mixer_fits =
      reads_same (reads_and _ _ (reads_within 1 p most_pins) (reads_le _ (length d)))
      (λ h. let m = h.1 in (h.0, omega arith))
      (λ h. let m = h.1 in (h.0, omega arith))

  selector_fits : Reads (fits (format_of kind.selector) d 3) (Pins p × (length d ≡ 11 + p))
  selector_fits =
      reads_same (reads_and _ _ (reads_within 1 p most_pins) (reads_eq (length d) _))
      (λ h. let m = h.1 in (h.0, omega arith))
      (λ h. let m = h.1 in (h.0, omega arith))

  feature_fits : Reads (fits (format_of kind.feature) d 3) (7 ≤ length d)
  feature_fits = reads_le 7 (length d)

  clock_fits : Reads (fits (format_of kind.clock) d 3) (length d ≡ 12)
  clock_fits = reads_eq (length d) 12

  -- ---- a kind's own reader

  right : {P : Type 0} (k : Kind) → Reads (fits (format_of k) d 3) P → P → entity_by k d ≡ entity_at k (value_at (format_of k) d 3)
  right k r h = yes _ _ (shows r h)

  wrong : {P : Type 0} (k : Kind) → Reads (fits (format_of k) d 3) P → (P → ⊥) → entity_by k d ≡ Unknown
  wrong k r n = no _ _ (refutes r n)

  pub input_right : length d ≡ 20 → input_of d ≡ Input (byte d 7) (word d 12)
  unfolding input_of
  input_right l = right kind.input input_fits l

  pub input_wrong : (length d ≡ 20 → ⊥) → input_of d ≡ Unknown
  unfolding input_of
  input_wrong n = wrong kind.input input_fits n

  pub output_right : length d ≡ 19 → output_of d ≡ Output (byte d 7) (byte d 8)
  unfolding output_of
  output_right l = right kind.output output_fits l

  pub output_wrong : (length d ≡ 19 → ⊥) → output_of d ≡ Unknown
  unfolding output_of
  output_wrong n = wrong kind.output output_fits n

  sources_long : 5 + p ≤ length d → length (take p (drop 5 d)) ≡ p
  sources_long l = stretch_length d 5 p l

  pub mixer_right : Pins p → 13 + p ≤ length d → mixer_of d ≡ Mixer p (word d (5 + p))
  unfolding mixer_of
  mixer_right q l = right kind.mixer mixer_fits (q, l) ∙ ap (λ (n : ℕ). Mixer n (word d (5 + p))) (sources_long (omega arith))

  pub mixer_wrong : (Pins p → 13 + p ≤ length d → ⊥) → mixer_of d ≡ Unknown
  unfolding mixer_of
  mixer_wrong n = wrong kind.mixer mixer_fits (λ h. n h.0 h.1)

  pub selector_right : Pins p → length d ≡ 11 + p → selector_of d ≡ Selector p
  unfolding selector_of
  selector_right q l = right kind.selector selector_fits (q, l) ∙ ap Selector (sources_long (omega arith))

  pub selector_wrong : (Pins p → length d ≡ 11 + p → ⊥) → selector_of d ≡ Unknown
  unfolding selector_of
  selector_wrong n = wrong kind.selector selector_fits (λ h. n h.0 h.1)

  pub feature_right : 7 ≤ length d → feature_of d ≡ Feature (byte d 4)
  unfolding feature_of
  feature_right l = right kind.feature feature_fits l

  pub feature_wrong : (7 ≤ length d → ⊥) → feature_of d ≡ Unknown
  unfolding feature_of
  feature_wrong n = wrong kind.feature feature_fits n

  pub clock_right : length d ≡ 12 → clock_of d ≡ Clock
  unfolding clock_of
  clock_right l = right kind.clock clock_fits l

  pub clock_wrong : (length d ≡ 12 → ⊥) → clock_of d ≡ Unknown
  unfolding clock_of
  clock_wrong n = wrong kind.clock clock_fits n

  -- ---- byte 2 is the subtype

  by_number : (k : Kind) → byte d 2 ≡ number_of k → entity_of d ≡ entity_by k d
  unfolding entity_of
  by_number k e = ap (λ (n : ℕ). entity_in (kind_by n) d) e ∙ ap (λ (o : Option Kind). entity_in o d) (kind_number k)

  pub kind_input : byte d 2 ≡ 2 → entity_of d ≡ input_of d
  unfolding input_of
  kind_input e = by_number kind.input e

  pub kind_output : byte d 2 ≡ 3 → entity_of d ≡ output_of d
  unfolding output_of
  kind_output e = by_number kind.output e

  pub kind_mixer : byte d 2 ≡ 5 → entity_of d ≡ mixer_of d
  unfolding mixer_of
  kind_mixer e = by_number kind.mixer e

  pub kind_selector : byte d 2 ≡ 6 → entity_of d ≡ selector_of d
  unfolding selector_of
  kind_selector e = by_number kind.selector e

  pub kind_feature : byte d 2 ≡ 7 → entity_of d ≡ feature_of d
  unfolding feature_of
  kind_feature e = by_number kind.feature e

  pub kind_clock : byte d 2 ≡ 11 → entity_of d ≡ clock_of d
  unfolding clock_of
  kind_clock e = by_number kind.clock e

  pub kind_other : (byte d 2 ≡ 2 → ⊥) → (byte d 2 ≡ 3 → ⊥) → (byte d 2 ≡ 5 → ⊥) → (byte d 2 ≡ 6 → ⊥) → (byte d 2 ≡ 7 → ⊥) → (byte d 2 ≡ 11 → ⊥) → entity_of d ≡ Unknown
  unfolding entity_of
  kind_other a b c e f g =
      let q : kind_by (byte d 2) ≡ none = no _ _ (ne_eqb _ 2 a) ∙ no _ _ (ne_eqb _ 3 b) ∙ no _ _ (ne_eqb _ 5 c) ∙ no _ _ (ne_eqb _ 6 e) ∙ no _ _ (ne_eqb _ 7 f) ∙ no _ _ (ne_eqb _ 11 g) in
      ap (λ (o : Option Kind). entity_in o d) q

  -- ---- rule 9

  laid_of : (k : Kind) → byte d 2 ≡ number_of k → fits (format_of k) d 3 ≡ true → LaidOut d
  laid_of k q e =
      let r = again (format_of k) d 3 e in
      let i = fits_inside (format_of k) d 3 e in
      record {
        kind = k;
        value = value_at (format_of k) d 3;
        kept = r.ranges;
        same = open_at d 2 (omega arith) ∙ ap (λ (l : List ℕ). byte d 2 ∷ l) r.bytes ∙ ap (λ (n : ℕ). n ∷ emit (format_of k) (value_at (format_of k) d 3)) q;
      }

  laid_number : (l : LaidOut d) → byte d 2 ≡ number_of l.kind
  laid_number l = here_at d 2 _ _ l.same

  laid_fits : (l : LaidOut d) → fits (format_of l.kind) d 3 ≡ true
  laid_fits l = (found (format_of l.kind) d 3 l.value (after_at d 2 _ _ l.same) l.kept).passes

  laid_kind : (l : LaidOut d) → kind_by (byte d 2) ≡ some l.kind
  laid_kind l = ap kind_by (laid_number l) ∙ kind_number l.kind

  unlaid_fits : (k : Kind) → kind_by (byte d 2) ≡ some k → fits (format_of k) d 3 ≡ false → LaidOut d → ⊥
  unlaid_fits k e t l =
      let q : l.kind ≡ k = some_one (sym (laid_kind l) ∙ e) in
      true≠false (sym (laid_fits l) ∙ ap (λ (x : Kind). fits (format_of x) d 3) q ∙ t)

-- what the layouts say of d, as an entity
pub data Told (d : List ℕ) : Entity → Type 0 where
  unknown : (LaidOut d → ⊥) → Told d Unknown
  input : LaidOut d → byte d 2 ≡ 2 → length d ≡ 20 → Told d (Input (byte d 7) (word d 12))
  output : LaidOut d → byte d 2 ≡ 3 → length d ≡ 19 → Told d (Output (byte d 7) (byte d 8))
  mixer : LaidOut d → byte d 2 ≡ 5 → Pins (byte d 4) → 13 + byte d 4 ≤ length d → Told d (Mixer (byte d 4) (word d (5 + byte d 4)))
  selector : LaidOut d → byte d 2 ≡ 6 → Pins (byte d 4) → length d ≡ 11 + byte d 4 → Told d (Selector (byte d 4))
  feature : LaidOut d → byte d 2 ≡ 7 → 7 ≤ length d → Told d (Feature (byte d 4))
  clock : LaidOut d → byte d 2 ≡ 11 → length d ≡ 12 → Told d Clock

-- THE LAW
pub told : (d : List ℕ) → Told d (entity_of d)
unfolding entity_of
told d = go (kind_by (byte d 2)) refl
  where
    by_kind : (k : Kind) → byte d 2 ≡ number_of k → fits (format_of k) d 3 ≡ true → Told d (entity_at k (value_at (format_of k) d 3))
    by_kind kind.input e t = input (laid_of d kind.input e t) e ((input_fits d).says t)
    by_kind kind.output e t = output (laid_of d kind.output e t) e ((output_fits d).says t)
    by_kind kind.mixer e t = let h = (mixer_fits d).says t in let l = h.1 in rw (sources_long d (omega arith)) (mixer (laid_of d kind.mixer e t) e h.0 h.1)
    by_kind kind.selector e t = let h = (selector_fits d).says t in let l = h.1 in rw (sources_long d (omega arith)) (selector (laid_of d kind.selector e t) e h.0 h.1)
    by_kind kind.feature e t = feature (laid_of d kind.feature e t) e ((feature_fits d).says t)
    by_kind kind.clock e t = clock (laid_of d kind.clock e t) e ((clock_fits d).says t)

    by_fits : (k : Kind) → kind_by (byte d 2) ≡ some k → (b : Bool) → fits (format_of k) d 3 ≡ b
        → Told d (pick b (entity_at k (value_at (format_of k) d 3)) Unknown)
    by_fits k e true t = by_kind k (kind_told (byte d 2) k e) t
    by_fits k e false t = unknown (unlaid_fits d k e t)

    go : (o : Option Kind) → kind_by (byte d 2) ≡ o → Told d (entity_in o d)
    go none e = unknown (λ l. none_some (sym e ∙ laid_kind d l))
    go (some k) e = by_fits k e (fits (format_of k) d 3) refl

pub reads_unknown : (d : List ℕ) → Reads (is_unknown (entity_of d)) (LaidOut d → ⊥)
unfolding is_unknown
reads_unknown d = of (told d)
  where
    known : LaidOut d → Reads false (LaidOut d → ⊥)
    known l = record { says = λ e. absurd (true≠false (sym e)); denies = λ e n. n l }

    of : {e : Entity} → Told d e → Reads (is_unknown e) (LaidOut d → ⊥)
    of (unknown n) = record { says = λ e. n; denies = λ e. absurd (true≠false e) }
    of (input o k l) = known o
    of (output o k l) = known o
    of (mixer o k q l) = known o
    of (selector o k q l) = known o
    of (feature o k l) = known o
    of (clock o k l) = known o

pub laid_decided : (d : List ℕ) → LaidOut d ⊎ (LaidOut d → ⊥)
laid_decided d = of (told d)
  where
    of : {e : Entity} → Told d e → LaidOut d ⊎ (LaidOut d → ⊥)
    of (unknown n) = inr n
    of (input o k l) = inl o
    of (output o k l) = inl o
    of (mixer o k q l) = inl o
    of (selector o k q l) = inl o
    of (feature o k l) = inl o
    of (clock o k l) = inl o

pub pins_few : (d : List ℕ) → (facts_of (entity_of d)).pins ≤ most_pins
unfolding facts_of
pins_few d = of (told d)
  where
    of : {e : Entity} → Told d e → (facts_of e).pins ≤ most_pins
    of (unknown n) = omega arith
    of (input o k l) = omega arith
    of (output o k l) = omega arith
    of (mixer o k q l) = q.1
    of (selector o k q l) = q.1
    of (feature o k l) = omega arith
    of (clock o k l) = omega arith

pub sources_within : (d : List ℕ) → (facts_of (entity_of d)).first + (facts_of (entity_of d)).pins ≤ length d
unfolding facts_of
sources_within d = of (told d)
  where
    of : {e : Entity} → Told d e → (facts_of e).first + (facts_of e).pins ≤ length d
    of (unknown n) = omega arith
    of (input o k l) = omega arith
    of (output o k l) = omega arith
    of (mixer o k q l) = omega arith
    of (selector o k q l) = omega arith
    of (feature o k l) = omega arith
    of (clock o k l) = omega arith

-- the sources are those that the layout's fields hold
sources_by : (k : Kind) (d : List ℕ) → fits (format_of k) d 3 ≡ true
    → take (facts_of (entity_at k (value_at (format_of k) d 3))).pins (drop (facts_of (entity_at k (value_at (format_of k) d 3))).first d) ≡ fed (format_of k) (value_at (format_of k) d 3)
unfolding facts_of
sources_by kind.input d e = refl
sources_by kind.output d e = sym (fed_part (format_of kind.output) d 3 e)
sources_by kind.mixer d e = sym (fed_part (format_of kind.mixer) d 3 e)
sources_by kind.selector d e = sym (fed_part (format_of kind.selector) d 3 e)
sources_by kind.feature d e = sym (fed_part (format_of kind.feature) d 3 e)
sources_by kind.clock d e = refl

pub sources_laid : (d : List ℕ) (l : LaidOut d)
    → take (facts_of (entity_of d)).pins (drop (facts_of (entity_of d)).first d) ≡ fed (format_of l.kind) l.value
unfolding entity_of
sources_laid d l =
    let f = found (format_of l.kind) d 3 l.value (after_at d 2 _ _ l.same) l.kept in
    let e : entity_in (kind_by (byte d 2)) d ≡ entity_at l.kind (value_at (format_of l.kind) d 3) =
    ap (λ (o : Option Kind). entity_in o d) (laid_kind d l) ∙ yes _ _ f.passes in
    ap (λ (x : Entity). take (facts_of x).pins (drop (facts_of x).first d)) e
    ∙ sources_by l.kind d f.passes
    ∙ ap (fed (format_of l.kind)) f.same
