-- Laws of what stands beside it in specs.
--   read_body      ==  where the bytes of f stand in d from byte 2 on, the fields of d are f
--   written_again  ==  a descriptor with fields has their bytes from byte 2 on, and they are kept
--   written_whole  ==  so it is their descriptor, where byte 0 is the length and byte 1 the type
--   fields_one     ==  a descriptor is that of one list of fields alone
--   laid_fields, laid_only  ==  the layout is right exactly where fields are found, and they are those
--   laid_whole     ==  a descriptor whose layout is right is that of its fields, where byte 0 is the length and byte 1 the type
--   laid_written   ==  the layout of what is written is right
--   Standing, fed_standing  ==  the sources are a part of d, from the first source's offset on, and end inside d
use Rattle.std.specs.Prelude.{ℕ, suc, ◌-◌, ◌<◌, ◌≡◌, refl, true, List, [], ◌∷◌, length, drop}
use Rattle.std.proofs.Common.{arith, sym, ap, ◌∙◌, length-drop}
use Rattle.std.proofs.Math.Option.{some}
use Rattle.ground.specs.Pick.{yes}
use Rattle.ground.specs.Numbers.{byte}
use Rattle.layout.specs.Format.{Value, emit, fits, value_at, InRange}
use Rattle.layout.specs.FormatLaws.{found, again, fits_inside, here_at, after_at, fed_part, fed_inside}
use Rattle.layout.specs.Layouts as kind
use Rattle.layout.specs.Layouts.{Kind, number_of, format_of, kinds, kinds_in, kinds_of}
use Rattle.layout.specs.Fields.{Fields, input, output, mixer, selector, feature, layout_by, value_of, fields_at, body_of, descriptor_type, bytes_of, InBounds, LaidOut, fields_by, fields_of}
use Rattle.layout.specs.FieldsLaws.{some_one, found_by, Standing}

value_fields : (f : Fields) → fields_at (layout_by f) (value_of f) ≡ f
value_fields (input i t a c l m n) = refl
value_fields (output i t a s n) = refl
value_fields (mixer i s c l m k n) = refl
value_fields (selector i s n) = refl
value_fields (feature i s z k n) = refl

fields_body : (k : Kind) (v : Value (format_of k)) → body_of (fields_at k v) ≡ number_of k ∷ emit (format_of k) v
fields_body kind.input v = refl
fields_body kind.output v = refl
fields_body kind.mixer v = refl
fields_body kind.selector v = refl
fields_body kind.feature v = refl

fields_kept : (k : Kind) (v : Value (format_of k)) → InRange (format_of k) v → InBounds (fields_at k v)
fields_kept kind.input v g = g
fields_kept kind.output v g = g
fields_kept kind.mixer v g = g
fields_kept kind.selector v g = g
fields_kept kind.feature v g = g

module _ (d : List ℕ) where
  by_layout : (f : Fields) → InBounds f → drop 2 d ≡ body_of f → fits (format_of (layout_by f)) d 3 ≡ true
      → fields_by (kinds_of (number_of (layout_by f))) d ≡ some (fields_at (layout_by f) (value_at (format_of (layout_by f)) d 3))
  by_layout (input i t a c l m n) g e p = yes _ _ p
  by_layout (output i t a s n) g e p = yes _ _ p
  by_layout (mixer i s c l m k n) g e p = yes _ _ p
  by_layout (selector i s n) g e p = yes _ _ p
  by_layout (feature i s z k n) g e p = yes _ _ p

  pub read_body : (f : Fields) → InBounds f → drop 2 d ≡ body_of f → fields_of d ≡ some f
  read_body f g e =
      let q : byte d 2 ≡ number_of (layout_by f) = here_at d 2 _ _ e in
      let r = found (format_of (layout_by f)) d 3 (value_of f) (after_at d 2 _ _ e) g in
      ap (λ (n : ℕ). fields_by (kinds_of n) d) q ∙ by_layout f g e r.passes ∙ ap some (ap (fields_at (layout_by f)) r.same ∙ value_fields f)

pub read_back : (f : Fields) → InBounds f → fields_of (bytes_of f) ≡ some f
read_back f g = read_body (bytes_of f) f g refl

pub fields_one : (f g : Fields) → InBounds f → InBounds g → bytes_of f ≡ bytes_of g → f ≡ g
fields_one f g k l e = some_one (sym (read_back f k) ∙ ap fields_of e ∙ read_back g l)

opened : (d : List ℕ) → 2 < length d → d ≡ byte d 0 ∷ byte d 1 ∷ drop 2 d
opened [] h = absurd (omega arith)
opened (x ∷ []) h = absurd (omega arith)
opened (x ∷ y ∷ d) h = refl

opened_body : (d : List ℕ) → 2 < length d → drop 2 d ≡ byte d 2 ∷ drop 3 d
opened_body [] h = absurd (omega arith)
opened_body (x ∷ []) h = absurd (omega arith)
opened_body (x ∷ y ∷ []) h = absurd (omega arith)
opened_body (x ∷ y ∷ z ∷ d) h = refl

module _ (d : List ℕ) where
  by_kind : (k : Kind) → byte d 2 ≡ number_of k → fits (format_of k) d 3 ≡ true
      → let f = fields_at k (value_at (format_of k) d 3) in InBounds f × (drop 2 d ≡ body_of f)
  by_kind k q e =
      let v = value_at (format_of k) d 3 in
      let r = again (format_of k) d 3 e in
      let i = fits_inside (format_of k) d 3 e in (
        fields_kept k v r.ranges,
        opened_body d (omega arith) ∙ ap (λ (l : List ℕ). byte d 2 ∷ l) r.bytes ∙ ap (λ (n : ℕ). n ∷ emit (format_of k) v) q ∙ sym (fields_body k v),
      )

  module _ (f : Fields) (e : fields_of d ≡ some f) where
    pub written_again : InBounds f × (drop 2 d ≡ body_of f)
    written_again = let t = found_by d f e in rw (sym t.same) (by_kind t.kind t.number t.passes)

    pub written_whole : byte d 0 ≡ length d → byte d 1 ≡ descriptor_type → d ≡ bytes_of f
    written_whole first type =
        let b = written_again.1 in
        let n : length d - 2 ≡ suc (length (emit (format_of (layout_by f)) (value_of f))) = sym (length-drop 2 d) ∙ ap length b in
        let m : length d ≡ suc (suc (length (body_of f))) = omega arith in
        opened d (omega arith)
        ∙ ap (λ (x : ℕ). x ∷ byte d 1 ∷ drop 2 d) (first ∙ m)
        ∙ ap (λ (x : ℕ). suc (suc (length (body_of f))) ∷ x ∷ drop 2 d) type
        ∙ ap (λ (l : List ℕ). suc (suc (length (body_of f))) ∷ descriptor_type ∷ l) b

pub laid_fields : (d : List ℕ) (f : Fields) → fields_of d ≡ some f → LaidOut d
laid_fields d f e = let w = written_again d f e in record { fields = f; kept = w.0; same = w.1 }

pub laid_only : (d : List ℕ) (l : LaidOut d) → fields_of d ≡ some l.fields
laid_only d l = read_body d l.fields l.kept l.same

pub laid_whole : (d : List ℕ) (l : LaidOut d) → byte d 0 ≡ length d → byte d 1 ≡ descriptor_type → d ≡ bytes_of l.fields
laid_whole d l first type = written_whole d l.fields (laid_only d l) first type

pub laid_written : (f : Fields) → InBounds f → LaidOut (bytes_of f)
laid_written f k = record { fields = f; kept = k; same = refl }

fed_by_kind : (d : List ℕ) (k : Kind) → fits (format_of k) d 3 ≡ true → Standing d (fields_at k (value_at (format_of k) d 3))
fed_by_kind d kind.input e = record { part = fed_part (format_of kind.input) d 3 e; inside = fed_inside (format_of kind.input) d 3 e }
fed_by_kind d kind.output e = record { part = fed_part (format_of kind.output) d 3 e; inside = fed_inside (format_of kind.output) d 3 e }
fed_by_kind d kind.mixer e = record { part = fed_part (format_of kind.mixer) d 3 e; inside = fed_inside (format_of kind.mixer) d 3 e }
fed_by_kind d kind.selector e = record { part = fed_part (format_of kind.selector) d 3 e; inside = fed_inside (format_of kind.selector) d 3 e }
fed_by_kind d kind.feature e = record { part = fed_part (format_of kind.feature) d 3 e; inside = fed_inside (format_of kind.feature) d 3 e }

pub fed_standing : (d : List ℕ) (f : Fields) → fields_of d ≡ some f → Standing d f
fed_standing d f e = let t = found_by d f e in rw t.same at (fed_by_kind d t.kind t.passes)
