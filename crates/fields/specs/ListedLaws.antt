-- Laws of the reader of fields: each kind's numbers, read from the offsets, are those of its layout, and which kind it is was told by the layout's test.
--   two d k         ==  the two bytes of d from offset k on
--   plain_item x     ==  an entity of which nothing varies in length
--   two_own         ==  the two bytes of a number of two bytes are those that it was made of
--   input_found, output_found, mixer_found, selector_found, feature_found  ==  what a kind's reader makes is what its layout finds
--   found_unknown, found_input, found_output, found_mixer, found_selector, found_feature  ==  what was told of a descriptor says by which layout
--                       its fields are found
--   mixer_some, feature_some  ==  such a descriptor has a byte
--   read_one        ==  two results that the reader's contract allows are equal
--   read_some       ==  and there is one, of every descriptor of bytes
--   moved_same      ==  read of a descriptor and moved to where that stands in a slice, an entity is the same in the slice
use Rattle.std.specs.Prelude.{ℕ, ◌+◌, ◌-◌, ◌*◌, ◌/◌, ◌%◌, ◌≤◌, ◌<◌, ◌≡◌, Bool, true, ◌&&◌, List, ◌++◌, take, drop}
use native.Mathlib.Omega.{arith}
use Rattle.std.proofs.Math.Path.{refl, sym, ap}
use Rattle.std.proofs.Common.{subst, ◌∙◌, append-nil, drop-drop}
use Rattle.std.proofs.Math.Option.{Option, none, some}
use Rattle.std.proofs.Math.ListN.{length}
use Rattle.std.proofs.Math.Seq.{drop-append_seam}
use Rattle.ground.specs.Numbers.{byte, Bytes}
use Rattle.ground.specs.Lists.{part, drop_take, take_append}
use Rattle.ground.specs.Pick.{within, reads_and, reads_true}
use Rattle.layout.specs.declared.Cluster.{Cluster}
use Rattle.layout.specs.declared.Entity.{Entity}
use Rattle.layout.specs.declared.Entity.TheVariants as told
use Rattle.layout.specs.Format as form
use Rattle.layout.specs.Format.{Format, TwoBytes, Value, word_of, two_of, fits, value_at}
use Rattle.layout.specs.Layouts as kind
use Rattle.layout.specs.Layouts.{Kind, format_of}
use Rattle.layout.specs.Layout.{entity_of, entity_in}
use Rattle.layout.specs.LayoutLaws as entity
use Rattle.layout.proofs.LayoutLemmas as entity_laws
use Rattle.layout.specs.LayoutLaws.{Told}
use Rattle.layout.specs.Fields as fields
use Rattle.layout.specs.Fields.{Fields, layout_by, fields_at, fields_of}
use Rattle.layout.specs.FieldsLaws.{found_by, none_some, some_one}
use Rattle.layout.specs.FormatLaws.{fits_inside}
use Rattle.fields.specs.declared.Item.{Item}
use Rattle.fields.specs.declared.Numbers.{Numbers}
use Rattle.fields.specs.declared.Numbers.TheVariants.{Unknown, Input, Output, Mixer, Selector, Feature, Printed}
use Rattle.fields.specs.declared.Span.{Span}
use Rattle.fields.specs.Listed.{Listed, laid, wrong, printed, span_of, entity_from, listed_with, found_with, found_as, fields_found, blank_item, span_from, moved_by, no_span, sources_at, controls_at, span_by, sources_in, controls_in, KindRead, ReadAs}

abbrev pub two : List ℕ → ℕ → TwoBytes
two d k = record { low = byte d k; high = byte d (k + 1) }

abbrev pub plain_item : Numbers → Item
plain_item x = record { numbers = x; sources = record { from = 0; end = 0 }; controls = record { from = 0; end = 0 } }

pub two_own : (d : List ℕ) (k low high : ℕ) → low < 256 → low ≡ byte d k → high ≡ byte d (k + 1) → two_of (low + high * 256) ≡ two d k
two_own d k low high h e f =
    let a : (low + high * 256) % 256 ≡ byte d k = omega arith in
    let b : (low + high * 256) / 256 ≡ byte d (k + 1) = omega arith in
    cc

module _ (d : List ℕ) where
  pub input_found : (x : Item) (i t a c l m n : ℕ) → x ≡ plain_item (Input i t a c l m n) → i ≡ byte d 3 → two_of t ≡ two d 4 → a ≡ byte d 6 → c ≡ byte d 7
      → two_of l ≡ two d 8 → m ≡ byte d 10 → n ≡ byte d 11 → KindRead kind.input d x
  unfolding found_with
  input_found x i t a c l m n e i= t= a= c= l= m= n= =
      record { fields = rw (e, i=, t=, a=, c=, l=, m=, n=) refl; sources = ap (λ (y : Item). y.sources) e; controls = ap (λ (y : Item). y.controls) e }

  pub output_found : (x : Item) (i t a s n : ℕ) → x ≡ plain_item (Output i t a s n) → i ≡ byte d 3 → two_of t ≡ two d 4 → a ≡ byte d 6 → s ≡ byte d 7
      → n ≡ byte d 8 → KindRead kind.output d x
  unfolding found_with
  output_found x i t a s n e i= t= a= s= n= =
      record { fields = rw (e, i=, t=, a=, s=, n=) refl; sources = ap (λ (y : Item). y.sources) e; controls = ap (λ (y : Item). y.controls) e }

  pub selector_found : (p i n : ℕ) → p ≡ byte d 4 → i ≡ byte d 3 → n ≡ byte d (5 + p)
      → KindRead kind.selector d (record { numbers = Selector i n; sources = record { from = 5; end = 5 + p }; controls = no_span })
  unfolding found_with
  selector_found p i n e i= n= = let q : 5 + p - 5 ≡ p = omega arith in record { fields = rw (q, i=, n=, e) refl; sources = rw e refl; controls = refl }

  pub mixer_found : (p i c l m n : ℕ) → p ≡ byte d 4 → i ≡ byte d 3 → c ≡ byte d (5 + p) → two_of l ≡ two d (6 + p) → m ≡ byte d (8 + p)
      → n ≡ byte d (length d - 1)
      → KindRead kind.mixer d (record { numbers = Mixer i c l m n; sources = record { from = 5; end = 5 + p }; controls = record { from = 9 + p; end = length d - 1 } })
  unfolding found_with
  mixer_found p i c l m n e i= c= l= m= n= =
      let q : 5 + p - 5 ≡ byte d 4 = omega arith in
      let a : 5 + p ≡ 4 + 1 + byte d 4 = omega arith in
      let b : 6 + p ≡ 4 + 1 + byte d 4 + 1 = omega arith in
      let f : 8 + p ≡ 4 + 1 + byte d 4 + 1 + 2 = omega arith in
      let g : 9 + p ≡ 4 + 1 + byte d 4 + 1 + 2 + 1 = omega arith in
      let h : length d - 1 - (9 + p) ≡ length d - (4 + 1 + byte d 4 + 1 + 2 + 1 + 1) = omega arith in
      record { fields = rw (q, h, i=, c=, l=, m=, n=, a, b, f, g) refl; sources = rw e refl; controls = rw g refl }

  pub feature_found : (i s z n : ℕ) → i ≡ byte d 3 → s ≡ byte d 4 → z ≡ byte d 5 → n ≡ byte d (length d - 1)
      → KindRead kind.feature d (record { numbers = Feature i s z n; sources = no_span; controls = record { from = 6; end = length d - 1 } })
  unfolding found_with
  feature_found i s z n i= s= z= n= = let h : length d - 1 - 6 ≡ length d - 7 = omega arith in record { fields = rw (h, i=, s=, z=, n=) refl; sources = refl; controls = refl }

-- the kind that was told
abbrev kind_told : Entity → Option Kind
kind_told told.Unknown = none
kind_told (told.Input i t c) = some kind.input
kind_told (told.Output i t s) = some kind.output
kind_told (told.Mixer i p c) = some kind.mixer
kind_told (told.Selector i p) = some kind.selector
kind_told (told.Feature i s n) = some kind.feature

told_own : (k : Kind) (v : Value (format_of k)) → kind_told (entity_in (some (fields_at k v))) ≡ some k
told_own kind.input v = refl
told_own kind.output v = refl
told_own kind.mixer v = refl
told_own kind.selector v = refl
told_own kind.feature v = refl

layout_own : (k : Kind) (v : Value (format_of k)) → layout_by (fields_at k v) ≡ k
layout_own kind.input v = refl
layout_own kind.output v = refl
layout_own kind.mixer v = refl
layout_own kind.selector v = refl
layout_own kind.feature v = refl

module _ (d : List ℕ) where
  found_told : (k : Kind) → kind_told (entity_of d) ≡ some k → found_with k d ≡ fields_found d
  unfolding entity_of found_with fields_found
  found_told k q = go (fields_of d) refl q
    where
      go : (o : Option Fields) → fields_of d ≡ o → kind_told (entity_in o) ≡ some k → laid (fields_at k (value_at (format_of k) d 3)) ≡ found_as o
      go none e h = absurd (none_some h)
      go (some f) e h =
          let t = found_by d f e in
          let own : kind_told (entity_in (some f)) ≡ some t.kind = ap (λ (g : Fields). kind_told (entity_in (some g))) (sym t.same) ∙ told_own t.kind (value_at (format_of t.kind) d 3) in
          let same : k ≡ t.kind = some_one (sym h ∙ own) in
          ap (λ (j : Kind). laid (fields_at j (value_at (format_of j) d 3))) same ∙ ap laid t.same

  spans_told : (place : Format → List ℕ → ℕ → Span) (k : Kind) → kind_told (entity_of d) ≡ some k → place (format_of k) d 3 ≡ span_by place d (fields_of d)
  unfolding entity_of
  spans_told place k q = go (fields_of d) refl q
    where
      go : (o : Option Fields) → fields_of d ≡ o → kind_told (entity_in o) ≡ some k → place (format_of k) d 3 ≡ span_by place d o
      go none e h = absurd (none_some h)
      go (some f) e h =
          let t = found_by d f e in
          let v = value_at (format_of t.kind) d 3 in
          let own : kind_told (entity_in (some f)) ≡ some t.kind = ap (λ (g : Fields). kind_told (entity_in (some g))) (sym t.same) ∙ told_own t.kind v in
          let same : k ≡ layout_by f = some_one (sym h ∙ own) ∙ sym (ap layout_by (sym t.same) ∙ layout_own t.kind v) in
          ap (λ (j : Kind). place (format_of j) d 3) same

  no_spans : (place : Format → List ℕ → ℕ → Span) → kind_told (entity_of d) ≡ none → no_span ≡ span_by place d (fields_of d)
  unfolding entity_of
  no_spans place q = go (fields_of d) refl q
    where
      go : (o : Option Fields) → fields_of d ≡ o → kind_told (entity_in o) ≡ none → no_span ≡ span_by place d o
      go none e h = refl
      go (some f) e h = let t = found_by d f e in absurd (none_some (sym h ∙ ap (λ (g : Fields). kind_told (entity_in (some g))) (sym t.same) ∙ told_own t.kind (value_at (format_of t.kind) d 3)))

  none_found : kind_told (entity_of d) ≡ none → wrong ≡ fields_found d
  unfolding entity_of fields_found
  none_found q = go (fields_of d) q
    where
      known : (f : Fields) → kind_told (entity_in (some f)) ≡ none → ⊥
      known (fields.input i t a c l m n) h = none_some (sym h)
      known (fields.output i t a s n) h = none_some (sym h)
      known (fields.mixer i s c l m k n) h = none_some (sym h)
      known (fields.selector i s n) h = none_some (sym h)
      known (fields.feature i s z k n) h = none_some (sym h)

      go : (o : Option Fields) → kind_told (entity_in o) ≡ none → wrong ≡ found_as o
      go none h = refl
      go (some f) h = absurd (known f h)

  module _ (e : Entity) (read : e ≡ entity_of d) where
    by_kind : (k : Kind) (x : Item) → kind_told e ≡ some k → KindRead k d x → ReadAs d x
    unfolding sources_in controls_in
    by_kind k x h q =
        let t : kind_told (entity_of d) ≡ some k = ap kind_told (sym read) ∙ h in
        record { fields = q.fields ∙ found_told k t; sources = q.sources ∙ spans_told sources_at k t; controls = q.controls ∙ spans_told controls_at k t }

    pub found_unknown : (x : Item) → e ≡ told.Unknown → x ≡ blank_item → ReadAs d x
    unfolding sources_in controls_in
    found_unknown x h q =
        let t : kind_told (entity_of d) ≡ none = ap kind_told (sym read ∙ h) in
        rw q (record { fields = none_found t; sources = no_spans sources_at t; controls = no_spans controls_at t })

    module _ (x : Item) where
      pub found_input : (i t : ℕ) (c : Cluster) → e ≡ told.Input i t c → KindRead kind.input d x → ReadAs d x
      found_input i t c h q = by_kind kind.input x (ap kind_told h) q

      pub found_output : (i t s : ℕ) → e ≡ told.Output i t s → KindRead kind.output d x → ReadAs d x
      found_output i t s h q = by_kind kind.output x (ap kind_told h) q

      pub found_mixer : (i p : ℕ) (c : Cluster) → e ≡ told.Mixer i p c → KindRead kind.mixer d x → ReadAs d x
      found_mixer i p c h q = by_kind kind.mixer x (ap kind_told h) q

      pub found_selector : (i p : ℕ) → e ≡ told.Selector i p → KindRead kind.selector d x → ReadAs d x
      found_selector i p h q = by_kind kind.selector x (ap kind_told h) q

      pub found_feature : (i s z : ℕ) → e ≡ told.Feature i s z → KindRead kind.feature d x → ReadAs d x
      found_feature i s z h q = by_kind kind.feature x (ap kind_told h) q

    -- a descriptor with a layout has a byte 2
    some_byte : (k : Kind) → kind_told e ≡ some k → 1 ≤ length d
    unfolding entity_of
    some_byte k h = go (fields_of d) refl (ap kind_told (sym read) ∙ h)
      where
        go : (o : Option Fields) → fields_of d ≡ o → kind_told (entity_in o) ≡ some k → 1 ≤ length d
        go none q j = absurd (none_some j)
        go (some f) q j = let t = found_by d f q in let i = fits_inside (format_of t.kind) d 3 t.passes in omega arith

    pub mixer_some : (i p : ℕ) (c : Cluster) → e ≡ told.Mixer i p c → 1 ≤ length d
    mixer_some i p c h = some_byte kind.mixer (ap kind_told h)

    pub feature_some : (i s z : ℕ) → e ≡ told.Feature i s z → 1 ≤ length d
    feature_some i s z h = some_byte kind.feature (ap kind_told h)

-- ---- the result is settled

numbers_in : Listed → Numbers
numbers_in wrong = Unknown
numbers_in (laid (fields.input i t a c l m n)) = Input i (word_of t) a c (word_of l) m n
numbers_in (laid (fields.output i t a s n)) = Output i (word_of t) a s n
numbers_in (laid (fields.mixer i s c l m k n)) = Mixer i c (word_of l) m n
numbers_in (laid (fields.selector i s n)) = Selector i n
numbers_in (laid (fields.feature i s z k n)) = Feature i s z n
numbers_in (printed i s n) = Printed i n

word_own : (n : ℕ) → word_of (two_of n) ≡ n
word_own n = omega arith

numbers_back : (x : Numbers) (s k : List ℕ) → numbers_in (entity_from x s k) ≡ x
unfolding numbers_in
numbers_back Unknown s k = refl
numbers_back (Input i t a c l m n) s k = rw (word_own t, word_own l) refl
numbers_back (Output i t a f n) s k = rw (word_own t) refl
numbers_back (Mixer i c l m n) s k = rw (word_own l) refl
numbers_back (Selector i n) s k = refl
numbers_back (Feature i f z n) s k = refl
numbers_back (Printed i n) s k = refl

made_same : (x y : Numbers) (s t k l : Span) → x ≡ y → s ≡ t → k ≡ l
    → ◌≡◌ {A = Item} (record { numbers = x; sources = s; controls = k }) (record { numbers = y; sources = t; controls = l })
made_same x y s t k l e f g = rw (e, f, g) refl

pub read_one : (d : List ℕ) (r q : Item) → ReadAs d r → ReadAs d q → r ≡ q
read_one d r q a b =
    let x : r.numbers ≡ numbers_in (fields_found d) = sym (numbers_back r.numbers _ _) ∙ ap numbers_in a.fields in
    let y : q.numbers ≡ numbers_in (fields_found d) = sym (numbers_back q.numbers _ _) ∙ ap numbers_in b.fields in
    let n : r.numbers ≡ q.numbers = x ∙ sym y in
    let s : r.sources ≡ q.sources = a.sources ∙ sym b.sources in
    let c : r.controls ≡ q.controls = a.controls ∙ sym b.controls in
    made_same r.numbers q.numbers r.sources q.sources r.controls q.controls n s c

-- ---- every descriptor can be read

module _ (d : List ℕ) (b : Bytes d) where
  pair : (k : ℕ) → two_of (byte d k + byte d (k + 1) * 256) ≡ two d k
  pair k = two_own d k (byte d k) (byte d (k + 1)) (b k) refl refl

  readable : {e : Entity} → e ≡ entity_of d → Told d e → (r : Item) × ReadAs d r
  readable {e} q (entity.unknown n) = (blank_item, found_unknown d e q blank_item refl refl)
  readable {e} q (entity.input k m) =
      let x = plain_item (Input (byte d 3) (byte d 4 + byte d (4 + 1) * 256) (byte d 6) (byte d 7) (byte d 8 + byte d (8 + 1) * 256) (byte d 10) (byte d 11)) in
      (x, found_input d e q x _ _ _ refl (input_found d x _ _ _ _ _ _ _ refl refl (pair 4) refl refl (pair 8) refl refl))
  readable {e} q (entity.output k m) =
      let x = plain_item (Output (byte d 3) (byte d 4 + byte d (4 + 1) * 256) (byte d 6) (byte d 7) (byte d 8)) in
      (x, found_output d e q x _ _ _ refl (output_found d x _ _ _ _ _ refl refl (pair 4) refl refl refl))
  readable {e} q (entity.mixer k p m) =
      let n = byte d 4 in
      (_, found_mixer d e q _ _ _ _ refl (mixer_found d n (byte d 3) (byte d (5 + n)) (byte d (6 + n) + byte d (6 + n + 1) * 256) (byte d (8 + n)) (byte d (length d - 1)) refl refl refl (pair (6 + n)) refl refl))
  readable {e} q (entity.selector k p m) = (_, found_selector d e q _ _ _ refl (selector_found d (byte d 4) (byte d 3) (byte d (5 + byte d 4)) refl refl refl))
  readable {e} q (entity.feature k p m) = (_, found_feature d e q _ _ _ _ refl (feature_found d (byte d 3) (byte d 4) (byte d 5) (byte d (length d - 1)) refl refl refl refl))

  pub read_some : (r : Item) × ReadAs d r
  read_some = readable refl (entity_laws.told d)

-- ---- its parts end inside it

passed : (a b : Bool) → (a && b) ≡ true → b ≡ true
passed a b e = ((reads_and a b (reads_true a) (reads_true b)).says e).1

sources_inside : (F : Format) (d : List ℕ) (k : ℕ) → fits F d k ≡ true → (sources_at F d k).end ≤ length d
sources_inside form.last d k e = omega arith
sources_inside form.rest d k e = omega arith
sources_inside (form.byte F) d k e = sources_inside F d (k + 1) e
sources_inside (form.source F) d k e = sources_inside F d (k + 1) e
sources_inside (form.ranged low high F) d k e = sources_inside F d (k + 1) (passed (within low (byte d k) high) _ e)
sources_inside (form.word F) d k e = sources_inside F d (k + 2) e
sources_inside (form.sources low high F) d k e = let h = fits_inside F d (k + 1 + byte d k) (passed (within low (byte d k) high) _ e) in omega arith

controls_inside : (F : Format) (d : List ℕ) (k : ℕ) → (controls_at F d k).end ≤ length d
controls_inside form.last d k = omega arith
controls_inside form.rest d k = omega arith
controls_inside (form.byte F) d k = controls_inside F d (k + 1)
controls_inside (form.source F) d k = controls_inside F d (k + 1)
controls_inside (form.ranged low high F) d k = controls_inside F d (k + 1)
controls_inside (form.word F) d k = controls_inside F d (k + 2)
controls_inside (form.sources low high F) d k = controls_inside F d (k + 1 + byte d k)

span_inside : (place : Format → List ℕ → ℕ → Span) (d : List ℕ) → ((F : Format) → fits F d 3 ≡ true → (place F d 3).end ≤ length d)
    → (o : Option Fields) → fields_of d ≡ o → (span_by place d o).end ≤ length d
span_inside place d h none e = omega arith
span_inside place d h (some f) e =
    let t = found_by d f e in
    let own : layout_by f ≡ t.kind = ap layout_by (sym t.same) ∙ layout_own t.kind (value_at (format_of t.kind) d 3) in
    h (format_of (layout_by f)) (subst (λ (k : Kind). fits (format_of k) d 3 ≡ true) (sym own) t.passes)

-- ---- so they are the same parts of any slice in which it stands

part_front : (d back : List ℕ) (a e : ℕ) → e ≤ length d → part (d ++ back) a e ≡ part d a e
part_front d back a e h =
    let z : e - length d ≡ 0 = omega arith in
    sym (drop_take a e (d ++ back))
    ∙ ap (drop a) (take_append e d back ∙ ap (λ (n : ℕ). take e d ++ take n back) z ∙ append-nil (take e d))
    ∙ drop_take a e d

part_moved : (front d back : List ℕ) (a e : ℕ) → e ≤ length d → part (front ++ (d ++ back)) (length front + a) (length front + e) ≡ part d a e
part_moved front d back a e h =
    let z : length front + e - (length front + a) ≡ e - a = omega arith in
    ap (λ (n : ℕ). take n (drop (length front + a) (front ++ (d ++ back)))) z
    ∙ ap (take (e - a)) (sym (drop-drop a (length front) (front ++ (d ++ back))) ∙ ap (drop a) (drop-append_seam front (d ++ back)))
    ∙ part_front d back a e h

pub moved_same : (front d back : List ℕ) (r : Item) → ReadAs d r → listed_with (front ++ (d ++ back)) (moved_by (length front) r) ≡ fields_found d
unfolding sources_in controls_in
moved_same front d back r h =
    let s : r.sources.end ≤ length d = subst (λ (x : Span). x.end ≤ length d) (sym h.sources) (span_inside sources_at d (λ F e. sources_inside F d 3 e) (fields_of d) refl) in
    let c : r.controls.end ≤ length d = subst (λ (x : Span). x.end ≤ length d) (sym h.controls) (span_inside controls_at d (λ F e. controls_inside F d 3) (fields_of d) refl) in
    ap (λ (x : List ℕ). entity_from r.numbers x (span_of (front ++ (d ++ back)) (span_from (length front) r.controls))) (part_moved front d back r.sources.from r.sources.end s)
    ∙ ap (entity_from r.numbers (span_of d r.sources)) (part_moved front d back r.controls.from r.controls.end c)
    ∙ h.fields
