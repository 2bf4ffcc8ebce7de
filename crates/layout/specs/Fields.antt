-- A descriptor as the fields of its kind, and the fields as a descriptor.
--   Fields         ==  all that a descriptor says from byte 2 on, a constructor for each layout, its arguments in the order of the bytes
--   layout_by f     ==  its layout
--   value_of f, fields_at k v  ==  the fields as a value of the layout's format, and back
--   body_of f       ==  its bytes from byte 2 on: the kind, then the format's bytes
--   descriptor_type ==  24 hex, byte 1 of every descriptor of the run
--   bytes_of f      ==  the descriptor: its length, its type, then the bytes from byte 2 on
--   InBounds f     ==  pins are 1 to 24, and the control size is 1 to 4
--   LaidOut d      ==  the layout of d is right (its contrary is refused by 9 or 17): there are fields whose bytes d has from byte 2 on
--   fields_by ks d  ==  the fields of d by the first of the layouts ks that it has, whatever byte 2 is; none where it has none of them
--   fields_of d     ==  the fields of d: by the layouts whose number is byte 2
--   fed_by f        ==  the IDs of its sources, in the order of its pins
--   fed_from f      ==  the offset of the first of them; 0 where there is none
use Rattle.std.specs.Prelude.{ℕ, suc, ◌≡◌, List, [], ◌∷◌, length, drop}
use Rattle.std.proofs.Math.Option.{Option, none, some}
use Rattle.ground.specs.Pick.{pick}
use Rattle.ground.specs.Numbers.{byte}
use Rattle.layout.specs.Format.{TwoBytes, Value, emit, fits, value_at, InRange, fed, first_source}
use Rattle.layout.specs.Layouts as kind
use Rattle.layout.specs.Layouts.{Kind, number_of, format_of, kinds_of}

pub data Fields : Type 0 where
  input : (id : ℕ) (terminal : TwoBytes) (paired channels : ℕ) (locations : TwoBytes) (names name : ℕ) → Fields
  output : (id : ℕ) (terminal : TwoBytes) (paired source name : ℕ) → Fields
  mixer : (id : ℕ) (sources : List ℕ) (channels : ℕ) (locations : TwoBytes) (names : ℕ) (controls : List ℕ) (name : ℕ) → Fields
  selector : (id : ℕ) (sources : List ℕ) (name : ℕ) → Fields
  feature : (id source size : ℕ) (masks : List ℕ) (name : ℕ) → Fields

abbrev pub layout_by : Fields → Kind
layout_by (input i t a c l m n) = kind.input
layout_by (output i t a s n) = kind.output
layout_by (mixer i s c l m k n) = kind.mixer
layout_by (selector i s n) = kind.selector
layout_by (feature i s z k n) = kind.feature

abbrev pub value_of : (f : Fields) → Value (format_of (layout_by f))
value_of (input i t a c l m n) = (i, (t, (a, (c, (l, (m, n))))))
value_of (output i t a s n) = (i, (t, (a, (s, n))))
value_of (mixer i s c l m k n) = (i, (s, (c, (l, (m, (k, n))))))
value_of (selector i s n) = (i, (s, n))
value_of (feature i s z k n) = (i, (s, (z, (k, n))))

abbrev pub fields_at : (k : Kind) → Value (format_of k) → Fields
fields_at kind.input v = input v.0 v.1.0 v.1.1.0 v.1.1.1.0 v.1.1.1.1.0 v.1.1.1.1.1.0 v.1.1.1.1.1.1
fields_at kind.output v = output v.0 v.1.0 v.1.1.0 v.1.1.1.0 v.1.1.1.1
fields_at kind.mixer v = mixer v.0 v.1.0 v.1.1.0 v.1.1.1.0 v.1.1.1.1.0 v.1.1.1.1.1.0 v.1.1.1.1.1.1
fields_at kind.selector v = selector v.0 v.1.0 v.1.1
fields_at kind.feature v = feature v.0 v.1.0 v.1.1.0 v.1.1.1.0 v.1.1.1.1

abbrev pub body_of : Fields → List ℕ
body_of f = number_of (layout_by f) ∷ emit (format_of (layout_by f)) (value_of f)

abbrev pub descriptor_type : ℕ
descriptor_type = 0x24

abbrev pub bytes_of : Fields → List ℕ
bytes_of f = suc (suc (length (body_of f))) ∷ descriptor_type ∷ body_of f

abbrev pub InBounds : Fields → Type 0
InBounds f = InRange (format_of (layout_by f)) (value_of f)

pub record LaidOut (d : List ℕ) : Type 0 where
  pub fields : Fields
  pub kept : InBounds fields
  pub same : drop 2 d ≡ body_of fields

abbrev pub fields_by : List Kind → List ℕ → Option Fields
fields_by [] d = none
fields_by (k ∷ ks) d = pick (fits (format_of k) d 3) (some (fields_at k (value_at (format_of k) d 3))) (fields_by ks d)

abbrev pub fields_of : List ℕ → Option Fields
fields_of d = fields_by (kinds_of (byte d 2)) d

abbrev pub fed_by : Fields → List ℕ
fed_by f = fed (format_of (layout_by f)) (value_of f)

abbrev pub fed_from : Fields → ℕ
fed_from f = first_source (format_of (layout_by f)) 3
