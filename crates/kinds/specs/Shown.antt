-- The layout that an entity has, and the number of its kind on the sheet (document 01, "The sheet").
--   layout_of e           ==  the layout that the entity e has; none for Unknown
--   shown_as o, kind_of e  ==  the number of its kind; 0 for Unknown
--   kind_told            ==  it is byte 2
--   kind_range           ==  and from 2 to 6: nothing is shown as 15 hex, as the printed Selector once was
use Rattle.std.specs.Prelude.{ℕ, ◌≤◌, ◌≡◌, List}
use Rattle.std.proofs.Common.{arith, sym}
use Rattle.std.proofs.Math.Option.{Option, none, some}
use Rattle.ground.specs.Numbers.{byte}
use Rattle.layout.specs.declared.Entity.{Entity}
use Rattle.layout.specs.declared.Entity.TheVariants.{Unknown, Input, Output, Mixer, Selector, Feature}
use Rattle.layout.specs.Layouts as kind
use Rattle.layout.specs.Layouts.{Kind, number_of}
use Rattle.layout.specs.Layout.{LaidOut, entity_of}
use Rattle.layout.specs.LayoutLaws.{Told, unknown, input, output, mixer, selector, feature}
use Rattle.layout.proofs.LayoutLemmas.{told}

abbrev pub layout_of : Entity → Option Kind
layout_of Unknown = none
layout_of (Input i t c) = some kind.input
layout_of (Output i t s) = some kind.output
layout_of (Mixer i p c) = some kind.mixer
layout_of (Selector i p) = some kind.selector
layout_of (Feature i s n) = some kind.feature

abbrev pub shown_as : Option Kind → ℕ
shown_as none = 0
shown_as (some k) = number_of k

unfoldable pub kind_of : Entity → ℕ
kind_of e = shown_as (layout_of e)

pub kind_told : (d : List ℕ) → LaidOut d → kind_of (entity_of d) ≡ byte d 2
unfolding kind_of
kind_told d o = of (told d)
  where
    of : {e : Entity} → Told d e → kind_of e ≡ byte d 2
    of (unknown n) = absurd (n o)
    of (input k l) = sym k
    of (output k l) = sym k
    of (mixer k q l) = sym k
    of (selector k q l) = sym k
    of (feature k q l) = sym k

pub kind_range : (d : List ℕ) → LaidOut d → (2 ≤ kind_of (entity_of d)) × (kind_of (entity_of d) ≤ 6)
unfolding kind_of
kind_range d o = of (told d)
  where
    of : {e : Entity} → Told d e → (2 ≤ kind_of e) × (kind_of e ≤ 6)
    of (unknown n) = absurd (n o)
    of (input k l) = (omega arith, omega arith)
    of (output k l) = (omega arith, omega arith)
    of (mixer k q l) = (omega arith, omega arith)
    of (selector k q l) = (omega arith, omega arith)
    of (feature k q l) = (omega arith, omega arith)
