-- The sources of an entity are as many as its pins, and stand inside its descriptor.
--   sources_from_low ==  the first source stands at offset 7 at most
--   sources_within  ==  the sources of what a descriptor is stand inside it
--   pins_fields, from_fields, sources_fields  ==  as many pins as the fields of a descriptor have sources; they begin at the offset that the
--                       format says; the part of the descriptor where they stand is the fields' list
--   ids_length, id_at  ==  the IDs as a part of the descriptor: as many as pins; the ID of pin j + 1 is the byte j behind the first
--   pins_few        ==  at most 24 pins
use Rattle.std.specs.Prelude.{ℕ, ◌+◌, ◌≤◌, ◌<◌, ◌≡◌, refl, List, length, drop}
use Rattle.std.proofs.Common.{sym, ◌∙◌, get_or-take, get_or-drop, arith}
use Rattle.std.proofs.Math.Path.{ap}
use Rattle.std.proofs.Math.Option.{Option, none, some}
use Rattle.ground.specs.Numbers.{byte}
use Rattle.layout.specs.declared.Entity.{Entity}
use Rattle.layout.specs.declared.Entity.TheVariants.{Unknown, Input, Output, Mixer, Selector, Feature}
use Rattle.layout.specs.FormatLaws.{stretch_length}
use Rattle.layout.specs.Layouts.{most_pins}
use Rattle.layout.specs.Fields as fields
use Rattle.layout.specs.Fields.{Fields, fields_of, fed_by, fed_from}
use Rattle.layout.proofs.FieldsLemmas.{fed_standing}
use Rattle.layout.specs.Layout.{entity_of, entity_in}
use Rattle.layout.specs.LayoutLaws.{Told, unknown, input, output, mixer, selector, feature}
use Rattle.layout.proofs.LayoutLemmas.{told}
use Rattle.kinds.specs.Sources.{pins_of, sources_from, source_ids}

pub sources_from_low : (e : Entity) → sources_from e ≤ 7
unfolding sources_from
sources_from_low Unknown = omega arith
sources_from_low (Input i t c) = omega arith
sources_from_low (Output i t s) = omega arith
sources_from_low (Mixer i p c) = omega arith
sources_from_low (Selector i p) = omega arith
sources_from_low (Feature i s n) = omega arith

-- the sources of what the fields are, for each layout
pins_in : (f : Fields) → pins_of (entity_in (some f)) ≡ length (fed_by f)
unfolding pins_of
pins_in (fields.input i t a c l m n) = refl
pins_in (fields.output i t a s n) = refl
pins_in (fields.mixer i s c l m k n) = refl
pins_in (fields.selector i s n) = refl
pins_in (fields.feature i s z k n) = refl

from_in : (f : Fields) → sources_from (entity_in (some f)) ≡ fed_from f
unfolding sources_from
from_in (fields.input i t a c l m n) = refl
from_in (fields.output i t a s n) = refl
from_in (fields.mixer i s c l m k n) = refl
from_in (fields.selector i s n) = refl
from_in (fields.feature i s z k n) = refl

module _ (d : List ℕ) (f : Fields) (e : fields_of d ≡ some f) where
  pub pins_fields : pins_of (entity_of d) ≡ length (fed_by f)
  unfolding entity_of
  pins_fields = ap (λ (o : Option Fields). pins_of (entity_in o)) e ∙ pins_in f

  pub from_fields : sources_from (entity_of d) ≡ fed_from f
  unfolding entity_of
  from_fields = ap (λ (o : Option Fields). sources_from (entity_in o)) e ∙ from_in f

  pub sources_fields : source_ids d ≡ fed_by f
  sources_fields = rw (pins_fields, from_fields) (sym (fed_standing d f e).part)

  fields_within : sources_from (entity_of d) + pins_of (entity_of d) ≤ length d
  fields_within = rw (pins_fields, from_fields) (fed_standing d f e).inside

pub sources_within : (d : List ℕ) → sources_from (entity_of d) + pins_of (entity_of d) ≤ length d
unfolding entity_of sources_from pins_of
sources_within d = go (fields_of d) refl
  where
    go : (o : Option Fields) → fields_of d ≡ o → sources_from (entity_of d) + pins_of (entity_of d) ≤ length d
    go none e =
        let p : pins_of (entity_of d) ≡ 0 = ap (λ (o : Option Fields). pins_of (entity_in o)) e in
        let a : sources_from (entity_of d) ≡ 0 = ap (λ (o : Option Fields). sources_from (entity_in o)) e in
        omega arith
    go (some f) e = fields_within d f e

pub ids_length : (d : List ℕ) → length (source_ids d) ≡ pins_of (entity_of d)
ids_length d = stretch_length d (sources_from (entity_of d)) (pins_of (entity_of d)) (sources_within d)

pub id_at : (d : List ℕ) (j : ℕ) → j < pins_of (entity_of d) → byte (source_ids d) j ≡ byte d (sources_from (entity_of d) + j)
id_at d j h = get_or-take (pins_of (entity_of d)) (drop (sources_from (entity_of d)) d) j 0 h ∙ get_or-drop (sources_from (entity_of d)) d j 0

pub pins_few : (d : List ℕ) → pins_of (entity_of d) ≤ most_pins
unfolding pins_of
pins_few d = of (told d)
  where
    of : {e : Entity} → Told d e → pins_of e ≤ most_pins
    of (unknown n) = omega arith
    of (input k l) = omega arith
    of (output k l) = omega arith
    of (mixer k q l) = q.1
    of (selector k q l) = q.1
    of (feature k q l) = omega arith
