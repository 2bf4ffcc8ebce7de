-- The ways upstream are the routes: by right sources each way is a route, and each route that is not longer than the depth is among them. In a run whose
-- entities have ranks no route has more than 32 IDs, so that the depth never cuts one off.
--   no_pins, no_output  ==  of a right layout: it has no source exactly where it is an Input Terminal, and no output exactly where it is an Output Terminal
use Prim.Native.Nat.{ℕ}
use Rattle.std.specs.Prelude.{◌≡◌, ◌↔◌}
use Rattle.std.proofs.Math.Path.{refl, sym, ap}
use Rattle.std.proofs.Common.{◌∙◌}
use Rattle.std.proofs.Math.Bool.{false}
use mathlib.Core.List.{List, [], ◌∷◌}
use native.Mathlib.Omega.{arith}
use Rattle.std.proofs.Math.ListN.{length}
use Rattle.ground.specs.Pick.{true≠false}
use Rattle.layout.specs.declared.Entity.{Entity}
use Rattle.layout.specs.Layout.{entity_of, LaidOut}
use Rattle.layout.specs.LayoutLaws.{Told, unknown, input, output, mixer, selector, feature}
use Rattle.layout.proofs.LayoutLemmas.{told}
use Rattle.kinds.specs.Sources.{pins_of, feeds_of}
use Rattle.kinds.specs.SourcesLaws.{ids_length}
use Rattle.edition.specs.Edition.{sources}
use Rattle.edition.specs.Audio.{audio}
use Rattle.routing.specs.Routes.{InputTerminal, OutputTerminal}

module _ (d : List ℕ) (l : LaidOut d) where
  pins_input : (pins_of (entity_of d) ≡ 0) ↔ InputTerminal d
  unfolding pins_of
  pins_input = (go (told d), back (told d))
    where
      go : {e : Entity} → Told d e → pins_of e ≡ 0 → InputTerminal d
      go (unknown n) z = absurd (n l)
      go (input k m) z = k
      go (output k m) z = absurd (omega arith)
      go (mixer k p m) z = let a = p.0 in absurd (omega arith)
      go (selector k p m) z = let a = p.0 in absurd (omega arith)
      go (feature k p m) z = absurd (omega arith)

      back : {e : Entity} → Told d e → InputTerminal d → pins_of e ≡ 0
      back (unknown n) z = absurd (n l)
      back (input k m) z = refl
      back (output k m) z = absurd (omega arith)
      back (mixer k p m) z = absurd (omega arith)
      back (selector k p m) z = absurd (omega arith)
      back (feature k p m) z = absurd (omega arith)

  pub no_pins : (sources audio d ≡ []) ↔ InputTerminal d
  no_pins = (λ e. pins_input.0 (sym (ids_length d) ∙ ap length e), λ i. empty (sources audio d) (ids_length d ∙ pins_input.1 i))
    where
      empty : (x : List ℕ) → length x ≡ 0 → x ≡ []
      empty [] e = refl
      empty (y ∷ x) e = absurd (omega arith)

  pub no_output : (feeds_of (entity_of d) ≡ false) ↔ OutputTerminal d
  unfolding feeds_of
  no_output = (go (told d), back (told d))
    where
      go : {e : Entity} → Told d e → feeds_of e ≡ false → OutputTerminal d
      go (unknown n) z = absurd (n l)
      go (input k m) z = absurd (true≠false z)
      go (output k m) z = k
      go (mixer k p m) z = absurd (true≠false z)
      go (selector k p m) z = absurd (true≠false z)
      go (feature k p m) z = absurd (true≠false z)

      back : {e : Entity} → Told d e → OutputTerminal d → feeds_of e ≡ false
      back (unknown n) z = absurd (n l)
      back (input k m) z = absurd (omega arith)
      back (output k m) z = refl
      back (mixer k p m) z = absurd (omega arith)
      back (selector k p m) z = absurd (omega arith)
      back (feature k p m) z = absurd (omega arith)
