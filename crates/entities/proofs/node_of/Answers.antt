-- The node is its six fields, each as its reader answers; the first source stands inside the descriptor, so its place fits.
use borrow.Author.Rules.{rules}
use Prim.Native.Nat.{ℕ, ◌+◌, ◌<◌, ◌^◌}
use mathlib.Core.Path.{◌≡◌, refl, ap, ◌∙◌}
use mathlib.Core.Bool.{Bool}
use mathlib.Core.List.{List}
use native.Mathlib.Omega.{arith}
use lib.ListN.{length}
use mir.Val.{Fits}
use mir.Syntax.{w64}
use Rattle.ground.specs.Numbers.{byte}
use Rattle.layout.specs.declared.Entity.{Entity}
use Rattle.layout.specs.Layout.{entity_of}
use Rattle.kinds.specs.Shown.{kind_of}
use Rattle.kinds.specs.Sources.{sources_from, pins_of, feeds_of}
use Rattle.kinds.specs.SourcesLaws.{sources_within}
use Rattle.edition.specs.Audio.{audio}
use Rattle.entities.specs.Run.{node_of}
use Rattle.entities.proofs.node_of.Goals as goal

module _ (d : List ℕ) (e : Entity) (h : e ≡ entity_of d) (p : ℕ) where
  first_fits : (f : ℕ) → f ≡ sources_from e → p + length d < 2 ^ 64 → Fits w64 (p + f)
  first_fits f q l =
      let i = sources_within d in
      let k : f ≡ sources_from (entity_of d) = q ∙ ap sources_from h in
      record { fits = omega arith }

  made : (f : ℕ) → f ≡ sources_from e → (n : ℕ) → n ≡ pins_of e → (b : ℕ) → b ≡ byte d 3 → (k : ℕ) → k ≡ kind_of e → (t : Bool) → t ≡ feeds_of e
      → record { place = p; first = p + f; pins = n; id = b; kind = k; feeds = t } ≡ node_of audio p d
  unfolding node_of
  made f q n m b o k u t v = rw (q, m, o, u, v, h) refl

ruleset laws = (first_fits, made, rules)

pub overflow_add-result : goal.overflow_add-result
overflow_add-result c = search laws

pub returns : goal.returns
returns c = search laws
