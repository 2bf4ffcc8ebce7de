-- The node is its five fields, each as its reader answers; the first source stands inside the descriptor, so its place fits.
use borrow.Author.Rules.{rules}
use Prim.Native.Nat.{ℕ, ◌+◌, ◌<◌, ◌^◌}
use mathlib.Core.Path.{◌≡◌, refl, ap, ◌∙◌}
use mathlib.Core.List.{List, []}
use native.Mathlib.Omega.{arith}
use lib.ListN.{length}
use mir.Val.{Fits}
use mir.Syntax.{w64}
use Rattle.ground.specs.Numbers.{byte}
use Rattle.layout3.specs.declared.Entity.{Entity}
use Rattle.layout3.specs.declared.Facts.{Facts}
use Rattle.layout3.specs.Layout.{entity_of}
use Rattle.layout3.specs.Facts.{facts_of}
use Rattle.layout3.specs.LayoutLaws.{sources_within}
use Rattle.edition3.specs.Third.{third}
use Rattle.entities.specs.Run.{node_of}
use Rattle.run3.proofs.node_of.Goals as goal

module _ (d : List ℕ) (e : Entity) (h : e ≡ entity_of d) (f : Facts) (q : f ≡ facts_of e) (p : ℕ) where
  said : f ≡ facts_of (entity_of d)
  said = q ∙ ap facts_of h

  first_fits : p + length d < 2 ^ 64 → Fits w64 (p + f.first)
  first_fits l =
      let i = sources_within d in
      let k : f.first ≡ (facts_of (entity_of d)).first = ap (λ (x : Facts). x.first) said in
      record { fits = omega arith }

  made : (b : ℕ) → b ≡ byte d 3 → record { place = p; first = p + f.first; pins = f.pins; id = b; kind = f.kind; feeds = f.feeds } ≡ node_of (third []) p d
  unfolding node_of
  made b o = rw (said, o) refl

ruleset laws = (first_fits, made, rules)

pub overflow_add-result : goal.overflow_add-result
overflow_add-result c = search laws

pub returns : goal.returns
returns c = search laws
