-- By its three ways out: a unlaid layout was met before, or this one's is unlaid, or it is one of the five.
use borrow.Author.Rules.{rules}
use Prim.Native.Nat.{ℕ}
use mathlib.Core.Path.{◌≡◌, refl}
use mathlib.Core.List.{[], ◌∷◌}
use types.Run.{OneOf}
use types.Run as run
use denote.Enum.Declared.{tag_of, declared}
use Rattle.std.specs.Prelude.{Option, Some, None}
use Rattle.layout.specs.declared.Entity.{Entity}
use Rattle.layout.specs.declared.Entity.TheVariants.{Unknown, Input, Output, Mixer, Selector, Feature}
use Rattle.layout.specs.Layout.{is_unknown}
use Rattle.layout.specs.contracts.Entity as Entity-enum
use Rattle.entities.specs.Run.{earlier, unlaid_at}
use Rattle.entities.proofs.first_unlaid.Goals as goal

met : (b : Option ℕ) (p : ℕ) (r : Option ℕ) → b ≡ Some p → b ≡ earlier b r
unfolding earlier
met b p r e = rw e refl

module _ (b : Option ℕ) (h : b ≡ None) (e : Entity) (at : ℕ) where
  unlaid : e ≡ Unknown → Some at ≡ earlier b (unlaid_at e at)
  unfolding earlier unlaid_at is_unknown
  unlaid f = rw (h, f) refl

  right : OneOf (1 ∷ 2 ∷ 3 ∷ 4 ∷ 5 ∷ []) (tag_of (declared Entity-enum.enum) e) → None ≡ earlier b (unlaid_at e at)
  unfolding earlier unlaid_at is_unknown
  right o = rw h (laid_out e o)
    where
      laid_out : (x : Entity) → OneOf (1 ∷ 2 ∷ 3 ∷ 4 ∷ 5 ∷ []) (tag_of (declared Entity-enum.enum) x) → None ≡ unlaid_at x at
      laid_out Unknown o = absurd (run.miss (1 ∷ 2 ∷ 3 ∷ 4 ∷ 5 ∷ []) 0 tt o)
      laid_out (Input i t c) o = refl
      laid_out (Output i t s) o = refl
      laid_out (Mixer i p c) o = refl
      laid_out (Selector i p) o = refl
      laid_out (Feature i s n) o = refl

ruleset laws = (met, unlaid, right, rules)

pub returns-in-Some : goal.returns-in-Some
returns-in-Some c = search laws

pub returns-in-Unknown : goal.returns-in-Unknown
returns-in-Unknown c = search laws

pub returns-in_default-entity : goal.returns-in_default-entity
returns-in_default-entity c = search laws
