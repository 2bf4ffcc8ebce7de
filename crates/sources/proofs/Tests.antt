-- Tests of the code in the words of specs/.
--   list_any_is      ==  the library's word for "some element passes the test" is ours
--   zero_id, unknown, known  ==  a source ID of 0 is wrong; an unknown one is; a known one is where its entity has no output
use Rattle.std.specs.Prelude.{ℕ, ◌≡◌, refl, Bool, true, not, ◌||◌, List, [], ◌∷◌, Option, Some, None, get_or}
use Rattle.std.specs.List.{list_any}
use Rattle.std.proofs.Common.{sym, ap, ◌∙◌, eq-eqb, ne_eqb}
use Rattle.ground.specs.Lists.{any}
use Rattle.sources.specs.Breach.{refuses, wrong_by}
use Rattle.sources.specs.Lookup.{source_number}
use Rattle.sources.specs.LookupLaws.{entity_refuses}

pub list_any_is : {A : Type 0} (t : A → Bool) (l : List A) → list_any t l ≡ any t l
unfolding any
list_any_is t [] = refl
list_any_is t (x ∷ l) = ap (λ (b : Bool). t x || b) (list_any_is t l)

module _ (found : List (Option Bool)) (x : ℕ) where
  pub zero_id : x ≡ 0 → true ≡ wrong_by found x
  unfolding wrong_by
  zero_id z = rw (eq-eqb x 0 z) refl

  module _ (z : x ≡ 0 → ⊥) (f : Option Bool) (g : f ≡ get_or found x None) where
    by_lookup : refuses f ≡ wrong_by found x
    unfolding wrong_by
    by_lookup = ap refuses g ∙ sym (rw (ne_eqb x 0 z) refl)

    pub unknown : f ≡ None → true ≡ wrong_by found x
    unfolding source_number
    unknown h = sym (ap refuses h) ∙ by_lookup

    pub known : (b : Bool) → f ≡ Some b → not b ≡ wrong_by found x
    known b h = entity_refuses b ∙ sym (ap refuses h) ∙ by_lookup
