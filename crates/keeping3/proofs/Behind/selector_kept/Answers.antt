-- The test of each pin's cluster against pin 1's, in the rule's own words.
use Rattle.std.proofs.Common.{rules, refl, sym, ap, ℕ, Bool, ◌&&◌, ◌≡◌, List, [], ◌∷◌, map, get_or, ◌∙◌}
use Rattle.std.proofs.lemmas.Iterator.{YieldsList-from_slice}
use Rattle.std.proofs.lemmas.Iterator.Search.{all_from_yields_List}
use Rattle.std.specs.List.{list_all}
use Rattle.graph.specs.Members.{all, all_map}
use Rattle.buffer.specs.Reading.{same_content}
use Rattle.edition3.specs.Third.{first_of, alike}
use Rattle.keeping3.specs.Behind.{cluster_on}
use Rattle.keeping3.proofs.Behind.selector_kept.Goals as goal

all_is : (t : ℕ → Bool) (l : List ℕ) → list_all t l ≡ all t l
unfolding all
all_is t [] = refl
all_is t (x ∷ l) = ap (λ (b : Bool). t x && b) (all_is t l)

whole : (f : ℕ → List ℕ) (l : List ℕ) → list_all (λ x. same_content (f x) (f (get_or l 0 0))) l ≡ alike (map f l)
unfolding alike first_of all
whole f [] = refl
whole f (y ∷ l) = all_is (λ x. same_content (f x) (f y)) (y ∷ l) ∙ sym (all_map (λ k. same_content k (f y)) f (y ∷ l))

pub returns : goal.returns
returns c =
    let on : ℕ → List ℕ = cluster_on c.args.self.now in
    let ids : List ℕ = c.args.ids.now in
    let each : c.all.result ≡ list_all (λ x. same_content (on x) (on (get_or ids 0 0))) ids =
    all_from_yields_List _ _ _ _ c.all.ensures.ran (YieldsList-from_slice ids cc) (λ x b q k. search rules) in
    each ∙ whole on ids
