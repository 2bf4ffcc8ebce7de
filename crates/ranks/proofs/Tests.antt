-- Tests of the code in the words of specs/.
--   list_all_is      ==  the library's word for "each element passes the test" is graph's
--   borne_already, not_yet  ==  an entity's ID is borne in the order already; it is not, so that its sources decide
use Rattle.std.specs.Prelude.{ℕ, ◌<◌, ◌≡◌, refl, Bool, true, false, not, ◌&&◌, List, [], ◌∷◌, get_or}
use Rattle.std.specs.List.{list_all}
use Rattle.std.proofs.Common.{ap, ◌∙◌}
use Rattle.graph.specs.Members.{all}
use Rattle.entities.specs.declared.Node.{Node}
use Rattle.entities.specs.Run.{sources_of}
use Rattle.ranks.specs.Order.{marked, fresh}

pub list_all_is : {A : Type 0} (t : A → Bool) (l : List A) → list_all t l ≡ all t l
unfolding all
list_all_is t [] = refl
list_all_is t (x ∷ l) = ap (λ (b : Bool). t x && b) (list_all_is t l)

module _ (marks : List Bool) (config : List ℕ) (node : Node) (x : ℕ) (v : (x ≡ node.id) × (x < 256)) where
  pub borne_already : not (get_or marks x false) ≡ false → not (get_or marks x false) ≡ fresh marks config node
  unfolding fresh
  borne_already e = let q : not (get_or marks node.id false) ≡ false = rw v.0 at e in rw (v.0, q) refl

  pub not_yet : not (get_or marks x false) ≡ true → (ids : List ℕ) → ids ≡ sources_of config node → (r : Bool) → r ≡ list_all (marked marks) ids
      → r ≡ fresh marks config node
  unfolding fresh
  not_yet e ids i r f = let q : not (get_or marks node.id false) ≡ true = rw v.0 at e in rw (q, ← i) (f ∙ list_all_is (marked marks) ids)
