-- "Order carries no meaning: a source may stand after its user" (document 01); "the same records in another order" (document 02, No. 10).
--   Permuted l m      ==  m is l in another order: each element as often (the kit's permutations)
--   AgreeOn ds c e    ==  the clusters c and e on IDs are the same on each descriptor of ds
use Rattle.std.specs.Prelude.{ℕ, ◌≡◌}
use mathlib.Core.List.{List, Permᴰ}
use Rattle.graph.specs.Members.{◌∈◌}
use Rattle.layout.specs.declared.Cluster.{Cluster}
use Rattle.edition.specs.Edition.{own_id}

abbrev pub Permuted : {A : Type 0} → List A → List A → Type 0
Permuted l m = Permᴰ l m

abbrev pub AgreeOn : List (List ℕ) → (ℕ → Cluster) → (ℕ → Cluster) → Type 0
AgreeOn ds c e = (d : List ℕ) → d ∈ ds → c (own_id d) ≡ e (own_id d)
