-- Document 01, refusal 13: "a cluster rule is broken". Clusters are on entities, named by their IDs; what is asked of them is asked of each
-- descriptor of the run, for any edition.
--   entering ed cluster d     ==  the clusters that enter d, pin by pin
--   GivenOut ed ds cluster    ==  each entity's cluster is what its rule makes of those that enter it
--   Fits ed cluster d         ==  those that enter d keep its rule
--   Rule13 ed ds    ==  there are clusters, one on each entity's output, given out by the rules, that keep every rule
--   Broken ed ds d  ==  .. as they are given out, d does not keep its rule
--   Connected ed ds ==  the rules 10 to 13 as demand 3 has them: right IDs and sources, a rank on each entity, lower at a source than
--                       at its user, and a cluster on each entity's output, given out by the rules, that keep every rule
use Rattle.std.specs.Prelude.{ℕ, ◌≡◌, List, map}
use Rattle.graph.specs.Members.{◌∈◌}
use Rattle.edition.specs.Edition.{Edition, own_id, sources}
use Rattle.ids.specs.Rule10.{Rule10}
use Rattle.sources.specs.Rule11.{Rule11}
use Rattle.ranks.specs.Rule12.{Ranking}

module _ (ed : Edition) where
  abbrev pub entering : (ℕ → ed.Cluster) → List ℕ → List ed.Cluster
  entering cluster d = map cluster (sources ed d)

  abbrev pub GivenOut : List (List ℕ) → (ℕ → ed.Cluster) → Type 0
  GivenOut ds cluster = (d : List ℕ) → d ∈ ds → cluster (own_id d) ≡ ed.gives_out d (entering cluster d)

  abbrev pub Fits : (ℕ → ed.Cluster) → List ℕ → Type 0
  Fits cluster d = ed.Keeps d (entering cluster d)

  abbrev pub Rule13 : List (List ℕ) → Type 0
  Rule13 ds = (cluster : ℕ → ed.Cluster) × GivenOut ds cluster × ((d : List ℕ) → d ∈ ds → Fits cluster d)

  abbrev pub Broken : List (List ℕ) → List ℕ → Type 0
  Broken ds d = (cluster : ℕ → ed.Cluster) × GivenOut ds cluster × (Fits cluster d → ⊥)

  pub record Connected (ds : List (List ℕ)) : Type 0 where
    pub rule10 : Rule10 ds
    pub rule11 : Rule11 ed ds
    pub rank : ℕ → ℕ
    pub ranked : Ranking ed ds rank
    pub cluster : ℕ → ed.Cluster
    pub given_out : GivenOut ds cluster
    pub fits : (d : List ℕ) → d ∈ ds → Fits cluster d
