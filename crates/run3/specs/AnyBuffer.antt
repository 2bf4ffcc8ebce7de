-- What a node holds does not hang on the cluster descriptors: place, ID, kind, pins and sources are the layout's. So the run is read as that of an
-- empty cluster buffer, `third []`, and is the run of every other.
--   nodes_any  ==  so the nodes are the same, whatever the cluster descriptors ks
--   run_any    ==  .. and the run
use Rattle.std.specs.Prelude.{ℕ, ◌+◌, ◌≡◌, refl, List, [], ◌∷◌, length}
use Rattle.std.proofs.Common.{ap}
use Rattle.ground.specs.Lists.{pad}
use Rattle.edition3.specs.Third.{third}
use Rattle.entities.specs.declared.Node.{Node}
use Rattle.entities.specs.Run.{most_entities, node_of, nodes_from, blank_node, run_in}

pub nodes_any : (ks : List (List ℕ)) (p : ℕ) (ds : List (List ℕ)) → nodes_from (third ks) p ds ≡ nodes_from (third []) p ds
unfolding nodes_from node_of
nodes_any ks p [] = refl
nodes_any ks p (d ∷ ds) = ap (λ (l : List Node). node_of (third []) p d ∷ l) (nodes_any ks (p + length d) ds)

pub run_any : (ks : List (List ℕ)) (p : ℕ) (ds : List (List ℕ)) → run_in (third ks) p ds ≡ run_in (third []) p ds
unfolding run_in
run_any ks p ds = ap (λ (l : List Node). record { count = length ds; nodes = pad blank_node most_entities l }) (nodes_any ks p ds)
