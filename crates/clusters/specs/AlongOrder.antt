-- One sweep along the order of a run, of whatever is given out on IDs, by any rule that tells what an entity gives out where some enter it. No edition
-- has a say in it: what is seen of an entity is its node.
--   swept_by s rule run c  ==  what is given out on IDs along the run, from c on
--   given_ordered         ==  the sweep along the run in order is the sweep along the order
--   swept_made            ==  .. so what each entity of the order gives out is what the rule makes of what enters it
use Rattle.std.specs.Prelude.{ℕ, ◌≡◌, length, get_or}
use Rattle.std.proofs.Math.Path.{refl, ap}
use Rattle.std.proofs.Common.{◌∙◌}
use mathlib.Core.List.Memᴰ
use mathlib.Core.List.{List, [], ◌∷◌, map}
use Rattle.graph.specs.Members.{◌∈◌}
use Rattle.graph.specs.Tables.{below, below_lt, map_tabulate, tabulate_get_d}
use Rattle.graph.specs.Along.{put, given, given_out}
use Rattle.graph.proofs.AlongLemmas.{made_along}
use Rattle.entities.specs.declared.Node.{Node}
use Rattle.entities.specs.declared.Run.{Run}
use Rattle.entities.specs.Run.{held, node_at, id_at, sources_of, sources_at}
use Rattle.ranks.specs.Order.{order_in, ordered}
use Rattle.ranks.specs.OrderLaws.{ordered_held, ordered_node}

module _ {C : Type 0} (s : List ℕ) (rule : Node → List C → C) where
  abbrev along : (ℕ → Node) → (ℕ → C) → List ℕ → ℕ → C
  along node = given (λ i. (node i).id) (λ i. sources_of s (node i)) (λ i. rule (node i))

  along_same : (n m : ℕ → Node) (o : List ℕ) → ((i : ℕ) → i ∈ o → n i ≡ m i) → (c : ℕ → C) → along n c o ≡ along m c o
  unfolding given
  along_same n m [] h c = refl
  along_same n m (i ∷ o) h c =
      along_same n m o (λ j a. h j (Memᴰ.tail a)) (put c (n i).id (rule (n i) (map c (sources_of s (n i)))))
      ∙ ap (λ (x : Node). along m (put c x.id (rule x (map c (sources_of s x)))) o) (h i (Memᴰ.head refl))

  along_mapped : (n : ℕ → Node) (f : ℕ → ℕ) (o : List ℕ) (c : ℕ → C) → along (λ i. n (f i)) c o ≡ along n c (map f o)
  unfolding given
  along_mapped n f [] c = refl
  along_mapped n f (i ∷ o) c = along_mapped n f o (put c (n (f i)).id (rule (n (f i)) (map c (sources_of s (n (f i))))))

  abbrev pub swept_by : Run → (ℕ → C) → ℕ → C
  swept_by run c = along (node_at run) c (below (held run))

  module _ (run : Run) (c : ℕ → C) where
    abbrev at : ℕ → ℕ
    at j = get_or (order_in s run) j 0

    pub given_ordered : swept_by (ordered s run) c ≡ given_out (id_at run) (sources_at s run) (λ i. rule (node_at run i)) c (held run)
    given_ordered =
        ap (λ (m : ℕ). along (node_at (ordered s run)) c (below m)) (ordered_held s run)
        ∙ along_same (node_at (ordered s run)) (λ j. node_at run (at j)) (below (length (order_in s run))) (λ j m. ordered_node s run j (below_lt m)) c
        ∙ along_mapped (node_at run) at (below (length (order_in s run))) c
        ∙ ap (along (node_at run) c) (map_tabulate at (length (order_in s run)) (λ i. i) ∙ tabulate_get_d (order_in s run) 0)

    pub swept_made : (i : ℕ) → i ∈ order_in s run
        → swept_by (ordered s run) c (id_at run i) ≡ rule (node_at run i) (map (swept_by (ordered s run) c) (sources_at s run i))
    swept_made i m = rw given_ordered (made_along (id_at run) (sources_at s run) (λ j. rule (node_at run j)) c (held run) i m)
