-- What the run that order_of answers holds: its k-th entity is the entity that stands k-th in the order.
--   order_few      ==  an order has at most 32 entities
--   ordered_held   ==  as many entities are looked at as the order has
--   ordered_node   ==  the k-th of them is the run's entity at the k-th index of the order
--   ordered_ids    ==  the IDs that they bear are those borne in the order
use Rattle.std.specs.Prelude.{ℕ, zero, suc, ◌≤◌, ◌<◌, ◌≡◌, refl, List, [], ◌∷◌, map, length, get_or}
use Rattle.std.proofs.Common.{sym, ap, ◌∙◌, le_trans, le_of_suc-le-suc}
use native.Mathlib.Omega.{arith}
use Rattle.std.proofs.Math.Nat.{min-le_right, min-eq_left}
use Rattle.ground.specs.Lists.{pad_at}
use Rattle.graph.specs.Tables.{below, tabulate_same, tabulate_get_d, map_tabulate}
use Rattle.graph.specs.Passes.{borne}
use Rattle.graph.specs.Grown.{grown_length}
use Rattle.graph.proofs.GrownLemmas.{order_grown}
use Rattle.entities.specs.declared.Run.{Run}
use Rattle.entities.specs.Run.{most_entities, blank_node, held, node_at, id_at, sources_at}
use Rattle.ranks.specs.Order.{order_in, ordered}
use Rattle.ranks.specs.Breach.{ids_of}

get_d_mapped : {A B : Type 0} (f : A → B) (l : List A) (k : ℕ) (a : A) (b : B) → k < length l → get_or (map f l) k b ≡ f (get_or l k a)
get_d_mapped f [] k a b h = absurd (omega arith)
get_d_mapped f (x ∷ l) zero a b h = refl
get_d_mapped f (x ∷ l) (suc k) a b h = get_d_mapped f l k a b (le_of_suc-le-suc h)

module _ (s : List ℕ) (run : Run) where
  pub order_few : length (order_in s run) ≤ most_entities
  order_few = le_trans (grown_length (order_grown (id_at run) (sources_at s run) (held run))) (min-le_right run.count most_entities)

  pub ordered_held : held (ordered s run) ≡ length (order_in s run)
  unfolding ordered
  ordered_held = min-eq_left order_few

  pub ordered_node : (k : ℕ) → k < length (order_in s run) → node_at (ordered s run) k ≡ node_at run (get_or (order_in s run) k 0)
  unfolding ordered
  ordered_node k h =
      let l = order_few in
      let m : k < most_entities = omega arith in
      pad_at blank_node most_entities (map (node_at run) (order_in s run)) k m ∙ get_d_mapped (node_at run) (order_in s run) k 0 blank_node h

  pub ordered_ids : ids_of (ordered s run) ≡ borne (id_at run) (order_in s run)
  ordered_ids =
      ap (λ (n : ℕ). map (id_at (ordered s run)) (below n)) ordered_held
      ∙ map_tabulate (id_at (ordered s run)) (length (order_in s run)) (λ i. i)
      ∙ tabulate_same (length (order_in s run)) (id_at (ordered s run)) (λ k. id_at run (get_or (order_in s run) k 0))
      (λ k h. ap (λ n. n.id) (ordered_node k h))
      ∙ sym (map_tabulate (id_at run) (length (order_in s run)) (λ k. get_or (order_in s run) k 0))
      ∙ ap (map (id_at run)) (tabulate_get_d (order_in s run) 0)
