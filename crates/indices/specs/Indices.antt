-- Refusals by index: what the reader computes of a run, the place of an entity turned into its index, counted from 0 (document 02, No. 9).
--   index_at run q    ==  the index of the entity of the run that stands at place q
--   index_in run b    ==  the breach b, by the index of its entity
--   connected_then s run r  ==  the first of 10 to 13 that applies to the run, which was read from s, so; r where none does
--   indexed_then s r  ==  the first of 17 and 10 to 13 that applies to the descriptors that stand in s one behind another, at the index of its entity;
--                       what r says where none does
use Rattle.std.specs.Prelude.{ℕ, List, eqb, Option, Some, None}
use Rattle.ground.specs.declared.Refusal.{Refusal}
use Rattle.ground.specs.Places.{first_in}
use Rattle.ground.specs.Refuse.{refuse}
use Rattle.entities.specs.declared.Run.{Run}
use Rattle.entities.specs.Run.{held, place_at, walk_of}
use Rattle.ids.specs.Breach.{breach10}
use Rattle.sources.specs.Breach.{breach11}
use Rattle.ranks.specs.Order.{ordered}
use Rattle.ranks.specs.Breach.{breach12}
use Rattle.clusters.specs.Breach.{given_for, breach13}

unfoldable pub index_at : Run → ℕ → ℕ
index_at run q = first_in (λ i. eqb (place_at run i) q) (λ i. i) 0 0 (held run)

unfoldable pub index_in : Run → Option ℕ → Option ℕ
index_in run None = None
index_in run (Some q) = Some (index_at run q)

-- the rules 10 to 13 of a run that was read from s
unfoldable pub connected_then : List ℕ → Run → Refusal → Refusal
connected_then s run r =
    refuse 10 (index_in run (breach10 run))
    (refuse 11 (index_in run (breach11 s run))
    (refuse 12 (index_in run (breach12 run (ordered s run))) (refuse 13 (index_in run (breach13 s run (given_for s run))) r)))

unfoldable pub indexed_then : List ℕ → Refusal → Refusal
indexed_then s r = refuse 17 (index_in (walk_of s 0).run (walk_of s 0).unlaid) (connected_then s (walk_of s 0).run r)
