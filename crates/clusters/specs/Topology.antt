-- The theorem of this layer: what the reader computes of the clusters, in one sweep along the order of a run, is rule 13 as it is said
-- of the run's descriptors. Where there are ranks, clusters that are given out by the rules are one, whatever edition's rules they
-- are; the sweep finds them. All of it is said of any edition; the audio edition's laws are instances.
--   source_of        ==  a source ID is borne by an entity of the run
--   ranks_kept       ==  ranks exist exactly where rule 12 is kept
--   connected_parts  ==  demand 3's topology is the rules 12 and 13, where 10 and 11 are kept
--   swept_each       ==  a sweep along the order of the run makes what each entity gives out, by its rule, of what enters it
use Rattle.std.specs.Prelude.{ℕ, ◌<◌, ◌≡◌, ◌↔◌, eqb, length}
use Rattle.std.proofs.Common.{⊎_elim}
use mathlib.Core.List.{List, map}
use Rattle.ground.specs.Pick.{reads_eq, decided}
use Rattle.ground.specs.Lists.{any, SomeOf, reads_any}
use Rattle.graph.specs.Members.{◌∈◌}
use Rattle.edition.specs.Edition.{Edition, own_id, sources}
use Rattle.entities.specs.declared.Node.{Node}
use Rattle.entities.specs.declared.Run.{Run}
use Rattle.entities.specs.Run.{node_at, id_at, sources_at}
use Rattle.entities.specs.Represents.{Represents}
use Rattle.ids.specs.Rule10.{Rule10}
use Rattle.sources.specs.Rule11.{Rule11, unknown}
use Rattle.ids.specs.Rule10Laws.{distinct_run}
use Rattle.sources.specs.GraphLaws.{known_run}
use Rattle.ranks.specs.Rule12.{Ranking, Rule12}
use Rattle.ranks.specs.Order.{ordered}
use Rattle.ranks.proofs.Rule12Laws.{all_ordered, rule12_ranks}
use Rattle.clusters.specs.Rule13.{Rule13, Connected}
use Rattle.clusters.specs.AlongOrder.{swept_by, swept_made}

-- any edition, of the descriptors alone
module _ {ed : Edition} {ds : List (List ℕ)} where
  -- a source is an entity of the run
  pub source_of : Rule11 ed ds → (d : List ℕ) → d ∈ ds → (x : ℕ) → x ∈ sources ed d → SomeOf (λ e. own_id e ≡ x) ds
  source_of r d m x a =
      ⊎_elim (λ b. b)
      (λ f. absurd (r d m (record { one = x; among = a; has = unknown (λ e b q. f (record { one = e; among = b; has = q })) })))
      (decided (any (λ e. eqb (own_id e) x) ds) (reads_any (λ e. eqb (own_id e) x) (λ e. own_id e ≡ x) (λ e. reads_eq (own_id e) x) ds))

-- any edition, of a run that stands for descriptors
module _ {ed : Edition} {s : List ℕ} {p : ℕ} {ds : List (List ℕ)} {run : Run} (k : Represents ed s p ds run) where
  module _ (r10 : Rule10 ds) (r11 : Rule11 ed ds) where
    pub ranks_kept : ((rank : ℕ → ℕ) × Ranking ed ds rank) ↔ Rule12 ed ds
    ranks_kept = rule12_ranks k (distinct_run k r10) (known_run k r11)

    abbrev pub connected_parts : Connected ed ds ↔ (Rule12 ed ds × Rule13 ed ds)
    connected_parts = (
      λ c. (ranks_kept.0 (c.rank, c.ranked), (c.cluster, c.given_out, c.fits)),
      λ h.
          let r = ranks_kept.1 h.0 in
          record { rule10 = r10; rule11 = r11; rank = r.0; ranked = r.1; cluster = h.1.0; given_out = h.1.1; fits = h.1.2 },
    )

    pub swept_each : Rule12 ed ds → {C : Type 0} (rule : Node → List C → C) (start : ℕ → C) (i : ℕ) → i < length ds
        → swept_by s rule (ordered s run) start (id_at run i) ≡ rule (node_at run i) (map (swept_by s rule (ordered s run) start) (sources_at s run i))
    swept_each r12 rule start i l =
        swept_made s rule run start i (all_ordered k (distinct_run k r10) (known_run k r11) r12 i (rw k.counted l))
