-- Rule 13 of the 3.0 edition, and what the reader computes of it: the laws of any edition (crate clusters), where clusters go by their IDs. An ID stands for
-- the descriptor of the buffer that bears it, and 0, which none bears (rule 51), for none: so what the sweep makes of IDs is what the rules make of clusters.
--   FoundById ks id k ==  k is found in ks by the ID: one that bears it, or none does and k is empty; found_by_id: cluster_in finds so
--   found_only        ==  in a cluster buffer the descriptor that bears an ID is the one that is found by it
--   no_zero           ==  in a cluster buffer none is found by 0
--   given_by_id       ==  what the sweep gives out, each as the cluster of its ID, is given out by the rules
--   reads_fits_third  ==  the reader's test of an entity decides that it keeps its rule
--   third13_nowhere   ==  THE LAW: the reader finds rule 13 broken nowhere exactly where the rule is kept
--   third13_at        ==  .. and at q exactly where q is the place of the first descriptor that breaks it
--   third_shown       ==  what is shown of an entity is of the cluster on its output
use Rattle.std.specs.Prelude.{ℕ, ◌≤◌, ◌<◌, ◌≡◌, Bool, ◌↔◌, length, get_or, Some, None}
use Rattle.std.proofs.Math.Path.{refl, ap}
use Rattle.std.proofs.Common.{sym, ◌∙◌, inl, inr, ⊎_elim, arith, eqb-true, lt-ltb}
use Rattle.std.proofs.Math.Bool.{true, false}
use mathlib.Core.List.Memᴰ
use mathlib.Core.List.{List, [], ◌∷◌, ◌++◌, map, append_assoc}
use Rattle.std.proofs.Math.Nat.{min-le_right}
use Rattle.std.proofs.lemmas.Bool.{eqb-false}
use Rattle.ground.specs.Pick.{pick, yes, Reads}
use Rattle.ground.specs.Lists.{split_of}
use Rattle.ground.specs.First.{Sound, Breaks}
use Rattle.graph.specs.Members.{◌∈◌}
use Rattle.graph.specs.Tables.{get_d_tabulate}
use Rattle.layout.specs.Layout.{no_cluster}
use Rattle.layout3.specs.declared.Facts.{Facts}
use Rattle.buffer.specs.Clusters.{cluster_id, WrongCluster, Buffer}
use Rattle.buffer.specs.Reading.{pieces, bearing, cluster_in, cluster_with}
use Rattle.buffer.specs.BufferLaws.{buffer_pieces}
use Rattle.edition.specs.Edition.{own_id}
use Rattle.edition3.specs.Third.{said_by, first_of, gives_out, third}
use Rattle.entities.specs.declared.Run.{Run}
use Rattle.entities.specs.Run.{most_entities, held, node_at, sources_at, descriptor_of}
use Rattle.entities.specs.Represents.{Represents}
use Rattle.ids.specs.Rule10.{Rule10}
use Rattle.sources.specs.Rule11.{Rule11}
use Rattle.ranks.specs.Rule12.{Rule12}
use Rattle.ranks.specs.Order.{ordered}
use Rattle.clusters.specs.Rule13.{entering, GivenOut, Fits, Rule13, Broken, Connected}
use Rattle.clusters.specs.Topology.{ranks_kept, swept_each}
use Rattle.clusters.proofs.TopologyLemmas.{given_by_index, cluster_on, unfit_nowhere, unfit_at}
use Rattle.sweep3.specs.Sweep.{first_id, given_ids}
use Rattle.keeping3.specs.Keeping.{keeps_by, breach13}
use Rattle.clusters3.specs.Shown.{shown_cluster, clusters_by}
use Rattle.clusters3.specs.Given.{given_clusters}

pub data FoundById (ks : List (List ℕ)) (id : ℕ) (k : List ℕ) : Type 0 where
  borne : k ∈ ks → cluster_id k ≡ id → FoundById ks id k
  unborne : k ≡ [] → ((j : List ℕ) → j ∈ ks → cluster_id j ≡ id → ⊥) → FoundById ks id k

pub found_by_id : (ks : List (List ℕ)) (id : ℕ) → FoundById ks id (cluster_in ks id)
unfolding cluster_in
found_by_id [] id = unborne refl (λ j m e. Memᴰ.not-nil m)
found_by_id (k ∷ ks) id = go (bearing id k) refl (found_by_id ks id)
  where
    go : (t : Bool) → bearing id k ≡ t → FoundById ks id (cluster_in ks id) → FoundById (k ∷ ks) id (pick t k (cluster_in ks id))
    go true e r = borne (Memᴰ.head refl) (eqb-true (cluster_id k) id e)
    go false e (borne m q) = borne (Memᴰ.tail m) q
    go false e (unborne z n) = unborne z (λ j m q. ⊎_elim (λ f. eqb-false (cluster_id k) id e (ap cluster_id (sym f) ∙ q)) (λ l. n j l q) (Memᴰ.cases_cons m))

-- two descriptors of a cluster buffer that bear one ID are one
pub found_only : (ks : List (List ℕ)) → Sound WrongCluster ks → (k : List ℕ) → k ∈ ks → cluster_in ks (cluster_id k) ≡ k
unfolding Sound
found_only ks ids k m = go (found_by_id ks (cluster_id k))
  where
    -- the one that stands behind the other would bear an ID that is borne before it
    one : {j : List ℕ} → j ∈ ks → cluster_id j ≡ cluster_id k → j ≡ k
    one {j} i e = of (split_of m)
      where
        of : (x : List (List ℕ)) × (y : List (List ℕ)) × (ks ≡ x ++ k ∷ y) → j ≡ k
        of (x, y, f) = ⊎_elim front (λ l. ⊎_elim (λ q. q) back (Memᴰ.cases_cons l)) (Memᴰ.append_cases x (rw f at i))
          where
            front : j ∈ x → j ≡ k
            front l = absurd (ids x k y f (inr (record { one = j; among = l; has = e })))

            back : j ∈ y → j ≡ k
            back l =
                let z = split_of l in
                absurd (ids (x ++ k ∷ z.0) j z.1 (f ∙ ap (λ (r : List (List ℕ)). x ++ k ∷ r) z.2 ∙ sym (append_assoc x (k ∷ z.0) (j ∷ z.1))) (inr (record { one = k; among = Memᴰ.append_right x (Memᴰ.head refl); has = sym e })))

    go : {j : List ℕ} → FoundById ks (cluster_id k) j → j ≡ k
    go (borne i e) = one i e
    go (unborne z n) = absurd (n k m refl)

pub no_zero : (b : List ℕ) → Buffer b → cluster_with b 0 ≡ []
unfolding cluster_with Sound
no_zero b buf = go (found_by_id (pieces b) 0)
  where
    go : FoundById (pieces b) 0 (cluster_in (pieces b) 0) → cluster_in (pieces b) 0 ≡ []
    go (borne m q) = let x = split_of m in absurd (buf.ids x.0 (cluster_in (pieces b) 0) x.1 (sym (buffer_pieces b buf) ∙ x.2) (inl q))
    go (unborne z n) = z

module _ {s b : List ℕ} {p : ℕ} {ds : List (List ℕ)} {run : Run} (k : Represents (third (pieces b)) s p ds run) (buf : Buffer b) where
  -- the cluster of what an entity gives out by ID is what it gives out of the clusters
  named_out : (f : Facts) (l : List ℕ) → cluster_with b (pick f.declares f.cluster (first_id (map (given_ids s (ordered s run)) l)))
      ≡ pick f.declares (cluster_in (pieces b) f.cluster) (first_of (map (given_clusters b s run) l))
  unfolding cluster_with first_id first_of
  named_out f l = go f.declares l
    where
      go : (t : Bool) (l : List ℕ) → cluster_in (pieces b) (pick t f.cluster (first_id (map (given_ids s (ordered s run)) l)))
          ≡ pick t (cluster_in (pieces b) f.cluster) (first_of (map (given_clusters b s run) l))
      go true l = refl
      go false [] = no_zero b buf
      go false (x ∷ l) = refl

  pub reads_fits_third : (cl : ℕ → List ℕ) (i : ℕ) → i < length ds → Reads (keeps_by s b (node_at run i) cl) (Fits (third (pieces b)) cl (get_or ds i []))
  unfolding keeps_by
  reads_fits_third cl i l = rw (k.bytes i l, k.sources i l) ((third (pieces b)).reads (get_or ds i []) (entering (third (pieces b)) cl (get_or ds i [])))

  module _ (r10 : Rule10 ds) (r11 : Rule11 (third (pieces b)) ds) (r12 : Rule12 (third (pieces b)) ds) where
    pub given_by_id : GivenOut (third (pieces b)) ds (given_clusters b s run)
    unfolding given_ids gives_out
    given_by_id = given_by_index k (given_clusters b s run) (λ i l.
        ap (cluster_with b)
        (swept_each k r10 r11 r12 (λ n cs. pick (said_by (descriptor_of s n)).declares (said_by (descriptor_of s n)).cluster (first_id cs)) (λ x. 0) i l)
        ∙ named_out (said_by (descriptor_of s (node_at run i))) (sources_at s run i)
        ∙ ap (λ (d : List ℕ). gives_out (pieces b) d (map (given_clusters b s run) (sources_at s run i))) (k.bytes i l))

    pub third13_nowhere : (breach13 s b run (given_clusters b s run) ≡ None) ↔ Rule13 (third (pieces b)) ds
    unfolding breach13
    third13_nowhere = unfit_nowhere k r10 r11 r12 (given_clusters b s run) given_by_id _ (reads_fits_third (given_clusters b s run))

    pub third13_at : (q : ℕ) → (breach13 s b run (given_clusters b s run) ≡ Some q) ↔ Breaks (λ x d. Broken (third (pieces b)) ds d) p ds q
    unfolding breach13
    third13_at = unfit_at k r10 r11 r12 (given_clusters b s run) given_by_id _ (reads_fits_third (given_clusters b s run))

  pub third_shown : (c : Connected (third (pieces b)) ds) (i : ℕ) → i < length ds
      → get_or (clusters_by b run (given_ids s (ordered s run))) i no_cluster ≡ shown_cluster (c.cluster (own_id (get_or ds i [])))
  unfolding clusters_by
  third_shown c i l =
      let few : held run ≤ most_entities = min-le_right run.count most_entities in
      let e = k.counted in
      let r12 = (ranks_kept k c.rule10 c.rule11).0 (c.rank, c.ranked) in
      get_d_tabulate most_entities _ i no_cluster (omega arith)
      ∙ yes _ _ (lt-ltb i (held run) (omega arith))
      ∙ ap shown_cluster (cluster_on k c (given_clusters b s run) (given_by_id c.rule10 c.rule11 r12) i l)
