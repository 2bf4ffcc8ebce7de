-- Laws of what stands beside it in specs.
--   given_one        ==  where there are ranks, clusters that are given out by the rules are the same on each entity
--   entering_one     ==  .. and the same enter each
--   fits_alike       ==  .. so that one of them keeps an entity's rule where another does
--   broken_by, rule13_by  ==  so any one of them tells who breaks rule 13, and whether it is kept
--   clusters_one     ==  so the clusters of demand 3 are one, whoever reads the same descriptors
--   given_by_index   ==  clusters that each entity of a run gives out by the rules are given out by the rules
--   cluster_on       ==  .. and they are demand 3's
--   unfit_nowhere    ==  THE LAW: a test of each entity's rule, by clusters that are given out, fails nowhere exactly where rule 13 is kept
--   unfit_at         ==  .. and first at q exactly where q is the place of the first descriptor that breaks it
--   swept_given      ==  the audio edition's sweep gives out clusters by the rules
--   reads_fits       ==  its test of an entity decides that it keeps its rule
--   rule13_nowhere, rule13_at  ==  THE LAW, of that edition
--   clusters_shown   ==  the cluster that is shown of an entity is the one on its output
use Rattle.std.specs.Prelude.{ℕ, zero, suc, ◌≤◌, ◌<◌, ◌≡◌, Bool, not, ◌↔◌, length, get_or, Option, Some, None}
use Rattle.std.proofs.Common.{sym, ◌∙◌, subst, ⊎_elim, arith}
use Rattle.std.proofs.Math.Path.{ap}
use mathlib.Core.List.{List, [], map}
use Rattle.std.proofs.Math.Nat.{min-le_right}
use Rattle.ground.specs.Pick.{Reads, reads_not, reads_same, decided}
use Rattle.ground.specs.Lists.{member_at, member_index}
use Rattle.ground.specs.First.{Breaks}
use Rattle.ground.specs.Places.{first_in, breach_nowhere, breach_at}
use Rattle.layout.specs.declared.Cluster.{Cluster}
use Rattle.layout.specs.Layout.{entity_of, no_cluster}
use Rattle.graph.specs.Members.{◌∈◌, map_same}
use Rattle.graph.specs.Tables.{get_d_tabulate}
use Rattle.edition.specs.Edition.{Edition, own_id, sources}
use Rattle.edition.specs.Audio.{audio, give_out}
use Rattle.entities.specs.declared.Run.{Run}
use Rattle.entities.specs.Run.{most_entities, held, node_at, id_at, place_at, sources_at, descriptor_of}
use Rattle.entities.specs.Represents.{Represents}
use Rattle.entities.specs.RepresentsLaws.{sound_each_of, breaks_each_of}
use Rattle.ids.specs.Rule10.{Rule10}
use Rattle.sources.specs.Rule11.{Rule11}
use Rattle.ranks.specs.Rule12.{Ranking, Rule12}
use Rattle.clusters.specs.Rule13.{entering, GivenOut, Fits, Rule13, Broken, Connected}
use Rattle.sweep.specs.Sweep.{given_in, clusters_of}
use Rattle.keeping.specs.Keeping.{keeps_by}
use Rattle.clusters.specs.Breach.{given_for, breach13}
use Rattle.clusters.specs.Topology.{source_of, ranks_kept, swept_each}

-- any edition, of the descriptors alone
module _ {ed : Edition} {ds : List (List ℕ)} where
  module _ (r : Rule11 ed ds) {rank : ℕ → ℕ} (ranked : Ranking ed ds rank)
      (f g : ℕ → ed.Cluster) (made : GivenOut ed ds f) (made' : GivenOut ed ds g) where
    one_below : (n : ℕ) (d : List ℕ) → d ∈ ds → rank (own_id d) < n → f (own_id d) ≡ g (own_id d)
    one_below zero d m l = absurd (omega arith)
    one_below (suc n) d m l =
        made d m ∙ ap (ed.gives_out d) (map_same f g (sources ed d) (source (λ e a h. one_below n e a h))) ∙ sym (made' d m)
      where
        source : ((e : List ℕ) → e ∈ ds → rank (own_id e) < n → f (own_id e) ≡ g (own_id e)) → (x : ℕ) → x ∈ sources ed d → f x ≡ g x
        source before x a =
            let b = source_of r d m x a in
            let low : rank x < rank (own_id d) = ranked d m x a in
            let q : own_id b.one ≡ x = b.has in
            let h : rank (own_id b.one) < n = rw q (omega arith) in
            rw q at (before b.one b.among h)

    pub given_one : (d : List ℕ) → d ∈ ds → f (own_id d) ≡ g (own_id d)
    given_one d m = one_below (suc (rank (own_id d))) d m (omega arith)

    pub entering_one : (d : List ℕ) → d ∈ ds → entering ed f d ≡ entering ed g d
    entering_one d m = map_same f g (sources ed d) (λ x a. let b = source_of r d m x a in rw b.has at (given_one b.one b.among))

    pub fits_alike : (d : List ℕ) → d ∈ ds → Fits ed f d → Fits ed g d
    fits_alike d m = subst (λ (cs : List ed.Cluster). ed.Keeps d cs) (entering_one d m)

  -- clusters that are given out by the rules decide the rule
  module _ (r : Rule11 ed ds) {rank : ℕ → ℕ} (ranked : Ranking ed ds rank) (f : ℕ → ed.Cluster) (made : GivenOut ed ds f) where
    pub broken_by : (d : List ℕ) → d ∈ ds → (Fits ed f d → ⊥) ↔ Broken ed ds d
    broken_by d m = (λ h. (f, made, h), λ b h. b.2 (fits_alike r ranked f b.0 made b.1 d m h))

    pub rule13_by : ((d : List ℕ) → d ∈ ds → Broken ed ds d → ⊥) ↔ Rule13 ed ds
    rule13_by = (to, λ h d m b. b.2 (fits_alike r ranked h.0 b.0 h.1 b.1 d m (h.2 d m)))
      where
        to : ((d : List ℕ) → d ∈ ds → Broken ed ds d → ⊥) → Rule13 ed ds
        to h = (f, made, λ d m. ⊎_elim (λ x. x) (λ x. absurd (h d m (f, made, x))) (decided _ (ed.reads d (entering ed f d))))

  pub clusters_one : {es : List (List ℕ)} → ds ≡ es → (c : Connected ed ds) (e : Connected ed es) (d : List ℕ) → d ∈ ds
      → c.cluster (own_id d) ≡ e.cluster (own_id d)
  clusters_one q c =
      subst (λ (es : List (List ℕ)). (e : Connected ed es) (d : List ℕ) → d ∈ ds → c.cluster (own_id d) ≡ e.cluster (own_id d)) q
      (λ e. given_one c.rule11 c.ranked c.cluster e.cluster c.given_out e.given_out)

-- any edition, of a run that stands for descriptors
module _ {ed : Edition} {s : List ℕ} {p : ℕ} {ds : List (List ℕ)} {run : Run} (k : Represents ed s p ds run) where
  within : {i : ℕ} → i < held run → i < length ds
  within l = rw k.counted at l

  pub given_by_index : (f : ℕ → ed.Cluster)
      → ((i : ℕ) → i < length ds → f (id_at run i) ≡ ed.gives_out (get_or ds i []) (map f (sources_at s run i))) → GivenOut ed ds f
  given_by_index f made d m =
      let j = member_index [] m in
      let own : id_at run j.0 ≡ own_id d = k.id j.0 j.1 ∙ ap own_id j.2 in
      let named : sources_at s run j.0 ≡ sources ed d = k.sources j.0 j.1 ∙ ap (sources ed) j.2 in
      ap f (sym own)
      ∙ made j.0 j.1
      ∙ ap (λ (b : List ℕ). ed.gives_out b (map f (sources_at s run j.0))) j.2
      ∙ ap (λ (x : List ℕ). ed.gives_out d (map f x)) named

  pub cluster_on : (c : Connected ed ds) (f : ℕ → ed.Cluster) → GivenOut ed ds f → (i : ℕ) → i < length ds
      → f (id_at run i) ≡ c.cluster (own_id (get_or ds i []))
  cluster_on c f made i l =
      ap f (k.id i l) ∙ given_one c.rule11 c.ranked f c.cluster made c.given_out (get_or ds i []) (member_at [] ds i l)

  module _ (r10 : Rule10 ds) (r11 : Rule11 ed ds) where
    module _ (r12 : Rule12 ed ds) (f : ℕ → ed.Cluster) (made : GivenOut ed ds f)
        (t : ℕ → Bool) (test : (i : ℕ) → i < length ds → Reads (t i) (Fits ed f (get_or ds i []))) where
      abbrev unfit : Option ℕ
      unfit = first_in (λ i. not (t i)) (λ i. Some (place_at run i)) None 0 (held run)

      reads_broken : (i : ℕ) → i < held run → Reads (not (t i)) (Broken ed ds (get_or ds i []))
      reads_broken i l =
          let h = broken_by r11 ((ranks_kept k r10 r11).1 r12).1 f made (get_or ds i []) (member_at [] ds i (within l)) in
          reads_same (reads_not _ (test i (within l))) h.0 h.1

      pub unfit_nowhere : (unfit ≡ None) ↔ Rule13 ed ds
      unfit_nowhere =
          let b = breach_nowhere (held run) (place_at run) (λ i. Broken ed ds (get_or ds i [])) _ reads_broken in
          let d = sound_each_of k (Broken ed ds) in
          let none = rule13_by r11 ((ranks_kept k r10 r11).1 r12).1 f made in
          (λ e. none.0 (d.0 (b.0 e)), λ h. b.1 (d.1 (none.1 h)))

      pub unfit_at : (q : ℕ) → (unfit ≡ Some q) ↔ Breaks (λ b d. Broken ed ds d) p ds q
      unfit_at q =
          let b = breach_at (held run) (place_at run) (λ i. Broken ed ds (get_or ds i [])) _ reads_broken q in
          let d = breaks_each_of k (Broken ed ds) q in
          (λ e. d.0 (b.0 e), λ h. b.1 (d.1 h))

-- the audio edition
module _ {s : List ℕ} {p : ℕ} {ds : List (List ℕ)} {run : Run} (k : Represents audio s p ds run) where
  pub reads_fits : (cl : ℕ → Cluster) (i : ℕ) → i < length ds → Reads (keeps_by s (node_at run i) cl) (Fits audio cl (get_or ds i []))
  unfolding keeps_by
  reads_fits cl i l = rw (k.bytes i l, k.sources i l) (audio.reads (get_or ds i []) (entering audio cl (get_or ds i [])))

  module _ (r10 : Rule10 ds) (r11 : Rule11 audio ds) (r12 : Rule12 audio ds) where
    pub swept_given : GivenOut audio ds (given_for s run)
    unfolding given_in
    swept_given = given_by_index k (given_for s run) (λ i l.
        swept_each k r10 r11 r12 (λ n cs. give_out (entity_of (descriptor_of s n)) cs) (λ x. no_cluster) i l
        ∙ ap (λ (b : List ℕ). give_out (entity_of b) (map (given_for s run) (sources_at s run i))) (k.bytes i l))

    pub rule13_nowhere : (breach13 s run (given_for s run) ≡ None) ↔ Rule13 audio ds
    unfolding breach13
    rule13_nowhere = unfit_nowhere k r10 r11 r12 (given_for s run) swept_given _ (reads_fits (given_for s run))

    pub rule13_at : (q : ℕ) → (breach13 s run (given_for s run) ≡ Some q) ↔ Breaks (λ b d. Broken audio ds d) p ds q
    unfolding breach13
    rule13_at = unfit_at k r10 r11 r12 (given_for s run) swept_given _ (reads_fits (given_for s run))

  pub clusters_shown : (c : Connected audio ds) (i : ℕ) → i < length ds
      → get_or (clusters_of run (given_for s run)) i no_cluster ≡ c.cluster (own_id (get_or ds i []))
  unfolding clusters_of
  clusters_shown c i l =
      let few : held run ≤ most_entities = min-le_right run.count most_entities in
      let e = k.counted in
      let r12 = (ranks_kept k c.rule10 c.rule11).0 (c.rank, c.ranked) in
      get_d_tabulate most_entities (λ j. given_for s run (id_at run j)) i no_cluster (omega arith)
      ∙ cluster_on k c (given_for s run) (swept_given c.rule10 c.rule11 r12) i l
