-- Where the rules 9 to 12 and 52 are kept in the 3.0 edition, the cluster on each entity's output is a descriptor of the buffer: one that an Input Terminal or a
-- Mixer names. A Clock Source gives out none. ks are the cluster descriptors of the buffer.
--   cluster_named      ==  the cluster on the output of an entity that names one bears the ID that it names, and is one of ks
--   cluster_in_buffer  ==  THE LAW: so is the cluster on the output of each entity that is no Clock Source
use Rattle.std.specs.Prelude.{ℕ, zero, suc, ◌≤◌, ◌<◌, ◌≡◌, Bool, ◌⊎◌}
use Rattle.std.proofs.Math.Path.{refl, subst}
use Rattle.std.proofs.Common.{sym, ◌∙◌, inl, inr, arith}
use Rattle.std.proofs.Math.Bool.{true, false}
use mathlib.Core.List.Memᴰ
use mathlib.Core.List.{List, [], ◌∷◌, map}
use Rattle.std.proofs.Math.ListN.{length}
use Rattle.ground.specs.Pick.{yes, no, true≠false}
use Rattle.graph.specs.Members.{◌∈◌}
use Rattle.layout.specs.FormatLaws.{stretch_length}
use Rattle.layout3.specs.declared.Entity.{Entity}
use Rattle.layout3.specs.Layouts.{LaidOut}
use Rattle.layout3.specs.Facts.{facts_of}
use Rattle.layout3.specs.LayoutLaws.{Told, unknown, input, output, mixer, selector, feature, clock, told, sources_within}
use Rattle.buffer.specs.Clusters.{cluster_id}
use Rattle.edition.specs.Edition.{own_id, sources}
use Rattle.edition3.specs.Third.{said_by, first_of, gives_out, third, Rule52}
use Rattle.sources.specs.Rule11.{no_output}
use Rattle.clusters.specs.Rule13.{Connected}
use Rattle.clusters.specs.Topology.{source_of}
use Rattle.clusters3.specs.Rule13Laws.{FoundById, borne, unborne, found_by_id}

-- an entity that is no Clock Source names a cluster or has a pin
draws : (d : List ℕ) → LaidOut d → ((said_by d).kind ≡ 0x0B → ⊥) → ((said_by d).declares ≡ true) ⊎ (1 ≤ (said_by d).pins)
unfolding facts_of
draws d l n = of (told d) n
  where
    of : {e : Entity} → Told d e → ((facts_of e).kind ≡ 0x0B → ⊥) → ((facts_of e).declares ≡ true) ⊎ (1 ≤ (facts_of e).pins)
    of (unknown u) m = absurd (u l)
    of (input o k i) m = inl refl
    of (output o k i) m = inr (omega arith)
    of (mixer o k q i) m = inl refl
    of (selector o k q i) m = inr q.0
    of (feature o k i) m = inr (omega arith)
    of (clock o k i) m = absurd (m refl)

-- what may be a source has a layout, and is no Clock Source
feeding : (d : List ℕ) → (said_by d).feeds ≡ true → LaidOut d × ((said_by d).kind ≡ 0x0B → ⊥)
unfolding facts_of
feeding d = of (told d)
  where
    of : {e : Entity} → Told d e → (facts_of e).feeds ≡ true → LaidOut d × ((facts_of e).kind ≡ 0x0B → ⊥)
    of (unknown u) f = absurd (true≠false (sym f))
    of (input o k i) f = (o, λ m. omega arith)
    of (output o k i) f = absurd (true≠false (sym f))
    of (mixer o k q i) f = (o, λ m. omega arith)
    of (selector o k q i) f = (o, λ m. omega arith)
    of (feature o k i) f = (o, λ m. omega arith)
    of (clock o k i) f = absurd (true≠false (sym f))

module _ (ks ds : List (List ℕ)) (c : Connected (third ks) ds) (known : Rule52 ks ds) where
  pub cluster_named : (d : List ℕ) → d ∈ ds → (said_by d).declares ≡ true → (c.cluster (own_id d) ∈ ks) × (cluster_id (c.cluster (own_id d)) ≡ (said_by d).cluster)
  unfolding gives_out
  cluster_named d m e = subst (λ (k : List ℕ). (k ∈ ks) × (cluster_id k ≡ (said_by d).cluster)) (sym (c.given_out d m ∙ yes _ _ e)) (go (found_by_id ks (said_by d).cluster))
    where
      go : {k : List ℕ} → FoundById ks (said_by d).cluster k → (k ∈ ks) × (cluster_id k ≡ (said_by d).cluster)
      go (borne a q) = (a, q)
      go (unborne z n) = absurd (known d m (e, n))

  -- a source has an output
  source_feeds : (d : List ℕ) → d ∈ ds → (x : ℕ) → x ∈ sources (third ks) d → (e : List ℕ) → e ∈ ds → own_id e ≡ x → (said_by e).feeds ≡ true
  source_feeds d m x a e i q = go (said_by e).feeds refl
    where
      go : (t : Bool) → (said_by e).feeds ≡ t → (said_by e).feeds ≡ true
      go true f = f
      go false f = absurd (c.rule11 d m (record { one = x; among = a; has = no_output e i q f }))

  first_in : (l : List ℕ) → 1 ≤ length l → ((x : ℕ) → x ∈ l → c.cluster x ∈ ks) → first_of (map c.cluster l) ∈ ks
  unfolding first_of
  first_in [] i f = absurd (omega arith)
  first_in (x ∷ l) i f = f x (Memᴰ.head refl)

  -- its own, or what enters by pin 1
  in_here : (d : List ℕ) → d ∈ ds → LaidOut d → ((said_by d).kind ≡ 0x0B → ⊥) → ((x : ℕ) → x ∈ sources (third ks) d → c.cluster x ∈ ks) → c.cluster (own_id d) ∈ ks
  unfolding gives_out
  in_here d m l w before = go (said_by d).declares refl (draws d l w)
    where
      go : (t : Bool) → (said_by d).declares ≡ t → ((said_by d).declares ≡ true) ⊎ (1 ≤ (said_by d).pins) → c.cluster (own_id d) ∈ ks
      go true e r = (cluster_named d m e).0
      go false e (inl f) = absurd (true≠false (sym f ∙ e))
      go false e (inr f) =
          let long : length (sources (third ks) d) ≡ (said_by d).pins = stretch_length d (said_by d).first (said_by d).pins (sources_within d) in
          subst (λ (k : List ℕ). k ∈ ks) (sym (c.given_out d m ∙ no _ _ e)) (first_in (sources (third ks) d) (rw long f) before)

  -- along the ranks: a source's is lower than its user's
  in_below : (n : ℕ) (d : List ℕ) → d ∈ ds → LaidOut d → ((said_by d).kind ≡ 0x0B → ⊥) → c.rank (own_id d) < n → c.cluster (own_id d) ∈ ks
  in_below zero d m l w h = absurd (omega arith)
  in_below (suc n) d m l w h =
      in_here d m l w
      (λ x a. let b = source_of c.rule11 d m x a in
      let f = feeding b.one (source_feeds d m x a b.one b.among b.has) in
      let low : c.rank (own_id b.one) < n = rw b.has (let q = c.ranked d m x a in omega arith) in
      subst (λ (y : ℕ). c.cluster y ∈ ks) b.has (in_below n b.one b.among f.0 f.1 low))

  pub cluster_in_buffer : (d : List ℕ) → d ∈ ds → LaidOut d → ((said_by d).kind ≡ 0x0B → ⊥) → c.cluster (own_id d) ∈ ks
  cluster_in_buffer d m l w = in_below (suc (c.rank (own_id d))) d m l w (omega arith)
