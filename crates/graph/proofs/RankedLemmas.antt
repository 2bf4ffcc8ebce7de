-- Laws of what stands beside it in specs.
--   ranking_bounds              ==  no chain from an index has more steps than its rank
--   left_endless                ==  an index left out of the order has chains of every length
--   in_short, order_short       ==  an index in a grown order of m has none of m steps or more; so one in the order none of n
--   all_ranks, ranks_all        ==  all n are in the order exactly where there is a ranking
--   all_counted                 ==  .. and exactly where the order has n
--   reads_ranks                 ==  .. so the order's length decides it
--   left_longer, in_longer      ==  whether index i is left out decides that some chain from i is longer than k steps, and
--                                   whether it is in, that none is
--   no_ranks                    ==  "no ranks exist" exactly where "some upstream chain of sources is longer than" k steps
use Rattle.std.specs.Prelude.{ℕ, zero, suc, ◌≤◌, ◌<◌, ◌≡◌, List, [], ◌∷◌, ◌++◌, ◌⊎◌, ◌↔◌, Bool, ◌&&◌, eqb, length}
use Rattle.std.proofs.Common.{zero-le, sym, ap, ◌∙◌, inl, inr, ⊎_elim, arith, le_refl, eq-eqb, ne_eqb}
use Rattle.std.proofs.Math.Path.{refl}
use mathlib.Core.List.Memᴰ
use Rattle.std.proofs.lemmas.List.{map-append}
use Rattle.std.proofs.Math.Bool.{true, false, not}
use Rattle.std.proofs.lemmas.Bool.{eqb-false}
use Rattle.ground.specs.Pick.{pick, yes, no, Reads, refutes, reads_same, reads_not, reads_contrary, reads_eq, decided}
use Rattle.graph.specs.Members.{◌∈◌, mem, reads_mem, mem_in, all, all_misses, reads_all}
use Rattle.graph.specs.Tables.{below, lt_below, below_lt}
use Rattle.graph.specs.Passes.{borne, joins, order_of}
use Rattle.graph.specs.Grown.{with, length_with, with_cases, Grown, none, more, grown_below, grown_source, grown_length, grown_full, full_grown}
use Rattle.graph.proofs.GrownLemmas.{order_grown}
use Rattle.graph.specs.Quiet.{Quiet}
use Rattle.graph.proofs.QuietLemmas.{order_quiet}
use Rattle.graph.specs.Ranked.{Distinct, AllIn, Known, Ranking, HasRanks, Chain, ends, up, Longer, rank_by, grown_ranked, borne_in, in_short}

pub ranking_bounds : {ids : ℕ → ℕ} {sources : ℕ → List ℕ} {n : ℕ} (rank : ℕ → ℕ) → Ranking ids sources n rank
    → {d i : ℕ} → i < n → Chain ids sources n d i → d ≤ rank (ids i)
ranking_bounds rank h l ends = zero-le
ranking_bounds {ids} rank h {i = i} l (up {j = j} b m c) = let q = ranking_bounds rank h b c in let r = h i l (ids j) m in omega arith

module _ (ids : ℕ → ℕ) (sources : ℕ → List ℕ) (n : ℕ) where
  pub all_ranks : AllIn n (order_of ids sources n) → HasRanks ids sources n
  all_ranks h = (rank_by ids (order_of ids sources n), λ i l x s. grown_ranked (order_grown ids sources n) i (h i l) x s)

  pub all_counted : AllIn n (order_of ids sources n) ↔ (length (order_of ids sources n) ≡ n)
  all_counted = (full_grown (order_grown ids sources n), λ e. grown_full (order_grown ids sources n) (omega arith))

  module _ (distinct : Distinct ids n) (known : Known ids sources n) where
    pub order_short : {d i : ℕ} → i ∈ order_of ids sources n → Chain ids sources n d i → d < n
    order_short m c = let a = (in_short ids sources n distinct known) (order_grown ids sources n) m c in let b = grown_length (order_grown ids sources n) in omega arith

    -- an index that may not join a grown order, and is not in it, has a source that is not
    left_source : {o : List ℕ} → Grown ids sources n o → Quiet ids sources n o
        → (i : ℕ) → i < n → (i ∈ o → ⊥) → (j : ℕ) × (j < n) × ids j ∈ sources i × (j ∈ o → ⊥)
    unfolding joins
    left_source {o} g q i l f = go (mem (ids i) (borne ids o)) refl (q i l)
      where
        go : (b : Bool) → mem (ids i) (borne ids o) ≡ b → not b && all (λ x. mem x (borne ids o)) (sources i) ≡ false
            → (j : ℕ) × (j < n) × ids j ∈ sources i × (j ∈ o → ⊥)
        go true e w = absurd (f ((borne_in ids sources n distinct known) g l ((reads_mem (ids i) (borne ids o)).says e)))
        go false e w =
            let a = all_misses (λ x. mem x (borne ids o)) (sources i) w in
            let b = known i l a.0 a.1 in
            let out : b.0 ∈ o → ⊥ = λ m. (reads_mem a.0 (borne ids o)).denies a.2 (Memᴰ.cast (sym b.2) (Memᴰ.map ids m)) in
            (b.0, b.1, Memᴰ.cast b.2 a.1, out)

    pub left_endless : (i : ℕ) → i < n → (i ∈ order_of ids sources n → ⊥) → (d : ℕ) → Chain ids sources n d i
    left_endless i l f zero = ends
    left_endless i l f (suc d) =
        let a = left_source (order_grown ids sources n) (order_quiet ids sources n) i l f in
        up a.1 a.2 (left_endless a.0 a.1 a.3 d)

    pub ranks_all : HasRanks ids sources n → AllIn n (order_of ids sources n)
    ranks_all r i l =
        ⊎_elim (λ m. m)
        (λ f. let q = ranking_bounds r.0 r.1 l (left_endless i l f (suc (r.0 (ids i)))) in absurd (omega arith))
        (decided (mem i (order_of ids sources n)) (reads_mem i (order_of ids sources n)))

    pub reads_ranks : Reads (eqb (length (order_of ids sources n)) n) (HasRanks ids sources n)
    reads_ranks = reads_same (reads_eq (length (order_of ids sources n)) n) (λ e. all_ranks (all_counted.1 e)) (λ r. all_counted.0 (ranks_all r))

    module _ (k : ℕ) (few : n ≤ k) where
      pub left_longer : (i : ℕ) → i < n → Reads (not (mem i (order_of ids sources n))) (Longer ids sources n k i)
      left_longer i l =
          reads_same (reads_not (mem i (order_of ids sources n)) (reads_mem i (order_of ids sources n)))
          (λ f. (suc k, le_refl (suc k), left_endless i l f (suc k)))
          (λ c m. let a = order_short m c.2 in let b = c.1 in omega arith)

      pub in_longer : (i : ℕ) → i < n → Reads (mem i (order_of ids sources n)) (Longer ids sources n k i → ⊥)
      in_longer i l = reads_contrary (mem i (order_of ids sources n)) (left_longer i l)

      pub no_ranks : (HasRanks ids sources n → ⊥) ↔ ((i : ℕ) × (i < n) × Longer ids sources n k i)
      no_ranks = (
        λ f. some (all_misses inside (below n) (refutes every (λ h. f (all_ranks (λ i l. h i (lt_below l)))))),
        λ x r. (in_longer x.0 x.1).says (mem_in (ranks_all r x.0 x.1)) x.2,
      )
        where
          inside : ℕ → Bool
          inside i = mem i (order_of ids sources n)

          every : Reads (all inside (below n)) ((i : ℕ) → i ∈ below n → i ∈ order_of ids sources n)
          every = reads_all inside (λ i. i ∈ order_of ids sources n) (below n) (λ i m. reads_mem i (order_of ids sources n))

          some : (i : ℕ) × i ∈ below n × (inside i ≡ false) → (i : ℕ) × (i < n) × Longer ids sources n k i
          some (i, m, e) = (i, below_lt m, (left_longer i (below_lt m)).says (ap not e))
