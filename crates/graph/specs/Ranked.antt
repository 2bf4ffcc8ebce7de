-- Ranks and chains, told by the order. Demand 3 asks for a rank on each entity, lower at each source than at its user;
-- document 01's refusal 12 is given where "some upstream chain of sources is longer than 32 steps (no ranks exist)". Both are
-- said here of indices below n that bear IDs of their own (rule 10) and name IDs that are borne (rule 11), with any bound k in
-- the place of 32 that n does not pass (rule 8). An index that the order leaves out has a source that is left out too, so that
-- chains of every length go upstream from it; one in the order has only sources that joined before it.
--   Distinct ids n              ==  no two indices below n bear the same ID
--   Known ids sources n         ==  each source ID of an index below n is borne by one
--   Ranking ids sources n rank  ==  rank, on IDs, is lower at each source of an index below n than at its own ID
--   HasRanks ids sources n      ==  there is a ranking
--   Chain ids sources n d i     ==  a chain of d steps goes upstream from index i
--   Longer ids sources n k i    ==  some chain from i is longer than k steps
--   AllIn n o                   ==  each index below n is in o
--   index_of x l                 ==  the index at which x stands first in l
--   rank_by ids o x              ==  the index at which the ID x is borne first in o
--   grown_ranked                ==  .. which is a rank, of what is in a grown order
--   in_short, order_short       ==  an index in a grown order of m has none of m steps or more; so one in the order none of n
--   borne_in                    ==  an index whose ID a grown order bears is in it
use Rattle.std.specs.Prelude.{ℕ, zero, suc, ◌≤◌, ◌<◌, ◌≡◌, List, [], ◌∷◌, ◌++◌, ◌⊎◌, ◌↔◌, Bool, ◌&&◌, eqb, length}
use Rattle.std.proofs.Common.{zero-le, sym, ap, ◌∙◌, inl, inr, ⊎_elim, arith, le_refl, eq-eqb, ne_eqb}
use Rattle.std.proofs.Math.Path.{refl}
use mathlib.Core.List.Memᴰ
use Rattle.std.proofs.lemmas.List.{map-append}
use Rattle.std.proofs.Math.Bool.{true, false, not}
use Rattle.std.proofs.lemmas.Bool.{eqb-false}
use Rattle.ground.specs.Pick.{pick, yes, no, Reads, refutes, reads_same, reads_not, reads_contrary, reads_eq, decided}
use Rattle.graph.specs.Members.{◌∈◌, mem, reads_mem, mem_in, all, all_misses, reads_all}
use Rattle.graph.specs.Tables.{below, lt_below, below_lt}
use Rattle.graph.specs.Passes.{borne, joins, order_of}
use Rattle.graph.specs.Grown.{with, length_with, with_cases, Grown, none, more, grown_below, grown_source, grown_length, grown_full, full_grown}
use Rattle.graph.specs.Quiet.{Quiet}

abbrev pub Distinct : (ℕ → ℕ) → ℕ → Type 0
Distinct ids n = (i j : ℕ) → i < n → j < n → ids i ≡ ids j → i ≡ j

abbrev pub AllIn : ℕ → List ℕ → Type 0
AllIn n o = (i : ℕ) → i < n → i ∈ o

module _ (ids : ℕ → ℕ) (sources : ℕ → List ℕ) (n : ℕ) where
  abbrev pub Known : Type 0
  Known = (i : ℕ) → i < n → (x : ℕ) → x ∈ sources i → (j : ℕ) × (j < n) × (ids j ≡ x)

  abbrev pub Ranking : (ℕ → ℕ) → Type 0
  Ranking rank = (i : ℕ) → i < n → (x : ℕ) → x ∈ sources i → rank x < rank (ids i)

  abbrev pub HasRanks : Type 0
  HasRanks = (rank : ℕ → ℕ) × Ranking rank

  pub data Chain : ℕ → ℕ → Type 0 where
    ends : {i : ℕ} → Chain zero i
    up : {d i j : ℕ} → j < n → ids j ∈ sources i → Chain d j → Chain (suc d) i

  abbrev pub Longer : ℕ → ℕ → Type 0
  Longer k i = (d : ℕ) × (k < d) × Chain d i

unfoldable pub index_of : ℕ → List ℕ → ℕ
index_of x [] = 0
index_of x (y ∷ l) = pick (eqb x y) 0 (suc (index_of x l))

-- what stands behind a list that has x does not move it
index_of_in : (x : ℕ) (l m : List ℕ) → x ∈ l → (index_of x (l ++ m) ≡ index_of x l) × (index_of x l < length l)
unfolding index_of
index_of_in x [] m a = absurd (Memᴰ.not-nil a)
index_of_in x (y ∷ l) m a = go (λ b. index_of_in x l m b) (eqb x y) refl
  where
    go : (x ∈ l → (index_of x (l ++ m) ≡ index_of x l) × (index_of x l < length l)) → (b : Bool) → eqb x y ≡ b
        → (pick (eqb x y) 0 (suc (index_of x (l ++ m))) ≡ pick (eqb x y) 0 (suc (index_of x l))) × (pick (eqb x y) 0 (suc (index_of x l)) < suc (length l))
    go later true e = rw e (refl, omega arith)
    go later false e =
        let r = later (⊎_elim (λ q. absurd (eqb-false x y e q)) (λ b. b) (Memᴰ.cases_cons a)) in
        let h = r.1 in
        rw e (ap suc r.0, omega arith)

index_of_last : (x : ℕ) (l : List ℕ) → (x ∈ l → ⊥) → index_of x (l ++ (x ∷ [])) ≡ length l
unfolding index_of
index_of_last x [] f = yes _ _ (eq-eqb x x refl)
index_of_last x (y ∷ l) f = no _ _ (ne_eqb x y (λ e. f (Memᴰ.head e))) ∙ ap suc (index_of_last x l (λ m. f (Memᴰ.tail m)))

abbrev pub rank_by : (ℕ → ℕ) → List ℕ → ℕ → ℕ
rank_by ids o x = index_of x (borne ids o)

pub grown_ranked : {ids : ℕ → ℕ} {sources : ℕ → List ℕ} {n : ℕ} {o : List ℕ} → Grown ids sources n o
    → (i : ℕ) → i ∈ o → (x : ℕ) → x ∈ sources i → rank_by ids o x < rank_by ids o (ids i)
grown_ranked none i m x s = absurd (Memᴰ.not-nil m)
grown_ranked {ids} {sources} {n} (more {o} {i = j} g l h) i m x s =
    rw (map-append ids o (j ∷ [])) (⊎_elim (λ a. before a (grown_ranked g i a x s)) (λ e. last e) (with_cases m))
  where
    next : List ℕ
    next = borne ids o ++ (ids j ∷ [])

    stays : (y : ℕ) → y ∈ borne ids o → index_of y next ≡ rank_by ids o y
    stays y a = (index_of_in y (borne ids o) (ids j ∷ []) a).0

    before : i ∈ o → rank_by ids o x < rank_by ids o (ids i) → index_of x next < index_of (ids i) next
    before a q = rw (stays x (grown_source g a s), stays (ids i) (Memᴰ.map ids a)) q

    last : i ≡ j → index_of x next < index_of (ids i) next
    last e =
        let r = index_of_in x (borne ids o) (ids j ∷ []) (h.1 x (rw e at s)) in
        let q = r.1 in
        let u : index_of (ids i) next ≡ length (borne ids o) = ap (λ (k : ℕ). index_of (ids k) next) e ∙ index_of_last (ids j) (borne ids o) h.0 in
        rw (r.0, u) q

module _ (ids : ℕ → ℕ) (sources : ℕ → List ℕ) (n : ℕ) where
  module _ (distinct : Distinct ids n) (known : Known ids sources n) where
    -- an index whose ID is borne is in
    pub borne_in : {o : List ℕ} {j : ℕ} → Grown ids sources n o → j < n → ids j ∈ borne ids o → j ∈ o
    borne_in {o} {j} g l m =
        let a = Memᴰ.of_map ids o m in
        Memᴰ.cast (distinct j a.0 l (grown_below g a.1) (sym a.2)) a.1

    pub in_short : {o : List ℕ} → Grown ids sources n o → {d i : ℕ} → i ∈ o → Chain ids sources n d i → d < length o
    in_short none m c = absurd (Memᴰ.not-nil m)
    in_short (more {o} {i} g l h) m c = go (λ d k a w. in_short g a w) (with_cases m) c
      where
        go : ((d k : ℕ) → k ∈ o → Chain ids sources n d k → d < length o)
            → {d k : ℕ} → (k ∈ o) ⊎ (k ≡ i) → Chain ids sources n d k → d < length (with o i)
        go later {d} {k} (inl a) c = let q = length_with o i in let r = later d k a c in omega arith
        go later (inr e) ends = let q = length_with o i in omega arith
        go later (inr e) (up {d} {j = j} b s c) =
            let q = length_with o i in
            let r = later d j (borne_in g b (h.1 (ids j) (rw e at s))) c in
            omega arith
