-- The rule of a declared cluster. Document 01, "Clusters": "c is 1 to 16; bits 12 to 15 are 0; the ones in the bitmap are at most c; if
-- equal, the index is 0; if fewer and the index is not 0, index + c − ones − 1 is at most 255." The ones are the language's count.
-- Bits 12 to 15 of the 16 are 0 exactly where, as a number, they are below 4,096.
--   most_channels       ==  16
--   ClusterKept k      ==  the cluster k keeps the rule
--   cluster_kept k      ==  what the reader computes; names_kept c ones index: of the index alone
--   reads_cluster      ==  the one decides the other
use Rattle.std.specs.Prelude.{ℕ, ◌+◌, ◌-◌, ◌≤◌, ◌<◌, ◌≡◌, refl, Bool, true, false, ◌&&◌, eqb, ltb, leb}
use Rattle.std.proofs.Common.{sym, ⊎_elim, arith}
use Rattle.std.specs.Int.Count.{ones}
use Rattle.ground.specs.Pick.{pick, Reads, decided, reads_eq, reads_lt, reads_le, reads_and, reads_within, within, true≠false}
use Rattle.layout.specs.declared.Cluster.{Cluster}

abbrev pub most_channels : ℕ
most_channels = 16

pub record ClusterKept (k : Cluster) : Type 0 where
  pub channels : (1 ≤ k.channels) × (k.channels ≤ most_channels)
  pub high_bits : k.locations < 4096
  pub few : ones k.locations ≤ k.channels
  pub full : ones k.locations ≡ k.channels → k.names ≡ 0
  pub named : ones k.locations < k.channels → (k.names ≡ 0 → ⊥) → k.names + k.channels - ones k.locations - 1 ≤ 255

-- what the reader computes
unfoldable pub names_kept : ℕ → ℕ → ℕ → Bool
names_kept c o index = pick (eqb o c) (eqb index 0) (pick (eqb index 0) true (leb (index + c - o - 1) 255))

unfoldable pub cluster_kept : Cluster → Bool
cluster_kept k = within 1 k.channels most_channels && (ltb k.locations 4096 && (leb (ones k.locations) k.channels && names_kept k.channels (ones k.locations) k.names))

-- the index, where the ones are at most c
abbrev Names : ℕ → ℕ → ℕ → Type 0
Names c o index = (o ≡ c → index ≡ 0) × (o < c → (index ≡ 0 → ⊥) → index + c - o - 1 ≤ 255)

reads_names : (c o index : ℕ) → o ≤ c → Reads (names_kept c o index) (Names c o index)
unfolding names_kept
reads_names c o index l = go (eqb o c) (reads_eq o c) (eqb index 0) (reads_eq index 0)
  where
    go : (a : Bool) → Reads a (o ≡ c) → (b : Bool) → Reads b (index ≡ 0)
        → Reads (pick a b (pick b true (leb (index + c - o - 1) 255))) (Names c o index)
    go true q b z = record { says = λ e. (λ h. z.says e, λ m. absurd (let h = q.says refl in omega arith)); denies = λ e n. z.denies e (n.0 (q.says refl)) }
    go false q true z = record { says = λ e. (λ h. z.says refl, λ m n. absurd (n (z.says refl))); denies = λ e. absurd (true≠false e) }
    go false q false z = record {
      says = λ e. (λ h. absurd (q.denies refl h), λ m n. (reads_le (index + c - o - 1) 255).says e);
      denies = λ e n. (reads_le (index + c - o - 1) 255).denies e (n.1 (fewer (q.denies refl)) (z.denies refl));
    }
      where
        fewer : (o ≡ c → ⊥) → o < c
        fewer d = ⊎_elim (λ (h : o < c). h) (λ (h : o < c → ⊥). absurd (d (let e : o ≡ c = omega arith in e))) (decided (ltb o c) (reads_lt o c))

pub reads_cluster : (k : Cluster) → Reads (cluster_kept k) (ClusterKept k)
unfolding cluster_kept
reads_cluster k = go (leb o c) (reads_le o c)
  where
    c : ℕ
    c = k.channels

    o : ℕ
    o = ones k.locations

    start : (b : Bool) {P : Type 0} → Reads b P
        → Reads (within 1 k.channels most_channels && (ltb k.locations 4096 && b)) (((1 ≤ k.channels) × (k.channels ≤ most_channels)) × ((k.locations < 4096) × P))
    start b r = reads_and _ _ (reads_within 1 k.channels most_channels) (reads_and _ _ (reads_lt k.locations 4096) r)

    go : (b : Bool) → Reads b (o ≤ c)
        → Reads (within 1 k.channels most_channels && (ltb k.locations 4096 && (b && names_kept c o k.names))) (ClusterKept k)
    go true r =
        let all = start (names_kept c o k.names) (reads_names c o k.names (r.says refl)) in
        record {
          says = λ e. let s = all.says e in record { channels = s.0; high_bits = s.1.0; few = r.says refl; full = s.1.1.0; named = s.1.1.1 };
          denies = λ e h. all.denies e (h.channels, (h.high_bits, (h.full, h.named)));
        }
    go false r =
        let none = start false (record { says = λ e. absurd (true≠false (sym e)); denies = λ e p. r.denies refl p }) in
        record {
          says = λ e. absurd (r.denies refl (none.says e).1.1);
          denies = λ e h. r.denies refl h.few;
        }
