-- Which Terminals the reader has, where its run stands for descriptors: those that the descriptors say, with no search among them.
--   one_each         ==  where the descriptors have distinct IDs, an ID is borne by one Terminal at most
--   heard            ==  the Terminal that a descriptor with that ID and type is, with so many channels
--   terminal_in ds cs j  ==  the Terminal that the j-th of the descriptors is, with the j-th of the clusters
--   Stands ds cs t   ==  the Terminal t is one of those; same_at, terminal_stands: those that the reader has are
use Prim.Native.Nat.{ℕ, zero, suc, ◌+◌, ◌≤◌, ◌<◌}
use Rattle.std.specs.Prelude.{◌≡◌, refl, ◌⊎◌, List, [], ◌∷◌, get_or, drop, take}
use Rattle.std.proofs.Common.{sym, ap, ◌∙◌, inl, inr, length-append, eq-or-lt_of_le}
use Rattle.std.proofs.Math.Logic.{⊎_elim}
use mathlib.Core.List.Memᴰ
use Rattle.std.proofs.Math.ListN.{length}
use Rattle.std.proofs.Math.Seq.{split_at, get_or-append_seam}
use native.Mathlib.Omega.{arith}
use Rattle.ground.specs.Numbers.{byte, word}
use Rattle.ground.specs.Lists.{split_of, of_split}
use Rattle.graph.specs.Members.{◌∈◌, along}
use Rattle.layout.specs.declared.Cluster.{Cluster}
use Rattle.layout.specs.declared.Entity.{Entity}
use Rattle.layout.specs.Layout.{LaidOut, entity_of, no_cluster}
use Rattle.layout.specs.LayoutLaws.{Told}
use Rattle.layout.proofs.LayoutLemmas.{told}
use Rattle.layout.specs.LayoutLaws as laid
use Rattle.layout.proofs.LayoutLemmas as laid_laws
use Rattle.edition.specs.Edition.{own_id}
use Rattle.edition.specs.Audio.{audio}
use Rattle.entities.specs.declared.Run.{Run}
use Rattle.entities.specs.Run.{held}
use Rattle.entities.specs.Represents.{Represents}
use Rattle.terminals.specs.Terminals.{Terminal, terminal_of, terminal_at, terminals_from, terminals_of, OneEach}
use Rattle.terminals.specs.Said.{SaysTerminal, IsTerminal, AreAll}

-- what an entity's layout lists: a Terminal with its own ID, at most one
module _ (d : List ℕ) (c : ℕ) where
  abbrev pub heard : Terminal
  heard = record { id = own_id d; kind = word d 4; channels = c }

  listed_heard : {e : Entity} → Told d e → (t : Terminal) → t ∈ terminal_of e c → t ≡ heard
  unfolding terminal_of
  listed_heard (laid.unknown n) t m = absurd (Memᴰ.not-nil m)
  listed_heard (laid.input k l) t m = Memᴰ.eq_of_singleton m
  listed_heard (laid.output k l) t m = Memᴰ.eq_of_singleton m
  listed_heard (laid.mixer k q l) t m = absurd (Memᴰ.not-nil m)
  listed_heard (laid.selector k q l) t m = absurd (Memᴰ.not-nil m)
  listed_heard (laid.feature k q l) t m = absurd (Memᴰ.not-nil m)

-- the Terminals of a stretch of indices are those at its indices
module _ (s : List ℕ) (r : Run) (cs : List Cluster) (t : Terminal) where
  index_of : (k i : ℕ) → t ∈ terminals_from k i s r cs → (j : ℕ) × (j < i + k) × (t ∈ terminal_at s r cs j)
  unfolding terminals_from
  index_of zero i m = absurd (Memᴰ.not-nil m)
  index_of (suc k) i m = go (Memᴰ.append_cases (terminal_at s r cs i) m) (index_of k (suc i))
    where
      go : (t ∈ terminal_at s r cs i) ⊎ (t ∈ terminals_from k (suc i) s r cs)
          → (t ∈ terminals_from k (suc i) s r cs → (j : ℕ) × (j < suc i + k) × (t ∈ terminal_at s r cs j))
          → (j : ℕ) × (j < i + suc k) × (t ∈ terminal_at s r cs j)
      go (inl h) ih = (i, omega arith, h)
      go (inr h) ih = let a = ih h in let l = a.1 in (a.0, omega arith, a.2)

-- the Terminal that the j-th of the descriptors ds is, with the j-th of the clusters cs
abbrev pub terminal_in : List (List ℕ) → List Cluster → ℕ → List Terminal
terminal_in ds cs j = terminal_of (entity_of (get_or ds j [])) (get_or cs j no_cluster).channels

pub record Stands (ds : List (List ℕ)) (cs : List Cluster) (t : Terminal) : Type 0 where
  pub index : ℕ
  pub below : index < length ds
  pub is : t ∈ terminal_in ds cs index

module _ {s : List ℕ} {p : ℕ} {ds : List (List ℕ)} {r : Run} (rep : Represents audio s p ds r) (cs : List Cluster) (t : Terminal) where
  pub same_at : (j : ℕ) → j < length ds → terminal_at s r cs j ≡ terminal_in ds cs j
  same_at j h = ap (λ (d : List ℕ). terminal_of (entity_of d) (get_or cs j no_cluster).channels) (rep.bytes j h)

  pub terminal_stands : t ∈ terminals_of s r cs → Stands ds cs t
  unfolding terminals_of
  terminal_stands m =
      let k = index_of s r cs t (held r) 0 m in
      let n = rep.counted in
      let l = k.1 in
      let h : k.0 < length ds = omega arith in
      record { index = k.0; below = h; is = along (same_at k.0 h) k.2 }

-- THE LAW, where each descriptor has its layout (rule 9) and each index of the array has the cluster on its descriptor's ID
module _ {s : List ℕ} {p : ℕ} {ds : List (List ℕ)} {r : Run} (rep : Represents audio s p ds r) where
  pub one_each : (cs : List Cluster)
      → ((i j : ℕ) → i < length ds → j < length ds → own_id (get_or ds i []) ≡ own_id (get_or ds j []) → i ≡ j)
      → OneEach (terminals_of s r cs)
  one_each cs distinct t u m n e =
      let a = terminal_stands rep cs t m in
      let b = terminal_stands rep cs u n in
      let x = heard_at t a in
      let y = heard_at u b in
      let q = sym (ap (λ (v : Terminal). v.id) x) ∙ e ∙ ap (λ (v : Terminal). v.id) y in
      let i : a.index ≡ b.index = distinct a.index b.index a.below b.below q in
      x ∙ ap (λ (j : ℕ). heard (get_or ds j []) (get_or cs j no_cluster).channels) i ∙ sym y
    where
      heard_at : (v : Terminal) (k : Stands ds cs v) → v ≡ heard (get_or ds k.index []) (get_or cs k.index no_cluster).channels
      heard_at v k = listed_heard (get_or ds k.index []) (get_or cs k.index no_cluster).channels (told (get_or ds k.index [])) v k.is
