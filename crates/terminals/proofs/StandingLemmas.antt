-- Laws of what stands beside it in specs.
--   terminals_are    ==  the Terminals that the reader has of a run are the run's: each Input and each Output Terminal, and no other
use Prim.Native.Nat.{ℕ, zero, suc, ◌+◌, ◌≤◌, ◌<◌}
use Rattle.std.specs.Prelude.{◌≡◌, refl, ◌⊎◌, List, [], ◌∷◌, get_or, drop, take}
use Rattle.std.proofs.Common.{sym, ap, ◌∙◌, inl, inr, length-append, eq-or-lt_of_le}
use Rattle.std.proofs.Math.Logic.{⊎_elim}
use mathlib.Core.List.Memᴰ
use Rattle.std.proofs.Math.ListN.{length}
use Rattle.std.proofs.Math.Seq.{split_at, get_or-append_seam}
use native.Mathlib.Omega.{arith}
use Rattle.ground.specs.Numbers.{byte, word}
use Rattle.ground.specs.Lists.{split_of, of_split}
use Rattle.graph.specs.Members.{◌∈◌, along}
use Rattle.layout.specs.declared.Cluster.{Cluster}
use Rattle.layout.specs.declared.Entity.{Entity}
use Rattle.layout.specs.Layout.{LaidOut, entity_of, no_cluster}
use Rattle.layout.specs.LayoutLaws.{Told}
use Rattle.layout.proofs.LayoutLemmas.{told}
use Rattle.layout.specs.LayoutLaws as laid
use Rattle.layout.proofs.LayoutLemmas as laid_laws
use Rattle.edition.specs.Edition.{own_id}
use Rattle.edition.specs.Audio.{audio}
use Rattle.entities.specs.declared.Run.{Run}
use Rattle.entities.specs.Run.{held}
use Rattle.entities.specs.Represents.{Represents}
use Rattle.terminals.specs.Terminals.{Terminal, terminal_of, terminal_at, terminals_from, terminals_of, OneEach}
use Rattle.terminals.specs.Said.{SaysTerminal, IsTerminal, AreAll}
use Rattle.terminals.specs.Standing.{heard, terminal_in, Stands, same_at, terminal_stands}

module _ (cluster : ℕ → Cluster) (d : List ℕ) where
  abbrev own : ℕ
  own = (cluster (own_id d)).channels

  heard_says : (byte d 2 ≡ 2) ⊎ (byte d 2 ≡ 3) → (t : Terminal) → t ≡ heard d own → SaysTerminal cluster t d
  heard_says h t e = rw e (record { either = h; id = refl; kind = refl; channels = refl })

  says_of : {e : Entity} → Told d e → (t : Terminal) → t ∈ terminal_of e own → SaysTerminal cluster t d
  unfolding terminal_of
  says_of (laid.unknown n) t m = absurd (Memᴰ.not-nil m)
  says_of (laid.input k l) t m = heard_says (inl k) t (Memᴰ.eq_of_singleton m)
  says_of (laid.output k l) t m = heard_says (inr k) t (Memᴰ.eq_of_singleton m)
  says_of (laid.mixer k q l) t m = absurd (Memᴰ.not-nil m)
  says_of (laid.selector k q l) t m = absurd (Memᴰ.not-nil m)
  says_of (laid.feature k q l) t m = absurd (Memᴰ.not-nil m)

  says_heard : (t : Terminal) → SaysTerminal cluster t d → t ≡ heard d own
  says_heard t h =
      ap (λ (i : ℕ). record { id = i; kind = t.kind; channels = t.channels }) h.id
      ∙ ap (λ (k : ℕ). record { id = own_id d; kind = k; channels = t.channels }) h.kind
      ∙ ap (λ (c : ℕ). record { id = own_id d; kind = word d 4; channels = c }) h.channels

  another : {n : ℕ} → byte d 2 ≡ n → (n ≡ 2 → ⊥) → (n ≡ 3 → ⊥) → (byte d 2 ≡ 2) ⊎ (byte d 2 ≡ 3) → ⊥
  another e a b = ⊎_elim (λ h. a (sym e ∙ h)) (λ h. b (sym e ∙ h))

  of_says : {e : Entity} → Told d e → LaidOut d → (t : Terminal) → SaysTerminal cluster t d → t ∈ terminal_of e own
  unfolding terminal_of
  of_says (laid.unknown n) o t h = absurd (n o)
  of_says (laid.input k l) o t h = Memᴰ.head (says_heard t h)
  of_says (laid.output k l) o t h = Memᴰ.head (says_heard t h)
  of_says (laid.mixer k q l) o t h = absurd (another k (λ e. omega arith) (λ e. omega arith) h.either)
  of_says (laid.selector k q l) o t h = absurd (another k (λ e. omega arith) (λ e. omega arith) h.either)
  of_says (laid.feature k q l) o t h = absurd (another k (λ e. omega arith) (λ e. omega arith) h.either)

-- the Terminals of a stretch of indices are those at its indices
module _ (s : List ℕ) (r : Run) (cs : List Cluster) (t : Terminal) where
  of_index : (k i j : ℕ) → i ≤ j → j < i + k → t ∈ terminal_at s r cs j → t ∈ terminals_from k i s r cs
  unfolding terminals_from
  of_index zero i j l h m = absurd (omega arith)
  of_index (suc k) i j l h m =
      ⊎_elim
      (λ (e : i ≡ j). Memᴰ.append_left _ (rw (← e) at m))
      (λ (n : suc i ≤ j). Memᴰ.append_right (terminal_at s r cs i) (of_index k (suc i) j n (omega arith) m))
      (eq-or-lt_of_le l)

module _ {s : List ℕ} {p : ℕ} {ds : List (List ℕ)} {r : Run} (rep : Represents audio s p ds r) (cs : List Cluster) (t : Terminal) where
  stands_terminal : Stands ds cs t → t ∈ terminals_of s r cs
  unfolding terminals_of
  stands_terminal k =
      let n = rep.counted in
      let l = k.below in
      of_index s r cs t (held r) 0 k.index (omega arith) (omega arith) (along (sym ((same_at rep cs t) k.index k.below)) k.is)

-- THE LAW, where each descriptor has its layout (rule 9) and each index of the array has the cluster on its descriptor's ID
module _ {s : List ℕ} {p : ℕ} {ds : List (List ℕ)} {r : Run} (rep : Represents audio s p ds r) where
  pub terminals_are : ((d : List ℕ) → d ∈ ds → LaidOut d)
      → (cluster : ℕ → Cluster) (cs : List Cluster) → ((i : ℕ) → i < length ds → get_or cs i no_cluster ≡ cluster (own_id (get_or ds i [])))
      → AreAll ds cluster (terminals_of s r cs)
  terminals_are laid_out cluster cs on t = (of, to)
    where
      at_id : (i : ℕ) → i < length ds → terminal_in ds cs i ≡ terminal_of (entity_of (get_or ds i [])) (cluster (own_id (get_or ds i []))).channels
      at_id i h = ap (λ (c : Cluster). terminal_of (entity_of (get_or ds i [])) c.channels) (on i h)

      of : t ∈ terminals_of s r cs → IsTerminal ds cluster t
      of m =
          let k = terminal_stands rep cs t m in
          let d = get_or ds k.index [] in
          record {
            one = d;
            among = along (sym (split_at ds k.index [] k.below)) (of_split (take k.index ds) d (drop (suc k.index) ds));
            has = says_of cluster d (told d) t (along (at_id k.index k.below) k.is);
          }

      to : IsTerminal ds cluster t → t ∈ terminals_of s r cs
      to k =
          let q = split_of k.among in
          let i = length q.0 in
          let l : i < length ds = omega (arith, ap length q.2 ∙ length-append q.0 (k.one ∷ q.1)) in
          let e : get_or ds i [] ≡ k.one = ap (λ (x : List (List ℕ)). get_or x i []) q.2 ∙ get_or-append_seam q.0 k.one q.1 [] in
          let o = laid_out k.one k.among in
          let m : t ∈ terminal_of (entity_of k.one) (cluster (own_id k.one)).channels = of_says cluster k.one (told k.one) o t k.has in
          stands_terminal rep cs t (record { index = i; below = l; is = along (sym (at_id i l)) (rw e m) })
