-- Controls stored at their indices: each of these has what was stored there, and every other what it had.
--   Pair ps cs q c  ==  of the controls cs, stored at the indices ps, c is the one that is stored at q; pair_in: q is one of these
--   stored_count, stored_room  ==  storing leaves the count and the room
--   stored_other, stored_here  ==  what stands at an index then
--   pair_of         ==  something is stored at each of the indices; member: an index is one of them, or not
--   stored_at_lem       ==  what stands at any index then: what was stored (stored), or what stood there (kept)
--   stored_same, stored_pins, stored_sound  ==  where each control that is stored is the same control as the one that stood there, with as many
--                       pins, so it is at every index; and 30 has nothing against the table if it has nothing against those
use Prim.Native.Nat.{ℕ, ◌<◌}
use mathlib.Core.Path.{◌≡◌, refl, ◌∙◌}
use mathlib.Core.List.Memᴰ
use mathlib.Core.List.{List, [], ◌∷◌}
use mathlib.Core.Logic.{◌⊎◌, inl, inr, ⊎_elim}
use native.Mathlib.Omega.{arith}
use lib.Dec.{eqb}
use lib.ListN.{length, length-set}
use Rattle.ground.specs.Pick.{decided, reads_eq}
use Rattle.graph.specs.Members.{◌∈◌}
use Rattle.table.specs.declared.Control.{Control}
use Rattle.table.specs.declared.Table.{Table}
use Rattle.table.specs.Controls.{at, placed, sense_of}
use Rattle.table.specs.Same.{Same, same_self, same_back, same_by}
use Rattle.table.specs.Placed.{placed_here, placed_elsewhere}
use Rattle.single.specs.Meaning.{SoundAs}
use Rattle.sound.specs.Meaning.{Sound}
use Rattle.request.specs.Stored.{stored_at, Apart, alone, apart}

pub data Pair : List ℕ → List Control → ℕ → Control → Type 0 where
  front : {p : ℕ} {ps : List ℕ} {c : Control} {cs : List Control} → Pair (p ∷ ps) (c ∷ cs) p c
  behind : {p q : ℕ} {ps : List ℕ} {c e : Control} {cs : List Control} → Pair ps cs q e → Pair (p ∷ ps) (c ∷ cs) q e

pub pair_in : {ps : List ℕ} {cs : List Control} {q : ℕ} {c : Control} → Pair ps cs q c → q ∈ ps
pair_in front = Memᴰ.head refl
pair_in (behind h) = Memᴰ.tail (pair_in h)

pub stored_count : (t : Table) (ps : List ℕ) (cs : List Control) → (stored_at t ps cs).count ≡ t.count
unfolding stored_at
stored_count t [] cs = refl
stored_count t (p ∷ ps) [] = refl
stored_count t (p ∷ ps) (c ∷ cs) = stored_count (placed t p c) ps cs

pub stored_room : (t : Table) (ps : List ℕ) (cs : List Control) → length (stored_at t ps cs).controls ≡ length t.controls
unfolding stored_at
stored_room t [] cs = refl
stored_room t (p ∷ ps) [] = refl
stored_room t (p ∷ ps) (c ∷ cs) = stored_room (placed t p c) ps cs ∙ length-set t.controls p c

pub stored_other : (t : Table) (ps : List ℕ) (cs : List Control) (q : ℕ) → (q ∈ ps → ⊥) → at (stored_at t ps cs) q ≡ at t q
unfolding stored_at
stored_other t [] cs q h = refl
stored_other t (p ∷ ps) [] q h = refl
stored_other t (p ∷ ps) (c ∷ cs) q h =
    stored_other (placed t p c) ps cs q (λ m. h (Memᴰ.tail m)) ∙ placed_elsewhere t p c q (λ e. h (Memᴰ.head e))

pub stored_here : (t : Table) (ps : List ℕ) (cs : List Control) → Apart ps → ((p : ℕ) → p ∈ ps → p < length t.controls) → (q : ℕ) (c : Control)
    → Pair ps cs q c → at (stored_at t ps cs) q ≡ c
unfolding stored_at
stored_here t _ cs alone inside q c x5 = elim x5 [ ]
stored_here t _ _ (apart {p} {ps} n a) inside _ c (front {cs = cs}) =
    stored_other (placed t p c) ps cs p n ∙ placed_here t p (inside p (Memᴰ.head refl)) c
stored_here t _ _ (apart {p} {ps} n a) inside q e (behind {c = c} {cs = cs} h) =
    stored_here (placed t p c) ps cs a (λ r m. rw (length-set t.controls p c) (inside r (Memᴰ.tail m))) q e h

-- a list of controls as long as that of the indices
pub pair_of : (ps : List ℕ) (cs : List Control) → length cs ≡ length ps → (q : ℕ) → q ∈ ps → (c : Control) × Pair ps cs q c
pair_of [] cs l q m = absurd (Memᴰ.not-nil m)
pair_of (p ∷ ps) [] l q m = absurd (omega arith)
pair_of (p ∷ ps) (c ∷ cs) l q m =
    ⊎_elim
    (λ (e : q ≡ p). (c, rw e front))
    (λ (r : q ∈ ps). let h = pair_of ps cs (omega arith) q r in (h.0, behind h.1))
    (Memᴰ.cases_cons m)

pub member : (q : ℕ) (ps : List ℕ) → (q ∈ ps) ⊎ (q ∈ ps → ⊥)
member q [] = inr (λ m. Memᴰ.not-nil m)
member q (p ∷ ps) =
    ⊎_elim
    (λ (e : q ≡ p). inl (Memᴰ.head e))
    (λ (n : q ≡ p → ⊥).
    ⊎_elim (λ (m : q ∈ ps). inl (Memᴰ.tail m)) (λ (r : q ∈ ps → ⊥). inr (λ m. ⊎_elim n r (Memᴰ.cases_cons m))) (member q ps))
    (decided (eqb q p) (reads_eq q p))

module _ (t : Table) (ps : List ℕ) (cs : List Control) (a : Apart ps) (inside : (p : ℕ) → p ∈ ps → p < length t.controls) (l : length cs ≡ length ps) where
  pub data At (q : ℕ) : Control → Type 0 where
    stored : (c : Control) → Pair ps cs q c → At q c
    kept : (q ∈ ps → ⊥) → At q (at t q)

  pub stored_at_lem : (q : ℕ) → At q (at (stored_at t ps cs) q)
  stored_at_lem q =
      ⊎_elim
      (λ (m : q ∈ ps). let h = pair_of ps cs l q m in rw (stored_here t ps cs a inside q h.0 h.1) (stored h.0 h.1))
      (λ (n : q ∈ ps → ⊥). rw (stored_other t ps cs q n) (kept n))
      (member q ps)

  module _ (alike : (q : ℕ) (c : Control) → Pair ps cs q c → Same c (at t q) × (c.pins ≡ (at t q).pins)) where
    pub stored_same : (q : ℕ) → Same (at (stored_at t ps cs) q) (at t q)
    stored_same q = go (stored_at_lem q)
      where
        go : {c : Control} → At q c → Same c (at t q)
        go (stored c h) = (alike q c h).0
        go (kept n) = same_self (at t q)

    pub stored_pins : (q : ℕ) → (at (stored_at t ps cs) q).pins ≡ (at t q).pins
    stored_pins q = go (stored_at_lem q)
      where
        go : {c : Control} → At q c → c.pins ≡ (at t q).pins
        go (stored c h) = (alike q c h).1
        go (kept n) = refl

    pub stored_sound : ((q : ℕ) (c : Control) → Pair ps cs q c → SoundAs (sense_of c.selector) c) → Sound t → Sound (stored_at t ps cs)
    stored_sound fit s = record {
      few = rw (stored_count t ps cs) s.few;
      once = λ i j m n h.
          s.once i j m (rw (stored_count t ps cs) at n) (same_by (same_back (stored_same i)) (same_by h (stored_same j)));
      each = λ i m. go i (rw (stored_count t ps cs) at m) (stored_at_lem i);
    }
      where
        go : (i : ℕ) → i < t.count → {c : Control} → At i c → SoundAs (sense_of c.selector) c
        go i m (stored c h) = fit i c h
        go i m (kept n) = s.each i m
