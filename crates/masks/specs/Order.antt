-- A Feature Unit's controls go by channel, then by selector.
--   Pairs R l        ==  each element of l is related by R to each that stands behind it
--   pairs_append     ==  two such lists one after the other, where each element of the one is related to each of the other
--   pairs_as, pairs_at ==  elements that have P, related by R, are related by S; the elements at two places are related
--   Lower a b        ==  a has the lower channel, or the same channel and the lower selector
--   channels_pairs   ==  of the controls of a Feature Unit's channels the earlier is Lower
use Prim.Native.Nat.{ℕ, zero, suc, ◌+◌, ◌<◌}
use Rattle.std.specs.Prelude.{◌≡◌, refl, Bool, true, false, ◌⊎◌, length, get_or}
use Rattle.std.proofs.Common.{inl, inr, ⊎_elim, arith}
use mathlib.Core.List.Memᴰ
use mathlib.Core.List.{List, [], ◌∷◌, ◌++◌, Memᴰ}
use Rattle.ground.specs.Pick.{pick}
use Rattle.ground.specs.Lists.{member_at}
use Rattle.table.specs.declared.Control.{Control}
use Rattle.masks.specs.Masks.{unit_control, mask_of, bit_carries, bit_controls, bits_from, mask_controls, channels_from}
use Rattle.masks.specs.Carried.{FromBit, bit_of, bits_of, FromUnit, of_mask, channels_of}

pub data Pairs {A : Type 0} (R : A → A → Type 0) : List A → Type 0 where
  none : Pairs R []
  more : {a : A} {l : List A} → ((b : A) → Memᴰ b l → R a b) → Pairs R l → Pairs R (a ∷ l)

pub pairs_append : {A : Type 0} (R : A → A → Type 0) {l m : List A} → Pairs R l → Pairs R m
    → ((a b : A) → Memᴰ a l → Memᴰ b m → R a b) → Pairs R (l ++ m)
pairs_append R none q h = q
pairs_append R {m = m} (more {a} {l} f p) q h =
    more
    (λ b i. ⊎_elim (f b) (h a b (Memᴰ.head refl)) (Memᴰ.append_cases l i))
    (pairs_append R p q (λ x y i. h x y (Memᴰ.tail i)))

-- elements that have P, related by R, are related by S
pub pairs_as : {A : Type 0} (P : A → Type 0) (R S : A → A → Type 0) {l : List A} → ((a b : A) → P a → P b → R a b → S a b)
    → ((a : A) → Memᴰ a l → P a) → Pairs R l → Pairs S l
pairs_as P R S h g none = none
pairs_as P R S h g (more f p) =
    more (λ b i. h _ b (g _ (Memᴰ.head refl)) (g b (Memᴰ.tail i)) (f b i)) (pairs_as P R S h (λ x i. g x (Memᴰ.tail i)) p)

-- two elements at two places
pub pairs_at : {A : Type 0} (R : A → A → Type 0) (z : A) {l : List A} → Pairs R l
    → (p q : ℕ) → p < q → q < length l → R (get_or l p z) (get_or l q z)
pairs_at R z none p q h k = absurd (omega arith)
pairs_at R z (more f r) p zero h k = absurd (omega arith)
pairs_at R z (more {l = l} f r) zero (suc q) h k = f (get_or l q z) (member_at z l q (omega arith))
pairs_at R z (more f r) (suc p) (suc q) h k = pairs_at R z r p q (omega arith) (omega arith)

abbrev pub Lower : Control → Control → Type 0
Lower a b = (a.channel < b.channel) ⊎ ((a.channel ≡ b.channel) × (a.selector < b.selector))

one_pairs : (t : Bool) (x : Control) → Pairs Lower (pick t (x ∷ []) [])
one_pairs true x = more (λ y i. absurd (Memᴰ.not-nil i)) none
one_pairs false x = none

-- within a mask by selector
module _ (m : List ℕ) (u k : ℕ) where
  bit_pairs : (b : ℕ) → Pairs Lower (bit_controls m u k b)
  unfolding bit_controls
  bit_pairs b = one_pairs (bit_carries m b) (unit_control u k (b + 1))

  bit_lower : (a b : ℕ) (x y : Control) → a < b → FromBit m u k a x → FromBit m u k b y → Lower x y
  bit_lower a b x y l f g = rw (f.is, g.is) (inr (refl, omega arith))

  bits_pairs : (n b : ℕ) → Pairs Lower (bits_from n b m u k)
  unfolding bits_from
  bits_pairs zero b = none
  bits_pairs (suc n) b =
      pairs_append Lower (bit_pairs b) (bits_pairs n (b + 1))
      (λ x y i j. let r = bits_of m u k n (b + 1) y j in bit_lower b r.0 x y (let l = r.1 in omega arith) (bit_of m u k b x i) r.3)

-- within a Feature Unit by channel, then by selector
module _ (u n : ℕ) (d : List ℕ) where
  channel_lower : (k : ℕ) (x y : Control) (a b : ℕ) → FromUnit u n d k (k + 1) x → FromUnit u n d (k + 1) a y → Lower x y
  channel_lower k x y a b f g =
      let p = f.carried.is in
      let q = g.carried.is in
      let l = f.not_behind in
      let h = g.not_before in
      rw (p, q) (inl (omega arith))

  pub channels_pairs : (j k : ℕ) → Pairs Lower (channels_from j k u n d)
  unfolding channels_from mask_controls
  channels_pairs zero k = none
  channels_pairs (suc j) k =
      pairs_append Lower (bits_pairs (mask_of d n k) u k 10 0) (channels_pairs j (k + 1))
      (λ x y i h. channel_lower k x y (k + 1 + j) 0 (of_mask u n d k x i) (channels_of u n d j (k + 1) y h))
