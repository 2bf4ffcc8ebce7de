-- Which control stands in the list of a mask or of a Feature Unit, said without the list's making.
--   SetBit m b       ==  bit b of the mask m is set, the low byte first
--   FromBit m u k b x, FromUnit u n d from to x  ==  x is what bit b of the mask m carries; what some channel from .. to of a Feature
--                        Unit does
--   bit_of, bits_of, of_mask, channels_of  ==  what is listed of a bit, of bits, of a mask, of channels, is such
--   of_channels      ==  what a bit of one of the channels carries is listed of them
use Prim.Native.Nat.{ℕ, zero, suc, ◌+◌, ◌/◌, ◌%◌, ◌^◌, ◌≤◌, ◌<◌}
use Rattle.std.specs.Prelude.{◌≡◌, Bool, eqb}
use Rattle.std.proofs.Math.Path.{refl}
use Rattle.std.proofs.Math.Bool.{true, false}
use Rattle.std.proofs.Math.Logic.{⊎_elim}
use mathlib.Core.List.Memᴰ
use mathlib.Core.List.{List, [], ◌∷◌, Memᴰ}
use native.Mathlib.Omega.{arith}
use Rattle.ground.specs.Pick.{pick, Reads, shows, decided, reads_eq, reads_and, reads_not}
use Rattle.ground.specs.Numbers.{byte}
use Rattle.table.specs.declared.Control.{Control}
use Rattle.masks.specs.Masks.{unit_control, mask_of, bit_set, bit_carries, bit_controls, bits_from, mask_controls, channels_from}

abbrev pub SetBit : List ℕ → ℕ → Type 0
SetBit m b = byte m (b / 8) / 2 ^ (b % 8) % 2 ≡ 1

-- the control that a bit of a mask carries
module _ (m : List ℕ) (u k : ℕ) where
  pub record FromBit (b : ℕ) (x : Control) : Type 0 where
    pub is : x ≡ unit_control u k (b + 1)
    pub not_five : b ≡ 5 → ⊥
    pub set : SetBit m b

  reads_carries : (b : ℕ) → Reads (bit_carries m b) ((b ≡ 5 → ⊥) × SetBit m b)
  unfolding bit_carries bit_set
  reads_carries b = reads_and _ _ (reads_not _ (reads_eq b 5)) (reads_eq (byte m (b / 8) / 2 ^ (b % 8) % 2) 1)

  pub bit_of : (b : ℕ) (x : Control) → Memᴰ x (bit_controls m u k b) → FromBit b x
  unfolding bit_controls
  bit_of b x h = go (bit_carries m b) (reads_carries b) h
    where
      go : (t : Bool) → Reads t ((b ≡ 5 → ⊥) × SetBit m b) → Memᴰ x (pick t (unit_control u k (b + 1) ∷ []) []) → FromBit b x
      go true r i = let p = r.says refl in record { is = Memᴰ.eq_of_singleton i; not_five = p.0; set = p.1 }
      go false r i = absurd (Memᴰ.not-nil i)

  of_bit : (b : ℕ) → (b ≡ 5 → ⊥) → SetBit m b → Memᴰ (unit_control u k (b + 1)) (bit_controls m u k b)
  unfolding bit_controls
  of_bit b n h = rw (shows (reads_carries b) (n, h)) (Memᴰ.head refl)

  pub bits_of : (n b : ℕ) (x : Control) → Memᴰ x (bits_from n b m u k) → (a : ℕ) × (b ≤ a) × (a < b + n) × FromBit a x
  unfolding bits_from
  bits_of zero b x h = absurd (Memᴰ.not-nil h)
  bits_of (suc n) b x h =
      ⊎_elim
      (λ i. (b, omega arith, omega arith, bit_of b x i))
      (λ i. let r = bits_of n (b + 1) x i in (r.0, let l = r.1 in omega arith, let l = r.2 in omega arith, r.3))
      (Memᴰ.append_cases (bit_controls m u k b) h)

  of_bits : (n b a : ℕ) → b ≤ a → a < b + n → (a ≡ 5 → ⊥) → SetBit m a → Memᴰ (unit_control u k (a + 1)) (bits_from n b m u k)
  unfolding bits_from
  of_bits zero b a l h f i = absurd (omega arith)
  of_bits (suc n) b a l h f i =
      ⊎_elim
      (λ (e : b ≡ a). Memᴰ.append_left {s = bit_controls m u k b} _ (rw e (of_bit a f i)))
      (λ (e : b ≡ a → ⊥). Memᴰ.append_right (bit_controls m u k b) (of_bits n (b + 1) a (omega arith) (omega arith) f i))
      (decided (eqb b a) (reads_eq b a))

-- the controls of a Feature Unit d with ID u and control size n
module _ (u n : ℕ) (d : List ℕ) where
  pub record FromUnit (from to : ℕ) (x : Control) : Type 0 where
    pub channel : ℕ
    pub bit : ℕ
    pub not_before : from ≤ channel
    pub not_behind : channel < to
    pub known : bit ≤ 9
    pub carried : FromBit (mask_of d n channel) u channel bit x

  pub of_mask : (k : ℕ) (x : Control) → Memᴰ x (mask_controls (mask_of d n k) u k) → FromUnit k (k + 1) x
  unfolding mask_controls
  of_mask k x h =
      let r = bits_of (mask_of d n k) u k 10 0 x h in
      record { channel = k; bit = r.0; not_before = omega arith; not_behind = omega arith; known = let l = r.2 in omega arith; carried = r.3 }

  pub channels_of : (j k : ℕ) (x : Control) → Memᴰ x (channels_from j k u n d) → FromUnit k (k + j) x
  unfolding channels_from
  channels_of zero k x h = absurd (Memᴰ.not-nil h)
  channels_of (suc j) k x h =
      ⊎_elim
      (λ i. let r = of_mask k x i in record { channel = r.channel; bit = r.bit; not_before = r.not_before; not_behind = let l = r.not_behind in omega arith; known = r.known; carried = r.carried })
      (λ i. let r = channels_of j (k + 1) x i in record { channel = r.channel; bit = r.bit; not_before = let l = r.not_before in omega arith; not_behind = let l = r.not_behind in omega arith; known = r.known; carried = r.carried })
      (Memᴰ.append_cases (mask_controls (mask_of d n k) u k) h)

  pub of_channels : (j k a b : ℕ) → k ≤ a → a < k + j → b ≤ 9 → (b ≡ 5 → ⊥) → SetBit (mask_of d n a) b
      → Memᴰ (unit_control u a (b + 1)) (channels_from j k u n d)
  unfolding channels_from mask_controls
  of_channels zero k a b l h o f i = absurd (omega arith)
  of_channels (suc j) k a b l h o f i =
      ⊎_elim
      (λ (e : k ≡ a). Memᴰ.append_left {s = mask_controls (mask_of d n k) u k} _ (rw e (of_bits (mask_of d n a) u a 10 0 b (omega arith) (omega arith) f i)))
      (λ (e : k ≡ a → ⊥). Memᴰ.append_right (mask_controls (mask_of d n k) u k) (of_channels j (k + 1) a b (omega arith) (omega arith) o f i))
      (decided (eqb k a) (reads_eq k a))
