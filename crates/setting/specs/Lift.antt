-- Integers lifted by a fixed number b, so that none is negative. Order and distance stay as they were: what is proved of the
-- natural numbers holds of the integers.
--   Lift b z h  ==  the integer z lies h above −b
--   lift_le, le_lift, lift_lt, lt_lift, lift_apart  ==  order and distance, there and back
--   lift_more   ==  d more is d higher
--   lift_height, lift_one  ==  one integer has one height, one height one integer
--   signed_lift ==  the signed reading of a number is lifted by adding half the span and coming round
use Rattle.std.specs.Prelude.{ℕ, zero, suc, ◌+◌, ◌-◌, ◌%◌, ◌≤◌, ◌<◌, ◌≡◌, refl, Bool, true, false, cond, ltb, ℤ, pos, negsuc, nat_abs, ◌+ℤ◌, ◌-ℤ◌, ◌≤ℤ◌, ◌<ℤ◌}
use Rattle.std.proofs.Common.{◌∙◌, sym, ap, add_comm, mod-eq_of_lt, arith, leb→le, le→leb, ltb→lt, lt→ltb, ltb-true, ltb-false, lt-ltb, le-ltb}
use Rattle.std.proofs.Math.Nat.{mod-eq-sub-mod}
use Rattle.std.proofs.Math.IntN.{sub_ℕ, +ℤ_assoc, +ℤ-neg_ℤ_cancel, pos-ne-negsuc}
use mir.Val.{sel}
use Rattle.setting.specs.Grid.{apart}

abbrev pub Lift : ℕ → ℤ → ℕ → Type 0
Lift b z h = z +ℤ pos b ≡ pos h

-- a difference of natural numbers, by their order
sub_less : (a b : ℕ) → a < b → sub_ℕ a b ≡ negsuc (b - suc a)
sub_less a b h = ap (λ (t : Bool). cond t (negsuc (b - suc a)) (pos (a - b))) (lt-ltb a b h)

sub_more : (a b : ℕ) → b ≤ a → sub_ℕ a b ≡ pos (a - b)
sub_more a b h = ap (λ (t : Bool). cond t (negsuc (b - suc a)) (pos (a - b))) (le-ltb a b h)

sub_apart : (a b : ℕ) → nat_abs (sub_ℕ a b) ≡ apart a b
sub_apart a b = go (ltb a b) refl
  where
    go : (t : Bool) → ltb a b ≡ t → nat_abs (sub_ℕ a b) ≡ apart a b
    go true e = let l = ltb-true a b e in ap nat_abs (sub_less a b l) ∙ omega arith
    go false e = let l = ltb-false a b e in ap nat_abs (sub_more a b l) ∙ omega arith

-- the height of an integer that is not negative, and of one that is
lift_pos : (b m h : ℕ) → Lift b (pos m) h → m + b ≡ h
lift_pos b m h l = ap nat_abs l

lift_neg : (b m h : ℕ) → Lift b (negsuc m) h → h + suc m ≡ b
lift_neg b m h l = go (ltb b (suc m)) refl
  where
    go : (t : Bool) → ltb b (suc m) ≡ t → h + suc m ≡ b
    go true e = absurd (pos-ne-negsuc h _ (sym l ∙ sub_less b (suc m) (ltb-true b (suc m) e)))
    go false e =
        let g = ltb-false b (suc m) e in
        let i : b - suc m ≡ h = ap nat_abs (sym (sub_more b (suc m) g) ∙ l) in
        omega arith

module _ (b : ℕ) where
  pub lift_le : (z w : ℤ) (h g : ℕ) → Lift b z h → Lift b w g → z ≤ℤ w → h ≤ g
  lift_le (pos m) (pos n) h g p q r = let t = leb→le m n r.le in omega (arith, lift_pos b m h p, lift_pos b n g q)
  lift_le (pos m) (negsuc n) h g p q r = absurd r.le
  lift_le (negsuc m) (pos n) h g p q r = omega (arith, lift_neg b m h p, lift_pos b n g q)
  lift_le (negsuc m) (negsuc n) h g p q r = let t = leb→le n m r.le in omega (arith, lift_neg b m h p, lift_neg b n g q)

  pub le_lift : (z w : ℤ) (h g : ℕ) → Lift b z h → Lift b w g → h ≤ g → z ≤ℤ w
  le_lift (pos m) (pos n) h g p q r = record { le = le→leb m n (omega (arith, lift_pos b m h p, lift_pos b n g q)) }
  le_lift (pos m) (negsuc n) h g p q r = absurd (omega (arith, lift_pos b m h p, lift_neg b n g q))
  le_lift (negsuc m) (pos n) h g p q r = record { le = tt }
  le_lift (negsuc m) (negsuc n) h g p q r = record { le = le→leb n m (omega (arith, lift_neg b m h p, lift_neg b n g q)) }

  pub lift_lt : (z w : ℤ) (h g : ℕ) → Lift b z h → Lift b w g → z <ℤ w → h < g
  lift_lt (pos m) (pos n) h g p q r = let t = ltb→lt m n r.lt in omega (arith, lift_pos b m h p, lift_pos b n g q)
  lift_lt (pos m) (negsuc n) h g p q r = absurd r.lt
  lift_lt (negsuc m) (pos n) h g p q r = omega (arith, lift_neg b m h p, lift_pos b n g q)
  lift_lt (negsuc m) (negsuc n) h g p q r = let t = ltb→lt n m r.lt in omega (arith, lift_neg b m h p, lift_neg b n g q)

  pub lt_lift : (z w : ℤ) (h g : ℕ) → Lift b z h → Lift b w g → h < g → z <ℤ w
  lt_lift (pos m) (pos n) h g p q r = record { lt = lt→ltb m n (omega (arith, lift_pos b m h p, lift_pos b n g q)) }
  lt_lift (pos m) (negsuc n) h g p q r = absurd (omega (arith, lift_pos b m h p, lift_neg b n g q))
  lt_lift (negsuc m) (pos n) h g p q r = record { lt = tt }
  lt_lift (negsuc m) (negsuc n) h g p q r = record { lt = lt→ltb n m (omega (arith, lift_neg b m h p, lift_neg b n g q)) }

  pub lift_apart : (z w : ℤ) (h g : ℕ) → Lift b z h → Lift b w g → nat_abs (z -ℤ w) ≡ apart h g
  lift_apart (pos m) (pos zero) h g p q = omega (arith, lift_pos b m h p, lift_pos b zero g q)
  lift_apart (pos m) (pos (suc n)) h g p q = omega (arith, sub_apart m (suc n), lift_pos b m h p, lift_pos b (suc n) g q)
  lift_apart (pos m) (negsuc n) h g p q = omega (arith, lift_pos b m h p, lift_neg b n g q)
  lift_apart (negsuc m) (pos zero) h g p q = omega (arith, sub_apart 0 (suc m), lift_neg b m h p, lift_pos b zero g q)
  lift_apart (negsuc m) (pos (suc n)) h g p q = omega (arith, lift_neg b m h p, lift_pos b (suc n) g q)
  lift_apart (negsuc m) (negsuc n) h g p q = omega (arith, sub_apart (suc n) (suc m), lift_neg b m h p, lift_neg b n g q)

  -- d more
  pub lift_more : (z : ℤ) (h d : ℕ) → Lift b z h → Lift b (z +ℤ pos d) (h + d)
  lift_more z h d l =
      +ℤ_assoc z (pos d) (pos b) ∙ ap (λ (k : ℕ). z +ℤ pos k) (add_comm d b) ∙ sym (+ℤ_assoc z (pos b) (pos d)) ∙ ap (λ (k : ℤ). k +ℤ pos d) l

  -- one integer has one height, one height one integer
  pub lift_height : (z : ℤ) (h g : ℕ) → Lift b z h → Lift b z g → h ≡ g
  lift_height z h g p q = ap nat_abs (sym p ∙ q)

  pub lift_one : (z w : ℤ) (h : ℕ) → Lift b z h → Lift b w h → z ≡ w
  lift_one z w h p q =
      sym (+ℤ-neg_ℤ_cancel z (pos b)) ∙ ap (λ (k : ℤ). k -ℤ pos b) (p ∙ sym q) ∙ +ℤ-neg_ℤ_cancel w (pos b)

-- the signed reading of n, at any width, is lifted by adding half the span and coming round
pub signed_lift : (half n : ℕ) → n < half + half → Lift half (sel (ltb n half) (pos n) (negsuc (half + half - suc n))) ((n + half) % (half + half))
signed_lift half n f = go (ltb n half) refl
  where
    go : (t : Bool) → ltb n half ≡ t → Lift half (sel (ltb n half) (pos n) (negsuc (half + half - suc n))) ((n + half) % (half + half))
    go true e =
        let h = ltb-true n half e in
        ap (λ (t : Bool). sel t (pos n) (negsuc (half + half - suc n)) +ℤ pos half) e ∙ ap pos (sym (mod-eq_of_lt (let g : n + half < half + half = omega arith in g)))
    go false e =
        let h = ltb-false n half e in
        let r : n + half - (half + half) < half + half = omega arith in
        let g : half + half ≤ n + half = omega arith in
        ap (λ (t : Bool). sel t (pos n) (negsuc (half + half - suc n)) +ℤ pos half) e ∙ sub_more half (suc (half + half - suc n)) (omega arith) ∙ ap pos (let q : half - suc (half + half - suc n) ≡ n + half - (half + half) = omega arith in q ∙ sym (mod-eq-sub-mod g ∙ mod-eq_of_lt r))
