-- At how many places of a list a test holds. This is the whole counting argument behind the order: each index that joins it raises the
-- tally of those that are in it by one, and no tally passes the list's length.
--   tally p l       ==  at how many places of l the test p holds
--   tally_le        ==  at most as many as l has
--   tally_kept      ==  no less for a test that holds wherever p does
--   tally_more      ==  more, if that test also holds at a member where p does not
--   tally_full      ==  a tally as high as the length: the test holds at each member
--   tally_none, tally_every  ==  a test that never holds, and one that always does
--   tally_either    ==  no more than both, for a test that holds only where p or q does
--   kept_or_gained  ==  a second test holds nowhere new, or at some member it does, and which
use Prim.Native.Nat.{ℕ, suc, ◌+◌, ◌≤◌, zero-le}
use Rattle.std.specs.Prelude.{◌≡◌, ◌⊎◌, Bool, true, false, length}
use Rattle.std.proofs.Math.Path.{refl, ap}
use Rattle.std.proofs.Common.{sym, ◌∙◌, inl, inr, ⊎_elim, le_refl}
use mathlib.Core.List.Memᴰ
use mathlib.Core.List.{List, [], ◌∷◌}
use native.Mathlib.Omega.{arith}
use Rattle.ground.specs.Pick.{true≠false}
use Rattle.graph.specs.Members.{◌∈◌}

abbrev one : Bool → ℕ
one true = 1
one false = 0

one_le : (b : Bool) → one b ≤ 1
one_le true = le_refl 1
one_le false = zero-le

one_kept : (a b : Bool) → (a ≡ true → b ≡ true) → one a ≤ one b
one_kept true b h = rw (h refl) (le_refl 1)
one_kept false b h = zero-le

one_either : (a b c : Bool) → (c ≡ true → (a ≡ true) ⊎ (b ≡ true)) → one c ≤ one a + one b
one_either true b c h = let k = one_le c in omega arith
one_either false true c h = let k = one_le c in omega arith
one_either false false true h = absurd (⊎_elim (λ e. true≠false (sym e)) (λ e. true≠false (sym e)) (h refl))
one_either false false false h = zero-le

module _ {A : Type 0} where
  unfoldable pub tally : (A → Bool) → List A → ℕ
  tally p [] = 0
  tally p (x ∷ l) = one (p x) + tally p l

  pub tally_le : (p : A → Bool) (l : List A) → tally p l ≤ length l
  unfolding tally
  tally_le p [] = zero-le
  tally_le p (x ∷ l) = let h = tally_le p l in let g = one_le (p x) in omega arith

  pub tally_kept : (p q : A → Bool) (l : List A) → ((x : A) → x ∈ l → p x ≡ true → q x ≡ true) → tally p l ≤ tally q l
  unfolding tally
  tally_kept p q [] h = zero-le
  tally_kept p q (x ∷ l) h =
      let a = tally_kept p q l (λ y m. h y (Memᴰ.tail m)) in
      let b = one_kept (p x) (q x) (h x (Memᴰ.head refl)) in
      omega arith

  pub tally_more : (p q : A → Bool) {l : List A} {x : A} → ((y : A) → y ∈ l → p y ≡ true → q y ≡ true) → x ∈ l → p x ≡ false → q x ≡ true
      → suc (tally p l) ≤ tally q l
  unfolding tally
  tally_more p q {l = []} h m a b = elim m [ ]
  tally_more p q {l = y ∷ l} h (Memᴰ.head e) a b =
      let u : one (p y) ≡ 0 = ap one (ap p (sym e) ∙ a) in
      let v : one (q y) ≡ 1 = ap one (ap q (sym e) ∙ b) in
      let k = tally_kept p q l (λ z m. h z (Memᴰ.tail m)) in
      omega arith
  tally_more p q {l = y ∷ l} h (Memᴰ.tail m) a b =
      let u = tally_more p q {l = l} (λ z i. h z (Memᴰ.tail i)) m a b in
      let v = one_kept (p y) (q y) (h y (Memᴰ.head refl)) in
      omega arith

  pub tally_full : (p : A → Bool) (l : List A) → length l ≤ tally p l → (x : A) → x ∈ l → p x ≡ true
  tally_full p l h x m = go (p x) refl
    where
      go : (b : Bool) → p x ≡ b → p x ≡ true
      go true e = e
      go false e =
          let k = tally_more p (λ y. true) {l = l} (λ y i z. refl) m e refl in
          let g = tally_le (λ y. true) l in
          absurd (omega arith)

  pub tally_none : (l : List A) → tally (λ x. false) l ≡ 0
  unfolding tally
  tally_none [] = refl
  tally_none (x ∷ l) = let h = tally_none l in omega arith

  pub tally_every : (l : List A) → tally (λ x. true) l ≡ length l
  unfolding tally
  tally_every [] = refl
  tally_every (x ∷ l) = let h = tally_every l in omega arith

  pub tally_either : (p q r : A → Bool) (l : List A) → ((x : A) → r x ≡ true → (p x ≡ true) ⊎ (q x ≡ true)) → tally r l ≤ tally p l + tally q l
  unfolding tally
  tally_either p q r [] h = zero-le
  tally_either p q r (x ∷ l) h =
      let a = tally_either p q r l h in
      let b = one_either (p x) (q x) (r x) (h x) in
      omega arith

  pub kept_or_gained : (p q : A → Bool) (l : List A) → ((x : A) → x ∈ l → q x ≡ true → p x ≡ true) ⊎ ((x : A) × x ∈ l × (p x ≡ false) × (q x ≡ true))
  kept_or_gained p q [] = inl (λ x m e. absurd (Memᴰ.not-nil m))
  kept_or_gained p q (y ∷ l) = go (kept_or_gained p q l) (p y) refl (q y) refl
    where
      more : (q y ≡ true → p y ≡ true) → ((x : A) → x ∈ l → q x ≡ true → p x ≡ true) → (x : A) → x ∈ (y ∷ l) → q x ≡ true → p x ≡ true
      more here later x m e = ⊎_elim (λ z. ap p z ∙ here (ap q (sym z) ∙ e)) (λ i. later x i e) (Memᴰ.cases_cons m)

      go : ((x : A) → x ∈ l → q x ≡ true → p x ≡ true) ⊎ ((x : A) × x ∈ l × (p x ≡ false) × (q x ≡ true)) → (a : Bool) → p y ≡ a → (b : Bool)
          → q y ≡ b → ((x : A) → x ∈ (y ∷ l) → q x ≡ true → p x ≡ true) ⊎ ((x : A) × x ∈ (y ∷ l) × (p x ≡ false) × (q x ≡ true))
      go (inr (x, m, a, b)) u e v f = inr (x, Memᴰ.tail m, a, b)
      go (inl h) true e v f = inl (more (λ z. e) h)
      go (inl h) false e true f = inr (y, Memᴰ.head refl, e, f)
      go (inl h) false e false f = inl (more (λ z. absurd (true≠false (sym z ∙ f))) h)
