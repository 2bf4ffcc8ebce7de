-- Lists along which a number rises, over any type: the key of each element is below that of every later one. So no key stands twice, and
-- the elements settle the list.
--   Rising key l     ==  the keys rise along l
--   rising_apart     ==  the first of them is not among the later ones
--   rising_map       ==  the keys rise along a mapped list where they rise through the map
--   rising_one       ==  two such lists with the same elements are the same
use Rattle.std.specs.Prelude.{ℕ, ◌<◌, ◌≡◌, refl, ◌⊎◌, ◌↔◌}
use Rattle.std.proofs.Common.{sym, ap, ◌∙◌, inl, inr, arith}
use mathlib.Core.List.Memᴰ
use mathlib.Core.List.{List, [], ◌∷◌, map, Memᴰ}

module _ {X : Type 0} where
  pub data Rising (key : X → ℕ) : List X → Type 0 where
    none : Rising key []
    more : {x : X} {l : List X} → ((y : X) → Memᴰ y l → key x < key y) → Rising key l → Rising key (x ∷ l)

  pub rising_apart : {key : X → ℕ} {x : X} {l : List X} → Rising key (x ∷ l) → Memᴰ x l → ⊥
  rising_apart {x = x} (more h r) m = let k = h x m in omega arith

  -- what is among the later elements of one is among those of the other
  later : {key : X → ℕ} {a b : X} {x y : List X} → a ≡ b → Rising key (a ∷ x) → ((c : X) → Memᴰ c (a ∷ x) → Memᴰ c (b ∷ y)) → (c : X)
      → Memᴰ c x → Memᴰ c y
  later {key} {a} {b} {x} {y} e (more f r) h c m = go (Memᴰ.cases_cons (h c (Memᴰ.tail m)))
    where
      go : (c ≡ b) ⊎ Memᴰ c y → Memᴰ c y
      go (inl q) = let k = f c m in let i : key c ≡ key a = ap key (q ∙ sym e) in absurd (omega arith)
      go (inr k) = k

  pub rising_one : {key : X → ℕ} {x y : List X} → Rising key x → Rising key y → ((c : X) → Memᴰ c x ↔ Memᴰ c y) → x ≡ y
  rising_one none none h = refl
  rising_one none (more {x = b} g s) h = absurd (Memᴰ.not-nil ((h b).1 (Memᴰ.head refl)))
  rising_one (more {x = a} f r) none h = absurd (Memᴰ.not-nil ((h a).0 (Memᴰ.head refl)))
  rising_one (more {x = a} {l = x} f r) (more {x = b} {l = y} g s) h =
      ap (λ (c : X). c ∷ x) heads
      ∙ ap (λ (l : List X). b ∷ l) (rising_one r s (λ c. (later heads (more f r) (λ d. (h d).0) c, later (sym heads) (more g s) (λ d. (h d).1) c)))
    where
      first : (a ≡ b) ⊎ Memᴰ a y → (b ≡ a) ⊎ Memᴰ b x → a ≡ b
      first (inl e) q = e
      first (inr m) (inl e) = sym e
      first (inr m) (inr k) = let p = g a m in let q = f b k in absurd (omega arith)

      heads : a ≡ b
      heads = first (Memᴰ.cases_cons ((h a).0 (Memᴰ.head refl))) (Memᴰ.cases_cons ((h b).1 (Memᴰ.head refl)))

pub rising_map : {X Y : Type 0} (f : X → Y) (key : Y → ℕ) {l : List X} → Rising (λ x. key (f x)) l → Rising key (map f l)
rising_map f key none = none
rising_map {Y = Y} f key (more {x} {l} h r) =
    more {x = f x} (λ (y : Y) m. let k = Memᴰ.of_map f l m in let i = h k.0 k.1 in let e : key y ≡ key (f k.0) = ap key (sym k.2) in omega arith) (rising_map f key r)
