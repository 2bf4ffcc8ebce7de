-- Laws of what stands beside it in specs.
--   pins_rise_one       ==  two lists that rise and have the same members are the same
--   ways_rise        ==  the ways upstream rise
use Prim.Native.Nat.{ℕ, zero, suc}
use Rattle.std.specs.Prelude.{◌≡◌, refl, ◌⊎◌}
use Rattle.std.proofs.Common.{sym, ◌∙◌, inl, inr}
use Rattle.std.proofs.Math.Path.{ap, subst}
use Rattle.std.proofs.Math.Logic.{⊎_elim}
use mathlib.Core.List.Memᴰ
use mathlib.Core.List.{List, [], ◌∷◌, ◌++◌, map}
use native.Mathlib.Omega.{arith}
use Rattle.graph.specs.Members.{◌∈◌}
use Rattle.upstream.specs.Ways.{Way, via, by_pins, of_entity, ways_up}
use Rattle.routing.specs.Routes.{PinsBefore, here, later, PinsRise}
use Rattle.routing.specs.WaysLaws.{ByPin, pins_has}

crossed : {p q a b : List ℕ} → PinsBefore p q → PinsBefore a b → a ≡ q → b ≡ p → ⊥
crossed (here {k = i} {l = j} h) (here {k = k} {l = l} g) e f = let x : k ≡ j = cc in let y : l ≡ i = cc in omega arith
crossed (here {k = i} {l = j} h) (later {k = k} g) e f = let x : k ≡ j = cc in let y : k ≡ i = cc in omega arith
crossed (later {k = k} h) (here {k = i} {l = j} g) e f = let x : i ≡ k = cc in let y : j ≡ k = cc in omega arith
crossed (later {p = p} {q = q} h) (later {p = a} {q = b} g) e f = let x : a ≡ q = cc in let y : b ≡ p = cc in crossed h g x y

before_not : {p q : List ℕ} → PinsBefore p q → PinsBefore q p → ⊥
before_not h g = crossed h g refl refl

before_self : {p : List ℕ} → PinsBefore p p → ⊥
before_self b = before_not b b

pub pins_rise_one : (x y : List Way) → PinsRise x → PinsRise y → ((w : Way) → w ∈ x → w ∈ y) → ((w : Way) → w ∈ y → w ∈ x) → x ≡ y
pins_rise_one [] [] r s f g = refl
pins_rise_one [] (w ∷ y) r s f g = absurd (Memᴰ.not-nil (g w (Memᴰ.head refl)))
pins_rise_one (w ∷ x) [] r s f g = absurd (Memᴰ.not-nil (f w (Memᴰ.head refl)))
pins_rise_one (w ∷ x) (v ∷ y) (a, r) (b, s) f g =
    let same : w ≡ v = heads (Memᴰ.cases_cons (f w (Memᴰ.head refl))) (Memᴰ.cases_cons (g v (Memᴰ.head refl))) in
    ap (λ (u : Way). u ∷ x) same
    ∙ ap (λ (l : List Way). v ∷ l)
    (pins_rise_one x y r s
    (λ u m. behind same a u m (Memᴰ.cases_cons (f u (Memᴰ.tail m))))
    (λ u m. behind (sym same) b u m (Memᴰ.cases_cons (g u (Memᴰ.tail m)))))
  where
    heads : (w ≡ v) ⊎ (w ∈ y) → (v ≡ w) ⊎ (v ∈ x) → w ≡ v
    heads (inl e) k = e
    heads (inr m) (inl e) = sym e
    heads (inr m) (inr n) = absurd (before_not (a v n) (b w m))

    behind : {p q : Way} → p ≡ q → {z t : List Way} → ((u : Way) → u ∈ z → PinsBefore p.pins u.pins) → (u : Way) → u ∈ z → (u ≡ q) ⊎ (u ∈ t) → u ∈ t
    behind e h u m (inl k) = absurd (before_self (subst (λ (i : Way). PinsBefore i.pins u.pins) (e ∙ sym k) (h u m)))
    behind e h u m (inr n) = n

rising_via : (k x : ℕ) (ws : List Way) → PinsRise ws → PinsRise (map (via k x) ws)
rising_via k x [] r = tt
rising_via k x (w ∷ ws) (a, r) =
    (λ v m. of v (Memᴰ.of_map (via k x) ws m), rising_via k x ws r)
  where
    of : (v : Way) → (u : Way) × u ∈ ws × (via k x u ≡ v) → PinsBefore (k ∷ w.pins) v.pins
    of v (u, m, e) = subst (λ (i : Way). PinsBefore (k ∷ w.pins) i.pins) e (later (a u m))

rising_both : (x y : List Way) → PinsRise x → PinsRise y → ((u v : Way) → u ∈ x → v ∈ y → PinsBefore u.pins v.pins) → PinsRise (x ++ y)
rising_both [] y r s h = s
rising_both (w ∷ x) y (a, r) s h = (
  λ v m. ⊎_elim (λ n. a v n) (λ n. h w v (Memᴰ.head refl) n) (Memᴰ.append_cases x m),
  rising_both x y r s (λ u v m n. h u v (Memᴰ.tail m) n),
)

pins_rise : (ask : ℕ → List Way) → ((y : ℕ) → PinsRise (ask y)) → (x k : ℕ) (ys : List ℕ) → PinsRise (by_pins ask x k ys)
unfolding by_pins
pins_rise ask h x k [] = tt
pins_rise ask h x k (y ∷ ys) =
    rising_both (map (via k x) (ask y)) (by_pins ask x (suc k) ys) (rising_via k x (ask y) (h y)) (pins_rise ask h x (suc k) ys)
    (λ u v m n. before u v (Memᴰ.of_map (via k x) (ask y) m) (pins_has ask x (suc k) ys v n))
  where
    before : (u v : Way) → (w : Way) × w ∈ ask y × (via k x w ≡ u) → ByPin ask x (suc k) ys v → PinsBefore u.pins v.pins
    before u v (w, m, e) b =
        subst (λ (i : Way). PinsBefore i.pins v.pins) e (subst (λ (i : Way). PinsBefore (k ∷ w.pins) i.pins) b.is (here (omega arith)))

pub ways_rise : (named : ℕ → List ℕ) (n x : ℕ) → PinsRise (ways_up named n x)
unfolding ways_up of_entity
ways_rise named zero x = tt
ways_rise named (suc n) x = go (λ y. ways_rise named n y) (named x)
  where
    go : ((y : ℕ) → PinsRise (ways_up named n y)) → (ys : List ℕ) → PinsRise (of_entity (λ y. ways_up named n y) x ys)
    go h [] = (λ v m. absurd (Memᴰ.not-nil m), tt)
    go h (y ∷ ys) = pins_rise (λ y. ways_up named n y) h x 0 (y ∷ ys)
