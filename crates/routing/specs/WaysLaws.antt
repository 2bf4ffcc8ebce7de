-- Laws of the ways upstream, over any sources: what is among them, and that they rise in the order of pins.
--   ByPin ask x k ys w  ==  w goes by a pin of x, whose sources from pin k on are ys, and on from there by what is behind it
--   pins_has, pins_in  ==  what is behind an entity's pins: by a pin of it, and what is behind that
--   ways_same        ==  sources that agree on bytes, and are bytes, have the same ways upstream from a byte
use Prim.Native.Nat.{ℕ, zero, suc, ◌+◌, ◌<◌}
use Rattle.std.specs.Prelude.{◌≡◌, refl, length, get_or}
use Rattle.std.proofs.Common.{sym, ◌∙◌, add-zero, le_of_suc-le-suc}
use Rattle.std.proofs.Math.Path.{ap, subst}
use Rattle.std.proofs.Math.Logic.{⊎_elim}
use mathlib.Core.List.Memᴰ
use mathlib.Core.List.{List, [], ◌∷◌, ◌++◌, map}
use native.Mathlib.Omega.{arith}
use Rattle.graph.specs.Members.{◌∈◌}
use Rattle.upstream.specs.Ways.{Way, via, by_pins, of_entity, ways_up}

module _ (ask : ℕ → List Way) (x : ℕ) where
  -- w goes by the j-th of the pins whose sources are ys, the first of which is pin k
  pub record ByPin (k : ℕ) (ys : List ℕ) (w : Way) : Type 0 where
    pub pin : ℕ
    pub inside : pin < length ys
    pub rest : Way
    pub among : rest ∈ ask (get_or ys pin 0)
    pub is : via (k + pin) x rest ≡ w

  pub pins_has : (k : ℕ) (ys : List ℕ) (w : Way) → w ∈ by_pins ask x k ys → ByPin k ys w
  unfolding by_pins
  pins_has k [] w m = absurd (Memᴰ.not-nil m)
  pins_has k (y ∷ ys) w m =
      ⊎_elim (λ a. first (Memᴰ.of_map (via k x) (ask y) a)) (λ a. next (pins_has (suc k) ys w a)) (Memᴰ.append_cases (map (via k x) (ask y)) m)
    where
      first : (v : Way) × v ∈ ask y × (via k x v ≡ w) → ByPin k (y ∷ ys) w
      first (v, a, e) = record { pin = 0; inside = omega arith; rest = v; among = a; is = ap (λ (i : ℕ). via i x v) (add-zero k) ∙ e }

      next : ByPin (suc k) ys w → ByPin k (y ∷ ys) w
      next b =
          let h = b.inside in
          let q : k + suc b.pin ≡ suc k + b.pin = omega arith in
          record { pin = suc b.pin; inside = omega arith; rest = b.rest; among = b.among; is = ap (λ (i : ℕ). via i x b.rest) q ∙ b.is }

  pub pins_in : (k : ℕ) (ys : List ℕ) (j : ℕ) → j < length ys → (v : Way) → v ∈ ask (get_or ys j 0) → via (k + j) x v ∈ by_pins ask x k ys
  unfolding by_pins
  pins_in k [] j h v a = absurd (omega arith)
  pins_in k (y ∷ ys) zero h v a = subst (λ (i : ℕ). via i x v ∈ map (via k x) (ask y) ++ by_pins ask x (suc k) ys) (sym (add-zero k)) (Memᴰ.append_left (by_pins ask x (suc k) ys) (Memᴰ.map (via k x) a))
  pins_in k (y ∷ ys) (suc j) h v a =
      let q : suc k + j ≡ k + suc j = omega arith in
      Memᴰ.append_right (map (via k x) (ask y)) (subst (λ (i : ℕ). via i x v ∈ by_pins ask x (suc k) ys) q (pins_in (suc k) ys j (le_of_suc-le-suc h) v a))

pins_same : (f g : ℕ → List Way) (x k : ℕ) (ys : List ℕ) → ((y : ℕ) → y ∈ ys → f y ≡ g y) → by_pins f x k ys ≡ by_pins g x k ys
unfolding by_pins
pins_same f g x k [] h = refl
pins_same f g x k (y ∷ ys) h =
    ap (λ (l : List Way). map (via k x) l ++ by_pins f x (suc k) ys) (h y (Memᴰ.head refl))
    ∙ ap (λ (l : List Way). map (via k x) (g y) ++ l) (pins_same f g x (suc k) ys (λ z m. h z (Memᴰ.tail m)))

entity_same : (f g : ℕ → List Way) (x : ℕ) (ys : List ℕ) → ((y : ℕ) → y ∈ ys → f y ≡ g y) → of_entity f x ys ≡ of_entity g x ys
unfolding of_entity
entity_same f g x [] h = refl
entity_same f g x (y ∷ ys) h = pins_same f g x 0 (y ∷ ys) h

pub ways_same : (f g : ℕ → List ℕ) → ((x : ℕ) → x < 256 → f x ≡ g x) → ((x : ℕ) → x < 256 → (y : ℕ) → y ∈ g x → y < 256)
    → (n x : ℕ) → x < 256 → ways_up f n x ≡ ways_up g n x
unfolding ways_up
ways_same f g e b zero x l = refl
ways_same f g e b (suc n) x l =
    ap (of_entity (λ y. ways_up f n y) x) (e x l) ∙ entity_same (λ y. ways_up f n y) (λ y. ways_up g n y) x (g x) (λ y m. ways_same f g e b n y (b x l y m))
