-- A list made along the numbers from one on: what each gives, one after another.
--   in_turn t i k     ==  what t gives at i, then at i + 1, and so on for k numbers
--   in_turn_lem, of_turn ==  its members: those that t gives at one of these numbers
--   turn_same        ==  functions that agree at these numbers give the same
--   AtMostOne l      ==  l has no member or one
--   turn_few         ==  where t gives at most one at a number, k numbers give at most k
--   turn_rising      ==  where t gives at most one at a number, and its key is that number, the keys rise
use Prim.Native.Nat.{ℕ, zero, suc, ◌+◌, ◌≤◌, ◌<◌}
use Rattle.std.specs.Prelude.{◌≡◌}
use Rattle.std.proofs.Math.Path.{refl}
use Rattle.std.proofs.Common.{sym, ap, eq-or-lt_of_le}
use Rattle.std.proofs.Math.Logic.{⊎_elim}
use mathlib.Core.List.Memᴰ
use mathlib.Core.List.{List, [], ◌∷◌, ◌++◌}
use Rattle.std.proofs.Math.ListN.{length}
use native.Mathlib.Omega.{arith}
use Rattle.ground.specs.Rising.{Rising, none, more}
use Rattle.graph.specs.Members.{◌∈◌, along}

module _ {X : Type 0} where
  unfoldable pub in_turn : (ℕ → List X) → ℕ → ℕ → List X
  in_turn t i zero = []
  in_turn t i (suc k) = t i ++ in_turn t (suc i) k

  pub in_turn_lem : (t : ℕ → List X) (i k j : ℕ) {x : X} → i ≤ j → j < i + k → x ∈ t j → x ∈ in_turn t i k
  unfolding in_turn
  in_turn_lem t i zero j l h m = absurd (omega arith)
  in_turn_lem t i (suc k) j {x} l h m =
      ⊎_elim
      (λ (e : i ≡ j). Memᴰ.append_left _ (along (ap t (sym e)) m))
      (λ (s : i < j). Memᴰ.append_right (t i) (in_turn_lem t (suc i) k j s (omega arith) m))
      (eq-or-lt_of_le l)

  pub of_turn : (t : ℕ → List X) (i k : ℕ) {x : X} → x ∈ in_turn t i k → (j : ℕ) × (i ≤ j) × (j < i + k) × x ∈ t j
  unfolding in_turn
  of_turn t i zero m = absurd (Memᴰ.not-nil m)
  of_turn t i (suc k) {x} m =
      ⊎_elim
      (λ (a : x ∈ t i). (i, omega arith, omega arith, a))
      (λ (b : x ∈ in_turn t (suc i) k). let r = of_turn t (suc i) k b in let l = r.1 in let h = r.2 in (r.0, omega arith, omega arith, r.3))
      (Memᴰ.append_cases (t i) m)

  pub turn_same : (t u : ℕ → List X) (i k : ℕ) → ((j : ℕ) → i ≤ j → j < i + k → t j ≡ u j) → in_turn t i k ≡ in_turn u i k
  unfolding in_turn
  turn_same t u i zero h = refl
  turn_same t u i (suc k) h =
      rw (h i (omega arith) (omega arith)) (ap (λ (l : List X). u i ++ l) (turn_same t u (suc i) k (λ j l m. h j (omega arith) (omega arith))))

  pub data AtMostOne : List X → Type 0 where
    nothing : AtMostOne []
    one : {x : X} → AtMostOne (x ∷ [])

  pub turn_few : (t : ℕ → List X) → ((j : ℕ) → AtMostOne (t j)) → (i k : ℕ) → length (in_turn t i k) ≤ k
  unfolding in_turn
  turn_few t few i zero = omega arith
  turn_few t few i (suc k) = go (t i) (few i) (turn_few t few (suc i) k)
    where
      go : (l : List X) → AtMostOne l → length (in_turn t (suc i) k) ≤ k → length (l ++ in_turn t (suc i) k) ≤ suc k
      go (x ∷ (_ ∷ _)) x7 h = elim x7 [ ]
      go [] nothing h = omega arith
      go (x ∷ []) one h = omega arith

  pub turn_rising : (key : X → ℕ) (t : ℕ → List X) → ((j : ℕ) → AtMostOne (t j)) → ((j : ℕ) (x : X) → x ∈ t j → key x ≡ j)
      → (i k : ℕ) → Rising key (in_turn t i k)
  unfolding in_turn
  turn_rising key t few own i zero = none
  turn_rising key t few own i (suc k) = go (t i) (few i) (own i) (turn_rising key t few own (suc i) k)
    where
      go : (l : List X) → AtMostOne l → ((x : X) → x ∈ l → key x ≡ i) → Rising key (in_turn t (suc i) k) → Rising key (l ++ in_turn t (suc i) k)
      go (x ∷ (_ ∷ _)) x8 o r = elim x8 [ ]
      go [] nothing o r = r
      go (x ∷ []) one o r = more later r
        where
          later : (y : X) → y ∈ in_turn t (suc i) k → key x < key y
          later y m =
              let a = of_turn t (suc i) k m in
              let l = a.1 in
              let e : key x ≡ i = o x (Memᴰ.head refl) in
              let f : key y ≡ a.0 = own a.0 y a.3 in
              omega arith
