-- Rule 7 and the test of it, both ways.
--   reads_rule7  ==  collects decides rule 7
use Rattle.std.specs.Prelude.{ℕ, ◌≡◌, refl, Bool, true, false, not, ◌⊎◌, eqb}
use Rattle.std.proofs.Common.{ap, ⊎_elim}
use mathlib.Core.List.Memᴰ
use mathlib.Core.List.{List, [], ◌∷◌, ◌++◌, Memᴰ, head-eq_of_cons-eq, tail-eq_of_cons-eq, nil≢cons}
use Rattle.ground.specs.Pick.{Reads, reads_same, reads_eq, reads_and, reads_or, reads_not, true≠false}
use Rattle.ground.specs.Numbers.{byte}
use Rattle.ground.specs.Lists.{any, SomeOf, reads_any}
use Rattle.scan.specs.Cutting.{rest}
use Rattle.search.specs.Want.{Audio, Member, is_member, reads_audio, reads_member}
use Rattle.collection.specs.Rule7.{Rule7}
use Rattle.collection.specs.Reading.{is_distinct, all_known, unlisted, collects}

reads_listed : (k : ℕ) (l : List ℕ) → Reads (any (eqb k) l) (Memᴰ k l)
reads_listed k l = reads_same (reads_any (eqb k) (λ n. k ≡ n) (reads_eq k) l) (λ s. Memᴰ.cast s.has s.among) (λ m. record { one = k; among = m; has = refl })

abbrev Distinct : List ℕ → Type 0
Distinct l = (x y : List ℕ) (k : ℕ) → l ≡ x ++ k ∷ y → Memᴰ k y → ⊥

reads_distinct : (l : List ℕ) → Reads (is_distinct l) (Distinct l)
unfolding is_distinct
reads_distinct [] = record { says = λ e x y k q m. none x y k q; denies = λ e. absurd (true≠false e) }
  where
    none : (x y : List ℕ) (k : ℕ) → [] ≡ x ++ k ∷ y → ⊥
    none [] y k q = nil≢cons q
    none (n ∷ x) y k q = nil≢cons q
reads_distinct (n ∷ l) =
    reads_same (reads_and _ _ (reads_not _ (reads_listed n l)) (reads_distinct l)) more
    (λ h. (h [] l n refl, λ x y k q. h (n ∷ x) y k (ap (λ (r : List ℕ). n ∷ r) q)))
  where
    more : (Memᴰ n l → ⊥) × Distinct l → Distinct (n ∷ l)
    more (a, b) [] y k q m = let e : l ≡ y = tail-eq_of_cons-eq q in let f : n ≡ k = head-eq_of_cons-eq q in a (rw (e, f) m)
    more (a, b) (j ∷ x) y k q m = b x y k (tail-eq_of_cons-eq q) m

reads_known : (ds : List (List ℕ)) (l : List ℕ) → Reads (all_known ds l) ((k : ℕ) → Memᴰ k l → SomeOf (Member k) ds)
unfolding all_known
reads_known ds [] = record { says = λ e k m. absurd (Memᴰ.not-nil m); denies = λ e. absurd (true≠false e) }
reads_known ds (n ∷ l) =
    reads_same (reads_and _ _ (reads_any (is_member n) (Member n) (reads_member n) ds) (reads_known ds l))
    (λ h k m. ⊎_elim (λ (e : k ≡ n). rw e h.0) (h.1 k) (Memᴰ.cases_cons m))
    (λ h. (h n (Memᴰ.head refl), λ k m. h k (Memᴰ.tail m)))

abbrev Unlisted : List ℕ → List ℕ → Type 0
Unlisted l d = (Audio 2 d ⊎ Audio 3 d) × (Memᴰ (byte d 2) l → ⊥)

reads_unlisted : (l d : List ℕ) → Reads (unlisted l d) (Unlisted l d)
unfolding unlisted
reads_unlisted l d = reads_and _ _ (reads_or _ _ (reads_audio 2 d) (reads_audio 3 d)) (reads_not _ (reads_listed (byte d 2) l))

reads_all_listed : (ds : List (List ℕ)) (l : List ℕ)
    → Reads (not (any (unlisted l) ds)) ((d : List ℕ) → Memᴰ d ds → Audio 2 d ⊎ Audio 3 d → Memᴰ (byte d 2) l)
reads_all_listed ds l =
    reads_same (reads_not _ (reads_any (unlisted l) (Unlisted l) (reads_unlisted l) ds))
    (λ n d m a. stands d (λ u. n (record { one = d; among = m; has = (a, u) })))
    (λ h s. s.has.1 (h s.one s.among s.has.0))
  where
    stands : (d : List ℕ) → ((Memᴰ (byte d 2) l → ⊥) → ⊥) → Memᴰ (byte d 2) l
    stands d n = go (any (eqb (byte d 2)) l) (reads_listed (byte d 2) l)
      where
        go : (b : Bool) → Reads b (Memᴰ (byte d 2) l) → Memᴰ (byte d 2) l
        go true r = r.says refl
        go false r = absurd (n (r.denies refl))

pub reads_rule7 : (s l : List ℕ) → Reads (collects s l) (Rule7 (rest s 0) l)
unfolding collects
reads_rule7 s l =
    reads_same (reads_and _ _ (reads_distinct l) (reads_and _ _ (reads_known (rest s 0) l) (reads_all_listed (rest s 0) l)))
    (λ h. record { distinct = h.0; known = h.1.0; all_listed = h.1.1 })
    (λ k. (k.distinct, (k.known, k.all_listed)))
