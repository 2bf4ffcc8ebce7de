-- Marks by number, 0 to 255, that rule 7 goes by: the listed numbers marked one by one, then the numbers of the streaming and MIDI
-- groups in one pass over the descriptors.
--   Holds t marks       ==  a number is marked exactly where the test t holds of it
--   holds_none, holds_same, holds_more  ==  no marks; another test that agrees; one mark more
--   Listed l marks r    ==  r tells whether the numbers l are distinct; if so, they are the marked ones
--   any_last, any_but_last  ==  a number put behind a list is in it, and no other is besides
--   distinct_more, distinct_twice  ==  behind distinct numbers: a number that is none of them, and one that is
--   is_grouped d         ==  the test that d opens a streaming or MIDI group
--   unlisted_by marks d  ==  the test that d does, and its number is not marked
--   Met d marks known known' r  ==  what that test answers, and that the group's number is marked as known
--   Members ds marks known r    ==  r tells whether some of ds is so; if none is, the known numbers are those of ds' groups
--   all_marked marks l   ==  the test that each of l is marked
--   listed_same, known_same  ==  by the marks the tests of rule 7 are what they are by the list and the descriptors
use Rattle.std.specs.Prelude.{ℕ, ◌<◌, ◌≡◌, refl, Bool, true, false, not, ◌&&◌, ◌||◌, List, [], ◌∷◌, ◌++◌, eqb, length, get_or, set, replicate}
use Rattle.std.proofs.Common.{sym, ◌∙◌, ⊎_elim, arith, length-set, get_or-set_same, get_or-set_other, eq-eqb, ne_eqb, eqb-true}
use Rattle.std.proofs.Math.Bool.{or-true, or-false}
use Rattle.ground.specs.Pick.{decided, reads_eq, true≠false}
use Rattle.ground.specs.Numbers.{byte}
use Rattle.ground.specs.Lists.{any, any_append, any_snoc, replicate_at}
use Rattle.search.specs.Want.{is_audio, is_member}
use Rattle.collection.specs.Reading.{is_distinct, all_known, unlisted}

pub record Holds (t : ℕ → Bool) (marks : List Bool) : Type 0 where
  pub long : length marks ≡ 256
  pub each : (k : ℕ) → get_or marks k false ≡ t k

pub holds_none : {t : ℕ → Bool} → ((k : ℕ) → t k ≡ false) → Holds t (replicate 256 false)
holds_none h = record { long = refl; each = λ k. replicate_at false 256 k ∙ sym (h k) }

pub holds_same : {t u : ℕ → Bool} {marks : List Bool} → Holds t marks → ((k : ℕ) → t k ≡ u k) → Holds u marks
holds_same h f = record { long = h.long; each = λ k. h.each k ∙ f k }

pub holds_more : {t u : ℕ → Bool} {marks : List Bool} (n : ℕ) → Holds t marks → n < 256 → u n ≡ true
    → ((k : ℕ) → (k ≡ n → ⊥) → t k ≡ u k) → Holds u (set marks n true)
holds_more {t} {u} {marks} n h l e f = record {
  long = length-set marks n true ∙ h.long;
  each = λ k. ⊎_elim (here k) (other k) (decided (eqb k n) (reads_eq k n));
}
  where
    here : (k : ℕ) → k ≡ n → get_or (set marks n true) k false ≡ u k
    here k q = rw q (get_or-set_same marks n true false (let a = h.long in omega arith) ∙ sym e)

    other : (k : ℕ) → (k ≡ n → ⊥) → get_or (set marks n true) k false ≡ u k
    other k q = get_or-set_other marks n k true false q ∙ h.each k ∙ f k q

-- the listed numbers
pub record Listed (l : List ℕ) (marks : List Bool) (r : Bool) : Type 0 where
  pub distinct : r ≡ is_distinct l
  pub marked : r ≡ true → Holds (λ k. any (eqb k) l) marks

pub any_last : (k : ℕ) (x : List ℕ) (n : ℕ) (y : List ℕ) → k ≡ n → any (eqb k) (x ++ n ∷ y) ≡ true
unfolding any
any_last k x n y e = any_append (eqb k) x (n ∷ y) ∙ rw (eq-eqb k n e) (or-true (any (eqb k) x))

pub any_but_last : (k : ℕ) (x : List ℕ) (n : ℕ) → (k ≡ n → ⊥) → any (eqb k) x ≡ any (eqb k) (x ++ n ∷ [])
any_but_last k x n f = sym (any_snoc (eqb k) x n ∙ rw (ne_eqb k n f) (or-false (any (eqb k) x)))

pub distinct_twice : (x : List ℕ) (n : ℕ) (y : List ℕ) → any (eqb n) x ≡ true → is_distinct (x ++ n ∷ y) ≡ false
unfolding is_distinct any
distinct_twice [] n y e = absurd (true≠false (sym e))
distinct_twice (m ∷ x) n y e = go (eqb n m) refl (distinct_twice x n y)
  where
    and_false : (b : Bool) → (b && false) ≡ false
    and_false true = refl
    and_false false = refl

    go : (b : Bool) → eqb n m ≡ b → (any (eqb n) x ≡ true → is_distinct (x ++ n ∷ y) ≡ false)
        → (not (any (eqb m) (x ++ n ∷ y)) && is_distinct (x ++ n ∷ y)) ≡ false
    go true q ih = rw (any_last m x n y (sym (eqb-true n m q))) refl
    go false q ih = rw (ih (rw q at e)) (and_false (not (any (eqb m) (x ++ n ∷ y))))

pub distinct_more : (x : List ℕ) (n : ℕ) → is_distinct x ≡ true → any (eqb n) x ≡ false → is_distinct (x ++ n ∷ []) ≡ true
unfolding is_distinct any
distinct_more [] n d e = refl
distinct_more (m ∷ x) n d e = go (eqb n m) refl (any (eqb m) x) refl (distinct_more x n)
  where
    go : (b : Bool) → eqb n m ≡ b → (a : Bool) → any (eqb m) x ≡ a
        → (is_distinct x ≡ true → any (eqb n) x ≡ false → is_distinct (x ++ n ∷ []) ≡ true)
        → (not (any (eqb m) (x ++ n ∷ [])) && is_distinct (x ++ n ∷ [])) ≡ true
    go true q a p ih = absurd (true≠false (rw q at e))
    go false q true p ih = absurd (true≠false (sym (rw p at d)))
    go false q false p ih =
        let f : m ≡ n → ⊥ = (λ r. true≠false (sym (eq-eqb n m (sym r)) ∙ q)) in
        rw (← (any_but_last m x n f), p) (ih (rw p at d) (rw q at e))

-- the streaming and MIDI groups
abbrev pub is_grouped : List ℕ → Bool
is_grouped d = is_audio 2 d || is_audio 3 d

unfoldable pub unlisted_by : List Bool → List ℕ → Bool
unlisted_by marks d = is_grouped d && not (get_or marks (byte d 2) false)

pub data Met (d : List ℕ) (marks known known' : List Bool) (r : Bool) : Type 0 where
  other : is_grouped d ≡ false → r ≡ false → known' ≡ known → Met d marks known known' r
  member : is_grouped d ≡ true → byte d 2 < 256 → r ≡ not (get_or marks (byte d 2) false) → known' ≡ set known (byte d 2) true
      → Met d marks known known' r

pub record Members (ds : List (List ℕ)) (marks known : List Bool) (r : Bool) : Type 0 where
  pub told : r ≡ any (unlisted_by marks) ds
  pub marked : r ≡ false → Holds (λ k. any (is_member k) ds) known

unfoldable pub all_marked : List Bool → List ℕ → Bool
all_marked marks [] = true
all_marked marks (k ∷ l) = get_or marks k false && all_marked marks l

pub listed_same : (l : List ℕ) (marks : List Bool) → Holds (λ k. any (eqb k) l) marks → (ds : List (List ℕ))
    → any (unlisted_by marks) ds ≡ any (unlisted l) ds
unfolding any unlisted_by unlisted
listed_same l marks h [] = refl
listed_same l marks h (d ∷ ds) = rw (h.each (byte d 2), listed_same l marks h ds) refl

pub known_same : (ds : List (List ℕ)) (known : List Bool) → Holds (λ k. any (is_member k) ds) known → (l : List ℕ)
    → all_marked known l ≡ all_known ds l
unfolding all_marked all_known
known_same ds known h [] = refl
known_same ds known h (k ∷ l) = rw (h.each k, known_same ds known h l) refl
