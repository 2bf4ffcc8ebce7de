-- The first of n places that passes a test, and what a loop that looks for it knows. Places are counted from 0: those of a run, of a
-- table. "First" is by place (document 01): what stands at them stands one after another, so that the first that is wrong stands
-- before every other that is.
--   first_in t found none i k  ==  `found j` for the first j of i, i + 1, .. (k of them) that passes t; `none` where none does
--   Come t found none n i     ==  the loop that looks at the places below n has come to i and found none before
--   come_none, come_here, come_more, come_over  ==  its start, its two turns and its end
--   FirstAt t n i             ==  i is the first place below n that passes t
--   first_some, first_none    ==  what the search answers, from what the tests say
--   Finding t found none n r  ==  what r says of the tests; finding: the search's answer says so
--   first_same                ==  tests that agree below n find the same
--   first_more                ==  a search among one place more: that place is looked at last
--   somewhere t n, everywhere t n  ==  t holds at some place below n, at each; reads_somewhere, reads_everywhere: what they decide
--   NoneWrong n Wrong         ==  none below n is wrong
--   FirstPlace n place Wrong q  ==  q is the place of the first below n that is wrong, where place gives each its place
--   place_of_first t            ==  the place of the first that passes t; nowhere where none does
--   breach_nowhere, breach_at ==  the search's answer as a place is nowhere exactly where nothing is wrong, and at q exactly
--                                 where q is the first offender's
use Prim.Native.Nat.{ℕ, zero, suc, ◌+◌, ◌-◌, ◌≤◌, ◌<◌}
use Rattle.std.specs.Prelude.{◌≡◌, Bool, ◌⊎◌, ◌↔◌, ltb, Option, Some, None}
use Rattle.std.proofs.Math.Path.{refl, sym, ap}
use Rattle.std.proofs.Common.{◌∙◌, add-one, zero-add, add-zero}
use Rattle.std.proofs.Math.Bool.{true, false, not}
use Rattle.std.proofs.Math.Logic.{⊎_elim}
use Rattle.std.proofs.Math.Nat.{eq-or-lt_of_le}
use native.Mathlib.Omega.{arith}
use Rattle.std.proofs.lemmas.Bool.{not-true, not-false}
use Rattle.ground.specs.Pick.{pick, yes, no, Reads, shows, refutes, decided, reads_lt, true≠false}

unfoldable pub first_in : {R : Type 0} → (ℕ → Bool) → (ℕ → R) → R → ℕ → ℕ → R
first_in t found none i zero = none
first_in t found none i (suc k) = pick (t i) (found i) (first_in t found none (suc i) k)

pub record FirstAt (t : ℕ → Bool) (n i : ℕ) : Type 0 where
  pub inside : i < n
  pub passes : t i ≡ true
  pub none_before : (j : ℕ) → j < i → t j ≡ false

module _ {R : Type 0} (t : ℕ → Bool) (found : ℕ → R) (none : R) where
  pub record Come (n i : ℕ) : Type 0 where
    pub low : i ≤ n
    pub same : first_in t found none 0 n ≡ first_in t found none i (n - i)

  pub come_none : (n : ℕ) → Come n 0
  come_none n = let q : n ≡ n - 0 = omega arith in record { low = omega arith; same = ap (first_in t found none 0) q }

  module _ (n i : ℕ) (g : Come n i) where
    pub come_over : n ≤ i → none ≡ first_in t found none 0 n
    unfolding first_in
    come_over h = let z : n - i ≡ 0 = omega arith in sym (g.same ∙ rw z refl)

    module _ (h : i < n) (b : Bool) (e : b ≡ t i) where
      pub come_here : b ≡ true → found i ≡ first_in t found none 0 n
      unfolding first_in
      come_here y = let q : n - i ≡ suc (n - suc i) = omega arith in sym (g.same ∙ rw q (yes _ _ (sym e ∙ y)))

      pub come_more : b ≡ false → Come n (i + 1)
      unfolding first_in
      come_more y =
          let q : n - i ≡ suc (n - suc i) = omega arith in
          record { low = omega arith; same = g.same ∙ rw (q, add-one) (no _ _ (sym e ∙ y)) }

  more_from : (k i : ℕ) → first_in t found none i (suc k) ≡ first_in t found (pick (t (i + k)) (found (i + k)) none) i k
  unfolding first_in
  more_from zero i = ap (λ (j : ℕ). pick (t j) (found j) none) (sym (add-zero i))
  more_from (suc k) i =
      let q : suc i + k ≡ i + suc k = omega arith in
      ap (pick (t i) (found i)) (more_from k (suc i) ∙ ap (λ (j : ℕ). first_in t found (pick (t j) (found j) none) (suc i) k) q)

  pub first_more : (n : ℕ) → first_in t found none 0 (n + 1) ≡ first_in t found (pick (t n) (found n) none) 0 n
  first_more n = ap (first_in t found none 0) (add-one n) ∙ more_from n 0 ∙ ap (λ (j : ℕ). first_in t found (pick (t j) (found j) none) 0 n) (zero-add n)

  pub data Finding (n : ℕ) : R → Type 0 where
    nothing : ((j : ℕ) → j < n → t j ≡ false) → Finding n none
    first : {i : ℕ} → FirstAt t n i → Finding n (found i)

  finding_from : (k n : ℕ) → ((j : ℕ) → j < n → t j ≡ false) → Finding (n + k) (first_in t found none n k)
  unfolding first_in
  finding_from zero n h = nothing (λ j l. h j (omega arith))
  finding_from (suc k) n h = go (t n) refl (λ m. let q : suc n + k ≡ n + suc k = omega arith in rw q at (finding_from k (suc n) m))
    where
      go : (b : Bool) → t n ≡ b → (((j : ℕ) → j < suc n → t j ≡ false) → Finding (n + suc k) (first_in t found none (suc n) k))
          → Finding (n + suc k) (pick b (found n) (first_in t found none (suc n) k))
      go true e later = first {i = n} (record { inside = omega arith; passes = e; none_before = h })
      go false e later = later (λ j l. ⊎_elim (λ q. ap t q ∙ e) (λ m. h j m) (below j l))
        where
          below : (j : ℕ) → j < suc n → (j ≡ n) ⊎ (j < n)
          below j l = eq-or-lt_of_le (let m : j ≤ n = omega arith in m)

  pub finding : (n : ℕ) → Finding n (first_in t found none 0 n)
  finding n = rw zero-add at (finding_from n 0 (λ j l. absurd (omega arith)))

  pub first_none : (n : ℕ) → ((j : ℕ) → j < n → t j ≡ false) → first_in t found none 0 n ≡ none
  first_none n h = go (finding n)
    where
      go : {r : R} → Finding n r → r ≡ none
      go (nothing k) = refl
      go (first f) = absurd (true≠false (sym f.passes ∙ h _ f.inside))

  pub first_some : (n i : ℕ) → FirstAt t n i → first_in t found none 0 n ≡ found i
  first_some n i f = go (finding n)
    where
      -- two firsts are one
      one : {j : ℕ} → FirstAt t n j → j ≡ i
      one {j} g =
          ⊎_elim
          (λ (l : j < i). absurd (true≠false (sym g.passes ∙ f.none_before j l)))
          (λ (m : j < i → ⊥). ⊎_elim (λ (l : i < j). absurd (true≠false (sym f.passes ∙ g.none_before i l))) (λ (k : i < j → ⊥). let e : j ≡ i = omega arith in e) (decided (ltb i j) (reads_lt i j)))
          (decided (ltb j i) (reads_lt j i))

      go : {r : R} → Finding n r → r ≡ found i
      go (nothing k) = absurd (true≠false (sym f.passes ∙ k i f.inside))
      go (first g) = ap found (one g)

pub first_same : {R : Type 0} (t u : ℕ → Bool) (found : ℕ → R) (none : R) (n : ℕ) → ((i : ℕ) → i < n → t i ≡ u i)
    → first_in t found none 0 n ≡ first_in u found none 0 n
first_same {R} t u found none n h = go (finding u found none n)
  where
    go : {r : R} → Finding u found none n r → first_in t found none 0 n ≡ r
    go (nothing k) = first_none t found none n (λ j l. h j l ∙ k j l)
    go (first {i} f) =
        first_some t found none n i (record { inside = f.inside; passes = h i f.inside ∙ f.passes; none_before = λ j l. let m = f.inside in h j (omega arith) ∙ f.none_before j l })

unfoldable pub somewhere : (ℕ → Bool) → ℕ → Bool
somewhere t n = first_in t (λ i. true) false 0 n

unfoldable pub everywhere : (ℕ → Bool) → ℕ → Bool
everywhere t n = first_in (λ i. not (t i)) (λ i. false) true 0 n

module _ (t : ℕ → Bool) (P : ℕ → Type 0) (n : ℕ) (reads : (i : ℕ) → i < n → Reads (t i) (P i)) where
  pub reads_somewhere : Reads (somewhere t n) ((i : ℕ) × (i < n) × P i)
  unfolding somewhere
  reads_somewhere = go (finding t (λ i. true) false n)
    where
      go : {r : Bool} → Finding t (λ i. true) false n r → Reads r ((i : ℕ) × (i < n) × P i)
      go (nothing h) = record { says = λ e. absurd (true≠false (sym e)); denies = λ e k. (reads k.0 k.1).denies (h k.0 k.1) k.2 }
      go (first {i} f) = record { says = λ e. (i, f.inside, (reads i f.inside).says f.passes); denies = λ e. absurd (true≠false e) }

  pub reads_everywhere : Reads (everywhere t n) ((i : ℕ) → i < n → P i)
  unfolding everywhere
  reads_everywhere = go (finding (λ i. not (t i)) (λ i. false) true n)
    where
      go : {r : Bool} → Finding (λ i. not (t i)) (λ i. false) true n r → Reads r ((i : ℕ) → i < n → P i)
      go (nothing h) = record { says = λ e i l. (reads i l).says (not-false _ (h i l)); denies = λ e. absurd (true≠false e) }
      go (first {i} f) = record { says = λ e. absurd (true≠false (sym e)); denies = λ e h. (reads i f.inside).denies (not-true _ f.passes) (h i f.inside) }

-- as a place: the first offender's
module _ (n : ℕ) (place : ℕ → ℕ) (Wrong : ℕ → Type 0) where
  abbrev pub NoneWrong : Type 0
  NoneWrong = (i : ℕ) → i < n → Wrong i → ⊥

  pub record FirstPlace (q : ℕ) : Type 0 where
    pub offender : ℕ
    pub inside : offender < n
    pub wrong : Wrong offender
    pub at : q ≡ place offender
    pub none_before : (j : ℕ) → j < offender → Wrong j → ⊥

  abbrev pub place_of_first : (ℕ → Bool) → Option ℕ
  place_of_first t = first_in t (λ i. Some (place i)) None 0 n

  module _ (t : ℕ → Bool) (reads : (i : ℕ) → i < n → Reads (t i) (Wrong i)) where
    pub breach_nowhere : (place_of_first t ≡ None) ↔ NoneWrong
    breach_nowhere = (λ e. of (finding t (λ i. Some (place i)) None n) e, λ h. first_none t (λ i. Some (place i)) None n (λ j l. refutes (reads j l) (h j l)))
      where
        of : {r : Option ℕ} → Finding t (λ i. Some (place i)) None n r → r ≡ None → NoneWrong
        of (nothing h) e = λ i l. (reads i l).denies (h i l)
        of (first f) e = let z : ◌≡◌ {A = ℕ} 0 1 = cc in absurd (omega arith)

    pub breach_at : (q : ℕ) → (place_of_first t ≡ Some q) ↔ FirstPlace q
    breach_at q = (λ e. of (finding t (λ i. Some (place i)) None n) e, to)
      where
        of : {r : Option ℕ} → Finding t (λ i. Some (place i)) None n r → r ≡ Some q → FirstPlace q
        of (nothing h) e = let z : ◌≡◌ {A = ℕ} 0 1 = cc in absurd (omega arith)
        of (first {i} f) e =
            let z : q ≡ place i = cc in
            record {
              offender = i;
              inside = f.inside;
              wrong = (reads i f.inside).says f.passes;
              at = z;
              none_before = λ j l. let m = f.inside in (reads j (omega arith)).denies (f.none_before j l);
            }

        to : FirstPlace q → place_of_first t ≡ Some q
        to b =
            first_some t (λ i. Some (place i)) None n b.offender (record {
              inside = b.inside;
              passes = shows (reads b.offender b.inside) b.wrong;
              none_before = λ j l. let m = b.inside in refutes (reads j (omega arith)) (b.none_before j l);
            })
            ∙ ap Some (sym b.at)
