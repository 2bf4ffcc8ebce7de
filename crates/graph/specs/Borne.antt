-- An ID that is its bearer's own: not zero, and borne at no lower index. The IDs are any; a search along the indices marks those that it has
-- met, one mark for each byte.
--   bears ids x i     ==  the test that index i bears the ID x
--   wrong_id ids i     ==  the test that the ID at index i is zero or borne at a lower index
--   reads_wrong       ==  what it decides
--   Own ids n         ==  no ID at an index below n is zero, and none stands twice
--   reads_own         ==  no ID below n is wrong exactly where they are so
--   Passed ids found none n borne i  ==  the search among n indices for the first wrong ID has come to i and found none before; the marked IDs
--                         are those that it has met
--   passed_none, passed_over, passed_zero, passed_twice, passed_on  ==  its start, its ends and its turn
use Rattle.std.specs.Prelude.{ℕ, ◌+◌, ◌≤◌, ◌<◌, ◌≡◌, refl, Bool, not, ◌||◌, List, ◌⊎◌, eqb, ltb, length, set, replicate}
use Rattle.std.proofs.Math.Path.{sym, ap}
use Rattle.std.proofs.Common.{◌∙◌, inl, inr, get_or-set_same, get_or-set_other}
use Rattle.std.proofs.Math.Bool.{true, false}
use Rattle.std.proofs.Math.Logic.{⊎_elim}
use native.Mathlib.Omega.{arith}
use Rattle.std.proofs.Math.ListN.{get_or, length-set, length-replicate, get_or-replicate}
use borrow.Author.Tests.{eq-eqb, ne_eqb}
use Rattle.ground.specs.Pick.{no, Reads, shows, reads_true, reads_eq, reads_lt, reads_or, reads_not, reads_same, decided}
use Rattle.ground.specs.Places.{first_in, first_more, somewhere, reads_somewhere, Come, come_none, come_here, come_more, come_over}
use Rattle.graph.specs.Ranked.{Distinct}

module _ (ids : ℕ → ℕ) where
  abbrev pub bears : ℕ → ℕ → Bool
  bears x i = eqb (ids i) x

  unfoldable pub wrong_id : ℕ → Bool
  wrong_id i = eqb (ids i) 0 || somewhere (bears (ids i)) i

  pub reads_wrong : (i : ℕ) → Reads (wrong_id i) ((ids i ≡ 0) ⊎ ((j : ℕ) × (j < i) × (ids j ≡ ids i)))
  unfolding wrong_id
  reads_wrong i = reads_or _ _ (reads_eq (ids i) 0) (reads_somewhere (bears (ids i)) (λ j. ids j ≡ ids i) i (λ j h. reads_eq (ids j) (ids i)))

  pub record Own (n : ℕ) : Type 0 where
    pub named : (i : ℕ) → i < n → ids i ≡ 0 → ⊥
    pub once : Distinct ids n

  pub reads_own : (n : ℕ) → Reads (not (somewhere wrong_id n)) (Own n)
  reads_own n =
      reads_same (reads_not _ (reads_somewhere wrong_id (λ i. (ids i ≡ 0) ⊎ ((j : ℕ) × (j < i) × (ids j ≡ ids i))) n (λ i l. reads_wrong i)))
      (λ f. record { named = λ i l e. f (i, l, inl e); once = λ i j l m e. one f i j l m e })
      (λ o a. wrong o a.0 a.1 a.2)
    where
      one : ((i : ℕ) × (i < n) × ((ids i ≡ 0) ⊎ ((j : ℕ) × (j < i) × (ids j ≡ ids i))) → ⊥) → (i j : ℕ) → i < n → j < n → ids i ≡ ids j → i ≡ j
      one f i j l m e =
          ⊎_elim
          (λ (h : i < j). absurd (f (j, m, inr (i, h, e))))
          (λ (k : i < j → ⊥). ⊎_elim (λ (h : j < i). absurd (f (i, l, inr (j, h, sym e)))) (λ (o : j < i → ⊥). let q : i ≡ j = omega arith in q) (decided (ltb j i) (reads_lt j i)))
          (decided (ltb i j) (reads_lt i j))

      wrong : Own n → (i : ℕ) → i < n → (ids i ≡ 0) ⊎ ((j : ℕ) × (j < i) × (ids j ≡ ids i)) → ⊥
      wrong o i l (inl e) = o.named i l e
      wrong o i l (inr (j, h, e)) = let q : j ≡ i = o.once j i (omega arith) l e in omega arith

  module _ {R : Type 0} (found : ℕ → R) (none : R) (n : ℕ) where
    pub record Passed (borne : List Bool) (i : ℕ) : Type 0 where
      pub come : Come wrong_id found none n i
      pub long : length borne ≡ 256
      pub marked : (x : ℕ) → x < 256 → get_or borne x false ≡ somewhere (bears x) i

    pub passed_none : Passed (replicate 256 false) 0
    unfolding somewhere first_in
    passed_none = record {
      come = come_none _ found none n;
      long = length-replicate 256 false;
      marked = λ x l. get_or-replicate 256 x false false l;
    }

    module _ (borne : List Bool) (i : ℕ) (g : Passed borne i) where
      pub passed_over : n ≤ i → none ≡ first_in wrong_id found none 0 n
      passed_over h = come_over _ found none n i g.come h

      module _ (h : i < n) (x : ℕ) (own : x ≡ ids i) (byte : x < 256) where
        here : wrong_id i ≡ true → found i ≡ first_in wrong_id found none 0 n
        here y = come_here _ found none n i g.come h (wrong_id i) refl y

        pub passed_zero : x ≡ 0 → found i ≡ first_in wrong_id found none 0 n
        unfolding wrong_id
        passed_zero z = here (rw (eq-eqb (ids i) 0 (sym own ∙ z)) refl)

        module _ (z : x ≡ 0 → ⊥) where
          by_mark : get_or borne x false ≡ wrong_id i
          unfolding wrong_id
          by_mark =
              g.marked x byte ∙ ap (λ (y : ℕ). somewhere (bears y) i) own
              ∙ sym (rw (ne_eqb (ids i) 0 (λ e. z (own ∙ e))) refl)

          pub passed_twice : get_or borne x false ≡ true → found i ≡ first_in wrong_id found none 0 n
          passed_twice y = here (sym by_mark ∙ y)

          pub passed_on : get_or borne x false ≡ false → Passed (set borne x true) (i + 1)
          unfolding somewhere
          passed_on y = record {
            come = come_more _ found none n i g.come h (get_or borne x false) by_mark y;
            long = length-set borne x true ∙ g.long;
            marked = λ k l. ⊎_elim (λ e. same k e) (λ f. other k l f) (decided (eqb k x) (reads_eq k x));
          }
            where
              same : (k : ℕ) → k ≡ x → get_or (set borne x true) k false ≡ somewhere (bears k) (i + 1)
              same k e =
                  let a = g.long in
                  rw e (get_or-set_same borne x true false (omega arith))
                  ∙ sym (shows (reads_somewhere (bears k) (λ j. bears k j ≡ true) (i + 1) (λ j l. reads_true (bears k j))) (i, omega arith, eq-eqb (ids i) k (sym (e ∙ own))))

              other : (k : ℕ) → k < 256 → (k ≡ x → ⊥) → get_or (set borne x true) k false ≡ somewhere (bears k) (i + 1)
              other k l f =
                  get_or-set_other borne x k true false f ∙ g.marked k l
                  ∙ sym (first_more (bears k) (λ j. true) false i ∙ ap (λ (r : Bool). first_in (bears k) (λ j. true) r 0 i) (no _ _ (ne_eqb (ids i) k (λ e. f (sym (own ∙ e))))))
