-- Laws of what stands beside it in specs.
--   step_joined, step_left ==  a step, from what its test says
--   pass_from_adds     ==  what a pass adds it adds at the end
--   pass_from_more     ==  .. so the order does not get shorter
--   pass_same         ==  a pass that leaves the order's length leaves the order
--   pass_quiet, quiet_pass ==  exactly then a pass leaves o as it is
--   full_quiet        ==  where o has all n, it is quiet
--   passes_stay       ==  once quiet, more passes leave the order as it is
--   order_quiet       ==  the order is quiet
--   order_early       ==  k passes, with k indices in at least, that leave it quiet make the order
use Prim.Native.Nat.{ℕ, zero, suc, ◌+◌, ◌-◌, ◌≤◌, ◌<◌, zero-le}
use Rattle.std.specs.Prelude.{◌≡◌, ◌⊎◌, Bool}
use Rattle.std.proofs.Math.Path.{refl, sym, ap}
use Rattle.std.proofs.Common.{◌∙◌, arith, zero-add, suc-add, le_trans, eq-or-lt_of_le, length-append}
use mathlib.Core.List.Memᴰ
use mathlib.Core.List.{List, [], ◌∷◌, ◌++◌, append_assoc, append-nil}
use Rattle.std.proofs.Math.Logic.{inl, inr, ⊎_elim}
use Rattle.std.proofs.Math.Bool.{true, false}
use Rattle.std.proofs.Math.ListN.{length}
use Rattle.ground.specs.Pick.{yes, no, refutes}
use Rattle.graph.specs.Passes.{joins, step, pass_from, passes, order_of}
use Rattle.graph.specs.Grown.{with, length_with, Grown, grown_length, grown_full}
use Rattle.graph.proofs.GrownLemmas.{reads_joins, passes_grown, order_grown}
use Rattle.graph.specs.Quiet.{Quiet}

empty_of : (r : List ℕ) → length r ≡ 0 → r ≡ []
empty_of [] e = refl
empty_of (x ∷ r) e = absurd (omega arith)

module _ (ids : ℕ → ℕ) (sources : ℕ → List ℕ) where
  pub step_joined : (o : List ℕ) (i : ℕ) → joins ids sources o i ≡ true → step ids sources o i ≡ with o i
  unfolding step
  step_joined o i e = yes _ _ e

  pub step_left : (o : List ℕ) (i : ℕ) → joins ids sources o i ≡ false → step ids sources o i ≡ o
  unfolding step
  step_left o i e = no _ _ e

  pub pass_from_adds : (k i : ℕ) (o : List ℕ) → (r : List ℕ) × (pass_from ids sources k i o ≡ o ++ r)
  unfolding pass_from
  pass_from_adds zero i o = ([], sym (append-nil o))
  pass_from_adds (suc k) i o = go (joins ids sources o i) refl (pass_from_adds k (suc i) (step ids sources o i))
    where
      go : (b : Bool) → joins ids sources o i ≡ b → (r : List ℕ) × (pass_from ids sources k (suc i) (step ids sources o i) ≡ step ids sources o i ++ r)
          → (r : List ℕ) × (pass_from ids sources k (suc i) (step ids sources o i) ≡ o ++ r)
      go true e (r, q) = (i ∷ r, q ∙ ap (λ (l : List ℕ). l ++ r) (step_joined o i e) ∙ append_assoc o (i ∷ []) r)
      go false e (r, q) = (r, q ∙ ap (λ (l : List ℕ). l ++ r) (step_left o i e))

  module _ (k i : ℕ) (o : List ℕ) where
    pub pass_from_more : length o ≤ length (pass_from ids sources k i o)
    pass_from_more = let a = pass_from_adds k i o in let b = length-append o a.0 in let c = ap length a.1 in omega arith

    pub pass_same : length (pass_from ids sources k i o) ≡ length o → pass_from ids sources k i o ≡ o
    pass_same e =
        let a = pass_from_adds k i o in
        let b = length-append o a.0 in
        let c = ap length a.1 in
        a.1 ∙ ap (λ (r : List ℕ). o ++ r) (empty_of a.0 (omega arith)) ∙ append-nil o

  -- of the k indices from i on
  quiet_from : (k i : ℕ) (o : List ℕ) → pass_from ids sources k i o ≡ o → (j : ℕ) → i ≤ j → j < i + k → joins ids sources o j ≡ false
  unfolding pass_from
  quiet_from zero i o e j l h = absurd (omega arith)
  quiet_from (suc k) i o e j l h = go (joins ids sources o i) refl (λ q. quiet_from k (suc i) o q j)
    where
      go : (b : Bool) → joins ids sources o i ≡ b → (pass_from ids sources k (suc i) o ≡ o → suc i ≤ j → j < suc i + k → joins ids sources o j ≡ false)
          → joins ids sources o j ≡ false
      go true f later =
          let a = pass_from_more k (suc i) (step ids sources o i) in
          let b = ap length (step_joined o i f) in
          let c = length_with o i in
          let d = ap length e in
          absurd (omega arith)
      go false f later =
          ⊎_elim (λ q. ap (joins ids sources o) (sym q) ∙ f)
          (λ q. later (ap (pass_from ids sources k (suc i)) (sym (step_left o i f)) ∙ e) q (omega arith))
          (eq-or-lt_of_le l)

  from_quiet : (k i : ℕ) (o : List ℕ) → ((j : ℕ) → i ≤ j → j < i + k → joins ids sources o j ≡ false) → pass_from ids sources k i o ≡ o
  unfolding pass_from
  from_quiet zero i o h = refl
  from_quiet (suc k) i o h =
      ap (pass_from ids sources k (suc i)) (step_left o i (h i (omega arith) (omega arith)))
      ∙ from_quiet k (suc i) o (λ j l m. h j (omega arith) (omega arith))

  module _ (n : ℕ) where
    pub pass_quiet : (o : List ℕ) → pass_from ids sources n 0 o ≡ o → (Quiet ids sources n) o
    pass_quiet o e i l = quiet_from n 0 o e i zero-le (omega arith)

    pub quiet_pass : (o : List ℕ) → (Quiet ids sources n) o → pass_from ids sources n 0 o ≡ o
    quiet_pass o h = from_quiet n 0 o (λ j l m. h j (omega arith))

    pub full_quiet : {o : List ℕ} → Grown ids sources n o → n ≤ length o → (Quiet ids sources n) o
    full_quiet {o} g h i l = refutes (reads_joins ids sources o i) (λ m. m.0 (Memᴰ.map ids (grown_full g h i l)))

    passes_add : (k j : ℕ) → (Quiet ids sources n) (passes ids sources n k) → passes ids sources n (j + k) ≡ passes ids sources n k
    unfolding passes
    passes_add k zero q = ap (passes ids sources n) (zero-add k)
    passes_add k (suc j) q = ap (passes ids sources n) (suc-add j k) ∙ ap (pass_from ids sources n 0) (passes_add k j q) ∙ quiet_pass _ q

    pub passes_stay : (k m : ℕ) → k ≤ m → (Quiet ids sources n) (passes ids sources n k) → passes ids sources n m ≡ passes ids sources n k
    passes_stay k m l q = let e : m ≡ m - k + k = omega arith in ap (passes ids sources n) e ∙ passes_add k (m - k) q

    -- by k passes one was quiet, or each of them has added an index
    by_pass : (k : ℕ) → ((e : ℕ) × (e ≤ k) × (Quiet ids sources n) (passes ids sources n e)) ⊎ (k ≤ length (passes ids sources n k))
    unfolding passes
    by_pass zero = inr zero-le
    by_pass (suc k) =
        ⊎_elim (λ a. inl (a.0, (let l = a.1 in omega arith), a.2)) (λ h. go h (eq-or-lt_of_le (pass_from_more n 0 (passes ids sources n k)))) (by_pass k)
      where
        now : List ℕ
        now = passes ids sources n k

        next : List ℕ
        next = pass_from ids sources n 0 (passes ids sources n k)

        go : k ≤ length now → (length now ≡ length next) ⊎ (length now < length next)
            → ((e : ℕ) × (e ≤ suc k) × (Quiet ids sources n) (passes ids sources n e)) ⊎ (suc k ≤ length next)
        go h (inl e) = inl (k, omega arith, pass_quiet now (pass_same n 0 now (sym e)))
        go h (inr l) = inr (omega arith)

    pub order_quiet : (Quiet ids sources n) (order_of ids sources n)
    order_quiet = ⊎_elim (λ a. rw (passes_stay a.0 n a.1 a.2) a.2) (λ h. full_quiet (order_grown ids sources n) h) (by_pass n)

    pub order_early : (k : ℕ) → k ≤ length (passes ids sources n k) → (Quiet ids sources n) (passes ids sources n k) → passes ids sources n k ≡ order_of ids sources n
    order_early k l q = sym (passes_stay k n (le_trans l (grown_length (passes_grown ids sources n k))) q)
