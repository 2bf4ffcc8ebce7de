-- A value, or the refusal that stands in its place.
--   told r a        ==  Ok a where r refuses nothing, else Err r
--   kept_or r       ==  the same with no value but that nothing is refused
--   Leaves x q      ==  x is what a `?` hands on of the refusal q; left: so it is q, told
--   told_ok, told_err  ==  told's two equations, from what r is
--   ok_told, err_told  ==  .. and what each answer says of r
--   row_on, row_stays    ==  a row of refusals that alone tells Ok lets what comes behind it be told; one that tells Err is told whatever comes
--                         behind
--   told_kept, rule_kept, rule_stays  ==  one rule, broken at its place or nowhere: nowhere where it alone tells Ok; told whatever comes behind where it tells Err
--   kept_true         ==  a rule with one place that tells Ok is kept
use Rattle.std.specs.Prelude.{ℕ, ◌≡◌, refl, Bool, true, false, Result, Ok, Err, eqb, Option, Some, None}
use Rattle.std.proofs.Common.{sym, ap, ◌∙◌, eq-eqb, ne_eqb, eqb-true, arith}
use Rattle.std.proofs.lemmas.Bool.{eqb-false}
use Rattle.std.proofs.lemmas.Result.{err_from_is_err_and}
use Rattle.std.specs.Result.{IsErrAnd}
use Rattle.ground.specs.Pick.{pick, yes, no}
use Rattle.ground.specs.Refuse.{none, refuse, kept_at, Chain, chain_end, chain_more}
use Rattle.ground.specs.declared.Refusal.{Refusal}

unfoldable pub told : {A : Type 0} → Refusal → A → Result A Refusal
told r a = pick (eqb r.number 0) (Ok a) (Err r)

abbrev pub kept_or : Refusal → Result (Unit {0}) Refusal
kept_or r = told r tt

abbrev pub Leaves : {A : Type 0} → Result A Refusal → Refusal → Type 0
Leaves x q = IsErrAnd x (λ y. y ≡ q)

pub left : {A : Type 0} (x : Result A Refusal) (q : Refusal) → Leaves x q → x ≡ Err q
left x q h = let p = err_from_is_err_and x h in p.1 ∙ ap Err p.2

module _ {A : Type 0} (r : Refusal) (a : A) where
  pub told_ok : r.number ≡ 0 → told r a ≡ Ok a
  unfolding told
  told_ok e = yes (Ok a) (Err r) (eq-eqb _ _ e)

  pub told_err : (r.number ≡ 0 → ⊥) → told r a ≡ Err r
  unfolding told
  told_err n = no (Ok a) (Err r) (ne_eqb _ _ n)

  pub ok_told : (x : A) → Ok x ≡ told r a → (r.number ≡ 0) × (x ≡ a)
  unfolding told
  ok_told x e = go (eqb r.number 0) refl e
    where
      go : (b : Bool) → eqb r.number 0 ≡ b → Ok x ≡ pick b (Ok a) (Err r) → (r.number ≡ 0) × (x ≡ a)
      go true q f = (eqb-true _ _ q, let z : x ≡ a = cc in z)
      go false q f = let z : ◌≡◌ {A = ℕ} 0 1 = cc in absurd (omega arith)

  pub err_told : (q : Refusal) → Err q ≡ told r a → (r.number ≡ 0 → ⊥) × (q ≡ r)
  unfolding told
  err_told q e = go (eqb r.number 0) refl e
    where
      go : (b : Bool) → eqb r.number 0 ≡ b → Err q ≡ pick b (Ok a) (Err r) → (r.number ≡ 0 → ⊥) × (q ≡ r)
      go true p f = let z : ◌≡◌ {A = ℕ} 0 1 = cc in absurd (omega arith)
      go false p f = (eqb-false _ _ p, let z : q ≡ r = cc in z)

module _ {A : Type 0} (c : Refusal → Refusal) (k : Chain c) (a : A) where
  pub row_on : (x : A) → Ok x ≡ told (c none) a → (r : Refusal) → c r ≡ r
  row_on x e r = k.on (ok_told (c none) a x e).0 r

  pub row_stays : {B : Type 0} (q : Refusal) → Err q ≡ told (c none) a → (r : Refusal) (b : B) → Err q ≡ told (c r) b
  row_stays q e r b =
      let m = err_told (c none) a q e in
      let same : c r ≡ c none = k.stays m.0 r in
      sym (ap (λ (y : Refusal). told y b) same ∙ told_err (c none) b m.0 ∙ ap Err (sym m.1))

module _ (n : ℕ) (h : n ≡ 0 → ⊥) (b : Option ℕ) where
  pub told_kept : {A : Type 0} (a x : A) → Ok x ≡ told (refuse n b none) a → b ≡ None
  unfolding refuse
  told_kept a x e = go b refl (ok_told (refuse n b none) a x e).0
    where
      go : (c : Option ℕ) → b ≡ c → (refuse n c none).number ≡ 0 → c ≡ None
      go None q z = refl
      go (Some p) q z = absurd (h z)

  pub rule_kept : (x : Unit {0}) → Ok x ≡ kept_or (refuse n b none) → b ≡ None
  rule_kept x e = told_kept tt x e

  pub rule_stays : {B : Type 0} (q : Refusal) → Err q ≡ kept_or (refuse n b none) → (r : Refusal) (y : B) → Err q ≡ told (refuse n b r) y
  rule_stays q e r y = row_stays (λ r. refuse n b r) (chain_more n h b (λ r. r) chain_end) tt q e r y

pub kept_true : (n p : ℕ) → (n ≡ 0 → ⊥) → (b : Bool) (x : Unit {0}) → Ok x ≡ kept_or (refuse n (kept_at b p) none) → b ≡ true
kept_true n p h b x e = go b (rule_kept n h (kept_at b p) x e)
  where
    go : (c : Bool) → kept_at c p ≡ None → c ≡ true
    go true z = refl
    go false z = let w : ◌≡◌ {A = ℕ} 0 1 = cc in absurd (omega arith)
