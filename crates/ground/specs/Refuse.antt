-- The order of refusals: of those that apply the first in the papers' order is given (document 01, "Refusals of a configuration"). An acceptance
-- answers 0 for number and place.
--   none           ==  nothing is refused
--   refuse n b r   ==  number n at the place where b says that rule n is broken; where it is broken nowhere, what r says
--   place_or b e    ==  the place that b names, e where it names none
--   refuse_at, refuse_on  ==  refuse's two equations, from what b is
--   kept_at k p     ==  nowhere where a rule with one place is kept, else that place p
--   kept_nowhere, kept_at_lem  ==  what it says of the rule that the test k reads
--   Chain c        ==  c puts refusals in a row before what comes behind them: where none of them is given, what comes behind;
--                      else what they say, whatever comes behind
--   chain_end, chain_more, chain_both  ==  the empty row, one refusal more in front, two rows as one
--   chain_none     ==  a row that gives number 0 gives place 0 too
use Rattle.std.specs.Prelude.{ℕ, ◌≡◌, refl, Bool, true, false, ◌↔◌, ◌⊎◌, eqb, Option, Some, None}
use Rattle.std.proofs.Common.{sym, ap, ◌∙◌, inl, inr, arith}
use Rattle.ground.specs.Pick.{pick, yes, no, Reads, reads_eq, decided, shows, refutes}
use Rattle.ground.specs.declared.Refusal.{Refusal}

abbrev pub none : Refusal
none = record { number = 0; place = 0 }

unfoldable pub refuse : ℕ → Option ℕ → Refusal → Refusal
refuse n None r = r
refuse n (Some p) r = record { number = n; place = p }

unfoldable pub place_or : Option ℕ → ℕ → ℕ
place_or None e = e
place_or (Some p) e = p

pub refuse_at : {b : Option ℕ} (n p : ℕ) (r : Refusal) → b ≡ Some p → refuse n b r ≡ record { number = n; place = p }
unfolding refuse
refuse_at n p r e = ap (λ (b : Option ℕ). refuse n b r) e

pub refuse_on : {b : Option ℕ} (n : ℕ) (r : Refusal) → b ≡ None → refuse n b r ≡ r
unfolding refuse
refuse_on n r e = ap (λ (b : Option ℕ). refuse n b r) e

abbrev pub kept_at : Bool → ℕ → Option ℕ
kept_at kept p = pick kept None (Some p)

pub kept_nowhere : {b : Bool} {P : Type 0} (p : ℕ) → Reads b P → (kept_at b p ≡ None) ↔ P
kept_nowhere {b} {P} p r = (λ e. of b r e, λ h. yes _ _ (shows r h))
  where
    of : (c : Bool) → Reads c P → kept_at c p ≡ None → P
    of true r e = r.says refl
    of false r e = let z : ◌≡◌ {A = ℕ} 0 1 = cc in absurd (omega arith)

pub kept_at_lem : {b : Bool} {P : Type 0} (p q : ℕ) → Reads b P → (kept_at b p ≡ Some q) ↔ ((q ≡ p) × (P → ⊥))
kept_at_lem {b} {P} p q r = (λ e. of b r e, λ h. no _ _ (refutes r h.1) ∙ ap Some (sym h.0))
  where
    of : (c : Bool) → Reads c P → kept_at c p ≡ Some q → (q ≡ p) × (P → ⊥)
    of true r e = let z : ◌≡◌ {A = ℕ} 0 1 = cc in absurd (omega arith)
    of false r e = (let z : p ≡ q = cc in sym z, r.denies refl)

pub record Chain (c : Refusal → Refusal) : Type 0 where
  pub on : (c none).number ≡ 0 → (r : Refusal) → c r ≡ r
  pub stays : ((c none).number ≡ 0 → ⊥) → (r : Refusal) → c r ≡ c none

pub chain_end : Chain (λ r. r)
chain_end = record { on = λ e r. refl; stays = λ n r. absurd (n refl) }

pub chain_more : (n : ℕ) → (n ≡ 0 → ⊥) → (b : Option ℕ) (c : Refusal → Refusal) → Chain c → Chain (λ r. refuse n b (c r))
unfolding refuse
chain_more n h None c k = record { on = k.on; stays = k.stays }
chain_more n h (Some p) c k = record { on = λ e r. absurd (h e); stays = λ e r. refl }

pub chain_both : (c d : Refusal → Refusal) → Chain c → Chain d → Chain (λ r. c (d r))
chain_both c d j k = record { on = on; stays = stays }
  where
    first : ((c none).number ≡ 0) ⊎ ((c none).number ≡ 0 → ⊥)
    first = decided (eqb (c none).number 0) (reads_eq (c none).number 0)

    on : (c (d none)).number ≡ 0 → (r : Refusal) → c (d r) ≡ r
    on e r = go first
      where
        go : ((c none).number ≡ 0) ⊎ ((c none).number ≡ 0 → ⊥) → c (d r) ≡ r
        go (inl z) = j.on z (d r) ∙ k.on (sym (ap (λ (x : Refusal). x.number) (j.on z (d none))) ∙ e) r
        go (inr n) = absurd (n (sym (ap (λ (x : Refusal). x.number) (j.stays n (d none))) ∙ e))

    stays : ((c (d none)).number ≡ 0 → ⊥) → (r : Refusal) → c (d r) ≡ c (d none)
    stays m r = go first
      where
        go : ((c none).number ≡ 0) ⊎ ((c none).number ≡ 0 → ⊥) → c (d r) ≡ c (d none)
        go (inl z) = ap c (k.stays (λ e. m (ap (λ (x : Refusal). x.number) (j.on z (d none)) ∙ e)) r)
        go (inr n) = j.stays n (d r) ∙ sym (j.stays n (d none))

pub chain_none : (c : Refusal → Refusal) → Chain c → (c none).number ≡ 0 → c none ≡ none
chain_none c k e = k.on e none
