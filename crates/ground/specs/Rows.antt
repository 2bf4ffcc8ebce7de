-- The papers' table of refusals, row by row in its order, of which the first that applies is given, "at no other time" (document 01). A row has
-- a number, what it is to keep its rule, what it is to break it at a place, and the rows behind it, which may speak of what was kept so far (the
-- cutting, the header, the clusters). What the reader computes is tied to the rows once, for any table of them.
--   Rows, end, row    ==  a table: no row; a row with its number, its rule, its breach by place, and the rows behind it
--   AllKept t         ==  every rule of the table is kept, one after another
--   FirstBroken t n p ==  the first row that is not kept has number n and is broken at place p
--   Decides b K B     ==  b is nowhere exactly where the rule K is kept, and at p exactly where it is broken there, by B
--   Answers t r       ==  r is put together row by row, each row by what decides it
--   answers_kept      ==  THE LAWS: then r is 0 and 0 exactly where every rule is kept,
--   answers_broken    ==  and number n at place p exactly where the first row that is not kept has number n and is broken at p
--   all_none          ==  where every rule is kept, r refuses nothing
--   Numbered t        ==  no row has number 0
--   kept_decides      ==  a rule with one place, decided by a test
use Rattle.std.specs.Prelude.{ℕ, ◌≡◌, refl, Bool, ◌⊎◌, ◌↔◌, Option, Some, None}
use Rattle.std.proofs.Common.{sym, ap, ◌∙◌, inl, inr}
use Rattle.ground.specs.declared.Refusal.{Refusal}
use Rattle.ground.specs.Pick.{Reads}
use Rattle.ground.specs.Refuse.{none, refuse, refuse_at, refuse_on, kept_at, kept_nowhere, kept_at_lem}

pub data Rows : Type 1 where
  end : Rows
  row : (number : ℕ) (Kept : Type 0) (Broken : ℕ → Type 0) (behind : Kept → Rows) → Rows

abbrev pub AllKept : Rows → Type 0
AllKept end = Unit {0}
AllKept (row n K B behind) = (k : K) × AllKept (behind k)

abbrev pub FirstBroken : Rows → ℕ → ℕ → Type 0
FirstBroken end m p = ⊥
FirstBroken (row n K B behind) m p = ((m ≡ n) × B p) ⊎ ((k : K) × FirstBroken (behind k) m p)

abbrev pub Numbered : Rows → Type 0
Numbered end = Unit {0}
Numbered (row n K B behind) = (n ≡ 0 → ⊥) × ((k : K) → Numbered (behind k))

pub record Decides (b : Option ℕ) (K : Type 0) (B : ℕ → Type 0) : Type 0 where
  pub kept : (b ≡ None) ↔ K
  pub broken : (p : ℕ) → (b ≡ Some p) ↔ B p

pub kept_decides : {b : Bool} {P : Type 0} (p : ℕ) → Reads b P → Decides (kept_at b p) P (λ q. (q ≡ p) × (P → ⊥))
kept_decides p r = record { kept = kept_nowhere p r; broken = λ q. kept_at_lem p q r }

abbrev pub Answers : Rows → Refusal → Type 0
Answers end r = r ≡ none
Answers (row n K B behind) r = (b : Option ℕ) × (rest : Refusal) × (r ≡ refuse n b rest) × Decides b K B × ((k : K) → Answers (behind k) rest)

refusal_number : {r s : Refusal} → r ≡ s → r.number ≡ s.number
refusal_number e = ap (λ (x : Refusal). x.number) e

refusal_place : {r s : Refusal} → r ≡ s → r.place ≡ s.place
refusal_place e = ap (λ (x : Refusal). x.place) e

pub all_none : (t : Rows) (r : Refusal) → Answers t r → AllKept t → r ≡ none
all_none end r a k = a
all_none (row n K B behind) r (b, rest, e, d, a) (k, ks) = e ∙ refuse_on n rest (d.kept.1 k) ∙ all_none (behind k) rest (a k) ks

of_broken : (t : Rows) (r : Refusal) (m p : ℕ) → Answers t r → FirstBroken t m p → r ≡ record { number = m; place = p }
of_broken end r m p a f = absurd f
of_broken (row n K B behind) r m p (b, rest, e, d, a) (inl (q, w)) = e ∙ refuse_at n p rest ((d.broken p).1 w) ∙ ap (λ (i : ℕ). record { number = i; place = p }) (sym q)
of_broken (row n K B behind) r m p (b, rest, e, d, a) (inr (k, f)) = e ∙ refuse_on n rest (d.kept.1 k) ∙ of_broken (behind k) rest m p (a k) f

-- every rule is kept, or a row is the first that is not
outcome : (t : Rows) (r : Refusal) → Answers t r → AllKept t ⊎ ((m : ℕ) × (p : ℕ) × FirstBroken t m p)
outcome end r a = inl tt
outcome (row n K B behind) r (b, rest, e, d, a) = go b d (λ k. outcome (behind k) rest (a k))
  where
    later : (k : K) → AllKept (behind k) ⊎ ((m : ℕ) × (p : ℕ) × FirstBroken (behind k) m p)
        → AllKept (row n K B behind) ⊎ ((m : ℕ) × (p : ℕ) × FirstBroken (row n K B behind) m p)
    later k (inl ks) = inl (k, ks)
    later k (inr (m, p, f)) = inr (m, p, inr (k, f))

    go : (c : Option ℕ) → Decides c K B → ((k : K) → AllKept (behind k) ⊎ ((m : ℕ) × (p : ℕ) × FirstBroken (behind k) m p))
        → AllKept (row n K B behind) ⊎ ((m : ℕ) × (p : ℕ) × FirstBroken (row n K B behind) m p)
    go None c f = let k = c.kept.0 refl in later k (f k)
    go (Some p) c f = inr (n, p, inl (refl, (c.broken p).0 refl))

numbered : (t : Rows) (m p : ℕ) → Numbered t → FirstBroken t m p → m ≡ 0 → ⊥
numbered end m p h f e = f
numbered (row n K B behind) m p h (inl (q, w)) e = h.0 (sym q ∙ e)
numbered (row n K B behind) m p h (inr (k, f)) e = numbered (behind k) m p (h.1 k) f e

module _ (t : Rows) (r : Refusal) (h : Numbered t) (a : Answers t r) where
  pub answers_kept : (r.number ≡ 0) ↔ AllKept t
  answers_kept = (of (outcome t r a), λ k. refusal_number (all_none t r a k))
    where
      of : AllKept t ⊎ ((m : ℕ) × (p : ℕ) × FirstBroken t m p) → r.number ≡ 0 → AllKept t
      of (inl k) e = k
      of (inr (m, p, f)) e = absurd (numbered t m p h f (sym (refusal_number (of_broken t r m p a f)) ∙ e))

  pub answers_broken : (m p : ℕ) → (m ≡ 0 → ⊥) → (r ≡ record { number = m; place = p }) ↔ FirstBroken t m p
  answers_broken m p z = (of (outcome t r a), of_broken t r m p a)
    where
      of : AllKept t ⊎ ((n : ℕ) × (q : ℕ) × FirstBroken t n q) → r ≡ record { number = m; place = p } → FirstBroken t m p
      of (inl k) e = absurd (z (sym (refusal_number e) ∙ refusal_number (all_none t r a k)))
      of (inr (n, q, f)) e =
          let g : ◌≡◌ {A = Refusal} (record { number = n; place = q }) (record { number = m; place = p }) = sym (of_broken t r n q a f) ∙ e in
          rw (← (refusal_number g), ← (refusal_place g)) f
