-- Two tables of refusals that are alike give the same number, whatever the places.
--   alike_number   ==  THE LAW, for any two tables and what is put together by them
use mathlib.Core.Path.{◌≡◌, refl, sym, ap, ◌∙◌}
use Prim.Native.Nat.{ℕ}
use native.Mathlib.Omega.{arith}
use Rattle.std.specs.Prelude.{Option, Some, None}
use Rattle.ground.specs.declared.Refusal.{Refusal}
use Rattle.ground.specs.Refuse.{refuse}
use Rattle.ground.specs.Rows.{Rows, end, row, Decides, Answers}
use Rattle.order.specs.Same.{AlikeRows}

-- where a rule is kept nowhere does the other's breach name a place, and the other way
not_at : {b : Option ℕ} {K : Type 0} {B : ℕ → Type 0} (q : ℕ) → Decides b K B → K → b ≡ Some q → ⊥
not_at q d k e = let n = d.kept.1 k in let z : ◌≡◌ {A = ℕ} 0 1 = cc in omega arith

pub alike_number : (t u : Rows) (r q : Refusal) → AlikeRows t u → Answers t r → Answers u q → r.number ≡ q.number
unfolding refuse
alike_number end end r q h a b = ap (λ (x : Refusal). x.number) (a ∙ sym b)
alike_number end (row m L C after) r q h a b = absurd h
alike_number (row n K B behind) end r q h a b = absurd h
alike_number (row n K B behind) (row m L C after) r q (e, same, on) (x, rest, i, d, a) (y, last, j, c, b) =
    ap (λ (z : Refusal). z.number) i ∙ go x y d c (λ k l. alike_number (behind k) (after l) rest last (on k l) (a k) (b l)) ∙ sym (ap (λ (z : Refusal). z.number) j)
  where
    go : (x y : Option ℕ) → Decides x K B → Decides y L C → ((k : K) (l : L) → rest.number ≡ last.number) → (refuse n x rest).number ≡ (refuse m y last).number
    go None None d c f = f (d.kept.0 refl) (c.kept.0 refl)
    go None (Some p) d c f = absurd (not_at p c (same.0 (d.kept.0 refl)) refl)
    go (Some p) None d c f = absurd (not_at p d (same.1 (c.kept.0 refl)) refl)
    go (Some p) (Some o) d c f = e
