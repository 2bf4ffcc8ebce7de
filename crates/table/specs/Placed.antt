-- What a control that is put in the place of the same control changes: nothing else.
--   placed_here      ==  the control stands at its index
--   placed_elsewhere ==  at every other index stands what stood there, spare places among them
--   placed_keeps     ==  each index holds the control that it held
--   kept_found       ==  tables whose indices hold the same controls find each where the other does
--   placed_found     ==  each control is found where it was
use Rattle.std.specs.Prelude.{ℕ, ◌<◌, min, ◌≡◌, refl, eqb, length}
use Rattle.std.proofs.Common.{ap, ◌∙◌, ⊎_elim, get_or-set_same, get_or-set_other}
use Rattle.ground.specs.Pick.{decided, reads_eq}
use Rattle.table.specs.declared.Control.{Control}
use Rattle.table.specs.declared.Table.{Table}
use Rattle.table.specs.Controls.{most_controls, blank_control, at, placed, answers_to}
use Rattle.table.specs.First.Seat.{absent, seat}
use Rattle.ground.specs.Places.{first_in, first_same}
use Rattle.table.specs.First.{places, found_in}
use Rattle.table.specs.Same.{Same, same_self, same_answers}

-- tables whose indices hold the same controls find each where the other does
pub kept_found : (t v : Table) → v.count ≡ t.count → ((q : ℕ) → Same (at v q) (at t q)) → (u ch s : ℕ) → found_in v u ch s ≡ found_in t u ch s
unfolding found_in
kept_found t v e h u ch s =
    ap (λ (n : ℕ). first_in (λ q. answers_to u ch s (at v q)) seat absent 0 (min n most_controls)) e
    ∙ first_same (λ q. answers_to u ch s (at v q)) (λ q. answers_to u ch s (at t q)) seat absent (places t) (λ j l. same_answers u ch s (at v j) (at t j) (h j))

pub placed_elsewhere : (t : Table) (p : ℕ) (c : Control) (q : ℕ) → (q ≡ p → ⊥) → at (placed t p c) q ≡ at t q
placed_elsewhere t p c q h = get_or-set_other t.controls p q c blank_control h

module _ (t : Table) (p : ℕ) (inside : p < length t.controls) (c : Control) where
  pub placed_here : at (placed t p c) p ≡ c
  placed_here = get_or-set_same t.controls p c blank_control inside

  module _ (h : Same c (at t p)) where
    pub placed_keeps : (q : ℕ) → Same (at (placed t p c) q) (at t q)
    placed_keeps q =
        ⊎_elim
        (λ (e : q ≡ p). rw (e, placed_here) h)
        (λ (e : q ≡ p → ⊥). rw (placed_elsewhere t p c q e) (same_self (at t q)))
        (decided (eqb q p) (reads_eq q p))

    pub placed_found : (u ch s : ℕ) → found_in (placed t p c) u ch s ≡ found_in t u ch s
    placed_found u ch s = kept_found t (placed t p c) refl placed_keeps u ch s
