-- Where a control stands in a table.
--   Seat                ==  where a control stands in a table: absent, or its index
--   places t            ==  the indices below it hold a control: as many as the table counts, and no more than 128
--   found_in t u ch s    ==  where the control of unit u, channel ch and selector s first stands
--   entry_at t x, entry_in t u ch s  ==  the same with the control that stands there
--   entry_number e       ==  the paper's number for each case: 20 "no such ranged control" where there is none, 0 where it stands
--   found_first, none_found  ==  a search that answers an index has its first there; one that answers none has none
use Rattle.std.specs.Prelude.{ℕ, ◌<◌, min, ◌≡◌, Bool, false, Option, None, Some}
use Rattle.std.proofs.Common.{subst, arith}
use Rattle.ground.specs.Places.{first_in, FirstAt, Finding, nothing, first, finding}
use Rattle.table.specs.declared.Table.{Table}
use Rattle.table.specs.declared.Control.{Control}
use Rattle.table.specs.Controls.{most_controls, at, answers_to}

pub data Seat : Type 0 where
  absent : Seat
  seat : ℕ → Seat

abbrev pub places : Table → ℕ
places t = min t.count most_controls

unfoldable pub found_in : Table → ℕ → ℕ → ℕ → Seat
found_in t u ch s = first_in (λ p. answers_to u ch s (at t p)) seat absent 0 (places t)

abbrev pub entry_at : Table → Seat → Option (ℕ × Control)
entry_at t absent = None
entry_at t (seat p) = Some (p, at t p)

abbrev pub entry_in : Table → ℕ → ℕ → ℕ → Option (ℕ × Control)
entry_in t u ch s = entry_at t (found_in t u ch s)

abbrev pub entry_number : Option (ℕ × Control) → ℕ
entry_number None = 20
entry_number (Some found) = 0

-- what the two answers say of the test
module _ (t : ℕ → Bool) (n : ℕ) where
  pub found_first : (p : ℕ) → first_in t seat absent 0 n ≡ seat p → FirstAt t n p
  found_first p = go (finding t seat absent n)
    where
      go : {r : Seat} → Finding t seat absent n r → r ≡ seat p → FirstAt t n p
      go (nothing h) e = absurd (let z : ◌≡◌ {A = ℕ} 0 1 = cc in omega arith)
      go (first {i} f) e = subst (FirstAt t n) (let q : i ≡ p = cc in q) f

  pub none_found : first_in t seat absent 0 n ≡ absent → (j : ℕ) → j < n → t j ≡ false
  none_found = go (finding t seat absent n)
    where
      go : {r : Seat} → Finding t seat absent n r → r ≡ absent → (j : ℕ) → j < n → t j ≡ false
      go (nothing h) e = h
      go (first f) e = absurd (let z : ◌≡◌ {A = ℕ} 0 1 = cc in omega arith)
