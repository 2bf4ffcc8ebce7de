-- "16 apart" (document 02, Nos. 8 and 11): with a whole sheet lent the reader never gives 16.
--   Never m p t    ==  no row of the table t gives the number m at the place p; never_first: so it is not the first
--   never_sixteen  ==  THE LAW
use Prim.Native.Nat.{ℕ}
use mathlib.Core.Path.{◌≡◌}
use mathlib.Core.List.{List}
use mathlib.Core.Logic.{inl, inr}
use native.Mathlib.Omega.{arith}
use Rattle.ground.specs.Rows.{Rows, end, row, FirstBroken}
use Rattle.records.specs.Sheet.{whole_sheet}
use Rattle.reader.specs.Refusals.{table_of_rows, Refused}

Never : ℕ → ℕ → Rows → Type 0
Never m p end = Unit {0}
Never m p (row n K B behind) = (m ≡ n → B p → ⊥) × ((k : K) → Never m p (behind k))

never_first : (m p : ℕ) (t : Rows) → Never m p t → FirstBroken t m p → ⊥
unfolding Never
never_first m p end n f = f
never_first m p (row i K B behind) n (inl (e, b)) = n.0 e b
never_first m p (row i K B behind) n (inr (k, f)) = never_first m p (behind k) (n.1 k) f

-- of the rows only the last has the number 16, and it is kept with a whole sheet, by row 8
never_refused : (s : List ℕ) (p : ℕ) → Never 16 p (table_of_rows s whole_sheet)
unfolding Never
never_refused s p = (λ x y. omega arith, λ r1. (λ x y. omega arith, λ r2. (λ x y. omega arith, λ r3. (λ x y. omega arith, λ r4. (λ x y. omega arith, λ r5. (λ x y. omega arith, λ r6. (λ x y. omega arith, λ r7. (λ x y. omega arith, λ h. (λ x y. omega arith, λ r9. (λ x y. omega arith, λ r17. (λ x y. omega arith, λ r10. (λ x y. omega arith, λ r11. (λ x y. omega arith, λ r12. (λ x y. omega arith, λ r13. (λ x y. omega arith, λ r14. (λ x y. omega arith, λ r15. (λ x y. y.1 (let few = h.1 in omega arith), λ z. tt)))))))))))))))))

pub never_sixteen : (s : List ℕ) (p : ℕ) → Refused s whole_sheet 16 p → ⊥
never_sixteen s p = never_first 16 p (table_of_rows s whole_sheet) (never_refused s p)
