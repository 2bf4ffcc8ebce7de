-- What it is for two configurations to be refused alike, and for two tables of controls to answer alike.
--   AlikeRows t u     ==  two tables of refusals (crate ground) have the same numbers, and row by row the one's rule is kept exactly where the
--                         other's is; the places are left open
--   SameControls t u  ==  two tables of controls hold the same controls, in any order: as many, and each of the one in the other
--   SameState st su   ==  two states of the box with one AudioControl number and the same controls
use Rattle.std.specs.Prelude.{◌≡◌, ◌↔◌}
use Rattle.ground.specs.Rows.{Rows, end, row}
use Rattle.table.specs.declared.Control.{Control}
use Rattle.table.specs.declared.Table.{Table}
use Rattle.table.specs.Keys.{InTable}
use Rattle.request.specs.declared.State.{State}

abbrev pub AlikeRows : Rows → Rows → Type 0
AlikeRows end end = Unit {0}
AlikeRows end (row m L C after) = ⊥
AlikeRows (row n K B behind) end = ⊥
AlikeRows (row n K B behind) (row m L C after) = (n ≡ m) × (K ↔ L) × ((k : K) (l : L) → AlikeRows (behind k) (after l))

pub record SameControls (t u : Table) : Type 0 where
  pub count : t.count ≡ u.count
  pub each : (x : Control) → InTable t x ↔ InTable u x

pub record SameState (st su : State) : Type 0 where
  pub interface : st.control ≡ su.control
  pub controls : SameControls st.table su.table
