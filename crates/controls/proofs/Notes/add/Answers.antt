-- The note goes to the next place; past the last place nothing is kept of it.
use borrow.Author.Rules.{rules}
use Prim.Native.Nat.{ℕ, ◌+◌, ◌≤◌}
use mathlib.Core.Path.{◌≡◌}
use mathlib.Core.List.{List}
use native.Mathlib.Omega.{arith}
use Rattle.table.specs.Controls.{most_controls}
use Rattle.masks.specs.Notes.{control_from}
use Rattle.controls.specs.Growth.{added}
use Rattle.controls.specs.Told.{table_by, Room, notes_added, notes_full}
use Rattle.controls.proofs.Notes.add.Goals as goal

full : (l : List ℕ) (n x : ℕ) → Room (table_by l n) 1000000 → most_controls ≤ n → table_by l (n + 1) ≡ added (table_by l n) (control_from x)
full l n x r h = notes_full l n x (let p = r.places in omega arith)

ruleset laws = (full, notes_added, rules)

pub returns : goal.returns
returns c = search laws
