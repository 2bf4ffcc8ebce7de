-- A loop over the first n controls of a table, as a slice.
--   looked_inside  ==  an index that the loop comes to is below n
--   looked_at      ==  the element that it sees is what stands there in the table
--   looked_all     ==  an index behind all elements is n at least, where the table has room for n controls
use Rattle.std.specs.Prelude.{ℕ, ◌≤◌, ◌<◌, ◌≡◌, length, take, slice_index_or}
use Rattle.std.proofs.Common.{arith, length-take, get_or-take}
use Rattle.table.specs.declared.Table.{Table}
use Rattle.table.specs.Controls.{most_controls, blank_control, at}

module _ (t : Table) (n i : ℕ) where
  pub looked_all : length t.controls ≡ most_controls → n ≤ most_controls → length (take n t.controls) ≤ i → n ≤ i
  looked_all e few h = let l = length-take n t.controls in omega arith

  module _ (h : i < length (take n t.controls)) where
    pub looked_inside : i < n
    looked_inside = let l = length-take n t.controls in omega arith

    pub looked_at : slice_index_or (take n t.controls) i blank_control ≡ at t i
    looked_at = get_or-take n t.controls i blank_control looked_inside
