-- The two forms of a sheet's records (document 02, No. 7): "The new record is 32 bytes: the first eight as before, then twenty-four source IDs."
--   old_size        ==  the bytes of a record before: 16
--   old_numbers    ==  "length over 512 or not a multiple of 16" (No. 4): so it is of the old form
--   record_size_of f ==  the bytes of a record of the form f
--   record_size_some, record_size_most  ==  there are some, and no more than the new form has
use Rattle.std.specs.Prelude.{ℕ, ◌≤◌, ◌<◌, ◌≡◌, refl}
use Rattle.std.proofs.Common.{arith}
use Rattle.records.specs.Records.{record_size}
use Rattle.legal.specs.Sheet.{most_by}
use Rattle.legal.specs.declared.Form.{Form}
use Rattle.legal.specs.declared.Form.TheVariants.{Old, New}

abbrev pub old_size : ℕ
old_size = 16

pub old_numbers : (most_by old_size ≡ 512) × (old_size ≡ 16)
old_numbers = (refl, refl)

unfoldable pub record_size_of : Form → ℕ
record_size_of Old = old_size
record_size_of New = record_size

pub record_size_some : (f : Form) → 0 < record_size_of f
unfolding record_size_of
record_size_some Old = omega arith
record_size_some New = omega arith

pub record_size_most : (f : Form) → record_size_of f ≤ record_size
unfolding record_size_of
record_size_most Old = omega arith
record_size_most New = omega arith
