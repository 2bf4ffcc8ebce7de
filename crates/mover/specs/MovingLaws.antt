-- What a move is, exactly: how long the moved sheet is, and each number where the paper gives it.
--   reads_more, reads_loses  ==  what the tests of 43 decide
--   moved_short     ==  what is refused by neither 41 nor 42 is no longer than a sheet of the new form
--   short, moved_sheet  ==  a sheet of the new form is no longer than the longest; what 41 does not refuse is a sheet of it
use Rattle.std.specs.Prelude.{ℕ, ◌+◌, ◌≤◌, ◌≡◌, not, eqb}
use Rattle.std.proofs.Common.{sym, arith}
use mathlib.Core.List.{List}
use Rattle.std.proofs.Math.ListN.{length}
use Rattle.ground.specs.Pick.{Reads, reads_eq, reads_not, true≠false}
use Rattle.ground.specs.Numbers.{byte}
use Rattle.ground.specs.Places.{reads_somewhere}
use Rattle.legal.specs.declared.Form.{Form}
use Rattle.legal.specs.declared.Form.TheVariants.{Old, New}
use Rattle.legal.specs.Forms.{old_size, record_size_of, record_size_most}
use Rattle.legal.specs.Sheet.{most_sheet, count_in, record_at, SheetBy, number_by}
use Rattle.legal.specs.SheetLaws.{sheet_judged, sheet_given}
use Rattle.mover.specs.Moving.{other_of, more_bytes, HasMore, LosesTo, has_more, loses_more, loses_to}

pub reads_more : (a : List ℕ) → Reads (has_more a) (HasMore a)
unfolding has_more
reads_more a = reads_somewhere (λ n. not (eqb (byte a (old_size + n)) 0)) (λ n. byte a (old_size + n) ≡ 0 → ⊥) more_bytes (λ n l. reads_not _ (reads_eq (byte a (old_size + n)) 0))

pub reads_loses : (f : Form) (s : List ℕ) → Reads (loses_to f s) (LosesTo f s)
unfolding loses_to loses_more
reads_loses Old s = reads_somewhere (λ i. has_more (record_at s i)) (λ i. HasMore (record_at s i)) (count_in s) (λ i l. reads_more (record_at s i))
reads_loses New s = record { says = λ e. absurd (true≠false (sym e)); denies = λ e h. h }

module _ (f : Form) (s : List ℕ) where
  pub short : SheetBy (record_size_of (other_of f)) s → length s ≤ most_sheet
  short k = let h = k.short in let m = record_size_most (other_of f) in omega arith

  pub moved_sheet : number_by (record_size_of (other_of f)) s ≡ 0 → SheetBy (record_size_of (other_of f)) s
  moved_sheet e = sheet_given (record_size_of (other_of f)) s (sheet_judged (record_size_of (other_of f)) s) e

  pub moved_short : number_by (record_size_of (other_of f)) s ≡ 0 → length s ≤ most_sheet
  moved_short e = short (moved_sheet e)
