-- A table as it is made, before any load: each control as it is made (FreshAs of crate single), and "spare places .. are zero".
-- Refusal 30 has nothing against such a table.
--   Fresh t       ==  a table whose controls are as they are made, no more than 128 and none twice, and whose other places are spare
--   fresh_sound   ==  30 has nothing against it
--   fresh_empty   ==  the table with no control is one
use Rattle.std.specs.Prelude.{ℕ, ◌≤◌, ◌<◌, ◌≡◌, ltb, length, replicate}
use Rattle.std.proofs.Common.{⊎_elim, arith}
use Rattle.std.proofs.lemmas.List.{length-replicate, get_or-replicate}
use Rattle.std.proofs.Math.ListN.{get_or-eq_default}
use Rattle.ground.specs.Pick.{decided, reads_lt}
use Rattle.table.specs.declared.Table.{Table}
use Rattle.table.specs.Controls.{most_controls, blank_control, empty_table, at, sense_of}
use Rattle.table.specs.Same.{Same}
use Rattle.single.specs.FreshControl.{FreshAs, fresh_as}
use Rattle.sound.specs.Meaning.{Sound}

pub record Fresh (t : Table) : Type 0 where
  pub few : t.count ≤ most_controls
  pub once : (p q : ℕ) → p < q → q < t.count → Same (at t p) (at t q) → ⊥
  pub each : (p : ℕ) → p < t.count → FreshAs (sense_of (at t p).selector) (at t p)
  pub spare : (p : ℕ) → t.count ≤ p → at t p ≡ blank_control

pub fresh_sound : (t : Table) → Fresh t → Sound t
fresh_sound t h = record { few = h.few; once = h.once; each = λ p l. fresh_as (sense_of (at t p).selector) (at t p) (h.each p l) }

pub fresh_empty : Fresh empty_table
fresh_empty = record { few = omega arith; once = λ p q l m. absurd (omega arith); each = λ p l. absurd (omega arith); spare = λ p l. blank_at p }
  where
    blank_at : (p : ℕ) → at empty_table p ≡ blank_control
    blank_at p =
        ⊎_elim
        (λ (m : p < most_controls). get_or-replicate most_controls p blank_control blank_control m)
        (λ (n : p < most_controls → ⊥). let e = length-replicate most_controls blank_control in let l : length (replicate most_controls blank_control) ≤ p = omega arith in get_or-eq_default (replicate most_controls blank_control) blank_control l)
        (decided (ltb p most_controls) (reads_lt p most_controls))
