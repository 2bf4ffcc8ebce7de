use Rattle.std.specs.Prelude.{ℕ, Bool}
use Rattle.ground.specs.Places.{Come}
use Rattle.table.specs.declared.Table.{Table}
use Rattle.table.specs.First.Seat.{absent, seat}
use Rattle.table.specs.Controls.{at, answers_to}
use Rattle.table.specs.First.{places}
use Rattle.table.proofs.find.Given as goal

module _ (t : Table) (u ch s : ℕ) where
  abbrev pub wanted : ℕ → Bool
  wanted p = answers_to u ch s (at t p)

  abbrev pub Here : ℕ → Type 0
  Here = Come wanted seat absent (places t)

abbrev pub invariant-loop-index : goal.invariant-loop-index
invariant-loop-index l = Here l.fn.table l.unit l.channel l.selector l.index
