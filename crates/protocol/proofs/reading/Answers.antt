-- The reading is its six fields, the table being the empty one.
use borrow.Author.Rules.{rules}
use mathlib.Core.Path.{◌≡◌, refl}
use Rattle.table.specs.declared.Table.{Table}
use Rattle.table.specs.Controls.{empty_table}
use Rattle.third.specs.declared.SheetAnswer.{SheetAnswer}
use Rattle.protocol.specs.Protocol.{sheet_reading}
use Rattle.protocol.proofs.reading.Goals as goal

made : (a : SheetAnswer) (t : Table) → t ≡ empty_table → record { number = a.number; place = a.place; control = 0; entities = a.entities; controls = 0; table = t } ≡ sheet_reading a
unfolding sheet_reading
made a t e = rw e refl

ruleset laws = (made, rules)

pub returns : goal.returns
returns c = search laws
