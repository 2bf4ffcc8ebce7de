-- The reading is its six fields, the table being the empty one.
use borrow.Author.Rules.{rules}
use mathlib.Core.Path.{◌≡◌, refl}
use Rattle.ground.specs.declared.Refusal.{Refusal}
use Rattle.table.specs.declared.Table.{Table}
use Rattle.table.specs.Controls.{empty_table}
use Rattle.topology.specs.Reading.{refused_reading}
use Rattle.topology.proofs.refused.Goals as goal

made : (r : Refusal) (t : Table) → t ≡ empty_table → record { number = r.number; place = r.place; control = 0; entities = 0; controls = 0; table = t } ≡ refused_reading r
unfolding refused_reading
made r t e = rw e refl

ruleset laws = (made, rules)

pub returns : goal.returns
returns c = search laws
