-- How many lines of controls are shown of a table.
--   lines_of t  ==  as many as it counts; none where that is over 128
use Rattle.std.specs.Prelude.{ℕ, leb}
use Rattle.ground.specs.Pick.{pick}
use Rattle.table.specs.declared.Table.{Table}
use Rattle.table.specs.Controls.{most_controls}

unfoldable pub lines_of : Table → ℕ
lines_of t = pick (leb t.count most_controls) t.count 0
