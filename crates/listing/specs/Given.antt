-- The controls that a put step gives.
--   control_of g  ==  the control that thirteen bytes give: which it is, a Selector's pins, whether it is loaded, and its numbers
--   filled g n    ==  the table whose first n places hold the controls that the bytes g give, thirteen bytes each, with zeros in all else
use Rattle.std.specs.Prelude.{ℕ, zero, suc, ◌+◌, ◌*◌, List, eqb, not}
use Rattle.ground.specs.Numbers.{byte, word}
use Rattle.ground.specs.Lists.{part}
use Rattle.table.specs.declared.Control.{Control}
use Rattle.table.specs.declared.Table.{Table}
use Rattle.table.specs.Controls.{empty_table, placed}

unfoldable pub control_of : List ℕ → Control
control_of g =
    record {
      unit = byte g 0;
      channel = byte g 1;
      selector = byte g 2;
      pins = byte g 3;
      loaded = not (eqb (byte g 4) 0);
      min = word g 5;
      max = word g 7;
      res = word g 9;
      cur = word g 11;
    }

unfoldable pub filled : List ℕ → ℕ → Table
filled g zero = empty_table
filled g (suc n) = placed (filled g n) n (control_of (part g (n * 13) (n * 13 + 13)))
