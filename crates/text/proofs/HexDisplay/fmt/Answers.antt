use Rattle.std.proofs.Common.{arith}
use Rattle.std.proofs.Output.{has_written_of_eq}
use Rattle.text.specs.Hex.{hex_pair}
use Rattle.text.proofs.Printed.{shown_pair}
use Rattle.text.proofs.HexDisplay.fmt.Goals as goal

pub returns-clause-writes : goal.returns-clause-writes
unfolding hex_pair
returns-clause-writes g c = λ plain ok.
    has_written_of_eq _ _ _ _ _
    (rw (c.from.ensures, c.from-2.ensures, c.hex_pair.ensures) (shown_pair c.args.self.now.0 (omega arith)))
    (c.write.ensures.writes plain ok)
