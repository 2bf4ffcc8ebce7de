-- The ID's place holds what bore it already, or the Terminal.
use borrow.Author.Rules.{rules}
use Rattle.terminals.specs.Table.{entered_at}
use Rattle.terminals.proofs.enter.Goals as goal

pub returns : goal.returns
returns c = search (entered_at, rules)
