use borrow.Author.Rules.{rules}
use Rattle.groups.specs.Reading.{is_header}
use Rattle.groups.proofs.is_header.Goals as goal

pub returns-then-opens_header : goal.returns-then-opens_header
unfolding is_header
returns-then-opens_header c = search rules

pub returns-else-opens_header : goal.returns-else-opens_header
unfolding is_header
returns-else-opens_header c = search rules
