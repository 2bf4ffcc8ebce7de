use borrow.Author.Rules.{rules}
use Rattle.groups.specs.Third.{is_third_header}
use Rattle.groups.proofs.is_third_header.Goals as goal
use Rattle.groups.proofs.is_third_header.Goals.{then-h-eq10, else-h-eq10}

pub returns-then-byte_at-eq36 : goal.returns-then-byte_at-eq36
unfolding is_third_header
returns-then-byte_at-eq36 c = elim c.if-h-eq10.branch [ then-h-eq10 w ↦ search (w, rules) | else-h-eq10 w ↦ search (w, rules) ]

pub returns-else-byte_at-eq36 : goal.returns-else-byte_at-eq36
unfolding is_third_header
returns-else-byte_at-eq36 c = elim c.if-h-eq10.branch [ then-h-eq10 w ↦ search (w, rules) | else-h-eq10 w ↦ search (w, rules) ]
