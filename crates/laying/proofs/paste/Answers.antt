-- Three ways out: more bytes than the buffer has, no room from the place on, or they are put.
use borrow.Author.Rules.{rules}
use Rattle.laying.specs.LayingLaws.{paste_short, paste_behind, paste_done}
use Rattle.laying.proofs.paste.Goals as goal

ruleset laws = (paste_short, paste_behind, paste_done, rules)

pub returns-then-out-from : goal.returns-then-out-from
returns-then-out-from c = search laws

pub returns-then-out-from-2 : goal.returns-then-out-from-2
returns-then-out-from-2 c = search laws

pub returns : goal.returns
returns c = search laws
