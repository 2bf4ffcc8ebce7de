-- The controls of the bits before `bit` are noted, at most one for each.
use borrow.Author.Rules.{rules}
use Rattle.controls.proofs.Notes.add_mask.Invariants.{empty, start, room_next, on, over}
use Rattle.controls.proofs.Notes.add_mask.Goals as goal

ruleset laws = (empty, start, room_next, on, over, rules)

pub returns-then-word_at-eq0 : goal.returns-then-word_at-eq0
returns-then-word_at-eq0 c = search laws

pub loop-bit-init : goal.loop-bit-init
loop-bit-init c = search laws

pub loop-bit-preserved : goal.loop-bit-preserved
loop-bit-preserved c = search laws

pub returns : goal.returns
returns c = search laws
