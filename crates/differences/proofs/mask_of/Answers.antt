-- The bits are put together from the last byte down; the mask in hand has those of the bytes from n on.
use borrow.Author.Rules.{rules}
use Rattle.differences.proofs.mask_of.Invariants.{start, over, doubled, fits, on}
use Rattle.differences.proofs.mask_of.Goals as goal

ruleset laws = (start, over, doubled, fits, on, rules)

pub loop-n-init : goal.loop-n-init
loop-n-init c = search laws

pub overflow_mul-mask : goal.overflow_mul-mask
overflow_mul-mask c = search laws

pub overflow_add-mask : goal.overflow_add-mask
overflow_add-mask c = search laws

pub loop-n-preserved : goal.loop-n-preserved
loop-n-preserved c = search laws

pub returns : goal.returns
returns c = search laws
