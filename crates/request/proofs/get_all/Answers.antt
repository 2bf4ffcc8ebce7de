-- The first pass asks all controls; past the refusals the second writes their bytes, up to the end.
use Rattle.std.proofs.Common.{rules}
use Rattle.request.proofs.Passing.{get_asking_start, get_asking_index, get_asking_scaled, get_asking_small, get_asking_on, writing_start, writing_long, writing_index, writing_scaled, writing_on, get_refused, get_sent}
use Rattle.request.proofs.get_all.Goals as goal

ruleset asks = (get_asking_start, get_asking_index, get_asking_scaled, get_asking_small, get_asking_on, rules)

ruleset writes = (writing_start, writing_long, writing_index, writing_scaled, writing_on, rules)

pub loop-place-init : goal.loop-place-init
loop-place-init c = get_asking_start _ _ _ c.requires (search rules)

pub bounds-table-place : goal.bounds-table-place
bounds-table-place c = search asks

pub overflow_add-size : goal.overflow_add-size
overflow_add-size c = search asks

pub loop-place-preserved : goal.loop-place-preserved
loop-place-preserved c = search asks

pub returns-in-Some : goal.returns-in-Some
returns-in-Some c = get_refused _ _ _ _ _ _ _ _ _ c.loop-place.invariant (search rules) _ _ c.sent_of-end.ensures
    c.get_number.ensures _ c.in-Some.is _ c.refused.ensures

pub loop-place-2-init : goal.loop-place-2-init
loop-place-2-init c = search writes

pub bounds-table-place-in-loop-place-2 : goal.bounds-table-place-in-loop-place-2
bounds-table-place-in-loop-place-2 c = search writes

pub loop-place-2-preserved : goal.loop-place-2-preserved
loop-place-2-preserved c = writing_on _ _ _ _ _ _ _ _ _ c.loop-place-2.invariant (search rules) _ c.size_of.ensures _ c.part_of-value.ensures _ _ c.write-written.ensures

pub returns : goal.returns
returns c = get_sent _ _ _ _ _ _ _ _ _ c.loop-place-2.invariant (search rules)
