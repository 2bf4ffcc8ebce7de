-- The first pass asks all controls; past the refusals the second stores what each becomes.
use Rattle.std.proofs.Common.{rules}
use Rattle.request.proofs.Passing.{set_asking_start, set_asking_index, set_asking_scaled, set_asking_small, set_asking_on, storing_start, storing_index, storing_scaled, storing_small, storing_on, set_refused, set_stored}
use Rattle.request.proofs.set_all.Goals as goal

ruleset asks = (set_asking_start, set_asking_index, set_asking_scaled, set_asking_small, set_asking_on, rules)

ruleset stores = (storing_start, storing_index, storing_scaled, storing_small, storing_on, set_stored, rules)

pub loop-place-init : goal.loop-place-init
loop-place-init c = set_asking_start _ _ _ c.requires (search rules)

pub bounds-table-place : goal.bounds-table-place
bounds-table-place c = search asks

pub overflow_add-size : goal.overflow_add-size
overflow_add-size c = search asks

pub loop-place-preserved : goal.loop-place-preserved
loop-place-preserved c = search asks

pub returns-in-Some : goal.returns-in-Some
returns-in-Some c = set_refused _ _ _ _ _ _ _ _ _ c.loop-place.invariant (search rules) _ c.set_number-denied.ensures _ c.in-Some.is _ c.refused.ensures

pub loop-place-2-init : goal.loop-place-2-init
loop-place-2-init c = search stores

pub bounds-table-place-in-loop-place-2 : goal.bounds-table-place-in-loop-place-2
bounds-table-place-in-loop-place-2 c = search stores

pub bounds-table-place-in-loop-place-2-2 : goal.bounds-table-place-in-loop-place-2-2
bounds-table-place-in-loop-place-2-2 c = search stores

pub overflow_add-at : goal.overflow_add-at
overflow_add-at c = search stores

pub loop-place-2-preserved : goal.loop-place-2-preserved
loop-place-2-preserved c = search stores

pub returns : goal.returns
returns c = search stores
