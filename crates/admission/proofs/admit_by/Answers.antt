-- The ways of an admission.
use borrow.Author.Rules.{rules}
use Rattle.admission.proofs.Admitting.{away, settled, sheet_holds, draft_holds}
use Rattle.admission.proofs.admit_by.Goals as goal

ruleset laws = (away, settled, sheet_holds, draft_holds, rules)

pub returns-then-refusal-ne0 : goal.returns-then-refusal-ne0
returns-then-refusal-ne0 c = search laws

pub copy_records-requires-clause-record_size_in_bounds : goal.copy_records-requires-clause-record_size_in_bounds
copy_records-requires-clause-record_size_in_bounds c = search laws

pub copy_records-requires-clause-record_size_in_bounds_2 : goal.copy_records-requires-clause-record_size_in_bounds_2
copy_records-requires-clause-record_size_in_bounds_2 c = search laws

pub returns : goal.returns
returns c = search laws
