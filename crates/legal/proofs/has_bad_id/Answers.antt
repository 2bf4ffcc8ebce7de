-- A search for the first record whose ID is zero or an earlier record's, by the laws of such a search over any IDs.
use borrow.Author.Rules.{rules}
use Rattle.legal.proofs.has_bad_id.Invariants.{start, over, inside, place_fits, zero_id, twice, on}
use Rattle.legal.proofs.has_bad_id.Goals.{then-id-eq0-via-then-id-eq0, then-id-eq0-via-else-id-eq0+then-borne-id}
use Rattle.legal.proofs.has_bad_id.Goals as goal

ruleset laws = (start, over, inside, place_fits, zero_id, twice, on, rules)

pub loop-i-init : goal.loop-i-init
loop-i-init c = search laws

pub returns-then-id-eq0 : goal.returns-then-id-eq0
returns-then-id-eq0 c =
    elim c.then-id-eq0.branch [ then-id-eq0-via-then-id-eq0 w ↦ search laws | then-id-eq0-via-else-id-eq0+then-borne-id w ↦ search laws ]

pub loop-i-preserved : goal.loop-i-preserved
loop-i-preserved c = search laws

pub returns : goal.returns
returns c = search laws
