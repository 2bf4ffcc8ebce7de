-- The first i places hold the controls of the first i notes, and spare ones stand behind them.
use native.Mathlib.Omega.{arith}
use borrow.Author.Rules.{rules}
use Rattle.controls.proofs.Notes.table.Invariants.{start, all, on}
use Rattle.controls.proofs.Notes.table.Goals as goal

ruleset laws = (start, all, on, rules)

pub loop-i-init : goal.loop-i-init
loop-i-init c = search laws

pub loop-i-preserved : goal.loop-i-preserved
loop-i-preserved c =
    on c.args.self.now.notes c.args.self.now.count c.loop-i.controls c.loop-i.i c.loop-i.invariant c.control_from.result (omega arith) (omega arith) c.control_from.ensures

pub returns : goal.returns
returns c = search laws
