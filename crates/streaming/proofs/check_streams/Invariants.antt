use lib.ListN.{length}
use Rattle.terminals.specs.Table.{Filling}
use Rattle.streaming.proofs.check_streams.Given as goal

abbrev pub invariant-loop-node : goal.invariant-loop-node
invariant-loop-node l = Filling l.config l.fn.run l.fn.clusters l.table (length l.yielded)
