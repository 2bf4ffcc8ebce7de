use Rattle.request.proofs.Passing.{SetAsking, Storing}
use Rattle.request.proofs.set_all.Given as goal

abbrev pub invariant-loop-place : goal.invariant-loop-place
invariant-loop-place l = SetAsking l.state.table l.fn.sought l.data l.table l.unready l.taken l.size l.place-index

abbrev pub invariant-loop-place-2 : goal.invariant-loop-place-2
invariant-loop-place-2 l = Storing l.state.table l.fn.sought l.bytes l.data l.table l.at l.place-index
