use Rattle.request.proofs.Passing.{GetAsking, Writing}
use Rattle.request.proofs.get_all.Given as goal

abbrev pub invariant-loop-place : goal.invariant-loop-place
invariant-loop-place l = GetAsking l.state.table l.fn.sought l.part l.lacking l.unready l.size l.place-index

abbrev pub invariant-loop-place-2 : goal.invariant-loop-place-2
invariant-loop-place-2 l = Writing l.state.table l.fn.sought l.part l.bytes l.end l.initial.reply l.written l.reply l.place-index
