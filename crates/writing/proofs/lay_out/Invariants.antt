use Rattle.writing.specs.Writing.{list_of, descriptors_of}
use Rattle.writing.specs.LaidLaws.{Laying}
use Rattle.writing.proofs.lay_out.Given as goal

abbrev pub invariant-loop-i : goal.invariant-loop-i
invariant-loop-i l = Laying (descriptors_of (list_of l.varying l.fn.list)) l.run l.at l.i
