use Rattle.sound.specs.Rising.{KeysKept}
use Rattle.sound.proofs.sound_any_order.Given as goal

abbrev pub invariant-loop-index : goal.invariant-loop-index
invariant-loop-index l = KeysKept l.fn.table l.keys l.index
