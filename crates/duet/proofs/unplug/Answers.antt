-- The ways of an unplugging.
use borrow.Author.Rules.{rules}
use Rattle.duet.proofs.Coming.{unplug_thirty, unplug_empty, unplug_done}
use Rattle.duet.proofs.unplug.Goals as goal

ruleset laws = (unplug_thirty, unplug_empty, unplug_done, rules)

pub returns-then-not-sound_duet : goal.returns-then-not-sound_duet
returns-then-not-sound_duet c = search laws

pub returns-then-not-socket_of : goal.returns-then-not-socket_of
returns-then-not-socket_of c = search laws

pub returns : goal.returns
returns c = search laws
