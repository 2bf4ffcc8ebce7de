-- What a read brings stands behind what was read before it.
use Rattle.std.proofs.Common.{rules, sym, subst}
use Rattle.std.specs.Io.KnownBytes.{Consumes}
use Rattle.std.proofs.KnownBytes.{Consumes-trans}
use Rattle.fill.proofs.Grown.{front_grows}
use Rattle.fill.proofs.read_full.Goals as goal

pub loop-done-preserved : goal.loop-done-preserved
loop-done-preserved g c =
    let before = c.loop-done.invariant in
    let read = c.read_more-more.ensures in (
      search rules,
      subst (Consumes _ _) (sym (front_grows _ _ _ _ before.0 read.within))
          (Consumes-trans _ _ _ _ _ before.1 read.taken),
    )
