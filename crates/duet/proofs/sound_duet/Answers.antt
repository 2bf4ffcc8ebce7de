-- The left side's table, and the rest of the box.
use borrow.Author.Rules.{rules}
use mathlib.Core.Path.{◌≡◌, sym, ◌∙◌}
use mathlib.Core.Bool.{Bool, true, false}
use Rattle.sides.specs.declared.Side.TheVariants.{Left}
use Rattle.duet.specs.declared.Duet.{Duet}
use Rattle.duet.specs.Box.{sound_socket, sound_beside, sound_duet}
use Rattle.duet.specs.BoxLaws.{unsound_beside, sound_own}
use Rattle.duet.proofs.sound_duet.Goals as goal

module _ (b : Duet) (a : Bool) (h : a ≡ sound_beside b Left) where
  not_so : a ≡ false → a ≡ sound_duet b
  not_so t = t ∙ sym (unsound_beside b Left (sym h ∙ t))

  by_the_left : a ≡ true → (r : Bool) → r ≡ sound_socket b.left → r ≡ sound_duet b
  by_the_left t r e = e ∙ sym (sound_own b Left (sym h ∙ t))

ruleset laws = (not_so, by_the_left, rules)

pub returns-then-sound_beside : goal.returns-then-sound_beside
returns-then-sound_beside c = search laws

pub returns-else-sound_beside : goal.returns-else-sound_beside
returns-else-sound_beside c = search laws
