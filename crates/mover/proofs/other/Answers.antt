-- One law for each form.
use borrow.Author.Rules.{rules}
use mathlib.Core.Path.{◌≡◌, sym, ap}
use Rattle.legal.specs.declared.Form.{Form}
use Rattle.legal.specs.declared.Form.TheVariants.{Old, New}
use Rattle.mover.specs.Moving.{other_of}
use Rattle.mover.proofs.other.Goals as goal

module _ (f : Form) where
  to_old : f ≡ Old → New ≡ other_of f
  unfolding other_of
  to_old h = sym (ap other_of h)

  to_new : f ≡ New → Old ≡ other_of f
  unfolding other_of
  to_new h = sym (ap other_of h)

ruleset laws = (to_old, to_new, rules)

pub returns-in-Old : goal.returns-in-Old
returns-in-Old c = search laws

pub returns-in-New : goal.returns-in-New
returns-in-New c = search laws
