-- One law for each form.
use borrow.Author.Rules.{rules}
use Prim.Native.Nat.{ℕ}
use mathlib.Core.Path.{◌≡◌, sym, ap, ◌∙◌}
use mathlib.Core.Bool.{Bool, false}
use mathlib.Core.List.{List}
use Rattle.legal.specs.declared.Form.{Form}
use Rattle.legal.specs.declared.Form.TheVariants.{Old, New}
use Rattle.mover.specs.Moving.{loses_more, loses_to}
use Rattle.mover.proofs.loses.Goals as goal

module _ (f : Form) (s : List ℕ) where
  to_old : f ≡ Old → (b : Bool) → b ≡ loses_more s → b ≡ loses_to f s
  unfolding loses_to
  to_old h b e = e ∙ sym (ap (λ (g : Form). loses_to g s) h)

  to_new : f ≡ New → false ≡ loses_to f s
  unfolding loses_to
  to_new h = sym (ap (λ (g : Form). loses_to g s) h)

ruleset laws = (to_old, to_new, rules)

pub returns-in-Old : goal.returns-in-Old
returns-in-Old c = search laws

pub returns-in-New : goal.returns-in-New
returns-in-New c = search laws
