-- By its three ways out: it names none, the ID is found, or it is not.
use borrow.Author.Rules.{rules}
use Prim.Native.Nat.{ℕ}
use mathlib.Core.Path.{◌≡◌, sym, ap, ◌∙◌}
use mathlib.Core.Bool.{Bool, true, false, not, ◌&&◌}
use mathlib.Core.List.{List}
use borrow.Author.Tests.{not-true, not-false}
use Rattle.std.specs.Prelude.{Option, Some, None}
use Rattle.layout3.specs.declared.Facts.{Facts}
use Rattle.buffer.specs.Reading.{found_cluster}
use Rattle.links3.specs.Links.{is_nowhere, unknown_by}
use Rattle.links3.proofs.is_unknown.Goals as goal

module _ (b : List ℕ) (g f : Facts) (e : f ≡ g) where
  names_none : not f.declares ≡ true → false ≡ unknown_by b g
  unfolding unknown_by
  names_none h = sym (ap (λ (x : Bool). x && is_nowhere (found_cluster b g.cluster)) (sym (ap (λ (x : Facts). x.declares) e) ∙ not-true f.declares h))

  module _ (h : not f.declares ≡ false) (r : Option ℕ) (q : r ≡ found_cluster b f.cluster) where
    asked : is_nowhere r ≡ unknown_by b g
    unfolding unknown_by
    asked =
        ap is_nowhere (q ∙ ap (λ (x : Facts). found_cluster b x.cluster) e)
        ∙ sym (ap (λ (x : Bool). x && is_nowhere (found_cluster b g.cluster)) (sym (ap (λ (x : Facts). x.declares) e) ∙ not-false f.declares h))

    found : (p : ℕ) → r ≡ Some p → false ≡ unknown_by b g
    unfolding is_nowhere
    found p z = sym (ap is_nowhere z) ∙ asked

    unknown : r ≡ None → true ≡ unknown_by b g
    unfolding is_nowhere
    unknown z = sym (ap is_nowhere z) ∙ asked

ruleset laws = (names_none, found, unknown, rules)

pub returns-then-not-said : goal.returns-then-not-said
returns-then-not-said c = search laws

pub returns-in-Some : goal.returns-in-Some
returns-in-Some c = search laws

pub returns-in-None : goal.returns-in-None
returns-in-None c = search laws
