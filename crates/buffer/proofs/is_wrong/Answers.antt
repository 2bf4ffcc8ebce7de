-- By its three ways out: the ID is 0, its first bearer stands at a place, or none bears it.
use borrow.Author.Rules.{rules}
use Prim.Native.Nat.{ℕ}
use mathlib.Core.Path.{◌≡◌, sym, ap, ◌∙◌}
use mathlib.Core.Bool.{Bool, true, false, ◌||◌}
use mathlib.Core.List.{List}
use lib.Dec.{eqb, ltb}
use borrow.Author.Tests.{eq-eqb, ne_eqb}
use Rattle.std.specs.Prelude.{Option, Some, None}
use Rattle.ground.specs.First.{is_before}
use Rattle.buffer.specs.Clusters.{cluster_id}
use Rattle.buffer.specs.Reading.{found_cluster}
use Rattle.buffer.proofs.is_wrong.Goals as goal

module _ (s : List ℕ) (at : ℕ) (k : List ℕ) (n : ℕ) (e : n ≡ cluster_id k) where
  abbrev Asked : Bool
  Asked = eqb (cluster_id k) 0 || is_before (found_cluster s (cluster_id k)) at

  zero_id : n ≡ 0 → true ≡ Asked
  zero_id h = sym (ap (λ (b : Bool). b || is_before (found_cluster s (cluster_id k)) at) (eq-eqb (cluster_id k) 0 (sym e ∙ h)))

  module _ (h : n ≡ 0 → ⊥) (r : Option ℕ) (f : r ≡ found_cluster s n) where
    asked : is_before r at ≡ Asked
    asked =
        ap (λ (x : Option ℕ). is_before x at) (f ∙ ap (found_cluster s) e)
        ∙ sym (ap (λ (b : Bool). b || is_before (found_cluster s (cluster_id k)) at) (ne_eqb (cluster_id k) 0 (λ q. h (e ∙ q))))

    borne : (p : ℕ) → r ≡ Some p → ltb p at ≡ Asked
    unfolding is_before
    borne p q = sym (ap (λ (x : Option ℕ). is_before x at) q) ∙ asked

    unknown : r ≡ None → false ≡ Asked
    unfolding is_before
    unknown q = sym (ap (λ (x : Option ℕ). is_before x at) q) ∙ asked

ruleset laws = (zero_id, borne, unknown, rules)

pub returns-in-Some : goal.returns-in-Some
returns-in-Some c = search laws

pub returns-in-None : goal.returns-in-None
returns-in-None c = search laws
