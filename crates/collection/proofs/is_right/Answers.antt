-- By its three ways out: not distinct, some group not listed, or what is known decides.
use borrow.Author.Rules.{rules}
use borrow.Author.Tests.{not-true, not-false}
use Prim.Native.Nat.{ℕ}
use mathlib.Core.Path.{◌≡◌, refl, sym, ap, ◌∙◌}
use mathlib.Core.Bool.{Bool, true, false, not, ◌&&◌}
use mathlib.Core.List.{List, [], ◌∷◌}
use lib.ListN.{get_or}
use Rattle.std.specs.List.{list_all}
use Rattle.ground.specs.Lists.{any}
use Rattle.scan.specs.Cutting.{rest}
use Rattle.collection.specs.Reading.{is_distinct, all_known, unlisted, collects}
use Rattle.collection.specs.Marks.{all_marked, Listed, Members, listed_same, known_same}
use Rattle.collection.proofs.is_right.Goals as goal

-- the library's word for "each number is marked" is that of specs/Marks
all_marked_is : (marks : List Bool) (l : List ℕ) → list_all (λ k. get_or marks k false) l ≡ all_marked marks l
unfolding all_marked
all_marked_is marks [] = refl
all_marked_is marks (k ∷ l) = ap (λ (b : Bool). get_or marks k false && b) (all_marked_is marks l)

module _ (s l : List ℕ) (marks : List Bool) (a : Bool) (e : Listed l marks a) where
  twice : not a ≡ true → false ≡ collects s l
  unfolding collects
  twice h = simp (sym e.distinct ∙ not-true a h)

  module _ (h : not a ≡ false) (known : List Bool) (b : Bool) (m : Members (rest s 0) marks known b) where
    unlisted_as : b ≡ any (unlisted l) (rest s 0)
    unlisted_as = m.told ∙ listed_same l marks (e.marked (not-false a h)) (rest s 0)

    some_unlisted : b ≡ true → false ≡ collects s l
    unfolding collects
    some_unlisted k = rw (sym unlisted_as ∙ k) (none (is_distinct l) (all_known (rest s 0) l))
      where
        none : (x y : Bool) → false ≡ (x && (y && false))
        none true true = refl
        none true false = refl
        none false y = refl

    by_known : b ≡ false → (r : Bool) → r ≡ list_all (λ k. get_or known k false) l → r ≡ collects s l
    unfolding collects
    by_known k r q = q ∙ all_marked_is known l ∙ known_same (rest s 0) known (m.marked k) l ∙ rw (sym e.distinct ∙ not-false a h, sym unlisted_as ∙ k) (all (all_known (rest s 0) l))
      where
        all : (x : Bool) → x ≡ (x && true)
        all true = refl
        all false = refl

ruleset laws = (twice, some_unlisted, by_known, rules)

pub returns-then-not-mark_listed : goal.returns-then-not-mark_listed
returns-then-not-mark_listed c = search laws

pub returns-then-any_unlisted : goal.returns-then-any_unlisted
returns-then-any_unlisted c = search laws

pub returns : goal.returns
returns c = search laws
