-- Rule 15. Document 01, refusal 15: "more than 128 controls". Counted are the controls that stand, whoever lists them.
--   Rule15 ds cluster  ==  some list of at most 128 has every control that stands
--   pairs_fit        ==  a list whose elements are apart, each an element of another list, is no longer than that one
--   before_other     ==  of two controls the one that is Before the other is another
--   controls_apart   ==  no control stands twice in the reader's list, where the entities have distinct IDs
--   listed_few       ==  so the rule is kept exactly where that list has at most 128
--   rule15_kept      ==  the reader answers nowhere exactly where the rule is kept
--   rule15_broken    ==  it answers the header's place exactly where it is broken
use Rattle.std.specs.Prelude.{ℕ, suc, ◌+◌, ◌≤◌, ◌≡◌, refl, ◌↔◌, length, Some, None}
use Rattle.std.proofs.Common.{zero-le, sym, ap, ◌∙◌, subst, inl, inr, ⊎_elim, arith, length-append}
use mathlib.Core.List.Memᴰ
use mathlib.Core.List.{List, ◌∷◌, ◌++◌, Memᴰ}
use Rattle.ground.specs.Pick.{reads_same, reads_le}
use Rattle.graph.specs.Members.{◌∈◌}
use Rattle.ground.specs.Lists.{split_of}
use Rattle.ground.specs.Refuse.{kept_nowhere, kept_at_lem}
use Rattle.layout.specs.declared.Cluster.{Cluster}
use Rattle.layout.specs.Layout.{LaidOut}
use Rattle.edition.specs.Edition.{DistinctIds}
use Rattle.table.specs.declared.Control.{Control}
use Rattle.table.specs.Controls.{most_controls}
use Rattle.table.specs.Same.{Same}
use Rattle.masks.specs.Order.{Pairs, none, more, pairs_as}
use Rattle.controls.specs.Controls.{controls_of, breach15}
use Rattle.controls.specs.Growth.{table_of}
use Rattle.controls.specs.Standing.{Stands, stands_of, control_stands}
use Rattle.controls.specs.Order.{Before, controls_ordered}

pub record Rule15 (ds : List (List ℕ)) (cluster : ℕ → Cluster) : Type 0 where
  pub listed : List Control
  pub few : length listed ≤ most_controls
  pub every : (x : Control) → Stands ds cluster x → x ∈ listed

pub pairs_fit : {A : Type 0} {l : List A} (m : List A) → Pairs (λ a b. a ≡ b → ⊥) l
    → ((a : A) → Memᴰ a l → Memᴰ a m) → length l ≤ length m
pairs_fit m none h = zero-le
pairs_fit {A} m (more {a} {l} apart p) h =
    let n : length m ≡ length k.0 + suc (length k.1) = ap length k.2 ∙ length-append k.0 (a ∷ k.1) in
    let e = length-append k.0 k.1 in
    let i = pairs_fit (k.0 ++ k.1) p (λ b j. other b (apart b j) (subst (Memᴰ b) k.2 (h b (Memᴰ.tail j)))) in
    omega arith
  where
    k : (x : List A) × (y : List A) × (m ≡ x ++ a ∷ y)
    k = split_of (h a (Memᴰ.head refl))

    -- an element that is not a stands elsewhere
    other : (b : A) → (a ≡ b → ⊥) → Memᴰ b (k.0 ++ a ∷ k.1) → Memᴰ b (k.0 ++ k.1)
    other b n j =
        ⊎_elim
        (λ i. Memᴰ.append_left k.1 i)
        (λ i. ⊎_elim (λ e. absurd (n (sym e))) (λ r. Memᴰ.append_right k.0 r) (Memᴰ.cases_cons i))
        (Memᴰ.append_cases k.0 j)

pub before_other : (ds : List (List ℕ)) → DistinctIds ds → (a b : Control) → Before ds a b → Same a b → ⊥
before_other ds h a b (inl e) s = h e.before e.one e.behind e.other e.split e.among (e.first ∙ s.unit ∙ sym e.second)
before_other ds h a b (inr (u, inl l)) s = let c = s.channel in omega arith
before_other ds h a b (inr (u, inr (k, l))) s = let c = s.selector in omega arith

module _ (ds : List (List ℕ)) (cluster : ℕ → Cluster) (laid : (d : List ℕ) → d ∈ ds → LaidOut d) (distinct : DistinctIds ds) where
  pub controls_apart : Pairs (λ a b. a ≡ b → ⊥) (controls_of ds cluster)
  controls_apart =
      pairs_as (λ a. Control) (Before ds) (λ a b. a ≡ b → ⊥)
      (λ a b p q l e. before_other ds distinct a b l (record { unit = ap (λ (x : Control). x.unit) e; channel = ap (λ (x : Control). x.channel) e; selector = ap (λ (x : Control). x.selector) e }))
      (λ a m. a) (controls_ordered cluster ds)

  pub listed_few : (length (controls_of ds cluster) ≤ most_controls) ↔ Rule15 ds cluster
  listed_few = (
    λ h. record { listed = controls_of ds cluster; few = h; every = λ x. (control_stands cluster ds laid x).1 },
    λ r. let h = pairs_fit r.listed controls_apart (λ x m. r.every x (stands_of cluster ds x m)) in let f = r.few in omega arith,
  )

  module _ (p : ℕ) where
    pub rule15_kept : (breach15 (table_of (controls_of ds cluster)).count p ≡ None) ↔ Rule15 ds cluster
    unfolding breach15 table_of
    rule15_kept = kept_nowhere p (reads_same (reads_le (length (controls_of ds cluster)) most_controls) listed_few.0 listed_few.1)

    pub rule15_broken : (q : ℕ) → (breach15 (table_of (controls_of ds cluster)).count p ≡ Some q) ↔ ((q ≡ p) × (Rule15 ds cluster → ⊥))
    unfolding breach15 table_of
    rule15_broken q = kept_at_lem p q (reads_same (reads_le (length (controls_of ds cluster)) most_controls) listed_few.0 listed_few.1)
