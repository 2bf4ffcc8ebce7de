-- The other descriptors of a group, told from what follows its interface descriptor.
--   members_of tail ==  the descriptors of tail up to the next interface descriptor
--   after_of tail   ==  the others
--   members_split, members_inside, after_ends, members_one  ==  they are the group's, and no others are
--   class_inside   ==  a type 24 descriptor is no interface descriptor
--   reads_held     ==  holds_class decides that one of them is of type 24
use Rattle.std.specs.Prelude.{ℕ, ◌≡◌, refl, Bool, true, false, not, ◌&&◌, ◌||◌}
use Rattle.std.proofs.Common.{sym, ap, ◌∙◌, ⊎_elim, arith}
use mathlib.Core.List.Memᴰ
use mathlib.Core.List.{List, [], ◌∷◌, ◌++◌, Memᴰ}
use Rattle.ground.specs.Pick.{pick, yes, no, Reads, shows, refutes, true≠false}
use Rattle.ground.specs.Lists.{SomeOf}
use Rattle.search.specs.Want.{Interface, Class, is_interface, is_class, reads_interface, reads_class}
use Rattle.groups.specs.Rules5and6.{GroupEnds, last, next}
use Rattle.streaming.specs.Tests.{holds_class}

unfoldable pub members_of : List (List ℕ) → List (List ℕ)
members_of [] = []
members_of (d ∷ ds) = pick (is_interface d) [] (d ∷ members_of ds)

unfoldable pub after_of : List (List ℕ) → List (List ℕ)
after_of [] = []
after_of (d ∷ ds) = pick (is_interface d) (d ∷ ds) (after_of ds)

pub members_split : (ds : List (List ℕ)) → ds ≡ members_of ds ++ after_of ds
unfolding members_of after_of
members_split [] = refl
members_split (d ∷ ds) = go (is_interface d) (members_split ds)
  where
    go : (b : Bool) → ds ≡ members_of ds ++ after_of ds → d ∷ ds ≡ pick b [] (d ∷ members_of ds) ++ pick b (d ∷ ds) (after_of ds)
    go true ih = refl
    go false ih = ap (λ (l : List (List ℕ)). d ∷ l) ih

pub members_inside : (ds : List (List ℕ)) (d : List ℕ) → Memᴰ d (members_of ds) → Interface d → ⊥
unfolding members_of
members_inside [] d m = absurd (Memᴰ.not-nil m)
members_inside (e ∷ ds) d m = go (is_interface e) (reads_interface e) (members_inside ds d) m
  where
    go : (b : Bool) → Reads b (Interface e) → (Memᴰ d (members_of ds) → Interface d → ⊥) → Memᴰ d (pick b [] (e ∷ members_of ds))
        → Interface d → ⊥
    go true r ih m i = Memᴰ.not-nil m
    go false r ih m i = ⊎_elim (λ (q : d ≡ e). r.denies refl (rw q at i)) (λ k. ih k i) (Memᴰ.cases_cons m)

pub after_ends : (ds : List (List ℕ)) → GroupEnds (after_of ds)
unfolding after_of
after_ends [] = last
after_ends (d ∷ ds) = go (is_interface d) (reads_interface d) (after_ends ds)
  where
    go : (b : Bool) → Reads b (Interface d) → GroupEnds (after_of ds) → GroupEnds (pick b (d ∷ ds) (after_of ds))
    go true r ih = next (r.says refl)
    go false r ih = ih

pub members_one : (ms : List (List ℕ)) {after : List (List ℕ)} → ((d : List ℕ) → Memᴰ d ms → Interface d → ⊥) → GroupEnds after
    → members_of (ms ++ after) ≡ ms
unfolding members_of
members_one [] h last = refl
members_one [] h (next {i} i-opens) = yes _ _ (shows (reads_interface i) i-opens)
members_one (d ∷ ms) h e = no _ _ (refutes (reads_interface d) (h d (Memᴰ.head refl))) ∙ ap (λ (l : List (List ℕ)). d ∷ l) (members_one ms (λ x m. h x (Memᴰ.tail m)) e)

-- a class-specific descriptor is no interface descriptor
pub class_inside : (d : List ℕ) → Class d → is_interface d ≡ false
class_inside d h = refutes (reads_interface d) (λ i. omega arith)

-- a type 24 descriptor before the next interface descriptor is one of the group's
pub reads_held : (ds : List (List ℕ)) → Reads (holds_class ds) (SomeOf Class (members_of ds))
unfolding holds_class members_of
reads_held [] = record { says = λ e. absurd (true≠false (sym e)); denies = λ e h. Memᴰ.not-nil h.among }
reads_held (d ∷ ds) = go (is_class d) (is_interface d) (reads_class d) (reads_interface d) (reads_held ds)
  where
    go : (a b : Bool) → Reads a (Class d) → Reads b (Interface d) → Reads (holds_class ds) (SomeOf Class (members_of ds))
        → Reads (a || (not b && holds_class ds)) (SomeOf Class (pick b [] (d ∷ members_of ds)))
    go true true r s ih = let k = r.says refl in let i = s.says refl in absurd (omega arith)
    go true false r s ih = record { says = λ e. record { one = d; among = Memᴰ.head refl; has = r.says refl }; denies = λ e. absurd (true≠false e) }
    go false true r s ih = record { says = λ e. absurd (true≠false (sym e)); denies = λ e h. Memᴰ.not-nil h.among }
    go false false r s ih = record {
      says = λ e. let k = ih.says e in record { one = k.one; among = Memᴰ.tail k.among; has = k.has };
      denies = λ e h. ⊎_elim (λ (q : h.one ≡ d). r.denies refl (rw q at h.has)) (λ m. ih.denies e (record { one = h.one; among = m; has = h.has })) (Memᴰ.cases_cons h.among);
    }
