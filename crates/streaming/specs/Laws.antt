-- What the reader tests at places of the configuration is what the definitions test along the cutting.
--   strays_held  ==  the search for a type 24 descriptor or the group's end tells whether the group holds one
--   behind_next  ==  what stands behind an element of a list
--   broken_here  ==  the test of a group at its place, during the search, is the rule's own test
use Rattle.std.specs.Prelude.{ℕ, suc, ◌+◌, ◌≤◌, ◌≡◌, Bool, true, false, not, ◌&&◌, ◌||◌, List, [], ◌∷◌, ◌++◌, length, get_or, drop, eqb, Option, Some, None}
use Rattle.std.proofs.Math.Path.{refl}
use Rattle.std.proofs.Common.{sym, ap, ◌∙◌, ⊎_elim, add-one}
use Rattle.std.proofs.Math.Seq.{drop-append-add}
use Rattle.ground.specs.Pick.{true≠false, decided, reads_eq}
use Rattle.ground.specs.Numbers.{byte}
use Rattle.ground.specs.Lists.{part, part_none, any}
use Rattle.scan.specs.Cutting.{end_at, rest}
use Rattle.scan.specs.CuttingLaws.{rest_none, rest_more}
use Rattle.scan.specs.Search.{Passed, inside}
use Rattle.search.specs.Want.{is_interface, is_class, wants, found_from}
use Rattle.search.specs.Found.{found, found_none}
use Rattle.search.specs.declared.Want.TheVariants as want
use Rattle.groups.specs.Reading.{strays_from}
use Rattle.groups.specs.TotalLaws.{type_of}
use Rattle.terminals.specs.declared.Bearer.{Bearer}
use Rattle.streaming.specs.Tests.{described_by, described_at, broken_at, holds_class, broken, wrong_stream}

-- what stands first from a place on: the part up to its end, empty where nothing stands
first_stands : (s : List ℕ) (at : ℕ) → get_or (rest s at) 0 [] ≡ part s at (end_at s at)
first_stands s at = ⊎_elim
    (λ (h : end_at s at ≡ at). ap (λ (r : List (List ℕ)). get_or r 0 []) (rest_none s at h) ∙ sym (ap (part s at) h ∙ part_none s at))
    (λ (h : end_at s at ≡ at → ⊥). ap (λ (r : List (List ℕ)). get_or r 0 []) (rest_more s at h))
    (decided (eqb (end_at s at) at) (reads_eq _ _))

second_stands : (s : List ℕ) (at : ℕ) → get_or (rest s at) 1 [] ≡ part s (end_at s at) (end_at s (end_at s at))
second_stands s at = ⊎_elim
    (λ (h : end_at s at ≡ at).
    ap (λ (r : List (List ℕ)). get_or r 1 []) (rest_none s at h) ∙ sym (rw (h, h) (part_none s at)))
    (λ (h : end_at s at ≡ at → ⊥). ap (λ (r : List (List ℕ)). get_or r 1 []) (rest_more s at h) ∙ first_stands s (end_at s at))
    (decided (eqb (end_at s at) at) (reads_eq _ _))

-- the reader's test at a place is the test by what stands behind it
module _ (find : ℕ → Option Bearer) (s : List ℕ) where
  described_here : (from : ℕ) → described_at find s from ≡ described_by find (get_or (rest s from) 0 []) (get_or (rest s from) 1 [])
  unfolding described_at
  described_here from = rw (first_stands s from, second_stands s from) refl

-- a search for a type 24 descriptor or the group's end tells whether the group holds one
nothing_held : (ds : List (List ℕ)) → any (wants want.ClassOrInterface) ds ≡ false → holds_class ds ≡ false
unfolding any wants holds_class
nothing_held [] e = refl
nothing_held (d ∷ ds) e = go (is_class d) (is_interface d) (nothing_held ds) e
  where
    go : (a b : Bool) → (any (wants want.ClassOrInterface) ds ≡ false → holds_class ds ≡ false)
        → (a || b) || any (wants want.ClassOrInterface) ds ≡ false → a || (not b && holds_class ds) ≡ false
    go true b ih h = h
    go false true ih h = refl
    go false false ih h = ih h

held_at : (x : List (List ℕ)) (w : List ℕ) (y : List (List ℕ)) → any (wants want.ClassOrInterface) x ≡ false → wants want.ClassOrInterface w ≡ true
    → holds_class (x ++ w ∷ y) ≡ is_class w
unfolding any wants holds_class
held_at [] w y e m = go (is_class w) (is_interface w) m
  where
    go : (a b : Bool) → a || b ≡ true → a || (not b && holds_class y) ≡ a
    go true b h = refl
    go false true h = refl
    go false false h = absurd (true≠false (sym h))
held_at (d ∷ x) w y e m = go (is_class d) (is_interface d) (λ h. held_at x w y h m) e
  where
    go : (a b : Bool) → (any (wants want.ClassOrInterface) x ≡ false → holds_class (x ++ w ∷ y) ≡ is_class w)
        → (a || b) || any (wants want.ClassOrInterface) x ≡ false → a || (not b && holds_class (x ++ w ∷ y)) ≡ is_class w
    go true b ih h = absurd (true≠false h)
    go false true ih h = absurd (true≠false h)
    go false false ih h = ih h

strays_held : (s : List ℕ) (e : ℕ) → e ≤ length s → strays_from s e ≡ holds_class (rest s e)
unfolding strays_from is_class
strays_held s e l = go (found_from s e want.ClassOrInterface) refl
  where
    go : (r : Option ℕ) → found_from s e want.ClassOrInterface ≡ r → elim r [ None ↦ false | Some q ↦ eqb (byte s (q + 1)) 0x24 ] ≡ holds_class (rest s e)
    go None h = sym (nothing_held (rest s e) (found_none want.ClassOrInterface s e h))
    go (Some q) h =
        let k = found want.ClassOrInterface s e q l h in
        ap (λ (b : ℕ). eqb b 0x24) (type_of s q k.wanted k.behind k.here)
        ∙ sym (ap holds_class k.whole ∙ held_at k.passed k.wanted k.behind k.none_passed k.meets)

pub behind_next : {A : Type 0} (x : List A) (d : A) (y : List A) → drop (suc (length x)) (x ++ d ∷ y) ≡ y
behind_next x d y = rw (← (add-one (length x))) (drop-append-add x (d ∷ y) 1)

module _ (find : ℕ → Option Bearer) (s : List ℕ) (at e : ℕ) (g : Passed (wrong_stream find (rest s 0)) s 0 at) (f : e ≡ end_at s at) (h : e ≡ at → ⊥) where
  rest_behind : drop (suc (length g.behind)) (rest s 0) ≡ rest s e
  rest_behind =
      let n : rest s at ≡ part s at e ∷ rest s e = rw f (rest_more s at (λ q. h (f ∙ q))) in
      ap (drop (suc (length g.behind))) (g.whole ∙ ap (λ (r : List (List ℕ)). g.behind ++ r) n) ∙ behind_next g.behind (part s at e) (rest s e)

  pub broken_here : broken_at find s (part s at e) e ≡ wrong_stream find (rest s 0) g.behind (part s at e)
  unfolding broken_at wrong_stream broken
  broken_here = rw (rest_behind, strays_held s e (inside s at e f h), described_here find s e) refl
