-- What a loop along the descriptors knows of those that it has passed, told by a search from the first byte on: whether something
-- wanted stands before a place.
--   stands_before s at w ==  what the search for w finds stands before place at
--   before_none, before_more, before_all  ==  what stands before the first byte, before the next descriptor, before the end
--   before_here         ==  the first that is wanted is found at its own place
use Rattle.std.specs.Prelude.{ℕ, ◌+◌, ◌-◌, ◌≡◌, Bool, true, ◌||◌, Option, Some, None}
use Rattle.std.proofs.Math.Path.{refl, sym, ap}
use Rattle.std.proofs.Common.{◌∙◌}
use Rattle.std.proofs.Math.Bool.{false}
use mathlib.Core.List.Memᴰ
use mathlib.Core.List.{List, [], ◌∷◌, ◌++◌, append-nil}
use native.Mathlib.Omega.{arith}
use Rattle.std.proofs.Math.ListN.{length}
use Rattle.std.proofs.Math.Seq.{append_snoc}
use borrow.Author.Tests.{le-ltb}
use Rattle.ground.specs.Pick.{reads_true}
use Rattle.ground.specs.Lists.{part, part_length, total, total_append, any, any_snoc, SomeOf, reads_any}
use Rattle.ground.specs.First.{first_from, first_at, first_before, is_before, sound_each}
use Rattle.scan.specs.Cutting.{end_at, rest}
use Rattle.scan.specs.CuttingLaws.{standing, end_off, rest_none, rest_more}
use Rattle.scan.specs.Search.{searched, Passed}
use Rattle.search.specs.Want.{wants, found_from}
use Rattle.search.specs.Found.{found_before}
use Rattle.search.specs.declared.Want.{Want}

abbrev pub stands_before : List ℕ → ℕ → Want → Bool
stands_before s at w = is_before (found_from s 0 w) at

module _ (w : Want) (s : List ℕ) where
  pub before_none : stands_before s 0 w ≡ false
  unfolding is_before
  before_none = go (found_from s 0 w)
    where
      go : (r : Option ℕ) → is_before r 0 ≡ false
      go None = refl
      go (Some q) = le-ltb q 0 (omega arith)

  module _ (t : List (List ℕ) → List ℕ → Bool) (at e : ℕ) (g : Passed t s 0 at) (f : e ≡ end_at s at) where
    all_passed : e ≡ at → rest s 0 ≡ g.behind
    all_passed h = g.whole ∙ ap (λ (r : List (List ℕ)). g.behind ++ r) (rest_none s at (sym f ∙ h)) ∙ append-nil g.behind

    pub before_all : e ≡ at → stands_before s at w ≡ any (wants w) (rest s 0)
    before_all h = found_before w s t at g ∙ ap (any (wants w)) (sym (all_passed h))

    module _ (h : e ≡ at → ⊥) where
      passed : List (List ℕ)
      passed = g.behind ++ part s at e ∷ []

      split : rest s 0 ≡ g.behind ++ part s at e ∷ rest s e
      split = g.whole ∙ ap (λ (r : List (List ℕ)). g.behind ++ r) (rw f (rest_more s at (λ q. h (f ∙ q))))

      whole : rest s 0 ≡ passed ++ rest s e
      unfolding passed
      whole = split ∙ sym (append_snoc g.behind (part s at e) (rest s e))

      place : e ≡ 0 + total passed
      unfolding passed total
      place =
          let o = end_off s at (λ q. h (f ∙ q)) in
          let l : length (part s at e) ≡ e - at = part_length s at e (omega arith) in
          let p = g.place in
          let k : total (g.behind ++ part s at e ∷ []) ≡ total g.behind + (length (part s at e) + 0) = total_append g.behind _ in
          omega arith

      pub before_more : stands_before s e w ≡ (stands_before s at w || wants w (part s at e))
      unfolding found_from searched passed
      before_more =
          let k = standing s 0 (omega arith) in
          ap (λ (r : List (List ℕ)). is_before (first_from (λ b d. wants w d) 0 [] r) e) whole
          ∙ ap (λ (i : ℕ). is_before (first_from (λ b d. wants w d) 0 [] (passed ++ rest s e)) i) place
          ∙ first_before (wants w) 0 [] passed (rest s e)
          (λ d m. let two = (k.each d (rw whole (Memᴰ.append_left (rest s e) m))).long in omega arith)
          ∙ any_snoc (wants w) g.behind (part s at e)
          ∙ ap (λ (b : Bool). b || wants w (part s at e)) (sym (found_before w s t at g))

      none_passed : stands_before s at w ≡ false → SomeOf (λ d. wants w d ≡ true) g.behind → ⊥
      none_passed n =
          (reads_any (wants w) (λ d. wants w d ≡ true) (λ d. reads_true (wants w d)) g.behind).denies (sym (found_before w s t at g) ∙ n)

      pub before_here : stands_before s at w ≡ false → wants w (part s at e) ≡ true → found_from s 0 w ≡ Some at
      unfolding found_from searched
      before_here n y =
          (first_at (λ b d. wants w d) (λ b d. wants w d ≡ true) (λ b d. reads_true (wants w d)) 0 (rest s 0) at).1
          (record {
            before = g.behind;
            offender = part s at e;
            after = rest s e;
            split = split;
            wrong = y;
            place = g.place;
            none_before = (sound_each (λ d. wants w d ≡ true) g.behind).1 (λ d m v. none_passed n (record { one = d; among = m; has = v }));
          })
