-- The library's search of the first keys finds what the definition's search by index does.
--   searched_on    ==  a search that begins one index further is one of the tests from there
--   searched_first ==  the two searches agree
use Rattle.std.specs.Prelude.{ℕ, zero, suc, ◌≤◌, ◌≡◌, refl, List, [], ◌∷◌, Bool, true, false, ◌||◌, eqb, length, get_or, take}
use Rattle.std.specs.List.{list_any}
use Rattle.std.proofs.Common.{rules, ap, ◌∙◌, sym, arith, le_of_suc-le-suc}
use Rattle.ground.specs.Pick.{pick}
use Rattle.ground.specs.Places.{first_in, somewhere}
use Rattle.sound.specs.Rising.{key_among}
use Rattle.sound.proofs.among.Goals as goal

searched_on : (t : ℕ → Bool) (i k : ℕ) → first_in t (λ j. true) false (suc i) k ≡ first_in (λ j. t (suc j)) (λ j. true) false i k
unfolding first_in
searched_on t i zero = refl
searched_on t i (suc k) = ap (pick (t (suc i)) true) (searched_on t (suc i) k)

or_is : (a b : Bool) → (a || b) ≡ pick a true b
or_is true b = refl
or_is false b = refl

searched_first : (p : ℕ → Bool) (keys : List ℕ) (n : ℕ) → n ≤ length keys → list_any p (take n keys) ≡ somewhere (λ j. p (get_or keys j 0)) n
unfolding first_in somewhere
searched_first p keys zero h = refl
searched_first p [] (suc n) h = absurd (omega arith)
searched_first p (x ∷ keys) (suc n) h =
    ap (λ (b : Bool). p x || b) (searched_first p keys n (le_of_suc-le-suc h) ∙ sym (searched_on (λ j. p (get_or (x ∷ keys) j 0)) 0 n))
    ∙ or_is (p x) (first_in (λ j. p (get_or (x ∷ keys) j 0)) (λ j. true) false 1 n)

found : (keys : List ℕ) (n k : ℕ) → n ≤ 128 → length keys ≡ 128 → (b : Bool) → b ≡ list_any (λ y. eqb y k) (take n keys) → b ≡ key_among keys n k
unfolding key_among
found keys n k few long b e = e ∙ searched_first (λ y. eqb y k) keys n (omega arith)

ruleset laws = (found, rules)

pub returns : goal.returns
returns c = search laws
