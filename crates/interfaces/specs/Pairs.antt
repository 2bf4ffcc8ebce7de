-- The pairs of number and alternate setting of the interface descriptors that rule 4's pass has passed, in an array of their own: where a
-- pair is searched for, it is searched for there.
--   most_interfaces    ==  the most descriptors of 9 bytes that a configuration of 4,096 bytes holds: 455
--   Pair i k          ==  k is the number and the setting of i as one number; both are below 256
--   Noted i pairs count pairs' count'  ==  the pair of i is put behind the first pairs, if i is an interface descriptor
--   Pairs s at pairs count  ==  the first pairs are those of the interface descriptors before place at, and each of them took 9 bytes
--   pairs_none, pairs_told, pairs_room, pairs_more  ==  none at the first byte; what they tell of a pair; that there is a place for one
--                         more; the next turn
use Rattle.std.specs.Prelude.{ℕ, ◌+◌, ◌-◌, ◌*◌, ◌≤◌, ◌<◌, ◌≡◌, refl, Bool, true, false, eqb, set, replicate}
use Rattle.std.proofs.Common.{sym, ◌∙◌, arith, take-suc-set}
use Rattle.std.proofs.Math.Path.{ap}
use Rattle.std.proofs.Math.Bool.{or-false}
use mathlib.Core.List.{List, [], ◌∷◌, ◌++◌}
use Rattle.std.proofs.Math.Numerals.{add-one}
use Rattle.std.proofs.Math.ListN.{length, take, length-set}
use Rattle.std.proofs.lemmas.List.{length-replicate}
use Rattle.ground.specs.Pick.{Reads, shows, refutes, reads_eq}
use Rattle.ground.specs.Numbers.{byte}
use Rattle.ground.specs.Lists.{part, part_length, any, any_snoc}
use Rattle.scan.specs.Cutting.{end_at}
use Rattle.scan.specs.CuttingLaws.{end_off}
use Rattle.scan.specs.Search.{Passed}
use Rattle.search.specs.Want.{is_interface, is_setting, reads_interface, reads_setting, wants}
use Rattle.search.specs.declared.Want.TheVariants as want
use Rattle.opening.specs.Rules1and2.{most_bytes}
use Rattle.search.specs.Before.{stands_before, before_none, before_more}

abbrev pub most_interfaces : ℕ
most_interfaces = 455

pub record Pair (i : List ℕ) (k : ℕ) : Type 0 where
  pub told : k ≡ byte i 2 * 256 + byte i 3
  pub number : byte i 2 < 256
  pub setting : byte i 3 < 256

pub data Noted (i pairs : List ℕ) (count : ℕ) (pairs' : List ℕ) (count' : ℕ) : Type 0 where
  other : is_interface i ≡ false → pairs' ≡ pairs → count' ≡ count → Noted i pairs count pairs' count'
  noted : {k : ℕ} → is_interface i ≡ true → Pair i k → pairs' ≡ set pairs count k → count' ≡ count + 1
      → Noted i pairs count pairs' count'

pub record Pairs (s : List ℕ) (at : ℕ) (pairs : List ℕ) (count : ℕ) : Type 0 where
  pub long : length pairs ≡ most_interfaces
  pub nines : count * 9 ≤ at
  pub fits : count ≤ most_interfaces
  pub each : (n a : ℕ) → n < 256 → a < 256 → stands_before s at (want.Setting n a) ≡ any (eqb (n * 256 + a)) (take count pairs)

pub pairs_none : (s : List ℕ) → Pairs s 0 (replicate most_interfaces 0) 0
unfolding any
pairs_none s = record {
  long = length-replicate {A = ℕ} most_interfaces 0;
  nines = omega arith;
  fits = omega arith;
  each = λ n a l m. before_none (want.Setting n a) s;
}

-- a descriptor bears a pair exactly where the pair's number is its own
same_pair : (i : List ℕ) (k n a : ℕ) → is_interface i ≡ true → Pair i k → a < 256 → is_setting n a i ≡ eqb (n * 256 + a) k
same_pair i k n a y p l = go (eqb (n * 256 + a) k) (reads_eq (n * 256 + a) k)
  where
    go : (b : Bool) → Reads b (n * 256 + a ≡ k) → is_setting n a i ≡ b
    go true r =
        let q = r.says refl in
        let z = p.told in
        let m = p.setting in
        shows (reads_setting n a i) ((reads_interface i).says y, (omega arith, omega arith))
    go false r = refutes (reads_setting n a i) (λ h. r.denies refl (let q = h.1.0 in let m = h.1.1 in let z = p.told in omega arith))

module _ (s : List ℕ) (at : ℕ) (pairs : List ℕ) (count : ℕ) (k : Pairs s at pairs count) where
  pub pairs_told : (i : List ℕ) (x : ℕ) → Pair i x → any (eqb x) (take count pairs) ≡ stands_before s at (want.Setting (byte i 2) (byte i 3))
  pairs_told i x p = ap (λ (y : ℕ). any (eqb y) (take count pairs)) p.told ∙ sym (k.each (byte i 2) (byte i 3) p.number p.setting)

  module _ (t : List (List ℕ) → List ℕ → Bool) (e : ℕ) (g : Passed t s 0 at) (f : e ≡ end_at s at) (h : e ≡ at → ⊥) where
    module _ (few : length s ≤ most_bytes) (nine : is_interface (part s at e) ≡ true → length (part s at e) ≡ 9) where
      long_nine : is_interface (part s at e) ≡ true → e ≡ at + 9
      long_nine y =
          let o = end_off s at (λ q. h (f ∙ q)) in
          let l : length (part s at e) ≡ e - at = part_length s at e (omega arith) in
          let m = nine y in
          omega arith

      pub pairs_room : is_interface (part s at e) ≡ true → count < most_interfaces
      pairs_room y =
          let o = end_off s at (λ q. h (f ∙ q)) in
          let m = long_nine y in
          let q = k.nines in
          omega arith

      pub pairs_more : (pairs' : List ℕ) (count' : ℕ) → Noted (part s at e) pairs count pairs' count' → Pairs s e pairs' count'
      unfolding wants
      pairs_more pairs' count' (other n p q) =
          let o = end_off s at (λ q. h (f ∙ q)) in
          let w = k.nines in
          rw (p, q)
          (record {
            long = k.long;
            nines = omega arith;
            fits = k.fits;
            each = λ n' a l m.
                before_more (want.Setting n' a) s t at e g f h
                ∙ rw (refutes (reads_setting n' a (part s at e)) (λ z. (reads_interface (part s at e)).denies n z.0)) (or-false _)
                ∙ k.each n' a l m;
          })
      pairs_more pairs' count' (noted {k = x} y p q r) =
          let m = long_nine y in
          let w = k.nines in
          let c = pairs_room y in
          let inside : count < length pairs = (let z = k.long in omega arith) in
          let v : take (count + 1) (set pairs count x) ≡ take count pairs ++ x ∷ [] = rw add-one (take-suc-set pairs count x inside) in
          rw (q, r)
          (record {
            long = length-set pairs count x ∙ k.long;
            nines = omega arith;
            fits = omega arith;
            each = λ n a l j.
                before_more (want.Setting n a) s t at e g f h
                ∙ rw (k.each n a l j, same_pair (part s at e) x n a y p j) (sym (any_snoc (eqb (n * 256 + a)) (take count pairs) x))
                ∙ ap (any (eqb (n * 256 + a))) (sym v);
          })
