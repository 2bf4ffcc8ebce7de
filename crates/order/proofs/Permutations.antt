-- Laws of another order.
--   permuted_back     ==  .. the other way
--   permuted_in, permuted_members  ==  the members are the same
--   permuted_length, permuted_total  ==  there are as many, and their lengths together are the same
--   permuted_pairs    ==  what is so of each two elements, either way round, stays so
--   pairs_each, pairs_of  ==  each two elements of a list, by where they stand
use Prim.Native.Nat.{ℕ, ◌+◌}
use mathlib.Core.Path.{◌≡◌, refl, sym, ap, ◌∙◌, subst}
use mathlib.Core.List.Memᴰ
use mathlib.Core.List.Permᴰ
use mathlib.Core.List.{List, [], ◌∷◌, ◌++◌}
use lib.ListN.{length}
use native.Mathlib.Omega.{arith}
use Rattle.ground.specs.Lists.{total, of_split}
use Rattle.graph.specs.Members.{◌∈◌}
use Rattle.masks.specs.Order.{Pairs, none, more}
use Rattle.clusters.specs.Collection.{SameMembers}
use Rattle.order.specs.Permuted.{Permuted}

module _ {A : Type 0} where
  pub permuted_back : {l m : List A} → Permuted l m → Permuted m l
  permuted_back p = Permᴰ.symm p

  pub permuted_in : {a : A} {l m : List A} → Permuted l m → a ∈ l → a ∈ m
  permuted_in Permᴰ.nil i = i
  permuted_in (Permᴰ.cons e p) (Memᴰ.head q) = Memᴰ.head (q ∙ e)
  permuted_in (Permᴰ.cons e p) (Memᴰ.tail i) = Memᴰ.tail (permuted_in p i)
  permuted_in (Permᴰ.swap e f) (Memᴰ.head q) = Memᴰ.tail (Memᴰ.head (q ∙ e))
  permuted_in (Permᴰ.swap e f) (Memᴰ.tail (Memᴰ.head q)) = Memᴰ.head (q ∙ f)
  permuted_in (Permᴰ.swap e f) (Memᴰ.tail (Memᴰ.tail i)) = Memᴰ.tail (Memᴰ.tail i)
  permuted_in (Permᴰ.trans p q) i = permuted_in q (permuted_in p i)

  pub permuted_length : {l m : List A} → Permuted l m → length l ≡ length m
  permuted_length Permᴰ.nil = refl
  permuted_length (Permᴰ.cons e p) = let h = permuted_length p in omega arith
  permuted_length (Permᴰ.swap e f) = refl
  permuted_length (Permᴰ.trans p q) = permuted_length p ∙ permuted_length q

  module _ (R : A → A → Type 0) where
    pub permuted_pairs : ((a b : A) → R a b → R b a) → {l m : List A} → Permuted l m → Pairs R l → Pairs R m
    permuted_pairs s Permᴰ.nil h = h
    permuted_pairs s (Permᴰ.cons e p) (more f h) = more (λ b i. subst (λ (x : A). R x b) e (f b (permuted_in (Permᴰ.symm p) i))) (permuted_pairs s p h)
    permuted_pairs s (Permᴰ.swap {a} {b} {a'} {b'} {l} e i) (more f (more g h)) =
        more (λ x j. first x j) (more (λ x j. subst (λ (y : A). R y x) e (f x (Memᴰ.tail j))) h)
      where
        first : (x : A) → x ∈ (b' ∷ l) → R a' x
        first x (Memᴰ.head q) = subst (R a') (e ∙ sym q) (subst (λ (y : A). R y a) i (s a b (f b (Memᴰ.head refl))))
        first x (Memᴰ.tail j) = subst (λ (y : A). R y x) i (g x j)
    permuted_pairs s (Permᴰ.trans p q) h = permuted_pairs s q (permuted_pairs s p h)

    pub pairs_of : (l : List A) → ((x : List A) (a : A) (y : List A) (b : A) → l ≡ x ++ a ∷ y → b ∈ y → R a b) → Pairs R l
    pairs_of [] h = none
    pairs_of (c ∷ l) h = more (λ b i. h [] c l b refl i) (pairs_of l (λ x a y b e i. h (c ∷ x) a y b (ap (λ (r : List A). c ∷ r) e) i))

    pub pairs_each : (x : List A) (a : A) (y : List A) → Pairs R (x ++ a ∷ y) → (b : A) → b ∈ x → R b a
    pairs_each [] a y h b i = absurd (Memᴰ.not-nil i)
    pairs_each (c ∷ x) a y (more f h) b (Memᴰ.head q) = subst (λ (z : A). R z a) (sym q) (f a (of_split x a y))
    pairs_each (c ∷ x) a y (more f h) b (Memᴰ.tail i) = pairs_each x a y h b i

pub permuted_members : {ds es : List (List ℕ)} → Permuted ds es → SameMembers ds es
permuted_members p d = (permuted_in p, permuted_in (permuted_back p))

pub permuted_total : {ds es : List (List ℕ)} → Permuted ds es → total ds ≡ total es
unfolding total
permuted_total Permᴰ.nil = refl
permuted_total (Permᴰ.cons e p) = let h = permuted_total p in let n = ap length e in omega arith
permuted_total (Permᴰ.swap e f) = let m = ap length e in let n = ap length f in omega arith
permuted_total (Permᴰ.trans p q) = permuted_total p ∙ permuted_total q
