-- What holds of each member of a list, over any type. A list stands for a collection here: no law asks where a member
-- stands, and none compares two members.
--   a ∈ l         ==  a is a member of l (the kit's List.Memᴰ, written as usual)
--   all p l       ==  the test p holds at each member of l
--   all_at        ==  .. so at any one of them
--   all_of        ==  a test that holds at each member holds at all
--   all_misses    ==  a test that does not hold at all of them misses one, and which
--   all_kept      ==  all passes on from a test to one that holds wherever it does
--   all_same      ==  tests that agree on the members agree on all
--   reads_all     ==  all p l decides "at each member", where p decides the statement
--   map_same      ==  functions that agree on the members map alike
--   all_map       ==  all of a mapped list
--   along         ==  a member of a list is one of an equal list
--   mem x l       ==  the test that the number x is a member of l
--   reads_mem     ==  .. which decides it
--   mem_in, mem_out  ==  .. so the test is known of a member, and of what is none
--   mem_append    ==  a member of two lists together is one of either
--   mem_same      ==  lists with the same members are alike to the test
use Rattle.std.specs.Prelude.{ℕ, eqb, ◌≡◌, Bool, ◌&&◌, ◌||◌}
use Rattle.std.proofs.Common.{⊎_elim, sym, ◌∙◌, subst}
use Rattle.std.proofs.Math.Path.{refl, ap}
use mathlib.Core.List.Memᴰ
use mathlib.Core.List.{List, [], ◌∷◌, ◌++◌, map, Memᴰ}
use Rattle.std.proofs.Math.Bool.{true, false}
use Rattle.ground.specs.Pick.{Reads, shows, refutes, true≠false, reads_or, reads_eq}

infix 20 ◌∈◌
abbrev pub ◌∈◌ : {A : Type 0} → A → List A → Type 0
a ∈ l = Memᴰ a l

pub along : {A : Type 0} {a : A} {l m : List A} → l ≡ m → a ∈ l → a ∈ m
along {A} {a} e = subst (λ (x : List A). a ∈ x) e

and_left : (a b : Bool) → a && b ≡ true → a ≡ true
and_left true b e = refl
and_left false b e = e

and_right : (a b : Bool) → a && b ≡ true → b ≡ true
and_right true b e = e
and_right false b e = absurd (true≠false (sym e))

module _ {A : Type 0} where
  unfoldable pub all : (A → Bool) → List A → Bool
  all p [] = true
  all p (x ∷ l) = p x && all p l

  pub all_at : (p : A → Bool) {x : A} {l : List A} → all p l ≡ true → x ∈ l → p x ≡ true
  unfolding all
  all_at p {l = []} e m = elim m [ ]
  all_at p {l = y ∷ l} e (Memᴰ.head q) = ap p q ∙ and_left (p y) (all p l) e
  all_at p {l = y ∷ l} e (Memᴰ.tail m) = all_at p (and_right (p y) (all p l) e) m

  pub all_of : (p : A → Bool) (l : List A) → ((x : A) → x ∈ l → p x ≡ true) → all p l ≡ true
  unfolding all
  all_of p [] h = refl
  all_of p (x ∷ l) h = rw (h x (Memᴰ.head refl)) (all_of p l (λ y m. h y (Memᴰ.tail m)))

  pub all_misses : (p : A → Bool) (l : List A) → all p l ≡ false → (x : A) × x ∈ l × (p x ≡ false)
  unfolding all
  all_misses p [] e = absurd (true≠false e)
  all_misses p (x ∷ l) e = go (λ f. all_misses p l f) (p x) refl
    where
      go : (all p l ≡ false → (y : A) × y ∈ l × (p y ≡ false)) → (b : Bool) → p x ≡ b → (y : A) × y ∈ (x ∷ l) × (p y ≡ false)
      go later false q = (x, Memᴰ.head refl, q)
      go later true q = let r = later (rw q at e) in (r.0, Memᴰ.tail r.1, r.2)

  pub all_kept : (p q : A → Bool) (l : List A) → ((x : A) → x ∈ l → p x ≡ true → q x ≡ true) → all p l ≡ true → all q l ≡ true
  all_kept p q l h e = all_of q l (λ x m. h x m (all_at p e m))

  pub all_same : (p q : A → Bool) (l : List A) → ((x : A) → x ∈ l → p x ≡ q x) → all p l ≡ all q l
  unfolding all
  all_same p q [] h = refl
  all_same p q (x ∷ l) h = rw (h x (Memᴰ.head refl)) (ap (λ (b : Bool). q x && b) (all_same p q l (λ y m. h y (Memᴰ.tail m))))

  pub reads_all : (p : A → Bool) (P : A → Type 0) (l : List A) → ((x : A) → x ∈ l → Reads (p x) (P x)) → Reads (all p l) ((x : A) → x ∈ l → P x)
  reads_all p P l r = record {
    says = λ e x m. (r x m).says (all_at p e m);
    denies = λ e h. let x = all_misses p l e in (r x.0 x.1).denies x.2 (h x.0 x.1);
  }

  pub map_same : {C : Type 0} (f g : A → C) (l : List A) → ((x : A) → x ∈ l → f x ≡ g x) → map f l ≡ map g l
  map_same f g [] h = refl
  map_same {C} f g (x ∷ l) h = rw (h x (Memᴰ.head refl)) (ap (λ (r : List C). g x ∷ r) (map_same f g l (λ y m. h y (Memᴰ.tail m))))

pub all_map : {A B : Type 0} (p : B → Bool) (f : A → B) (l : List A) → all p (map f l) ≡ all (λ x. p (f x)) l
unfolding all
all_map p f [] = refl
all_map p f (x ∷ l) = ap (λ (b : Bool). p (f x) && b) (all_map p f l)

unfoldable pub mem : ℕ → List ℕ → Bool
mem x [] = false
mem x (y ∷ l) = eqb x y || mem x l

pub reads_mem : (x : ℕ) (l : List ℕ) → Reads (mem x l) (x ∈ l)
unfolding mem
reads_mem x [] = record { says = λ e. absurd (true≠false (sym e)); denies = λ e m. Memᴰ.not-nil m }
reads_mem x (y ∷ l) =
    let r = reads_or (eqb x y) (mem x l) (reads_eq x y) (reads_mem x l) in
    record {
      says = λ e. ⊎_elim (λ q. Memᴰ.head q) (λ m. Memᴰ.tail m) (r.says e);
      denies = λ e m. r.denies e (Memᴰ.cases_cons m);
    }

pub mem_in : {x : ℕ} {l : List ℕ} → x ∈ l → mem x l ≡ true
mem_in {x} {l} m = shows (reads_mem x l) m

pub mem_out : {x : ℕ} {l : List ℕ} → (x ∈ l → ⊥) → mem x l ≡ false
mem_out {x} {l} f = refutes (reads_mem x l) f

pub mem_append : (x : ℕ) (l m : List ℕ) → mem x (l ++ m) ≡ mem x l || mem x m
unfolding mem
mem_append x [] m = refl
mem_append x (y ∷ l) m = ap (λ (b : Bool). eqb x y || b) (mem_append x l m) ∙ either (eqb x y) (mem x l) (mem x m)
  where
    either : (a b c : Bool) → a || (b || c) ≡ (a || b) || c
    either true b c = refl
    either false b c = refl

pub mem_same : (x : ℕ) (l m : List ℕ) → (x ∈ l → x ∈ m) → (x ∈ m → x ∈ l) → mem x l ≡ mem x m
mem_same x l m f g = go (mem x l) refl
  where
    go : (b : Bool) → mem x l ≡ b → mem x l ≡ mem x m
    go true e = e ∙ sym (mem_in (f ((reads_mem x l).says e)))
    go false e = e ∙ sym (mem_out (λ k. (reads_mem x l).denies e (g k)))
