-- Tables: an array that holds the values of a function, place by place. Code fills such an array in a loop; a definition
-- says the array whole.
--   tabulate k f        ==  f 0, f 1, .. f (k - 1)
--   tabulate_from i k f  ==  f i, .. f (i + k - 1)
--   below n             ==  0, 1, .. n - 1
--   get_d_tabulate, length_tabulate  ==  what stands in a table, and its length
--   tabulate_more       ==  a table with one place more
--   tabulate_same, map_tabulate     ==  tables of functions that agree, and a mapped table
--   tabulate_get_d       ==  the table of a list's own places is that list
--   lt_below, below_lt, length_below  ==  the members of below n are the numbers below n
--   Filled k f next i   ==  the loop that fills `next` with f has come to place i
--   filled_none, filled_more, filled_full  ==  its start, its step and its end
use Prim.Native.Nat.{ℕ, zero, suc, ◌+◌, ◌-◌, ◌≤◌, ◌<◌}
use Rattle.std.specs.Prelude.{◌≡◌, set}
use Rattle.std.proofs.Math.Path.{refl, sym, ap}
use Rattle.std.proofs.Common.{◌∙◌, ⊎_elim, add-one, zero-add, add-zero, le_of_suc-le-suc, eq-or-lt_of_le}
use mathlib.Core.List.Memᴰ
use mathlib.Core.List.{List, [], ◌∷◌, ◌++◌, map, append_assoc, append-nil}
use native.Mathlib.Omega.{arith}
use Rattle.std.proofs.Math.ListN.{length, get_or, take, length-set}
use Rattle.std.proofs.Math.Seq.{take-suc-set, take_all}
use Rattle.graph.specs.Members.{◌∈◌}

module _ {X : Type 0} where
  unfoldable pub tabulate_from : ℕ → ℕ → (ℕ → X) → List X
  tabulate_from i zero f = []
  tabulate_from i (suc k) f = f i ∷ tabulate_from (suc i) k f

  abbrev pub tabulate : ℕ → (ℕ → X) → List X
  tabulate k f = tabulate_from 0 k f

  get_d_tabulate_from : (i k : ℕ) (f : ℕ → X) (j : ℕ) (blank : X) → j < k → get_or (tabulate_from i k f) j blank ≡ f (i + j)
  unfolding tabulate_from
  get_d_tabulate_from i zero f j blank h = absurd (omega arith)
  get_d_tabulate_from i (suc k) f zero blank h = ap f (sym (add-zero i))
  get_d_tabulate_from i (suc k) f (suc j) blank h =
      let q : suc i + j ≡ i + suc j = omega arith in
      get_d_tabulate_from (suc i) k f j blank (le_of_suc-le-suc h) ∙ ap f q

  pub get_d_tabulate : (k : ℕ) (f : ℕ → X) (j : ℕ) (blank : X) → j < k → get_or (tabulate k f) j blank ≡ f j
  get_d_tabulate k f j blank h = get_d_tabulate_from 0 k f j blank h ∙ ap f (zero-add j)

  length_tabulate_from : (i k : ℕ) (f : ℕ → X) → length (tabulate_from i k f) ≡ k
  unfolding tabulate_from
  length_tabulate_from i zero f = refl
  length_tabulate_from i (suc k) f = ap suc (length_tabulate_from (suc i) k f)

  pub length_tabulate : (k : ℕ) (f : ℕ → X) → length (tabulate k f) ≡ k
  length_tabulate = length_tabulate_from 0

  from_more : (i k : ℕ) (f : ℕ → X) → tabulate_from i (suc k) f ≡ tabulate_from i k f ++ f (i + k) ∷ []
  unfolding tabulate_from
  from_more i zero f = ap (λ (j : ℕ). f j ∷ []) (sym (add-zero i))
  from_more i (suc k) f =
      let q : suc i + k ≡ i + suc k = omega arith in
      ap (λ (l : List X). f i ∷ l) (from_more (suc i) k f ∙ ap (λ (j : ℕ). tabulate_from (suc i) k f ++ f j ∷ []) q)

  pub tabulate_more : (k : ℕ) (f : ℕ → X) → tabulate (suc k) f ≡ tabulate k f ++ f k ∷ []
  tabulate_more k f = from_more 0 k f ∙ ap (λ (j : ℕ). tabulate k f ++ f j ∷ []) (zero-add k)

  tabulate_from_same : (i k : ℕ) (f g : ℕ → X) → ((j : ℕ) → j < i + k → f j ≡ g j) → tabulate_from i k f ≡ tabulate_from i k g
  unfolding tabulate_from
  tabulate_from_same i zero f g h = refl
  tabulate_from_same i (suc k) f g h =
      rw (h i (omega arith)) (ap (λ (r : List X). g i ∷ r) (tabulate_from_same (suc i) k f g (λ j l. h j (omega arith))))

  pub tabulate_same : (k : ℕ) (f g : ℕ → X) → ((j : ℕ) → j < k → f j ≡ g j) → tabulate k f ≡ tabulate k g
  tabulate_same k f g h = tabulate_from_same 0 k f g (λ j l. h j (omega arith))

  tabulate_from_suc : (i k : ℕ) (f : ℕ → X) → tabulate_from (suc i) k f ≡ tabulate_from i k (λ j. f (suc j))
  unfolding tabulate_from
  tabulate_from_suc i zero f = refl
  tabulate_from_suc i (suc k) f = ap (λ (r : List X). f (suc i) ∷ r) (tabulate_from_suc (suc i) k f)

  pub tabulate_get_d : (xs : List X) (blank : X) → tabulate (length xs) (λ i. get_or xs i blank) ≡ xs
  unfolding tabulate_from
  tabulate_get_d [] blank = refl
  tabulate_get_d (x ∷ xs) blank =
      ap (λ (r : List X). x ∷ r) (tabulate_from_suc 0 (length xs) (λ i. get_or (x ∷ xs) i blank) ∙ tabulate_get_d xs blank)

  pub record Filled (k : ℕ) (f : ℕ → X) (next : List X) (i : ℕ) : Type 0 where
    pub low : i ≤ k
    pub long : length next ≡ k
    pub same : tabulate k f ≡ take i next ++ tabulate_from i (k - i) f

  pub filled_none : {k : ℕ} {f : ℕ → X} {next : List X} → length next ≡ k → Filled k f next 0
  filled_none {k} {f} e = let q : k ≡ k - 0 = omega arith in record { low = omega arith; long = e; same = ap (λ (r : ℕ). tabulate_from 0 r f) q }

  pub filled_more : {k : ℕ} {f : ℕ → X} {next : List X} {i : ℕ} {x : X} → Filled k f next i → i < k → x ≡ f i → Filled k f (set next i x) (i + 1)
  unfolding tabulate_from
  filled_more {k} {f} {next} {i} {x} h l e =
      let n = h.long in
      let q : k - i ≡ suc (k - suc i) = omega arith in
      let inside : i < length next = omega arith in
      record {
        low = omega arith;
        long = length-set next i x ∙ n;
        same = rw (add-one, take-suc-set next i x inside, append_assoc) (h.same ∙ ap (λ (r : ℕ). take i next ++ tabulate_from i r f) q ∙ ap (λ (y : X). take i next ++ y ∷ tabulate_from (suc i) (k - suc i) f) (sym e));
      }

  pub filled_full : {k : ℕ} {f : ℕ → X} {next : List X} {i : ℕ} → Filled k f next i → k ≤ i → next ≡ tabulate k f
  unfolding tabulate_from
  filled_full {k} {f} {next} {i} h l =
      let n = h.long in
      let a = h.low in
      let z : k - i ≡ 0 = omega arith in
      sym (h.same ∙ ap (λ (r : ℕ). take i next ++ tabulate_from i r f) z ∙ append-nil (take i next) ∙ take_all i next (omega arith))

map_tabulate_from : {X Y : Type 0} (g : X → Y) (i k : ℕ) (f : ℕ → X) → map g (tabulate_from i k f) ≡ tabulate_from i k (λ j. g (f j))
unfolding tabulate_from
map_tabulate_from g i zero f = refl
map_tabulate_from {Y = Y} g i (suc k) f = ap (λ (r : List Y). g (f i) ∷ r) (map_tabulate_from g (suc i) k f)

pub map_tabulate : {X Y : Type 0} (g : X → Y) (k : ℕ) (f : ℕ → X) → map g (tabulate k f) ≡ tabulate k (λ j. g (f j))
map_tabulate g = map_tabulate_from g 0

abbrev pub below : ℕ → List ℕ
below n = tabulate n (λ i. i)

pub length_below : (n : ℕ) → length (below n) ≡ n
length_below n = length_tabulate n (λ i. i)

in_from : (i k j : ℕ) → i ≤ j → j < i + k → j ∈ tabulate_from i k (λ x. x)
unfolding tabulate_from
in_from i zero j l h = absurd (omega arith)
in_from i (suc k) j l h = ⊎_elim (λ e. Memᴰ.head (sym e)) (λ s. Memᴰ.tail (in_from (suc i) k j s (omega arith))) (eq-or-lt_of_le l)

from_in : (i k j : ℕ) → j ∈ tabulate_from i k (λ x. x) → j < i + k
unfolding tabulate_from
from_in i zero j m = absurd (Memᴰ.not-nil m)
from_in i (suc k) j m = ⊎_elim (λ e. omega arith) (λ s. let h = from_in (suc i) k j s in omega arith) (Memᴰ.cases_cons m)

pub lt_below : {n i : ℕ} → i < n → i ∈ below n
lt_below {n} {i} h = in_from 0 n i (omega arith) (omega arith)

pub below_lt : {n i : ℕ} → i ∈ below n → i < n
below_lt {n} {i} m = let h = from_in 0 n i m in omega arith
