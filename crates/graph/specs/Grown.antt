-- How an order comes about: from none, one index after another, each below n, with an ID that no earlier one bears and with
-- source IDs that earlier ones bear. This growth is all that the laws of an order know of passes; each of them is an induction
-- along it.
--   with o i             ==  o, with i at its end; length_with, with_cases, with_last: its length and its members
--   MayJoin ids sources o i  ==  the ID of i is not borne in o, and each of its source IDs is
--   borne_more, borne_last, borne_cases  ==  the IDs borne in `with o i` are those of o, and that of i
--   Grown ids sources n o    ==  o came about so
--   grown_take           ==  the first k indices of a grown order are one
--   grown_at             ==  each index of it is below n, and might join those that stand before it
--   grown_below          ==  each index of it is below n
--   grown_source         ==  the source IDs of its indices are borne in it
--   grown_length         ==  it has at most n indices
--   grown_full           ==  where it has n of them, each index below n is in it
--   full_grown           ==  where each index below n is in it, it has n
use Prim.Native.Nat.{ℕ, zero, suc, ◌+◌, ◌≤◌, ◌<◌, zero-le}
use Rattle.std.specs.Prelude.{◌≡◌, List, [], ◌∷◌, ◌++◌, ◌⊎◌, Bool, not, eqb, leb, length, get_or, take}
use Rattle.std.proofs.Math.Path.{refl}
use Rattle.std.proofs.Common.{sym, inl, inr, ⊎_elim, arith, eq-or-lt_of_le, le_of_lt, length-append, take_all, eq-eqb, eqb-true}
use mathlib.Core.List.Memᴰ
use Rattle.std.proofs.lemmas.List.{map-append, take-append-le}
use Rattle.std.proofs.Math.Bool.{true, false}
use Rattle.std.proofs.Math.ListN.{get_or-append}
use Rattle.std.proofs.Math.Seq.{take-append_seam, get_or-append_seam}
use Rattle.ground.specs.Pick.{pick, Reads, decided, reads_le, reads_and, reads_not}
use Rattle.graph.specs.Members.{◌∈◌, along, mem, reads_mem, mem_in, mem_out, all, reads_all}
use Rattle.graph.specs.Tallies.{tally, tally_le, tally_kept, tally_more, tally_full, tally_none, tally_every, tally_either}
use Rattle.graph.specs.Tables.{below, lt_below, below_lt, length_below, tabulate_from}
use Rattle.graph.specs.Passes.{borne, joins, step, pass_from, passes, order_of}

abbrev pub with : List ℕ → ℕ → List ℕ
with o i = o ++ (i ∷ [])

pub length_with : (o : List ℕ) (i : ℕ) → length (with o i) ≡ suc (length o)
length_with o i = let q = length-append o (i ∷ []) in omega arith

pub with_cases : {o : List ℕ} {i j : ℕ} → j ∈ with o i → (j ∈ o) ⊎ (j ≡ i)
with_cases {o} m = ⊎_elim (λ a. inl a) (λ b. inr (Memᴰ.eq_of_singleton b)) (Memᴰ.append_cases o m)

pub with_last : (o : List ℕ) (i : ℕ) → i ∈ with o i
with_last o i = Memᴰ.append_right o (Memᴰ.head refl)

module _ (ids : ℕ → ℕ) (o : List ℕ) (i : ℕ) where
  pub borne_more : {x : ℕ} → x ∈ borne ids o → x ∈ borne ids (with o i)
  borne_more m = along (sym (map-append ids o (i ∷ []))) (Memᴰ.append_left (ids i ∷ []) m)

  pub borne_last : ids i ∈ borne ids (with o i)
  borne_last = Memᴰ.map ids (with_last o i)

  pub borne_cases : {x : ℕ} → x ∈ borne ids (with o i) → (x ∈ borne ids o) ⊎ (x ≡ ids i)
  borne_cases m = with_cases (along (map-append ids o (i ∷ [])) m)

module _ (ids : ℕ → ℕ) (sources : ℕ → List ℕ) where
  abbrev pub MayJoin : List ℕ → ℕ → Type 0
  MayJoin o i = (ids i ∈ borne ids o → ⊥) × ((x : ℕ) → x ∈ sources i → x ∈ borne ids o)

  pub data Grown (n : ℕ) : List ℕ → Type 0 where
    none : Grown n []
    more : {o : List ℕ} {i : ℕ} → Grown n o → i < n → MayJoin o i → Grown n (o ++ (i ∷ []))

-- the numbers from a on; one of them stands there once, and a lesser one not at all
abbrev from : ℕ → ℕ → List ℕ
from a k = tabulate_from a k (λ x. x)

abbrev Once : ℕ → ℕ → List ℕ → Type 0
Once i a l = (i < a → tally (λ j. eqb j i) l ≡ 0) × (tally (λ j. eqb j i) l ≤ 1)

tally_one : (i a k : ℕ) → Once i a (from a k)
unfolding tally tabulate_from
tally_one i a zero = (λ l. refl, zero-le)
tally_one i a (suc k) = go (tally_one i (suc a) k) (eqb a i) refl
  where
    go : Once i (suc a) (from (suc a) k) → (b : Bool) → eqb a i ≡ b → Once i a (a ∷ from (suc a) k)
    go r true e = let q = eqb-true a i e in let z = r.0 (omega arith) in rw e (λ l. absurd (omega arith), omega arith)
    go r false e = rw e (λ l. (let z = r.0 (omega arith) in omega arith), (let z = r.1 in omega arith))

module _ {ids : ℕ → ℕ} {sources : ℕ → List ℕ} {n : ℕ} where
  pub grown_take : {o : List ℕ} (k : ℕ) → Grown ids sources n o → Grown ids sources n (take k o)
  grown_take zero none = none
  grown_take (suc k) none = none
  grown_take k (more {o} {i} g l h) = go (decided (leb k (length o)) (reads_le k (length o))) (grown_take k g)
    where
      go : (k ≤ length o) ⊎ (k ≤ length o → ⊥) → Grown ids sources n (take k o) → Grown ids sources n (take k (with o i))
      go (inl m) r = rw (take-append-le k o (i ∷ []) m) r
      go (inr m) r = let q = length_with o i in rw (take_all k (with o i) (omega arith)) (more g l h)

  pub grown_at : {o : List ℕ} → Grown ids sources n o → (k : ℕ) → k < length o → (get_or o k 0 < n) × MayJoin ids sources (take k o) (get_or o k 0)
  grown_at none k h = absurd (omega arith)
  grown_at (more {o} {i} g l j) k h =
      let q = length_with o i in
      let le : k ≤ length o = omega arith in
      go (λ m. grown_at g k m) (eq-or-lt_of_le le)
    where
      go : (k < length o → (get_or o k 0 < n) × MayJoin ids sources (take k o) (get_or o k 0)) → (k ≡ length o) ⊎ (k < length o)
          → (get_or (with o i) k 0 < n) × MayJoin ids sources (take k (with o i)) (get_or (with o i) k 0)
      go later (inl e) = rw (e, get_or-append_seam o i [] 0, take-append_seam o (i ∷ [])) (l, j)
      go later (inr m) = rw (get_or-append o (i ∷ []) 0 k m, take-append-le k o (i ∷ []) (le_of_lt m)) (later m)

  pub grown_below : {o : List ℕ} {j : ℕ} → Grown ids sources n o → j ∈ o → j < n
  grown_below none m = absurd (Memᴰ.not-nil m)
  grown_below (more g l h) m = ⊎_elim (λ a. grown_below g a) (λ e. rw e l) (with_cases m)

  pub grown_source : {o : List ℕ} {j x : ℕ} → Grown ids sources n o → j ∈ o → x ∈ sources j → x ∈ borne ids o
  grown_source none m s = absurd (Memᴰ.not-nil m)
  grown_source {x = x} (more {o} {i} g l h) m s =
      ⊎_elim (λ a. borne_more ids o i (grown_source g a s)) (λ e. borne_more ids o i (h.1 x (rw e at s))) (with_cases m)

  -- each index that joins is one more of the n, and only one
  length_tally : {o : List ℕ} → Grown ids sources n o → length o ≤ tally (λ j. mem j o) (below n)
  length_tally none = zero-le
  length_tally (more {o} {i} g l h) =
      let a = length_tally g in
      let out : mem i o ≡ false = mem_out (λ m. h.0 (Memᴰ.map ids m)) in
      let b = tally_more (λ j. mem j o) (λ j. mem j (with o i)) kept (lt_below l) out (mem_in (with_last o i)) in
      let c = length_with o i in
      omega arith
    where
      kept : (j : ℕ) → j ∈ below n → mem j o ≡ true → mem j (with o i) ≡ true
      kept j b e = mem_in (Memᴰ.append_left (i ∷ []) ((reads_mem j o).says e))

  tally_length : {o : List ℕ} → Grown ids sources n o → tally (λ j. mem j o) (below n) ≤ length o
  tally_length none =
      let a = tally_kept (λ j. mem j []) (λ j. false) (below n) (λ j m e. absurd (Memᴰ.not-nil ((reads_mem j []).says e))) in
      let b = tally_none (below n) in
      omega arith
  tally_length (more {o} {i} g l h) =
      let a = tally_length g in
      let b = tally_either (λ j. mem j o) (λ j. eqb j i) (λ j. mem j (with o i)) (below n) cases in
      let c = (tally_one i 0 n).1 in
      let d = length_with o i in
      omega arith
    where
      cases : (j : ℕ) → mem j (with o i) ≡ true → (mem j o ≡ true) ⊎ (eqb j i ≡ true)
      cases j e = ⊎_elim (λ m. inl (mem_in m)) (λ q. inr (eq-eqb j i q)) (with_cases ((reads_mem j (with o i)).says e))

  pub grown_length : {o : List ℕ} → Grown ids sources n o → length o ≤ n
  grown_length {o} g = let a = length_tally g in let b = tally_le (λ j. mem j o) (below n) in let c = length_below n in omega arith

  pub grown_full : {o : List ℕ} → Grown ids sources n o → n ≤ length o → (i : ℕ) → i < n → i ∈ o
  grown_full {o} g h i l =
      let a = length_tally g in
      let c = length_below n in
      (reads_mem i o).says (tally_full (λ j. mem j o) (below n) (omega arith) i (lt_below l))

  pub full_grown : {o : List ℕ} → Grown ids sources n o → ((i : ℕ) → i < n → i ∈ o) → length o ≡ n
  full_grown {o} g h =
      let a = grown_length g in
      let b = tally_length g in
      let c = length_below n in
      let d = tally_kept (λ j. true) (λ j. mem j o) (below n) (λ j m e. mem_in (h j (below_lt m))) in
      let f = tally_every (below n) in
      omega arith
