-- The records of a sheet by their IDs: an ID that stands in a sheet has one record there, and it is found.
--   found_is        ==  what is found for an ID is a record that bears it
--   record_found    ==  a record of a sheet is what is found for its ID, which is 1 to 255
--   found_none      ==  where nothing is found for an ID, none of a sheet's records bears it
--   differing_each, differing_rising  ==  the numbers of the bytes that differ
--   records_same    ==  two records in which no byte differs are the same, a Selector's kind mended
use Prim.Native.Nat.{ℕ, ◌*◌, ◌≤◌, ◌<◌}
use mathlib.Core.Path.{◌≡◌, refl, sym, ap, ◌∙◌}
use mathlib.Core.Bool.{Bool, true, false}
use mathlib.Core.Option.{Option, none, some}
use mathlib.Core.Logic.{◌↔◌, ⊎_elim}
use mathlib.Core.List.Memᴰ
use mathlib.Core.List.{List, [], ◌∷◌}
use lib.Dec.{eqb}
use lib.ListN.{length}
use lib.Seq.{ext_get_or}
use native.Mathlib.Omega.{arith}
use borrow.Author.Tests.{eqb-true}
use Rattle.ground.specs.Pick.{pick, Reads, reads_not, shows}
use Rattle.ground.specs.Numbers.{byte, Bytes}
use Rattle.ground.specs.Lists.{member_at}
use Rattle.ground.specs.Places.{Finding, finding}
use Rattle.graph.specs.Members.{◌∈◌, along}
use Rattle.graph.specs.Tables.{get_d_tabulate, length_tabulate}
use Rattle.graph.specs.Borne.{bears}
use Rattle.records.specs.Records.{record_size}
use Rattle.legal.specs.Sheet.{count_in, record_at, records_by, records_in, id_of, id_at, Sheet}
use Rattle.legal.specs.SheetLaws.{record_id, in_records, records_long}
use Rattle.ground.specs.Rising.{Rising}
use Rattle.differences.specs.InTurn.{in_turn, in_turn_lem, of_turn, AtMostOne, turn_rising}
use Rattle.differences.specs.InTurn.AtMostOne.{nothing, one}
use Rattle.differences.specs.Mended.{SameByte, same_compared, compared_as, reads_same_byte, mended}
use Rattle.differences.proofs.MendedLemmas.{mended_long, mended_byte}
use Rattle.differences.specs.Lines.{last_id, record_bearing, differs, differing}
use Rattle.differences.specs.LinesLaws.{record_first}

module _ (s : List ℕ) where
  record_in_lem : (k : ℕ) → k < count_in s → record_at s k ∈ records_in s
  unfolding records_by
  record_in_lem k h =
      along refl (rw (get_d_tabulate (count_in s) (record_at s) k [] h) at (member_at [] (records_in s) k (rw (length_tabulate (count_in s) (record_at s)) h)))

  pub found_is : (i : ℕ) {a : List ℕ} → record_bearing s i ≡ some a → a ∈ records_in s × (id_of a ≡ i)
  unfolding record_bearing
  found_is i {a} e = go (finding (bears (id_at s) i) (λ j. some (record_at s j)) none (count_in s)) e
    where
      go : {x : Option (List ℕ)} → Finding (bears (id_at s) i) (λ j. some (record_at s j)) none (count_in s) x → x ≡ some a → a ∈ records_in s × (id_of a ≡ i)
      go (Finding.nothing h) q = let z : ◌≡◌ {A = ℕ} 0 1 = cc in absurd (omega arith)
      go (Finding.first {i = k} f) q =
          let z : record_at s k ≡ a = cc in
          (rw z at (record_in_lem k f.inside), sym (ap id_of z) ∙ record_id record_size s k f.inside (omega arith) ∙ eqb-true (id_at s k) i f.passes)

  pub record_size_lem : {a : List ℕ} → a ∈ records_in s → length a ≡ record_size
  record_size_lem m = records_long record_size s m

  module _ (sheet : Sheet s) where
    pub record_found : {a : List ℕ} → a ∈ records_in s → record_bearing s (id_of a) ≡ some a
    record_found {a} m =
        let k = in_records record_size s m in
        let i : id_at s k.0 ≡ id_of a = sym (record_id record_size s k.0 k.1 (omega arith)) ∙ ap id_of k.2 in
        let first : (j : ℕ) → j < k.0 → id_at s j ≡ id_of a → ⊥ = (λ j h e. let l = k.1 in let q : j ≡ k.0 = sheet.own.once j k.0 (omega arith) l (e ∙ sym i) in omega arith) in
        record_first s (id_of a) k.0 k.1 i first ∙ ap (λ (b : List ℕ). some b) k.2

    pub id_above : {a : List ℕ} → a ∈ records_in s → 0 < id_of a
    id_above {a} m =
        let k = in_records record_size s m in
        let i : id_at s k.0 ≡ id_of a = sym (record_id record_size s k.0 k.1 (omega arith)) ∙ ap id_of k.2 in
        let n : id_of a ≡ 0 → ⊥ = (λ z. sheet.own.named k.0 k.1 (i ∙ z)) in
        omega arith

    pub found_none : (i : ℕ) → record_bearing s i ≡ none → {a : List ℕ} → a ∈ records_in s → id_of a ≡ i → ⊥
    found_none i e {a} m q = let f : record_bearing s i ≡ some a = ap (record_bearing s) (sym q) ∙ record_found m in let z : ◌≡◌ {A = ℕ} 0 1 = cc in omega arith

  pub id_below : Bytes s → {a : List ℕ} → a ∈ records_in s → id_of a ≤ last_id
  id_below b {a} m =
      let k = in_records record_size s m in
      let i : id_at s k.0 ≡ id_of a = sym (record_id record_size s k.0 k.1 (omega arith)) ∙ ap id_of k.2 in
      let l : id_at s k.0 < 256 = b (k.0 * record_size) in
      omega arith

module _ (a b : List ℕ) where
  abbrev number : ℕ → List ℕ
  number n = pick (differs a b n) (n ∷ []) []

  reads_differs : (n : ℕ) → Reads (differs a b n) (SameByte n (byte a n) (byte b n) → ⊥)
  reads_differs n = reads_not _ (reads_same_byte n (byte a n) (byte b n))

  in_number : (n : ℕ) {m : ℕ} → m ∈ number n → (m ≡ n) × (SameByte n (byte a n) (byte b n) → ⊥)
  in_number n {m} k = go (differs a b n) (reads_differs n) k
    where
      go : (c : Bool) → Reads c (SameByte n (byte a n) (byte b n) → ⊥) → m ∈ pick c (n ∷ []) [] → (m ≡ n) × (SameByte n (byte a n) (byte b n) → ⊥)
      go true r k = (⊎_elim (λ e. e) (λ t. absurd (Memᴰ.not-nil t)) (Memᴰ.cases_cons k), r.says refl)
      go false r k = absurd (Memᴰ.not-nil k)

  pub differing_each : (n : ℕ) → n ∈ differing a b ↔ ((n < record_size) × (SameByte n (byte a n) (byte b n) → ⊥))
  unfolding differing
  differing_each n = (of, to)
    where
      of : n ∈ in_turn number 0 record_size → (n < record_size) × (SameByte n (byte a n) (byte b n) → ⊥)
      of m =
          let j = of_turn number 0 record_size m in
          let k = in_number j.0 j.3 in
          let l = j.2 in
          let q : n ≡ j.0 = k.0 in
          (omega arith, rw q k.1)

      to : (n < record_size) × (SameByte n (byte a n) (byte b n) → ⊥) → n ∈ in_turn number 0 record_size
      to (h, d) = in_turn_lem number 0 record_size n (omega arith) (omega arith) (rw (shows (reads_differs n) d) (Memᴰ.head refl))

  pub differing_rising : Rising (λ n. n) (differing a b)
  unfolding differing
  differing_rising = turn_rising (λ n. n) number few (λ j x m. (in_number j m).0) 0 record_size
    where
      few : (j : ℕ) → AtMostOne (number j)
      few j = go (differs a b j)
        where
          go : (c : Bool) → AtMostOne (pick c (j ∷ []) [])
          go true = one
          go false = nothing

  pub records_same : length a ≡ record_size → length b ≡ record_size → differing a b ≡ [] → mended a ≡ mended b
  records_same p q e =
      ext_get_or 0 (mended a) (mended b) (mended_long a ∙ p ∙ sym (mended_long b ∙ q))
      (λ n l. let k = mended_long a in mended_byte a n ∙ same_compared (same n (omega arith)) ∙ sym (mended_byte b n))
    where
      same : (n : ℕ) → n < record_size → SameByte n (byte a n) (byte b n)
      same n l = go (eqb (compared_as n (byte a n)) (compared_as n (byte b n))) (reads_same_byte n (byte a n) (byte b n))
        where
          go : (c : Bool) → Reads c (SameByte n (byte a n) (byte b n)) → SameByte n (byte a n) (byte b n)
          go true r = r.says refl
          go false r = absurd (Memᴰ.not-nil (along e ((differing_each n).1 (l, r.denies refl))))
