-- What is refused as a sheet, exactly: each number where the paper gives it, none where there is a sheet. Of records of k bytes, any k.
--   reads_length, reads_ids  ==  what the two tests decide
--   sheet_judged, judged_one ==  THE LAW: the number is the one that the paper gives, and there is no other
--   sheet_given     ==  what is refused by no number is a sheet
--   record_inside   ==  a record ends within the bytes
--   record_long     ==  a record is as long as the paper says
--   record_byte     ==  its bytes are those of the sheet from where it begins; record_id: so is its ID
--   in_records      ==  each record is the one at an index; records_long: so it is as long
use Rattle.std.specs.Prelude.{ℕ, ◌+◌, ◌*◌, ◌%◌, ◌≤◌, ◌<◌, ◌≡◌, Bool, ◌⊎◌, drop, eqb}
use Rattle.std.proofs.Math.Path.{refl, sym, ap}
use Rattle.std.proofs.Common.{◌∙◌, inl, inr, arith, div-mul-le_self, mul-le-mul_right, suc-mul, add-zero, length-take, length-drop, get_or-take, get_or-drop}
use Rattle.std.proofs.Math.Bool.{true, false, not}
use mathlib.Core.List.{List, []}
use Rattle.std.proofs.Math.ListN.{length}
use Rattle.ground.specs.Pick.{pick, yes, no, Reads, shows, refutes, reads_lt, reads_eq, reads_or, reads_not, true≠false}
use Rattle.ground.specs.Numbers.{byte}
use Rattle.ground.specs.Places.{reads_somewhere}
use Rattle.ground.specs.Lists.{member_index}
use Rattle.graph.specs.Members.{◌∈◌}
use Rattle.graph.specs.Tables.{length_tabulate, get_d_tabulate}
use Rattle.graph.specs.Borne.{wrong_id, reads_wrong, reads_own}
use Rattle.legal.specs.Sheet.JudgedBy.{wrong_length, wrong_id_lem, sheet}
use Rattle.legal.specs.Sheet.{most_by, count_by, record_by, records_by, id_of, id_by, WrongLengthBy, WrongIdBy, SheetBy, JudgedBy, bad_length_by, bad_ids_by, number_by}

pub reads_length : (k : ℕ) (s : List ℕ) → Reads (bad_length_by k s) (WrongLengthBy k s)
unfolding bad_length_by
reads_length k s = reads_or _ _ (reads_lt (most_by k) (length s)) (reads_not _ (reads_eq (length s % k) 0))

pub reads_ids : (k : ℕ) (s : List ℕ) → Reads (bad_ids_by k s) (WrongIdBy k s)
unfolding bad_ids_by
reads_ids k s = reads_somewhere (wrong_id (id_by k s)) (λ i. (id_by k s i ≡ 0) ⊎ ((j : ℕ) × (j < i) × (id_by k s j ≡ id_by k s i))) (count_by k s) (λ i l. reads_wrong (id_by k s) i)

module _ (k : ℕ) (s : List ℕ) where
  sheet_of : (WrongLengthBy k s → ⊥) → (WrongIdBy k s → ⊥) → SheetBy k s
  unfolding bad_ids_by
  sheet_of f g = record {
    short = let n : most_by k < length s → ⊥ = (λ l. f (inl l)) in omega arith;
    whole = go (eqb (length s % k) 0) (reads_eq (length s % k) 0);
    own = (reads_own (id_by k s) (count_by k s)).says (ap not (refutes (reads_ids k s) g));
  }
    where
      go : (b : Bool) → Reads b (length s % k ≡ 0) → length s % k ≡ 0
      go true r = r.says refl
      go false r = absurd (f (inr (r.denies refl)))

  length_of : SheetBy k s → WrongLengthBy k s → ⊥
  length_of y (inl l) = let m = y.short in omega arith
  length_of y (inr n) = n y.whole

  ids_of : SheetBy k s → WrongIdBy k s → ⊥
  unfolding bad_ids_by
  ids_of y w = true≠false (sym (shows (reads_own (id_by k s) (count_by k s)) y.own) ∙ ap not (shows (reads_ids k s) w))

  pub sheet_judged : JudgedBy k s (number_by k s)
  unfolding number_by
  sheet_judged = go (bad_length_by k s) (reads_length k s) (bad_ids_by k s) (reads_ids k s)
    where
      go : (a : Bool) → Reads a (WrongLengthBy k s) → (b : Bool) → Reads b (WrongIdBy k s) → JudgedBy k s (pick a 41 (pick b 42 0))
      go true r b q = wrong_length (r.says refl)
      go false r true q = wrong_id_lem (r.denies refl) (q.says refl)
      go false r false q = sheet (sheet_of (r.denies refl) (q.denies refl))

  pub judged_one : {n : ℕ} → JudgedBy k s n → number_by k s ≡ n
  unfolding number_by
  judged_one (wrong_length w) = yes _ _ (shows (reads_length k s) w)
  judged_one (wrong_id_lem f w) = no _ _ (refutes (reads_length k s) f) ∙ yes _ _ (shows (reads_ids k s) w)
  judged_one (sheet y) = no _ _ (refutes (reads_length k s) (length_of y)) ∙ no _ _ (refutes (reads_ids k s) (ids_of y))

  pub sheet_given : {n : ℕ} → JudgedBy k s n → n ≡ 0 → SheetBy k s
  sheet_given (wrong_length w) e = absurd (omega arith)
  sheet_given (wrong_id_lem f w) e = absurd (omega arith)
  sheet_given (sheet y) e = y

  module _ (i : ℕ) (h : i < count_by k s) where
    pub record_inside : i * k + k ≤ length s
    record_inside = omega (arith, div-mul-le_self (length s) k, mul-le-mul_right k h, suc-mul i k)

    pub record_long : length (record_by k s i) ≡ k
    record_long = let m = record_inside in simp (length-take, length-drop) (omega arith)

    pub record_byte : (n : ℕ) → n < k → byte (record_by k s i) n ≡ byte s (i * k + n)
    record_byte n l = get_or-take k (drop (i * k) s) n 0 l ∙ get_or-drop (i * k) s n 0

    pub record_id : 0 < k → id_of (record_by k s i) ≡ id_by k s i
    record_id l = record_byte 0 l ∙ ap (byte s) (add-zero _)

  pub in_records : {a : List ℕ} → a ∈ records_by k s → (i : ℕ) × (i < count_by k s) × (record_by k s i ≡ a)
  unfolding records_by
  in_records {a} m =
      let i = member_index [] m in
      let h : i.0 < count_by k s = rw (length_tabulate (count_by k s) (record_by k s)) at i.1 in
      (i.0, h, sym (get_d_tabulate (count_by k s) (record_by k s) i.0 [] h) ∙ i.2)

  pub records_long : {a : List ℕ} → a ∈ records_by k s → length a ≡ k
  records_long m = let i = in_records m in sym (ap length i.2) ∙ record_long i.0 i.1
