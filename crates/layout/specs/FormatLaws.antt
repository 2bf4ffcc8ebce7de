-- What is written can be read, and what can be read was written: by induction on the format, once for all layouts. No law asks that the
-- numbers are bytes: a number of two bytes is kept as the two.
--   Found, found     ==  where v is written from offset k to the end, the test passes and v is what is read there
--   Again, again     ==  where the test passes, what stands there is what is read, written again, and its numbers are in range
--   fits_inside      ==  where the test passes, a byte stands at offset k
--   fed_part         ==  where the test passes, the sources are a part of d, from the first source's offset on
--   fed_inside       ==  and they end inside d
--   word_two         ==  a number is its two bytes, put together
--   here_at, after_at, take_after, drop_after, open_at  ==  a number or a list that stands at offset k, and what stands behind it
--   stretch_length   ==  a part of d that ends inside it is as long as it says; one_at: a part of one byte
use Prim.{tt}
use Rattle.std.specs.Prelude.{ℕ, zero, suc, ◌+◌, ◌-◌, ◌≤◌, ◌<◌, ◌≡◌, refl, Bool, true, ◌&&◌, List, [], ◌∷◌, ◌++◌, length, take, drop}
use Rattle.std.proofs.Common.{add-one, arith, sym, ap, ◌∙◌, take-append-drop, length-append, length-drop, drop-cons, drop-drop, get_or-drop, length-take-le, take-suc, take_all, eq-eqb, eqb-true, le-leb, leb-true}
use Rattle.std.proofs.Math.Seq.{take-append_seam, drop-append_seam, get_or-append_seam, drop-length}
use Rattle.ground.specs.Pick.{within, shows, reads_within, reads_and, reads_true}
use Rattle.ground.specs.Numbers as at
use Rattle.layout.specs.Format.{Format, last, rest, byte, source, ranged, word, sources, word_of, two_of, Value, emit, fits, value_at, InRange, fed, first_source}

pub word_two : (n : ℕ) → word_of (two_of n) ≡ n
word_two n = omega arith

-- ---- what stands at an offset

head_at : (d : List ℕ) (k : ℕ) → at.byte d k ≡ at.byte (drop k d) 0
head_at d zero = refl
head_at [] (suc k) = refl
head_at (x ∷ d) (suc k) = head_at d k

module _ (d : List ℕ) (k : ℕ) where
  pub here_at : (x : ℕ) (m : List ℕ) → drop k d ≡ x ∷ m → at.byte d k ≡ x
  here_at x m e = head_at d k ∙ ap (λ (l : List ℕ). at.byte l 0) e

  pub after_at : (x : ℕ) (m : List ℕ) → drop k d ≡ x ∷ m → drop (k + 1) d ≡ m
  after_at x m e = sym (drop-drop 1 k d) ∙ ap (λ (l : List ℕ). drop 1 l) e

  pub take_after : (x m : List ℕ) → drop k d ≡ x ++ m → take (length x) (drop k d) ≡ x
  take_after x m e = ap (λ (l : List ℕ). take (length x) l) e ∙ take-append_seam x m

  pub drop_after : (x m : List ℕ) → drop k d ≡ x ++ m → drop (k + length x) d ≡ m
  drop_after x m e = sym (drop-drop (length x) k d) ∙ ap (λ (l : List ℕ). drop (length x) l) e ∙ drop-append_seam x m

  pub open_at : k < length d → drop k d ≡ at.byte d k ∷ drop (k + 1) d
  open_at h = rw (add-one, drop-cons d k 0)

  pub stretch_length : (n : ℕ) → k + n ≤ length d → length (take n (drop k d)) ≡ n
  stretch_length n h = let m : n ≤ length (drop k d) = rw (length-drop k d) (omega arith) in length-take-le n (drop k d) m

-- ---- tests

both : {a b : Bool} → a ≡ true → b ≡ true → (a && b) ≡ true
both {a} {b} e f = shows (reads_and a b (reads_true a) (reads_true b)) (e, f)

each : (a b : Bool) → (a && b) ≡ true → (a ≡ true) × (b ≡ true)
each a b e = (reads_and a b (reads_true a) (reads_true b)).says e

pub fits_inside : (F : Format) (d : List ℕ) (k : ℕ) → fits F d k ≡ true → k < length d
fits_inside last d k e = let h = eqb-true (length d) (k + 1) e in omega arith
fits_inside rest d k e = let h = leb-true (k + 1) (length d) e in omega arith
fits_inside (byte F) d k e = let h = fits_inside F d (k + 1) e in omega arith
fits_inside (source F) d k e = let h = fits_inside F d (k + 1) e in omega arith
fits_inside (ranged low high F) d k e = let h = fits_inside F d (k + 1) (each (within low (at.byte d k) high) _ e).1 in omega arith
fits_inside (word F) d k e = let h = fits_inside F d (k + 2) e in omega arith
fits_inside (sources low high F) d k e = let h = fits_inside F d (k + 1 + at.byte d k) (each (within low (at.byte d k) high) _ e).1 in omega arith

-- ---- written, then read

pub record Found (F : Format) (d : List ℕ) (k : ℕ) (v : Value F) : Type 0 where
  pub passes : fits F d k ≡ true
  pub same : value_at F d k ≡ v

pub found : (F : Format) (d : List ℕ) (k : ℕ) (v : Value F) → drop k d ≡ emit F v → InRange F v → Found F d k v
found last d k v e g =
    let n : length d - k ≡ 1 = sym (length-drop k d) ∙ ap length e in
    record { passes = eq-eqb (length d) (k + 1) (omega arith); same = here_at d k v [] e }
found rest d k v e g =
    let n : length d - k ≡ length v.0 + 1 = sym (length-drop k d) ∙ ap length e ∙ length-append v.0 (v.1 ∷ []) in
    let m : length d - (k + 1) ≡ length v.0 = omega arith in
    let i : length d - 1 ≡ k + length v.0 = omega arith in
    let front : take (length d - (k + 1)) (drop k d) ≡ v.0 = rw m (take_after d k v.0 _ e) in
    let end : at.byte d (length d - 1) ≡ v.1 =
    rw i (sym (get_or-drop k d (length v.0) 0) ∙ ap (λ (l : List ℕ). at.byte l (length v.0)) e ∙ get_or-append_seam v.0 v.1 [] 0) in
    record { passes = le-leb (k + 1) (length d) (omega arith); same = rw (front, end) refl }
found (byte F) d k v e g =
    let h : at.byte d k ≡ v.0 = here_at d k _ _ e in
    let r = found F d (k + 1) v.1 (after_at d k _ _ e) g in
    record { passes = r.passes; same = rw (h, r.same) refl }
found (source F) d k v e g =
    let h : at.byte d k ≡ v.0 = here_at d k _ _ e in
    let r = found F d (k + 1) v.1 (after_at d k _ _ e) g in
    record { passes = r.passes; same = rw (h, r.same) refl }
found (ranged low high F) d k v e g =
    let h : at.byte d k ≡ v.0 = here_at d k _ _ e in
    let r = found F d (k + 1) v.1 (after_at d k _ _ e) g.1 in
    record {
      passes = both (shows (reads_within low (at.byte d k) high) (rw h g.0)) r.passes;
      same = rw (h, r.same) refl;
    }
found (word F) d k v e g =
    let h : at.byte d k ≡ v.0.low = here_at d k _ _ e in
    let f : drop (k + 1) d ≡ v.0.high ∷ emit F v.1 = after_at d k _ _ e in
    let i : at.byte d (k + 1) ≡ v.0.high = here_at d (k + 1) _ _ f in
    let j : k + 1 + 1 ≡ k + 2 = omega arith in
    let r = found F d (k + 2) v.1 (rw j at (after_at d (k + 1) _ _ f)) g in
    record { passes = r.passes; same = rw (h, i, r.same) refl }
found (sources low high F) d k v e g =
    let h : at.byte d k ≡ length v.0 = here_at d k _ _ e in
    let f : drop (k + 1) d ≡ v.0 ++ emit F v.1 = after_at d k _ _ e in
    let r = found F d (k + 1 + length v.0) v.1 (drop_after d (k + 1) v.0 _ f) g.1 in
    let p : within low (at.byte d k) high ≡ true = shows (reads_within low (at.byte d k) high) (rw h g.0) in
    record {
      passes = both p (rw h r.passes);
      same = rw (h, take_after d (k + 1) v.0 (emit F v.1) f, r.same) refl;
    }

-- ---- read, then written

pub record Again (F : Format) (d : List ℕ) (k : ℕ) : Type 0 where
  pub bytes : drop k d ≡ emit F (value_at F d k)
  pub ranges : InRange F (value_at F d k)

-- a byte at k, then a format that is written again
one_again : (F : Format) (d : List ℕ) (k : ℕ) → fits F d (k + 1) ≡ true → Again F d (k + 1) → drop k d ≡ at.byte d k ∷ emit F (value_at F d (k + 1))
one_again F d k e r =
    let h = fits_inside F d (k + 1) e in
    open_at d k (omega arith) ∙ ap (λ (l : List ℕ). at.byte d k ∷ l) r.bytes

-- a list of p at k, then a format that is written again
list_again : (F : Format) (d : List ℕ) (k p : ℕ) → Again F d (k + p) → drop k d ≡ take p (drop k d) ++ emit F (value_at F d (k + p))
list_again F d k p r = sym (take-append-drop p (drop k d)) ∙ ap (λ (l : List ℕ). take p (drop k d) ++ l) (drop-drop p k d ∙ r.bytes)

pub again : (F : Format) (d : List ℕ) (k : ℕ) → fits F d k ≡ true → Again F d k
again last d k e =
    let n = eqb-true (length d) (k + 1) e in
    let h : drop (k + 1) d ≡ [] = ap (λ (i : ℕ). drop i d) (sym n) ∙ drop-length d in
    record { bytes = open_at d k (omega arith) ∙ ap (λ (l : List ℕ). at.byte d k ∷ l) h; ranges = tt }
again rest d k e =
    let n = leb-true (k + 1) (length d) e in
    let m = length d - (k + 1) in
    let i : k + m ≡ length d - 1 = omega arith in
    let l : m < length (drop k d) = rw (length-drop k d) (omega arith) in
    let a : length (drop k d) ≤ suc m = rw (length-drop k d) (omega arith) in
    record {
      bytes = sym (take_all (suc m) (drop k d) a) ∙ take-suc (drop k d) m 0 l ∙ rw (get_or-drop k d m 0, i) refl;
      ranges = tt;
    }
again (byte F) d k e = let r = again F d (k + 1) e in record { bytes = one_again F d k e r; ranges = r.ranges }
again (source F) d k e = let r = again F d (k + 1) e in record { bytes = one_again F d k e r; ranges = r.ranges }
again (ranged low high F) d k e =
    let t = each (within low (at.byte d k) high) _ e in
    let r = again F d (k + 1) t.1 in
    record { bytes = one_again F d k t.1 r; ranges = ((reads_within low (at.byte d k) high).says t.0, r.ranges) }
again (word F) d k e =
    let r = again F d (k + 2) e in
    let h = fits_inside F d (k + 2) e in
    let j : k + 1 + 1 ≡ k + 2 = omega arith in
    let f : drop (k + 1) d ≡ at.byte d (k + 1) ∷ drop (k + 2) d = rw j at (open_at d (k + 1) (omega arith)) in
    record {
      bytes = open_at d k (omega arith) ∙ ap (λ (l : List ℕ). at.byte d k ∷ l) (f ∙ ap (λ (l : List ℕ). at.byte d (k + 1) ∷ l) r.bytes);
      ranges = r.ranges;
    }
again (sources low high F) d k e =
    let t = each (within low (at.byte d k) high) _ e in
    let p = at.byte d k in
    let r = again F d (k + 1 + p) t.1 in
    let h = fits_inside F d (k + 1 + p) t.1 in
    let q = (reads_within low (at.byte d k) high).says t.0 in
    let n : length (take p (drop (k + 1) d)) ≡ p = stretch_length d (k + 1) p (omega arith) in
    record {
      bytes =
          open_at d k (omega arith)
          ∙ ap (λ (l : List ℕ). p ∷ l) (list_again F d (k + 1) p r)
          ∙ ap (λ (i : ℕ). i ∷ (take p (drop (k + 1) d) ++ emit F (value_at F d (k + 1 + p)))) (sym n);
      ranges = (rw n q, r.ranges);
    }

-- ---- the sources

pub one_at : (d : List ℕ) (k : ℕ) → k < length d → at.byte d k ∷ [] ≡ take 1 (drop k d)
one_at d k h = sym (ap (λ (l : List ℕ). take 1 l) (drop-cons d k 0 h))

-- a stretch, by its own length
own_length : (d : List ℕ) (k p : ℕ) → k + p ≤ length d → take p (drop k d) ≡ take (length (take p (drop k d))) (drop k d)
own_length d k p h = ap (λ (n : ℕ). take n (drop k d)) (sym (stretch_length d k p h))

pub fed_part : (F : Format) (d : List ℕ) (k : ℕ) → fits F d k ≡ true
    → fed F (value_at F d k) ≡ take (length (fed F (value_at F d k))) (drop (first_source F k) d)
fed_part last d k e = refl
fed_part rest d k e = refl
fed_part (byte F) d k e = fed_part F d (k + 1) e
fed_part (source F) d k e = let h = fits_inside F d (k + 1) e in one_at d k (omega arith)
fed_part (ranged low high F) d k e = fed_part F d (k + 1) (each (within low (at.byte d k) high) _ e).1
fed_part (word F) d k e = fed_part F d (k + 2) e
fed_part (sources low high F) d k e =
    let h = fits_inside F d (k + 1 + at.byte d k) (each (within low (at.byte d k) high) _ e).1 in
    own_length d (k + 1) (at.byte d k) (omega arith)

pub fed_inside : (F : Format) (d : List ℕ) (k : ℕ) → fits F d k ≡ true → first_source F k + length (fed F (value_at F d k)) ≤ length d
fed_inside last d k e = omega arith
fed_inside rest d k e = omega arith
fed_inside (byte F) d k e = fed_inside F d (k + 1) e
fed_inside (source F) d k e = let h = fits_inside F d (k + 1) e in omega arith
fed_inside (ranged low high F) d k e = fed_inside F d (k + 1) (each (within low (at.byte d k) high) _ e).1
fed_inside (word F) d k e = fed_inside F d (k + 2) e
fed_inside (sources low high F) d k e =
    let h = fits_inside F d (k + 1 + at.byte d k) (each (within low (at.byte d k) high) _ e).1 in
    let n = stretch_length d (k + 1) (at.byte d k) (omega arith) in
    omega arith
