-- Bytes put at a place of a buffer.
--   pasted at x d  ==  d, with x in place of as many bytes from place at on
--   pasted_in at x d  ==  the same, or d where they do not fit
--   pasted_length, pasted_append  ==  its length; two pasted one behind the other are pasted together
--   pasted_none    ==  no bytes change nothing
--   Copied from at d now i, copied_start, copied_length, copied_room, copied_on, copied_over ==  the loop that copies: i bytes of from are in place
use Rattle.std.specs.Prelude.{ℕ, suc, ◌+◌, ◌≤◌, ◌<◌, ◌≡◌, List, [], ◌∷◌, ◌++◌, length, get_or, take, drop, set, leb}
use Rattle.std.proofs.Common.{add-one, add-zero, arith, sym, ap, ◌∙◌, append-nil, length-append, take-append-drop}
use Rattle.std.proofs.lemmas.List.Edits.{sets, sets-eq, length-paste}
use Rattle.std.proofs.Math.Seq.{length-sets, paste, paste-zero, paste-suc, take-length}
use Rattle.ground.specs.Pick.{pick}

unfoldable pub pasted : ℕ → List ℕ → List ℕ → List ℕ
pasted at x d = take at d ++ x ++ drop (at + length x) d

unfoldable pub pasted_in : ℕ → List ℕ → List ℕ → List ℕ
pasted_in at x d = pick (leb (at + length x) (length d)) (pasted at x d) d

pub pasted_none : (at : ℕ) (d : List ℕ) → pasted at [] d ≡ d
unfolding pasted
pasted_none at d = rw (append-nil (take at d), add-zero at) (take-append-drop at d)

pasted_sets : (at : ℕ) (x d : List ℕ) → at + length x ≤ length d → pasted at x d ≡ sets d at x
unfolding pasted
pasted_sets at x d h = sym (sets-eq x d at h)

pub pasted_length : (at : ℕ) (x d : List ℕ) → at + length x ≤ length d → length (pasted at x d) ≡ length d
pasted_length at x d h = ap length (pasted_sets at x d h) ∙ length-sets d at x

sets_append : (x y d : List ℕ) (at : ℕ) → sets (sets d at x) (at + length x) y ≡ sets d at (x ++ y)
sets_append [] y d at = ap (λ (i : ℕ). sets d i y) (add-zero at)
sets_append (a ∷ x) y d at =
    let e : at + suc (length x) ≡ suc at + length x = omega arith in
    ap (λ (i : ℕ). sets (sets (set d at a) (suc at) x) i y) e ∙ sets_append x y (set d at a) (suc at)

pub pasted_append : (at : ℕ) (x y d : List ℕ) → at + length x + length y ≤ length d → pasted (at + length x) y (pasted at x d) ≡ pasted at (x ++ y) d
pasted_append at x y d h =
    let n = pasted_length at x d (omega arith) in
    let m = length-append x y in
    pasted_sets (at + length x) y (pasted at x d) (omega arith)
    ∙ ap (λ (l : List ℕ). sets l (at + length x) y) (pasted_sets at x d (omega arith))
    ∙ sets_append x y d at ∙ sym (pasted_sets at (x ++ y) d (omega arith))

pub record Copied (from : List ℕ) (at : ℕ) (d now : List ℕ) (i : ℕ) : Type 0 where
  pub room : at + length from ≤ length d
  pub passed : i ≤ length from
  pub same : now ≡ paste d at from i

pub copied_start : (from : List ℕ) (at : ℕ) (d : List ℕ) → at + length from ≤ length d → Copied from at d d 0
copied_start from at d h = record { room = h; passed = omega arith; same = paste-zero d at from }

pub copied_length : (from : List ℕ) (at : ℕ) (d now : List ℕ) (i : ℕ) → Copied from at d now i → length now ≡ length d
copied_length from at d now i c = let r = c.room in let p = c.passed in ap length c.same ∙ length-paste d at from i (omega arith) p

pub copied_room : (from : List ℕ) (at : ℕ) (d now : List ℕ) (i : ℕ) → Copied from at d now i → i < length from → at + i < length now
copied_room from at d now i c h =
    let r = c.room in
    let n = copied_length from at d now i c in
    omega arith

pub copied_on : (from : List ℕ) (at : ℕ) (d now : List ℕ) (i : ℕ) → Copied from at d now i → i < length from → Copied from at d (set now (at + i) (get_or from i 0)) (i + 1)
copied_on from at d now i c h =
    let r = c.room in
    record {
      room = r;
      passed = omega arith;
      same = ap (λ (l : List ℕ). set l (at + i) (get_or from i 0)) c.same ∙ paste-suc d at from i 0 (omega arith) h ∙ ap (paste d at from) (sym (add-one i));
    }

pub copied_over : (from : List ℕ) (at : ℕ) (d now : List ℕ) (i : ℕ) → Copied from at d now i → length from ≤ i → now ≡ pasted at from d
unfolding pasted
copied_over from at d now i c h =
    let p = c.passed in
    let e : i ≡ length from = omega arith in
    c.same ∙ ap (paste d at from) e ∙ ap (λ (l : List ℕ). take at d ++ l ++ drop (at + length from) d) (take-length from)
