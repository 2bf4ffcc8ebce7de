-- Laws of laying: lengths by kind, what is pasted part by part, and the ways out.
--   short_some, short_none  ==  a length up to 255, and one past it
--   short_told, long_told  ==  a length that there is is the descriptor's, and no more than 255; where there is none it is more
--   long_mixer, long_selector, long_feature, long_printed  ==  how long a descriptor is, by the kinds whose length varies
--   pasted_two, pasted_three  ==  two, three stretches pasted one behind another are pasted together
--   mixer_pasted    ==  a Mixer's parts pasted one behind another are its descriptor
--   selector_pasted, feature_pasted, printed_pasted  ==  .. and so of the others
--   paste_short, paste_behind, paste_done  ==  the ways out of paste
--   lay_none, lay_short, lay_behind, lay_done  ==  the ways out of lay; lay_small, lay_room: what the last asks for
use Rattle.std.specs.Prelude.{ℕ, ◌+◌, ◌-◌, ◌/◌, ◌%◌, ◌≤◌, ◌<◌, ◌≡◌, Bool, true, false, leb}
use Rattle.std.proofs.Common.{arith, ap, ◌∙◌, length-append, le-leb, leb-true, leb-false}
use Rattle.std.proofs.Math.Path.{refl, sym}
use mathlib.Core.List.{List, [], ◌∷◌, ◌++◌}
use Rattle.std.proofs.Math.ListN.{length}
use Rattle.std.proofs.lemmas.Bool.{lt-leb}
use Rattle.std.specs.declared.option.Option.TheVariants.{None, Some}
use Rattle.ground.specs.Pick.{pick, yes, no, Reads, shows, refutes, reads_and, reads_le}
use Rattle.layout.specs.Format.{TwoBytes, two_of}
use Rattle.layout.specs.Fields.{mixer, selector, feature, bytes_of}
use Rattle.fields.specs.Listed.{printed, written_as}
use Rattle.laying.specs.Paste.{pasted, pasted_in, pasted_append, pasted_length}
use Rattle.laying.specs.Laying.{short_of, fits_at, laid_size, laid_in, Lay}

pub short_some : (n : ℕ) → n ≤ 255 → Some n ≡ short_of n
unfolding short_of
short_some n h = sym (yes _ _ (le-leb _ _ h))

pub short_none : (n : ℕ) → 255 < n → None ≡ short_of n
unfolding short_of
short_none n h = sym (no _ _ (lt-leb _ _ h))

pub short_told : (n r : ℕ) → Some r ≡ short_of n → (r ≡ n) × (n ≤ 255)
unfolding short_of
short_told n r = go (leb n 255) refl
  where
    go : (b : Bool) → leb n 255 ≡ b → Some r ≡ pick b (Some n) None → (r ≡ n) × (n ≤ 255)
    go true t e = let q : r ≡ n = cc in (q, leb-true _ _ t)
    go false t e = let z : ◌≡◌ {A = ℕ} 0 1 = cc in absurd (omega arith)

pub long_told : (n : ℕ) → None ≡ short_of n → 255 < n
unfolding short_of
long_told n = go (leb n 255) refl
  where
    go : (b : Bool) → leb n 255 ≡ b → None ≡ pick b (Some n) None → 255 < n
    go true t e = let z : ◌≡◌ {A = ℕ} 0 1 = cc in absurd (omega arith)
    go false t e = leb-false _ _ t

pub long_selector : (i n : ℕ) (s : List ℕ) → length (bytes_of (selector i s n)) ≡ 6 + length s
long_selector i n s = let o = length-append s (n ∷ []) in omega arith

pub long_printed : (i n : ℕ) (s : List ℕ) → length (written_as (printed i s n)) ≡ 7 + length s
long_printed i n s = let o = length-append s (n ∷ []) in omega arith

pub long_feature : (i s z n : ℕ) (k : List ℕ) → length (bytes_of (feature i s z k n)) ≡ 7 + length k
long_feature i s z n k = let o = length-append k (n ∷ []) in omega arith

pub long_mixer : (i c m n : ℕ) (l : TwoBytes) (s k : List ℕ) → length (bytes_of (mixer i s c l m k n)) ≡ 10 + length s + length k
long_mixer i c m n l s k =
    let q = length-append k (n ∷ []) in
    let o = length-append s (c ∷ l.low ∷ l.high ∷ m ∷ (k ++ n ∷ [])) in
    omega arith

module _ (at : ℕ) (d : List ℕ) where
  pub pasted_two : (a b e g : List ℕ) → at + (length a + length b) ≤ length d → e ≡ pasted at a d → g ≡ pasted (at + length a) b e → g ≡ pasted at (a ++ b) d
  pasted_two a b e g h p q = q ∙ ap (pasted (at + length a) b) p ∙ pasted_append at a b d (omega arith)

pub pasted_three : (at : ℕ) (d a b c e g j : List ℕ) → at + (length a + (length b + length c)) ≤ length d → e ≡ pasted at a d → g ≡ pasted (at + length a) b e
    → j ≡ pasted (at + length a + length b) c g → j ≡ pasted at (a ++ (b ++ c)) d
pasted_three at d a b c e g j h p q r =
    let n : length e ≡ length d = ap length p ∙ pasted_length at a d (omega arith) in
    let m = length-append b c in
    let two : j ≡ pasted (at + length a) (b ++ c) e = pasted_two (at + length a) e b c g j (omega arith) q r in
    pasted_two at d a (b ++ c) e j (omega arith) p two

module _ (at i n : ℕ) (s d e : List ℕ) where
  pub selector_pasted : e ≡ pasted at (((6 + length s) ∷ 36 ∷ 5 ∷ i ∷ length s ∷ []) ++ (s ++ n ∷ [])) d → e ≡ pasted at (bytes_of (selector i s n)) d
  selector_pasted p = p ∙ ap (λ (h : ℕ). pasted at (h ∷ 36 ∷ 5 ∷ i ∷ length s ∷ (s ++ n ∷ [])) d) (sym (long_selector i n s))

  pub printed_pasted : e ≡ pasted at (((7 + length s) ∷ 36 ∷ 5 ∷ i ∷ length s ∷ 0 ∷ []) ++ (s ++ n ∷ [])) d → e ≡ pasted at (written_as (printed i s n)) d
  printed_pasted p = p

  pub feature_pasted : (f z : ℕ) → e ≡ pasted at (((7 + length s) ∷ 36 ∷ 6 ∷ i ∷ f ∷ z ∷ []) ++ (s ++ n ∷ [])) d → e ≡ pasted at (bytes_of (feature i f z s n)) d
  feature_pasted f z p = p ∙ ap (λ (h : ℕ). pasted at (h ∷ 36 ∷ 6 ∷ i ∷ f ∷ z ∷ (s ++ n ∷ [])) d) (sym (long_feature i f z n s))

pub mixer_pasted : (at i c l m n : ℕ) (s k d e g j : List ℕ) → at + (10 + length s + length k) ≤ length d
    → e ≡ pasted at ((10 + length s + length k) ∷ 36 ∷ 4 ∷ i ∷ length s ∷ []) d
    → g ≡ pasted (at + 5) s e
    → j ≡ pasted (at + 5 + length s) ((c ∷ l % 256 ∷ l / 256 ∷ m ∷ []) ++ (k ++ n ∷ [])) g
    → j ≡ pasted at (bytes_of (mixer i s c (two_of l) m k n)) d
mixer_pasted at i c l m n s k d e g j h p q r =
    let w : List ℕ = (c ∷ l % 256 ∷ l / 256 ∷ m ∷ []) ++ (k ++ n ∷ []) in
    let o = length-append k (n ∷ []) in
    pasted_three at d ((10 + length s + length k) ∷ 36 ∷ 4 ∷ i ∷ length s ∷ []) s w e g j (omega arith) p q r
    ∙ ap (λ (x : ℕ). pasted at (x ∷ 36 ∷ 4 ∷ i ∷ length s ∷ (s ++ w)) d) (sym (long_mixer i c m n (two_of l) s k))

module _ (at : ℕ) (x d : List ℕ) where
  pub paste_short : length d < length x → d ≡ pasted_in at x d
  unfolding pasted_in
  paste_short h = sym (no _ _ (lt-leb (at + length x) (length d) (omega arith)))

  pub paste_behind : length d - length x < at → d ≡ pasted_in at x d
  unfolding pasted_in
  paste_behind h = sym (no _ _ (lt-leb (at + length x) (length d) (omega arith)))

  pub paste_done : (e : List ℕ) → length x ≤ length d → at ≤ length d - length x → e ≡ pasted at x d → e ≡ pasted_in at x d
  unfolding pasted_in
  paste_done e h l p = p ∙ sym (yes _ _ (le-leb (at + length x) (length d) (omega arith)))

module _ (x : List ℕ) (at : ℕ) (d : List ℕ) where
  reads_fits : Reads (fits_at x at (length d)) ((length x ≤ 255) × (at + length x ≤ length d))
  unfolding fits_at
  reads_fits = reads_and _ _ (reads_le (length x) 255) (reads_le (at + length x) (length d))

  lay_nothing : (((length x ≤ 255) × (at + length x ≤ length d)) → ⊥) → Lay x at d d 0
  unfolding laid_size laid_in
  lay_nothing h = let t = refutes reads_fits h in record { size = sym (no _ _ t); lent = sym (no _ _ t) }

  pub lay_none : None ≡ short_of (length x) → Lay x at d d 0
  lay_none e = let l = long_told (length x) e in lay_nothing (λ h. let m = h.0 in omega arith)

  module _ (n : ℕ) (e : Some n ≡ short_of (length x)) where
    pub lay_short : length d < n → Lay x at d d 0
    lay_short h = let t = short_told (length x) n e in lay_nothing (λ k. let q = t.0 in let r = k.1 in omega arith)

    pub lay_behind : length d - n < at → Lay x at d d 0
    lay_behind h = let t = short_told (length x) n e in lay_nothing (λ k. let q = t.0 in let r = k.1 in omega arith)

    pub lay_small : length x ≤ 255
    lay_small = (short_told (length x) n e).1

    pub lay_room : n ≤ length d → at ≤ length d - n → at + length x ≤ length d
    lay_room h k = let t = (short_told (length x) n e).0 in omega arith

    pub lay_done : (g : List ℕ) → n ≤ length d → at ≤ length d - n → g ≡ pasted at x d → Lay x at d g n
    unfolding laid_size laid_in
    lay_done g h k p =
        let t = shows reads_fits (lay_small, lay_room h k) in
        record { size = (short_told (length x) n e).0 ∙ sym (yes _ _ t); lent = p ∙ sym (yes _ _ t) }
