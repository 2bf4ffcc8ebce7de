-- Laws of pieces, for every measure (how a piece tells its length, and the least): what stands at a place, that bytes are cut in one way at most,
-- and that they are cut exactly where the scan reaches the end. A configuration's cutting into descriptors is one instance (CuttingLaws).
--   end_stands, end_none  ==  what end_by answers where a piece stands at the place, and where none does
--   end_off          ==  .. where it answers another place: the least or more behind, and not past the end
--   rest_none, rest_more  ==  the pieces from a place on, where none stands there, and where one does
--   starts_end, starts_part, starts_next  ==  where the bytes from a place on begin with a piece: where it ends, that it is that
--                        part of the bytes, and what follows
--   rest_of          ==  pieces that the bytes from a place on begin with are the first of the rest
--   StandingBy m s at ds ==  ds are pieces, and they are the bytes of s from place at up to where they reach
--   standing         ==  so stands the rest
--   cut_rest         ==  a cutting is what stands from the first byte on
--   cut_one          ==  THE CUTTING THEOREM: there is one cutting at most
--   Ends m s at e    ==  e is where the piece at a place ends: the place itself where none stands
use Prim.Native.Nat.{ℕ, zero, suc, ◌+◌, ◌-◌, ◌≤◌, ◌<◌}
use Rattle.std.specs.Prelude.{◌≡◌, Bool, ◌↔◌, take, eqb}
use Rattle.std.proofs.Math.Path.{refl, sym, ap}
use Rattle.std.proofs.Common.{◌∙◌, length-append, length-drop, drop-drop, add-zero, add_assoc}
use Rattle.std.proofs.Math.Bool.{true, false}
use mathlib.Core.List.Memᴰ
use mathlib.Core.List.{List, [], ◌∷◌, ◌++◌, flatten, append_assoc, append-nil, append_cancel_left, cons≢nil, Memᴰ}
use Rattle.std.proofs.Math.Logic.{⊎_elim}
use Rattle.std.proofs.Math.ListN.{length, drop, take-append-drop}
use Rattle.std.proofs.Math.Seq.{take-append_seam, drop-append_seam, take_all, length-take-le}
use Rattle.std.proofs.Math.Dec.{ltb}
use native.Mathlib.Omega.{arith}
use Rattle.std.proofs.Math.Nat.{add-sub_cancel_left}
use borrow.Author.Tests.{eq-eqb, ne_eqb, le-ltb, ltb-true, ltb-false, eqb-true, eqb-false}
use Rattle.ground.specs.Pick.{pick, yes, no, Reads, shows}
use Rattle.ground.specs.Lists.{part, total, part_length, part_join, part_none, part_drop, length_flatten}
use Rattle.ground.specs.Refuse.{kept_at, kept_nowhere, kept_at_lem}
use Rattle.scan.specs.Cutting.{Measure, Piece, Pieces, end_by, rest_from_by, rest_by, reach_by, breach_by, MisfitBy}

-- what end_by answers: at itself where no piece stands there, or where the one that does ends
pub data Ends (m : Measure) (s : List ℕ) (at : ℕ) : ℕ → Type 0 where
  none : (m.least ≤ m.told s at → at + m.told s at ≤ length s → ⊥) → Ends m s at at
  stands : {e : ℕ} → m.least ≤ m.told s at → e ≡ at + m.told s at → e ≤ length s → Ends m s at e

pub record StandingBy (m : Measure) (s : List ℕ) (at : ℕ) (ds : List (List ℕ)) : Type 0 where
  pub flat : flatten ds ≡ part s at (at + total ds)
  pub room : at + total ds ≤ length s
  pub each : (d : List ℕ) → Memᴰ d ds → Piece m d

module _ (m : Measure) where
  ends : (s : List ℕ) (at : ℕ) → Ends m s at (end_by m s at)
  unfolding end_by
  ends s at = short (ltb (m.told s at) m.least) refl
    where
      long : m.least ≤ m.told s at → (b : Bool) → ltb (length s) (at + m.told s at) ≡ b → Ends m s at (pick b at (at + m.told s at))
      long h true e = let l : length s < at + m.told s at = ltb-true _ _ e in none (λ x y. omega arith)
      long h false e = stands h refl (ltb-false _ _ e)

      short : (b : Bool) → ltb (m.told s at) m.least ≡ b → Ends m s at (pick b at (pick (ltb (length s) (at + m.told s at)) at (at + m.told s at)))
      short true e = let l : m.told s at < m.least = ltb-true _ _ e in none (λ x y. omega arith)
      short false e = long (ltb-false _ _ e) _ refl

  pub end_stands : (s : List ℕ) (at : ℕ) → m.least ≤ m.told s at → at + m.told s at ≤ length s → end_by m s at ≡ at + m.told s at
  unfolding end_by
  end_stands s at h k = no _ _ (le-ltb _ _ h) ∙ no _ _ (le-ltb _ _ k)

  pub end_none : (s : List ℕ) (at : ℕ) → (m.least ≤ m.told s at → at + m.told s at ≤ length s → ⊥) → end_by m s at ≡ at
  end_none s at h = go (ends s at)
    where
      go : {e : ℕ} → Ends m s at e → e ≡ at
      go (none n) = refl
      go (stands a b c) = absurd (h a (omega arith))

  pub end_off : (s : List ℕ) (at : ℕ) → (end_by m s at ≡ at → ⊥) → (at + m.least ≤ end_by m s at) × (end_by m s at ≤ length s)
  end_off s at h = go (ends s at) h
    where
      go : {e : ℕ} → Ends m s at e → (e ≡ at → ⊥) → (at + m.least ≤ e) × (e ≤ length s)
      go (none n) k = absurd (k refl)
      go (stands a b c) k = (omega arith, c)

  enough : (k l : ℕ) (s : List ℕ) (at : ℕ) → length s - at ≤ k → length s - at ≤ l → rest_from_by m k s at ≡ rest_from_by m l s at
  unfolding rest_from_by
  enough zero zero s at h g = refl
  enough zero (suc l) s at h g = let i = m.some in sym (yes _ _ (eq-eqb _ _ (end_none s at (λ a b. omega arith))))
  enough (suc k) zero s at h g = let i = m.some in yes _ _ (eq-eqb _ _ (end_none s at (λ a b. omega arith)))
  enough (suc k) (suc l) s at h g = go (ends s at) (λ e x y. enough k l s e x y)
    where
      go : {e : ℕ} → Ends m s at e → ((e : ℕ) → length s - e ≤ k → length s - e ≤ l → rest_from_by m k s e ≡ rest_from_by m l s e)
          → pick (eqb e at) [] (part s at e ∷ rest_from_by m k s e) ≡ pick (eqb e at) [] (part s at e ∷ rest_from_by m l s e)
      go (none n) ih = yes _ _ (eq-eqb at at refl) ∙ sym (yes _ _ (eq-eqb at at refl))
      go {e} (stands a b c) ih = let i = m.some in ap (λ (r : List (List ℕ)). pick (eqb e at) [] (part s at e ∷ r)) (ih e (omega arith) (omega arith))

  pub rest_none : (s : List ℕ) (at : ℕ) → end_by m s at ≡ at → rest_by m s at ≡ []
  unfolding rest_by rest_from_by
  rest_none s at h = enough (length s) (suc (length s)) s at (omega arith) (omega arith) ∙ yes _ _ (eq-eqb _ _ h)

  pub rest_more : (s : List ℕ) (at : ℕ) → (end_by m s at ≡ at → ⊥) → rest_by m s at ≡ part s at (end_by m s at) ∷ rest_by m s (end_by m s at)
  unfolding rest_by rest_from_by
  rest_more s at h = enough (length s) (suc (length s)) s at (omega arith) (omega arith) ∙ no _ _ (ne_eqb _ _ h)

  -- a piece that the bytes from place at on begin with
  module _ (s : List ℕ) (at : ℕ) (d tail : List ℕ) (e : drop at s ≡ d ++ tail) (h : Piece m d) where
    tells : m.told s at ≡ length d
    tells = m.within s at d tail e h.long ∙ h.own

    starts_room : at + length d ≤ length s
    starts_room =
        let least = h.long in
        let i = m.some in
        let l : length s - at ≡ length d + length tail = sym (length-drop at s) ∙ ap length e ∙ length-append d tail in
        omega arith

    pub starts_end : end_by m s at ≡ at + length d
    starts_end =
        let least = h.long in
        let room = starts_room in
        let same = tells in
        end_stands s at (omega arith) (omega arith) ∙ ap (λ (n : ℕ). at + n) tells

    pub starts_part : part s at (at + length d) ≡ d
    starts_part = rw (add-sub_cancel_left, e) (take-append_seam d tail)

    pub starts_next : drop (at + length d) s ≡ tail
    starts_next = sym (drop-drop (length d) at s) ∙ ap (drop (length d)) e ∙ drop-append_seam d tail

  pub rest_of : (s : List ℕ) (at : ℕ) (b : List (List ℕ)) (tail : List ℕ) → drop at s ≡ flatten b ++ tail
      → ((d : List ℕ) → Memᴰ d b → Piece m d) → rest_by m s at ≡ b ++ rest_by m s (at + total b)
  unfolding total flatten
  rest_of s at [] tail e h = ap (rest_by m s) (sym (add-zero at))
  rest_of s at (d ∷ b) tail e h =
      let g : drop at s ≡ d ++ (flatten b ++ tail) = e ∙ append_assoc d (flatten b) tail in
      let k = h d (Memᴰ.head refl) in
      let least = k.long in
      let i = m.some in
      let off = starts_end s at d (flatten b ++ tail) g k in
      rest_more s at (λ q. omega arith)
      ∙ rw (off, starts_part s at d (flatten b ++ tail) g k) (ap (λ (r : List (List ℕ)). d ∷ r)
      (rest_of s (at + length d) b tail (starts_next s at d (flatten b ++ tail) g k) (λ x n. h x (Memᴰ.tail n)) ∙ ap (λ (n : ℕ). b ++ rest_by m s n) (add_assoc at (length d) (total b))))

  standing_none : (s : List ℕ) (at : ℕ) → at ≤ length s → StandingBy m s at []
  unfolding total flatten
  standing_none s at h = record { flat = sym (ap (part s at) (add-zero at) ∙ part_none s at); room = omega arith; each = λ d n. absurd (Memᴰ.not-nil n) }

  part_piece : (s : List ℕ) (at e : ℕ) → m.least ≤ m.told s at → e ≡ at + m.told s at → e ≤ length s → Piece m (part s at e)
  part_piece s at e least end room =
      let l : length (part s at e) ≡ e - at = part_length s at e room in
      let b : m.told s at ≡ m.told (part s at e) 0 = m.within s at (part s at e) (drop e s) (sym (part_drop s at e (omega arith))) (omega arith) in
      record { long = omega arith; own = omega arith }

  standing_more : (s : List ℕ) (at e : ℕ) (ds : List (List ℕ)) → m.least ≤ m.told s at → e ≡ at + m.told s at → e ≤ length s → StandingBy m s e ds
      → StandingBy m s at (part s at e ∷ ds)
  unfolding total flatten
  standing_more s at e ds least end room k =
      let l : length (part s at e) ≡ e - at = part_length s at e room in
      let r = k.room in
      let n : e + total ds ≡ at + (length (part s at e) + total ds) = omega arith in
      record {
        flat = ap (λ (x : List ℕ). part s at e ++ x) k.flat ∙ part_join s at e (e + total ds) (omega arith) (omega arith) ∙ ap (part s at) n;
        room = omega arith;
        each = λ d i. ⊎_elim (λ q. rw q (part_piece s at e least end room)) (k.each d) (Memᴰ.cases_cons i);
      }

  rest_standing : (k : ℕ) (s : List ℕ) (at : ℕ) → at ≤ length s → StandingBy m s at (rest_from_by m k s at)
  unfolding rest_from_by
  rest_standing zero s at h = standing_none s at h
  rest_standing (suc k) s at h = go (ends s at) (λ e r. rest_standing k s e r)
    where
      go : {e : ℕ} → Ends m s at e → ((e : ℕ) → e ≤ length s → StandingBy m s e (rest_from_by m k s e))
          → StandingBy m s at (pick (eqb e at) [] (part s at e ∷ rest_from_by m k s e))
      go (none n) ih = rw (eq-eqb at at refl) (standing_none s at h)
      go {e} (stands least end room) ih = let i = m.some in rw (ne_eqb e at (λ q. omega arith)) (standing_more s at e (rest_from_by m k s e) least end room (ih e room))

  pub standing : (s : List ℕ) (at : ℕ) → at ≤ length s → StandingBy m s at (rest_by m s at)
  unfolding rest_by
  standing s at h = rest_standing (length s) s at h

  pub cut_rest : (s : List ℕ) (ds : List (List ℕ)) → Pieces m s ds → rest_by m s 0 ≡ ds
  cut_rest s ds c =
      let i = m.some in
      rest_of s 0 ds [] (sym c.whole ∙ sym (append-nil (flatten ds))) c.each
      ∙ ap (λ (r : List (List ℕ)). ds ++ r) (rest_none s (0 + total ds) (end_none s (0 + total ds) (λ a b. let l : total ds ≡ length s = sym (length_flatten ds) ∙ ap length c.whole in omega arith)))
      ∙ append-nil ds

  pub cut_one : (s : List ℕ) (ds es : List (List ℕ)) → Pieces m s ds → Pieces m s es → ds ≡ es
  cut_one s ds es c d = sym (cut_rest s ds c) ∙ cut_rest s es d
