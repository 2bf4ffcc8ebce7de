-- Descriptors with their places, as a walk along them gives them.
--   placed_from at ds  ==  each of the descriptors ds with its place, where the first of them stands at place at
--   seen x     ==  what is seen of an item: its place and its bytes
--   ahead w    ==  what the walk w has left
--   ahead_none, ahead_more  ==  what is left from a place on, where no descriptor stands there, and where one does
--   ahead_fewer  ==  what is left grows less
--   walk_over, walk_next  ==  where the walk has nothing left, no descriptor stands at the place that it has come to; where something comes
--                        next, it is the descriptor that stands there, with its place, and those behind it are left
--   place_of o  ==  the place of the item o, nowhere where there is none
--   Next x left  ==  what walk_next says of the item x and of what is left behind it
--   first_placed  ==  a search by a test that does not look at what stands before finds the first of them, with its place
use Rattle.std.specs.Prelude.{ℕ, suc, ◌+◌, ◌-◌, ◌<◌, ◌≡◌, refl, Bool, true, false, Option, Some, None, List, [], ◌∷◌, ◌++◌, length, eqb}
use Rattle.std.specs.List.{find}
use Rattle.std.proofs.Common.{Bor, sym, ap, ◌∙◌, ⊎_elim, arith}
use mathlib.Core.List.{head-eq_of_cons-eq, tail-eq_of_cons-eq, nil≢cons}
use Rattle.ground.specs.Pick.{decided, reads_eq}
use Rattle.ground.specs.First.{first_from, first_here, first_on, first_end}
use Rattle.ground.specs.Lists.{part, part_length}
use Rattle.scan.specs.declared.Descriptors.{Descriptors}
use Rattle.scan.specs.Cutting.{end_at, rest}
use Rattle.scan.specs.CuttingLaws.{end_off, rest_none, rest_more}

abbrev pub placed_from : ℕ → List (List ℕ) → List (ℕ × List ℕ)
placed_from at [] = []
placed_from at (d ∷ ds) = (at, d) ∷ placed_from (at + length d) ds

abbrev pub seen : ℕ × Bor (List ℕ) → ℕ × List ℕ
seen x = (x.0, x.1.now)

abbrev pub ahead : Descriptors → List (ℕ × List ℕ)
ahead w = placed_from w.at (rest w.s.now w.at)

module _ (s : List ℕ) (at e : ℕ) (f : e ≡ end_at s at) where
  pub ahead_none : e ≡ at → placed_from at (rest s at) ≡ []
  ahead_none h = ap (placed_from at) (rest_none s at (sym f ∙ h))

  pub ahead_more : (e ≡ at → ⊥) → placed_from at (rest s at) ≡ (at, part s at e) ∷ placed_from e (rest s e)
  ahead_more h =
      let o = end_off s at (λ q. h (f ∙ q)) in
      let l : length (part s at e) ≡ e - at = part_length s at e (omega arith) in
      let i : at + length (part s at e) ≡ e = omega arith in
      let m : rest s at ≡ part s at e ∷ rest s e = rw f (rest_more s at (λ q. h (f ∙ q))) in
      ap (placed_from at) m ∙ ap (λ (n : ℕ). (at, part s at e) ∷ placed_from n (rest s e)) i

  pub ahead_fewer : (e ≡ at → ⊥) → length (placed_from e (rest s e)) < length (placed_from at (rest s at))
  ahead_fewer h = let l : length (placed_from at (rest s at)) ≡ suc (length (placed_from e (rest s e))) = ap length (ahead_more h) in omega arith

module _ (s : List ℕ) (at : ℕ) where
  pub walk_over : placed_from at (rest s at) ≡ [] → end_at s at ≡ at
  walk_over h = ⊎_elim (λ q. q) (λ n. absurd (nil≢cons (sym h ∙ ahead_more s at (end_at s at) refl n))) (decided (eqb (end_at s at) at) (reads_eq _ _))

  pub record Next (x : ℕ × List ℕ) (left : List (ℕ × List ℕ)) : Type 0 where
    pub stands : end_at s at ≡ at → ⊥
    pub place : x.0 ≡ at
    pub here : x.1 ≡ part s at (end_at s at)
    pub behind : left ≡ placed_from (end_at s at) (rest s (end_at s at))

  pub walk_next : (x : ℕ × List ℕ) (left : List (ℕ × List ℕ)) → placed_from at (rest s at) ≡ x ∷ left → Next x left
  walk_next x left h =
      ⊎_elim (λ q. absurd (nil≢cons (sym (ahead_none s at (end_at s at) refl q) ∙ h))) stands (decided (eqb (end_at s at) at) (reads_eq _ _))
    where
      stands : (end_at s at ≡ at → ⊥) → Next x left
      stands n =
          let q = sym h ∙ ahead_more s at (end_at s at) refl n in
          let first : x ≡ (at, part s at (end_at s at)) = head-eq_of_cons-eq q in
          record {
            stands = n;
            place = ap (λ (y : ℕ × List ℕ). y.0) first;
            here = ap (λ (y : ℕ × List ℕ). y.1) first;
            behind = tail-eq_of_cons-eq q;
          }

abbrev pub place_of : Option (ℕ × List ℕ) → Option ℕ
place_of None = None
place_of (Some x) = Some x.0

module _ (t : List ℕ → Bool) where
  pub first_placed : (at : ℕ) (b ds : List (List ℕ)) → first_from (λ b d. t d) at b ds ≡ place_of (find (λ x. t x.1) (placed_from at ds))
  first_placed at b [] = first_end (λ b d. t d) at b
  first_placed at b (d ∷ ds) = go (t d) refl (first_placed (at + length d) (b ++ d ∷ []) ds)
    where
      behind : Option ℕ
      behind = first_from (λ b d. t d) (at + length d) (b ++ d ∷ []) ds

      go : (r : Bool) → t d ≡ r → behind ≡ place_of (find (λ x. t x.1) (placed_from (at + length d) ds))
          → first_from (λ b d. t d) at b (d ∷ ds) ≡ place_of (find (λ x. t x.1) ((at, d) ∷ placed_from (at + length d) ds))
      go true e h = first_here (λ b d. t d) at b d ds e ∙ rw e refl
      go false e h = first_on (λ b d. t d) at b d ds e ∙ h ∙ rw e refl
