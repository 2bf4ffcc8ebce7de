-- A search along the pieces that stand from a place on, by any test that may look at what stands before: how far it has
-- come, and what each way out of its loop answers, for every measure. Every search of the cutting layer is a loop of this form.
--   searched_by m t s from   ==  the place of the first piece from place from on that the test t holds of; searched: the first descriptor
--   PassedBy m t s from at  ==  the search has come to place at, and what it finds is what it finds from there on; Passed: along descriptors
--   start, stop_by, hit_by, miss  ==  the loop's start, its two ways out, and its next turn; stop, hit: along descriptors
--   ordered_by, inside_by, falls_by  ==  a turn's part of the bytes is one, and what is left grows shorter; ordered, inside, falls: along descriptors
use Rattle.std.specs.Prelude.{ℕ, ◌+◌, ◌-◌, ◌≤◌, ◌<◌, ◌≡◌, Bool, true, false, Option, Some, None}
use Rattle.std.proofs.Math.Path.{refl, sym, ap}
use Rattle.std.proofs.Common.{◌∙◌, add-zero}
use mathlib.Core.List.{List, [], ◌∷◌, ◌++◌}
use native.Mathlib.Omega.{arith}
use Rattle.std.proofs.Math.ListN.{length}
use Rattle.std.proofs.Math.Seq.{append_snoc}
use Rattle.ground.specs.Lists.{part, part_length, total, total_append}
use Rattle.ground.specs.First.{first_from, first_here, first_on, first_end}
use Rattle.scan.specs.Cutting.{Measure, end_by, rest_by, one_byte}
use Rattle.scan.specs.PieceLaws.{end_off, rest_none, rest_more}

abbrev pub searched_by : Measure → (List (List ℕ) → List ℕ → Bool) → List ℕ → ℕ → Option ℕ
searched_by m t s from = first_from t from [] (rest_by m s from)

pub record PassedBy (m : Measure) (t : List (List ℕ) → List ℕ → Bool) (s : List ℕ) (from at : ℕ) : Type 0 where
  pub behind : List (List ℕ)
  pub whole : rest_by m s from ≡ behind ++ rest_by m s at
  pub place : at ≡ from + total behind
  pub same : searched_by m t s from ≡ first_from t at behind (rest_by m s at)

unfoldable pub searched : (List (List ℕ) → List ℕ → Bool) → List ℕ → ℕ → Option ℕ
searched t s from = searched_by one_byte t s from

abbrev pub Passed : (List (List ℕ) → List ℕ → Bool) → List ℕ → ℕ → ℕ → Type 0
Passed t s from at = PassedBy one_byte t s from at

module _ {m : Measure} (t : List (List ℕ) → List ℕ → Bool) (s : List ℕ) where
  pub start : (from : ℕ) → PassedBy m t s from from
  unfolding total
  start from = record { behind = []; whole = refl; place = sym (add-zero from); same = refl }

  module _ (from at e : ℕ) (g : PassedBy m t s from at) (f : e ≡ end_by m s at) where
    pub stop_by : e ≡ at → None ≡ searched_by m t s from
    stop_by h = sym (g.same ∙ ap (first_from t at g.behind) (rest_none m s at (sym f ∙ h)) ∙ first_end t at g.behind)

    module _ (h : e ≡ at → ⊥) where
      next : rest_by m s at ≡ part s at e ∷ rest_by m s e
      next = rw f (rest_more m s at (λ q. h (f ∙ q)))

      pub hit_by : t g.behind (part s at e) ≡ true → Some at ≡ searched_by m t s from
      hit_by y = sym (g.same ∙ ap (first_from t at g.behind) next ∙ first_here t at g.behind _ _ y)

      pub miss : t g.behind (part s at e) ≡ false → PassedBy m t s from e
      unfolding total
      miss y =
          let o = end_off m s at (λ q. h (f ∙ q)) in
          let l : length (part s at e) ≡ e - at = part_length s at e (omega arith) in
          let i : at + length (part s at e) ≡ e = omega arith in
          let p = g.place in
          record {
            behind = g.behind ++ part s at e ∷ [];
            whole = g.whole ∙ ap (λ (r : List (List ℕ)). g.behind ++ r) next ∙ sym (append_snoc g.behind (part s at e) (rest_by m s e));
            place = let k : total (g.behind ++ part s at e ∷ []) ≡ total g.behind + (length (part s at e) + 0) = total_append g.behind (part s at e ∷ []) in omega arith;
            same = g.same ∙ ap (first_from t at g.behind) next ∙ first_on t at g.behind _ _ y ∙ ap (λ (j : ℕ). first_from t j (g.behind ++ part s at e ∷ []) (rest_by m s e)) i;
          }

module _ (m : Measure) (s : List ℕ) (at e : ℕ) (f : e ≡ end_by m s at) (h : e ≡ at → ⊥) where
  pub ordered_by : at ≤ e
  ordered_by = let o = end_off m s at (λ q. h (f ∙ q)) in omega arith

  pub inside_by : e ≤ length s
  inside_by = let o = end_off m s at (λ q. h (f ∙ q)) in omega arith

  pub falls_by : length s - e < length s - at
  falls_by = let o = end_off m s at (λ q. h (f ∙ q)) in let i = m.some in omega arith

module _ (t : List (List ℕ) → List ℕ → Bool) (s : List ℕ) (from at e : ℕ) (g : Passed t s from at) (f : e ≡ end_by one_byte s at) where
  pub stop : e ≡ at → None ≡ searched t s from
  unfolding searched
  stop = stop_by t s from at e g f

  pub hit : (e ≡ at → ⊥) → t g.behind (part s at e) ≡ true → Some at ≡ searched t s from
  unfolding searched
  hit = hit_by t s from at e g f

module _ (s : List ℕ) (at e : ℕ) (f : e ≡ end_by one_byte s at) (h : e ≡ at → ⊥) where
  pub ordered : at ≤ e
  ordered = ordered_by one_byte s at e f h

  pub inside : e ≤ length s
  inside = inside_by one_byte s at e f h

  pub falls : length s - e < length s - at
  falls = falls_by one_byte s at e f h
