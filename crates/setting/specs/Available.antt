-- Available settings: the grid of heights is the grid of values.
--   available_reads  ==  available_of decides: silence, or a number that fits and whose height is a point of the grid
--   available_means  ==  of a legal range it decides: silence, or an available setting
--   available_heard  ==  of a legal range no available setting is silence
--   PointOf s range h ==  h is a point of the range's grid of heights
--   Placed, placed   ==  the height of an available setting, and that it is a point; point_available: the way back
--   heights          ==  what a legal range's heights are
use Rattle.std.specs.Prelude.{ℕ, ◌+◌, ◌*◌, ◌<◌, ◌≡◌, refl, true, ◌⊎◌, ℤ, pos, ◌+ℤ◌, ◌*ℤ◌}
use Rattle.std.proofs.Common.{◌∙◌, sym, ap, subst, inl, inr, ⊎_elim, arith}
use Rattle.ground.specs.Pick.{Reads, shows, reads_same, reads_true, reads_and, reads_or}
use Rattle.setting.specs.declared.Sort.{Sort}
use Rattle.setting.specs.declared.Range.{Range}
use Rattle.setting.specs.Setting.{span_of, bias_of, height_of, silence_of, legal_of, available_of}
use Rattle.setting.specs.Meaning.{value, Available, Silence}
use Rattle.setting.specs.Grid.{Point, point_reads}
use Rattle.setting.specs.Lift.{Lift, lift_le, le_lift, lift_more, lift_height, lift_one}
use Rattle.setting.specs.Values.{value_lift, res_value}
use Rattle.setting.specs.Silence.{silence_means, silence_fits, silence_lowest, silent_lift}
use Rattle.setting.specs.Legal.{LegalHeights, fits_reads, legal_reads}

abbrev pub PointOf : Sort → Range → ℕ → Type 0
PointOf s range h = Point (height_of s range.min) (height_of s range.max) range.res h

pub available_reads : (s : Sort) (range : Range) (n : ℕ)
    → Reads (available_of s range n) ((silence_of s n ≡ true) ⊎ ((n < span_of s) × PointOf s range (height_of s n)))
unfolding available_of
available_reads s range n =
    reads_or _ _ (reads_true (silence_of s n)) (reads_and _ _ (fits_reads s n) (point_reads _ _ range.res (height_of s n)))

-- an available setting has a height, and that is a point of the grid
pub record Placed (s : Sort) (range : Range) (v : ℤ) : Type 0 where
  pub height : ℕ
  pub lift : Lift (bias_of s) v height
  pub point : PointOf s range height

module _ (s : Sort) (range : Range) (l : legal_of s range ≡ true) where
  pub heights : LegalHeights s range
  heights = (legal_reads s range).says l

  stepped : (k : ℕ) → Lift (bias_of s) (value s range.min +ℤ pos k *ℤ value s range.res) (height_of s range.min + k * range.res)
  stepped k =
      rw (res_value s range.res heights.res_most) (lift_more (bias_of s) (value s range.min) (height_of s range.min) (k * range.res) (value_lift s range.min heights.min_fits))

  max_lift : Lift (bias_of s) (value s range.max) (height_of s range.max)
  max_lift = value_lift s range.max heights.max_fits

  pub placed : (v : ℤ) → Available s range v → Placed s range v
  placed v a =
      let t : Lift (bias_of s) v (height_of s range.min + a.k * range.res) = ap (λ (z : ℤ). z +ℤ pos (bias_of s)) a.is ∙ stepped a.k in
      record {
        height = height_of s range.min + a.k * range.res;
        lift = t;
        point = record { steps = a.k; is = refl; within = lift_le (bias_of s) v (value s range.max) _ _ t max_lift a.within };
      }

  pub point_available : (v : ℤ) (h : ℕ) → Lift (bias_of s) v h → PointOf s range h → Available s range v
  point_available v h t p = record {
    k = p.steps;
    is = lift_one (bias_of s) v _ h t (stepped p.steps ∙ ap pos (sym p.is));
    within = le_lift (bias_of s) v (value s range.max) _ _ t max_lift p.within;
  }

  available_point : (v : ℤ) (h : ℕ) → Lift (bias_of s) v h → Available s range v → PointOf s range h
  available_point v h t a =
      let p = placed v a in
      subst (PointOf s range) (lift_height (bias_of s) v p.height h p.lift t) p.point

  pub available_means : (n : ℕ) → Reads (available_of s range n) ((n < span_of s) × (Silence s (value s n) ⊎ Available s range (value s n)))
  available_means n =
      reads_same (available_reads s range n)
      (⊎_elim
      (λ q. (silence_fits s n q, inl ((silence_means s n (silence_fits s n q)).says q)))
      (λ p. (p.0, inr (point_available (value s n) (height_of s n) (value_lift s n p.0) p.1))))
      (λ p.
      ⊎_elim
      (λ q. inl (shows (silence_means s n p.0) q))
      (λ a. inr (p.0, available_point (value s n) (height_of s n) (value_lift s n p.0) a))
      p.1)

  -- no available setting is silence, since MIN is not
  pub available_heard : (v : ℤ) → Available s range v → Silence s v → ⊥
  available_heard v a q =
      let p = placed v a in
      let z : p.height ≡ 0 = lift_height (bias_of s) v p.height 0 p.lift (silent_lift s v q) in
      heights.min_heard (silence_lowest s range.min q.volume heights.min_fits (omega (arith, p.point.is)))
