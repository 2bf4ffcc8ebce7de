-- A grid over the natural numbers, least, least + step, .. up to most, and its point closest to a number. Numbers of any
-- size: both widths take their laws from here.
--   apart a b                    ==  how far a and b lie from each other
--   Point least most step v      ==  v is least + k·step for some k, and not above most
--   Nearest least most step x v  ==  v is a point, none is closer to x, and none as close is lower
--   point_reads                  ==  on_grid decides Point
--   closest_nearest              ==  closest_height gives the nearest point
--   nearest_one                  ==  there is at most one; nearest_self: a point is the nearest to itself
--   ordered                      ==  of two numbers one is at most the other
--   whole_steps_none, whole_steps_low, whole_steps_last, whole_steps_of  ==  whole_steps is a multiple of the step, the last that is not above room
--   whole_steps_one              ==  and any such multiple is it
--   none_between                 ==  no point lies between a point and the next
--   low_nearest, high_nearest, least_nearest  ==  when the lower neighbour, the upper one and the first point are the nearest
--   closest_at_least, closest_last, closest_high, closest_low  ==  the ways out of closest_height
use Prim.Native.Nat.{ℕ, suc, ◌+◌, ◌-◌, ◌*◌, ◌/◌, ◌≤◌, ◌<◌, min}
use Rattle.std.specs.Prelude.{◌≡◌, refl, Bool, true, false, ◌⊎◌, leb}
use Rattle.std.proofs.Common.{◌∙◌, sym, ap, inl, inr, mul-le-mul_right, suc-mul, zero-mul, mul-zero, mul-div_cancel, div-mul-le_self, arith, leb-true, leb-false, lt-ltb, le-ltb, le-leb}
use Rattle.std.proofs.Math.Logic.{⊎_elim}
use Rattle.std.proofs.Math.Nat.{div-eq_of_lt-le, lt-div-mul-add}
use Rattle.std.proofs.lemmas.Bool.{lt-leb}
use Rattle.ground.specs.Pick.{yes, no, Reads, reads_and, reads_le, reads_eq}
use Rattle.setting.specs.Setting.{whole_steps, on_grid, nearer, closest_height}

abbrev pub apart : ℕ → ℕ → ℕ
apart a b = (a - b) + (b - a)

pub record Point (least most step v : ℕ) : Type 0 where
  pub steps : ℕ
  pub is : v ≡ least + steps * step
  pub within : v ≤ most

pub record Nearest (least most step x v : ℕ) : Type 0 where
  pub point : Point least most step v
  pub closer : (w : ℕ) → Point least most step w → apart v x ≤ apart w x
  pub lower : (w : ℕ) → Point least most step w → w < v → apart v x < apart w x

pub ordered : (m n : ℕ) → (m ≤ n) ⊎ (n < m)
ordered m n = go (leb m n) refl
  where
    go : (b : Bool) → leb m n ≡ b → (m ≤ n) ⊎ (n < m)
    go true e = inl (leb-true m n e)
    go false e = inr (leb-false m n e)

-- ---- whole steps

pub whole_steps_none : (room : ℕ) → whole_steps room 0 ≡ 0
unfolding whole_steps
whole_steps_none room = mul-zero (room / 0)

pub whole_steps_low : (room step : ℕ) → whole_steps room step ≤ room
unfolding whole_steps
whole_steps_low room step = div-mul-le_self room step

pub whole_steps_last : (room step : ℕ) → 0 < step → room < whole_steps room step + step
unfolding whole_steps
whole_steps_last room step h = lt-div-mul-add h

-- a number of steps is its own
pub whole_steps_of : (k step : ℕ) → whole_steps (k * step) step ≡ k * step
unfolding whole_steps
whole_steps_of k step = ⊎_elim (λ h. none (omega arith)) (λ h. ap (λ (n : ℕ). n * step) (mul-div_cancel k h)) (ordered step 0)
  where
    none : step ≡ 0 → k * step / step * step ≡ k * step
    none e = rw e (mul-zero (k * 0 / 0) ∙ sym (mul-zero k))

-- and there is one largest
pub whole_steps_one : (k room step r : ℕ) → r ≡ k * step → r ≤ room → room < r + step → whole_steps room step ≡ r
unfolding whole_steps
whole_steps_one k room step r e l u =
    let q : room / step ≡ k = div-eq_of_lt-le step (omega arith) (omega (arith, suc-mul k step)) in
    ap (λ (n : ℕ). n * step) q ∙ sym e

-- ---- the grid

module _ (least most step : ℕ) where
  pub point_reads : (x : ℕ) → Reads (on_grid least most step x) (Point least most step x)
  unfolding on_grid whole_steps
  point_reads x = record {
    says = λ e. let t = tested.says e in record { steps = (x - least) / step; is = omega (arith, t.0, t.1.1); within = t.1.0 };
    denies = λ e p. tested.denies e (tests p);
  }
    where
      tested : Reads (on_grid least most step x) ((least ≤ x) × ((x ≤ most) × (whole_steps (x - least) step ≡ x - least)))
      tested = reads_and _ _ (reads_le least x) (reads_and _ _ (reads_le x most) (reads_eq (whole_steps (x - least) step) (x - least)))

      tests : Point least most step x → (least ≤ x) × ((x ≤ most) × (whole_steps (x - least) step ≡ x - least))
      tests p =
          let e : x - least ≡ p.steps * step = omega (arith, p.is) in
          (omega (arith, p.is), (p.within, ap (λ (n : ℕ). whole_steps n step) e ∙ whole_steps_of p.steps step ∙ sym e))

  -- no point lies between one and the next
  pub none_between : (k w : ℕ) → Point least most step w → (w ≤ least + k * step) ⊎ (least + k * step + step ≤ w)
  none_between k w p =
      ⊎_elim
      (λ h. inl (omega (arith, mul-le-mul_right step h, p.is)))
      (λ h. inr (omega (arith, mul-le-mul_right step h, suc-mul k step, p.is)))
      (ordered p.steps k)

  -- the lower of two neighbours, or the last point
  pub low_nearest : (x k v : ℕ) → v ≡ least + k * step → v ≤ most → v ≤ x → (most < v + step) ⊎ (x + x ≤ v + v + step) → Nearest least most step x v
  low_nearest x k v e m l u = record {
    point = record { steps = k; is = e; within = m };
    closer =
        λ w p.
        ⊎_elim (λ h. omega arith) (λ h. ⊎_elim (λ f. absurd (omega (arith, p.within))) (λ f. omega arith) u) (none_between k w p);
    lower = λ w p h. omega arith;
  }

  -- the upper of two neighbours
  pub high_nearest : (x k v : ℕ) → v ≡ least + k * step → v + step ≤ most → x ≤ v + step → v + v + step < x + x → Nearest least most step x (v + step)
  high_nearest x k v e m l u = record {
    point = record { steps = suc k; is = omega (arith, suc-mul k step); within = m };
    closer = λ w p. ⊎_elim (λ h. omega arith) (λ h. omega arith) (none_between k w p);
    lower = λ w p g. ⊎_elim (λ h. omega arith) (λ h. omega arith) (none_between k w p);
  }

  -- the first point, where x is not above it
  pub least_nearest : (x : ℕ) → least ≤ most → x ≤ least → Nearest least most step x least
  least_nearest x m l = record {
    point = record { steps = 0; is = omega (arith, zero-mul step); within = m };
    closer = λ w p. omega (arith, p.is);
    lower = λ w p h. omega (arith, p.is);
  }

  pub nearest_one : (x v w : ℕ) → Nearest least most step x v → Nearest least most step x w → v ≡ w
  nearest_one x v w p q =
      ⊎_elim
      (λ h.
      ⊎_elim
      (λ g. omega arith)
      (λ g. absurd (omega (arith, p.closer w q.point, q.lower v p.point g)))
      (ordered w v))
      (λ h. absurd (omega (arith, q.closer v p.point, p.lower w q.point h)))
      (ordered v w)

  -- a point is the nearest to itself
  pub nearest_self : (x : ℕ) → Point least most step x → Nearest least most step x x
  nearest_self x p = record { point = p; closer = λ w q. omega arith; lower = λ w q h. omega arith }

-- ---- the computed point

module _ (least most step x : ℕ) where
  pub closest_at_least : x ≤ least → closest_height least most step x ≡ least
  unfolding closest_height
  closest_at_least h = yes _ _ (le-leb x least h)

  module _ (h : least < x) (low : ℕ) (e : least + whole_steps (min x most - least) step ≡ low) where
    pub closest_last : most - low < step → closest_height least most step x ≡ low
    unfolding closest_height nearer
    closest_last a = no _ _ (lt-leb x least h) ∙ rw e (yes _ _ (lt-ltb (most - low) step a))

    pub closest_high : step ≤ most - low → low + step - x < x - low → closest_height least most step x ≡ low + step
    unfolding closest_height nearer
    closest_high a b =
        no _ _ (lt-leb x least h) ∙ rw e (no _ _ (le-ltb (most - low) step a) ∙ yes _ _ (lt-ltb (low + step - x) (x - low) b))

    pub closest_low : step ≤ most - low → x - low ≤ low + step - x → closest_height least most step x ≡ low
    unfolding closest_height nearer
    closest_low a b =
        no _ _ (lt-leb x least h) ∙ rw e (no _ _ (le-ltb (most - low) step a) ∙ no _ _ (le-ltb (low + step - x) (x - low) b))

  pub closest_nearest : least ≤ most → 0 < step → Nearest least most step x (closest_height least most step x)
  unfolding whole_steps
  closest_nearest m s = ⊎_elim (λ h. rw (closest_at_least h) (least_nearest least most step x m h)) above (ordered x least)
    where
      k : ℕ
      k = (min x most - least) / step

      low : ℕ
      low = least + k * step

      above : least < x → Nearest least most step x (closest_height least most step x)
      above h =
          let lo = whole_steps_low (min x most - least) step in
          let hi = whole_steps_last (min x most - least) step s in
          ⊎_elim
          (λ p.
          ⊎_elim
          (λ q. rw (closest_low h low refl p q) (low_nearest least most step x k low refl (omega arith) (omega arith) (inr (omega arith))))
          (λ q. rw (closest_high h low refl p q) (high_nearest least most step x k low refl (omega arith) (omega arith) (omega arith)))
          (ordered (x - low) (low + step - x)))
          (λ p. rw (closest_last h low refl p) (low_nearest least most step x k low refl (omega arith) (omega arith) (inl (omega arith))))
          (ordered step (most - low))
