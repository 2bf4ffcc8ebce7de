-- Laws of what stands beside it in specs.
--   closest_fits       ==  what is stored is not too wide
--   closest_self       ==  a setting is stored as it is
--   closest_again      ==  to store what is stored changes nothing
-- and of a legal range, where the number wanted is not too wide:
--   closest_means      ==  closest_to gives what is to be stored
--   closest_only       ==  and is the only number that does
--   closest_silence    ==  what is stored is silence only where silence is wanted
--   closest_available  ==  what is stored is a setting
use Rattle.std.specs.Prelude.{ℕ, ◌<◌, ◌≡◌, refl, Bool, true, false, ◌⊎◌, ℤ, nat_abs, ◌-ℤ◌}
use Rattle.std.proofs.Common.{◌∙◌, inl, inr, arith}
use Rattle.std.proofs.Math.Path.{ap}
use Rattle.std.proofs.Math.Bool.{not}
use Rattle.std.proofs.Math.Logic.{⊎_elim}
use Rattle.std.proofs.Math.IntN.{pos}
use Rattle.ground.specs.Pick.{yes, no, shows}
use Rattle.setting.specs.declared.Sort.{Sort}
use Rattle.setting.specs.declared.Range.{Range}
use Rattle.setting.specs.Setting.{span_of, bias_of, height_of, at_height, silence_of, fits_of, legal_of, available_of, closest_height, closest_setting, closest_to}
use Rattle.setting.specs.Meaning.{value, Available, Silence, Closest, Stored, as_it_is, closest}
use Rattle.setting.specs.Grid.{apart, Nearest, nearest_one, nearest_self, closest_nearest}
use Rattle.setting.specs.Height.{height_below, height_back}
use Rattle.setting.specs.Lift.{Lift, lift_lt, lift_apart}
use Rattle.setting.specs.Values.{value_lift, value_one}
use Rattle.setting.specs.Silence.{silence_means}
use Rattle.setting.specs.Legal.{fits_reads}
use Rattle.setting.specs.Available.{PointOf, Placed, heights, placed, point_available, available_reads, available_means, available_heard}
use Rattle.setting.specs.Closest.{stored_one}

module _ (s : Sort) (range : Range) (l : legal_of s range ≡ true) where
  module _ (n : ℕ) (f : n < span_of s) where
    abbrev top : ℕ
    top = closest_height (height_of s range.min) (height_of s range.max) range.res (height_of s n)

    nearest : Nearest (height_of s range.min) (height_of s range.max) range.res (height_of s n) top
    nearest = closest_nearest _ _ range.res (height_of s n) (heights s range l).min_max (omega (arith, (heights s range l).res_some))

    top_below : top < span_of s
    top_below = omega (arith, nearest.point.within, height_below s range.max)

    setting_lift : Lift (bias_of s) (value s (closest_setting s range n)) top
    unfolding closest_setting
    setting_lift = value_lift s (at_height s top) (height_below s top) ∙ ap pos (height_back s top top_below)

    pub setting_closest : Closest s range (value s n) (value s (closest_setting s range n))
    setting_closest = record {
      available = point_available s range l _ top setting_lift nearest.point;
      closer = λ w a. let p = placed s range l w a in omega (arith, far, away w p, nearest.closer p.height p.point);
      lower = λ w a g. let p = placed s range l w a in omega (arith, far, away w p, nearest.lower p.height p.point (lift_lt (bias_of s) w _ _ _ p.lift setting_lift g));
    }
      where
        far : nat_abs (value s (closest_setting s range n) -ℤ value s n) ≡ apart top (height_of s n)
        far = lift_apart (bias_of s) (value s (closest_setting s range n)) (value s n) _ _ setting_lift (value_lift s n f)

        away : (w : ℤ) (p : Placed s range w) → nat_abs (w -ℤ value s n) ≡ apart p.height (height_of s n)
        away w p = lift_apart (bias_of s) w (value s n) _ _ p.lift (value_lift s n f)

either : (b : Bool) → (b ≡ true) ⊎ (b ≡ false)
either true = inl refl
either false = inr refl

setting_under : (s : Sort) (range : Range) (n : ℕ) → closest_setting s range n < span_of s
unfolding closest_setting
setting_under s range n = height_below s _

setting_self : (s : Sort) (range : Range) → legal_of s range ≡ true → (n : ℕ) → n < span_of s → PointOf s range (height_of s n)
    → closest_setting s range n ≡ n
unfolding closest_setting
setting_self s range l n f p =
    ap (at_height s) (nearest_one _ _ range.res (height_of s n) _ _ (nearest s range l n f) (nearest_self _ _ range.res (height_of s n) p)) ∙ height_back s n f

-- the way of closest_to to the closest setting, and its ways round it
module _ (s : Sort) (range : Range) (n : ℕ) where
  silence_kept : silence_of s n ≡ true → closest_to s range n ≡ n
  unfolding closest_to
  silence_kept q = yes _ _ q

  wide_kept : fits_of s n ≡ false → closest_to s range n ≡ n
  unfolding closest_to
  wide_kept f =
      ⊎_elim (λ q. yes _ _ q) (λ q. no _ _ q ∙ yes _ _ (ap not f)) (either (silence_of s n))

  illegal_kept : legal_of s range ≡ false → closest_to s range n ≡ n
  unfolding closest_to
  illegal_kept l =
      ⊎_elim
      (λ q. yes _ _ q)
      (λ q. no _ _ q ∙ ⊎_elim (λ f. no _ _ (ap not f) ∙ yes _ _ (ap not l)) (λ f. yes _ _ (ap not f)) (either (fits_of s n)))
      (either (silence_of s n))

  setting_taken : silence_of s n ≡ false → fits_of s n ≡ true → legal_of s range ≡ true → closest_to s range n ≡ closest_setting s range n
  unfolding closest_to
  setting_taken q f l = no _ _ q ∙ no _ _ (ap not f) ∙ no _ _ (ap not l)

  -- what is stored is not too wide
  pub closest_fits : fits_of s n ≡ true → fits_of s (closest_to s range n) ≡ true
  closest_fits f =
      ⊎_elim
      (λ q. rw (silence_kept q) f)
      (λ q.
      ⊎_elim
      (λ l. rw (setting_taken q f l) (shows (fits_reads s (closest_setting s range n)) setting_below))
      (λ l. rw (illegal_kept l) f)
      (either (legal_of s range)))
      (either (silence_of s n))
    where
      setting_below : closest_setting s range n < span_of s
      setting_below = setting_under s range n

  -- a setting is stored as it is, whatever the range
  pub closest_self : available_of s range n ≡ true → closest_to s range n ≡ n
  closest_self a =
      ⊎_elim
      silence_kept
      (λ p.
      ⊎_elim
      (λ q. silence_kept q)
      (λ q.
      ⊎_elim
      (λ l. setting_taken q (shows (fits_reads s n) p.0) l ∙ setting_self s range l n p.0 p.1)
      illegal_kept
      (either (legal_of s range)))
      (either (silence_of s n)))
      ((available_reads s range n).says a)

-- of a legal range, where a number that is not too wide is wanted
module _ (s : Sort) (range : Range) (l : legal_of s range ≡ true) (n : ℕ) (f : fits_of s n ≡ true) where
  within : n < span_of s
  within = (fits_reads s n).says f

  pub closest_means : Stored s range (value s n) (value s (closest_to s range n))
  closest_means =
      ⊎_elim
      (λ q. as_it_is ((silence_means s n within).says q) (ap (value s) (silence_kept s range n q)))
      (λ q. closest ((silence_means s n within).denies q) (rw (setting_taken s range n q f l) (setting_closest s range l n within)))
      (either (silence_of s n))

  -- and that number is the only one
  pub closest_only : (r : ℕ) → r < span_of s → Stored s range (value s n) (value s r) → r ≡ closest_to s range n
  closest_only r g t =
      value_one s r (closest_to s range n) g ((fits_reads s (closest_to s range n)).says (closest_fits s range n f)) (stored_one s range l (value s n) (value s r) (value s (closest_to s range n)) t closest_means)

  pub closest_silence : Silence s (value s (closest_to s range n)) → Silence s (value s n)
  closest_silence q = go closest_means
    where
      go : Stored s range (value s n) (value s (closest_to s range n)) → Silence s (value s n)
      go (as_it_is r e) = r
      go (closest r c) = absurd (available_heard s range l (value s (closest_to s range n)) c.available q)

  pub closest_available : available_of s range (closest_to s range n) ≡ true
  closest_available =
      shows (available_means s range l (closest_to s range n)) ((fits_reads s (closest_to s range n)).says (closest_fits s range n f), go closest_means)
    where
      go : Stored s range (value s n) (value s (closest_to s range n))
          → Silence s (value s (closest_to s range n)) ⊎ Available s range (value s (closest_to s range n))
      go (as_it_is q e) = inl (rw e q)
      go (closest q c) = inr c.available

pub closest_again : (s : Sort) (range : Range) (n : ℕ) → closest_to s range (closest_to s range n) ≡ closest_to s range n
closest_again s range n =
    ⊎_elim
    (λ l.
    ⊎_elim
    (λ f. closest_self s range (closest_to s range n) (closest_available s range l n f))
    (λ f. ap (closest_to s range) (wide_kept s range n f))
    (either (fits_of s n)))
    (λ l. ap (closest_to s range) (illegal_kept s range n l))
    (either (legal_of s range))
