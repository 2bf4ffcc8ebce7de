-- What is stored where a number is wanted: "The closest one is stored, at a tie the lower. For volume −32768 means silence: it
-- is stored as it is, nothing else is rounded to it".
--   closest_one, stored_one ==  there is at most one closest setting, and one that is stored; setting_closest: what is computed is that
use Rattle.std.specs.Prelude.{ℕ, ◌<◌, ◌≡◌, refl, Bool, true, false, ◌⊎◌, ℤ, nat_abs, ◌-ℤ◌}
use Rattle.std.proofs.Common.{◌∙◌, sym, inl, inr, arith}
use Rattle.std.proofs.Math.Path.{ap}
use Rattle.std.proofs.Math.Bool.{not}
use Rattle.std.proofs.Math.Logic.{⊎_elim}
use Rattle.std.proofs.Math.IntN.{pos}
use Rattle.ground.specs.Pick.{yes, no, shows}
use Rattle.setting.specs.declared.Sort.{Sort}
use Rattle.setting.specs.declared.Range.{Range}
use Rattle.setting.specs.Setting.{span_of, bias_of, height_of, at_height, silence_of, fits_of, legal_of, available_of, closest_height, closest_setting, closest_to}
use Rattle.setting.specs.Meaning.{value, Available, Silence, Closest, Stored, as_it_is, closest}
use Rattle.setting.specs.Grid.{apart, ordered, Nearest, nearest_one, nearest_self, closest_nearest}
use Rattle.setting.specs.Height.{height_below, height_back}
use Rattle.setting.specs.Lift.{Lift, lift_lt, lt_lift, lift_apart, lift_one}
use Rattle.setting.specs.Values.{value_lift, value_one}
use Rattle.setting.specs.Silence.{silence_means}
use Rattle.setting.specs.Legal.{fits_reads}
use Rattle.setting.specs.Available.{PointOf, Placed, heights, placed, point_available, available_reads, available_means, available_heard}

module _ (s : Sort) (range : Range) (l : legal_of s range ≡ true) where
  pub closest_one : (x v w : ℤ) → Closest s range x v → Closest s range x w → v ≡ w
  closest_one x v w p q =
      let a = placed s range l v p.available in
      let b = placed s range l w q.available in
      ⊎_elim
      (λ h.
      ⊎_elim
      (λ g. lift_one (bias_of s) v w a.height a.lift (b.lift ∙ ap pos (omega arith)))
      (λ g. absurd (omega (arith, p.closer w q.available, q.lower v p.available (lt_lift (bias_of s) v w _ _ a.lift b.lift g))))
      (ordered b.height a.height))
      (λ h. absurd (omega (arith, q.closer v p.available, p.lower w q.available (lt_lift (bias_of s) w v _ _ b.lift a.lift h))))
      (ordered a.height b.height)

  pub stored_one : (x v w : ℤ) → Stored s range x v → Stored s range x w → v ≡ w
  stored_one x v w (as_it_is q e) (as_it_is r f) = e ∙ sym f
  stored_one x v w (as_it_is q e) (closest r c) = absurd (r q)
  stored_one x v w (closest r c) (as_it_is q e) = absurd (r q)
  stored_one x v w (closest r c) (closest q d) = closest_one x v w c d
