-- The value of a number and its height: the height is the value lifted by the sort's bias, so that heights have the order
-- and the distances of the values.
--   value_lift   ==  a value lies as far above the lowest as its height says
--   value_order  ==  heights are ordered as the values are
--   value_apart  ==  and lie as far from each other
--   value_one    ==  two numbers of one value are one
--   res_room, res_fits, res_value  ==  a legal RES is not too wide and means itself, also where the control is signed
--   res_from_value, res_to_value   ==  and a number whose value is a legal RES is one
use Rattle.std.specs.Prelude.{ℕ, ◌+◌, ◌≤◌, ◌<◌, ◌≡◌, refl, leb, pos, nat_abs, ◌-ℤ◌, ◌≤ℤ◌}
use Rattle.std.proofs.Common.{◌∙◌, sym, ap, ⊎_elim, mod-eq_of_lt, arith, leb-true, leb-false}
use Rattle.ground.specs.Pick.{Reads}
use Rattle.setting.specs.declared.Sort.{Sort}
use Rattle.setting.specs.declared.Sort.TheVariants.{Volume, Tone, Delay}
use Rattle.setting.specs.Setting.{span_of, bias_of, most_res, height_of, at_height}
use Rattle.setting.specs.Meaning.{value}
use Rattle.setting.specs.Grid.{apart, ordered}
use Rattle.setting.specs.Height.{height_up, height_round, height_back}
use Rattle.setting.specs.Lift.{Lift, lift_le, le_lift, lift_apart, lift_height, lift_one, signed_lift}

pub value_lift : (s : Sort) (n : ℕ) → n < span_of s → Lift (bias_of s) (value s n) (height_of s n)
value_lift Volume n f = signed_lift 32768 n f
value_lift Tone n f = signed_lift 128 n f
value_lift Delay n f = ap pos (sym (mod-eq_of_lt (let g : n + 0 < 65536 = omega arith in g)))

module _ (s : Sort) where
  pub value_order : (n m : ℕ) → n < span_of s → m < span_of s → Reads (leb (height_of s n) (height_of s m)) (value s n ≤ℤ value s m)
  value_order n m f g = record {
    says = λ e. le_lift (bias_of s) (value s n) (value s m) _ _ (value_lift s n f) (value_lift s m g) (leb-true _ _ e);
    denies =
        λ e l.
        let h : height_of s n ≤ height_of s m = lift_le (bias_of s) (value s n) (value s m) _ _ (value_lift s n f) (value_lift s m g) l in
        omega (arith, leb-false (height_of s n) (height_of s m) e);
  }

  pub value_apart : (n m : ℕ) → n < span_of s → m < span_of s → nat_abs (value s n -ℤ value s m) ≡ apart (height_of s n) (height_of s m)
  value_apart n m f g = lift_apart (bias_of s) (value s n) (value s m) _ _ (value_lift s n f) (value_lift s m g)

  pub value_one : (n m : ℕ) → n < span_of s → m < span_of s → value s n ≡ value s m → n ≡ m
  value_one n m f g e =
      sym (height_back s n f) ∙ ap (at_height s) (lift_height (bias_of s) (value s m) _ _ (rw e at (value_lift s n f)) (value_lift s m g)) ∙ height_back s m g

-- there is room above 0 for every legal RES
pub res_room : (s : Sort) → most_res s + bias_of s < span_of s
res_room Volume = omega arith
res_room Tone = omega arith
res_room Delay = omega arith

module _ (s : Sort) (n : ℕ) where
  res_height : n ≤ most_res s → height_of s n ≡ n + bias_of s
  res_height h = height_up s n (omega (arith, res_room s))

  pub res_fits : n ≤ most_res s → n < span_of s
  res_fits h = omega (arith, res_room s)

  pub res_value : n ≤ most_res s → value s n ≡ pos n
  res_value h = lift_one (bias_of s) (value s n) (pos n) _ (value_lift s n (res_fits h) ∙ ap pos (res_height h)) refl

  -- the other way: a number whose value is within 1 and the largest RES is within them
  pub res_from_value : n < span_of s → pos 1 ≤ℤ value s n → 1 ≤ n
  res_from_value f l =
      let h : 1 + bias_of s ≤ height_of s n = lift_le (bias_of s) (pos 1) (value s n) _ _ refl (value_lift s n f) l in
      ⊎_elim (λ r. absurd (omega (arith, height_round s n f r))) (λ r. omega (arith, height_up s n r)) (ordered (span_of s) (n + bias_of s))

  pub res_to_value : n < span_of s → pos 1 ≤ℤ value s n → value s n ≤ℤ pos (most_res s) → n ≤ most_res s
  res_to_value f l u =
      let h : 1 + bias_of s ≤ height_of s n = lift_le (bias_of s) (pos 1) (value s n) _ _ refl (value_lift s n f) l in
      let g : height_of s n ≤ most_res s + bias_of s = lift_le (bias_of s) (value s n) (pos (most_res s)) _ _ (value_lift s n f) refl u in
      ⊎_elim (λ r. absurd (omega (arith, height_round s n f r))) (λ r. omega (arith, height_up s n r)) (ordered (span_of s) (n + bias_of s))
