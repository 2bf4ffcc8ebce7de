-- Heights: how far a number's value lies above the lowest value of its sort.
--   span_some, span_small, bias_small, bias_twice  ==  what the three sorts have in common
--   height_below  ==  a height is below the span
--   height_up     ==  the height of a number that does not come round
--   height_round  ==  the height of one that does
--   height_back   ==  there and back is the number
use Rattle.std.specs.Prelude.{ℕ, ◌+◌, ◌-◌, ◌≤◌, ◌<◌, ◌≡◌, refl, ◌⊎◌}
use Rattle.std.proofs.Common.{◌∙◌, inl, inr, ⊎_elim, mod-lt, mod-eq_of_lt, arith}
use Rattle.std.proofs.Math.Nat.{mod-eq-sub-mod}
use Rattle.setting.specs.declared.Sort.{Sort}
use Rattle.setting.specs.declared.Sort.TheVariants.{Volume, Tone, Delay}
use Rattle.setting.specs.Setting.{span_of, bias_of, height_of, at_height}
use Rattle.setting.specs.Grid.{ordered}

pub span_some : (s : Sort) → 0 < span_of s
span_some Volume = omega arith
span_some Tone = omega arith
span_some Delay = omega arith

pub span_small : (s : Sort) → span_of s ≤ 65536
span_small Volume = omega arith
span_small Tone = omega arith
span_small Delay = omega arith

pub bias_small : (s : Sort) → bias_of s < span_of s
bias_small Volume = omega arith
bias_small Tone = omega arith
bias_small Delay = omega arith

-- the values below 0 are as many as the others, or none
pub bias_twice : (s : Sort) → (bias_of s + bias_of s ≡ span_of s) ⊎ (bias_of s ≡ 0)
bias_twice Volume = inl refl
bias_twice Tone = inl refl
bias_twice Delay = inr refl

pub height_below : (s : Sort) (n : ℕ) → height_of s n < span_of s
height_below s n = mod-lt (n + bias_of s) (span_some s)

pub height_up : (s : Sort) (n : ℕ) → n + bias_of s < span_of s → height_of s n ≡ n + bias_of s
height_up s n h = mod-eq_of_lt h

pub height_round : (s : Sort) (n : ℕ) → n < span_of s → span_of s ≤ n + bias_of s → height_of s n ≡ n + bias_of s - span_of s
height_round s n f h = mod-eq-sub-mod h ∙ mod-eq_of_lt (let b = bias_small s in omega arith)

pub height_back : (s : Sort) (n : ℕ) → n < span_of s → at_height s (height_of s n) ≡ n
height_back s n f = ⊎_elim round up (ordered (span_of s) (n + bias_of s))
  where
    round : span_of s ≤ n + bias_of s → at_height s (height_of s n) ≡ n
    round h =
        let e = height_round s n f h in
        let g = height_below s n in
        ⊎_elim
        (λ t. height_up s (height_of s n) (omega arith) ∙ omega arith)
        (λ z. absurd (omega arith))
        (bias_twice s)

    up : n + bias_of s < span_of s → at_height s (height_of s n) ≡ n
    up h =
        let e = height_up s n h in
        ⊎_elim
        (λ t. height_round s (height_of s n) (height_below s n) (omega arith) ∙ omega arith)
        (λ z. height_up s (height_of s n) (omega arith) ∙ omega arith)
        (bias_twice s)
