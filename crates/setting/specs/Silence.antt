-- Silence: "For volume −32768 means silence". It is the lowest value that a volume control can hold.
--   tone_differs, delay_differs  ==  neither is volume
--   silence_means   ==  silence_of decides Silence
--   silence_fits    ==  silence is not too wide
--   silence_lowest  ==  of volume the number of height 0 is silence
--   silent_lift     ==  and silence has height 0
use Rattle.std.specs.Prelude.{ℕ, ◌<◌, ◌≡◌, refl, true, ℤ, pos, ◌+ℤ◌}
use Rattle.std.proofs.Common.{◌∙◌, sym, ap, arith, eqb-true, eq-eqb}
use Rattle.std.proofs.lemmas.Bool.{eqb-false}
use Rattle.ground.specs.Pick.{Reads, true≠false}
use Rattle.setting.specs.declared.Sort.{Sort}
use Rattle.setting.specs.declared.Sort.TheVariants.{Volume, Tone, Delay}
use Rattle.setting.specs.Setting.{span_of, bias_of, height_of, at_height, silence_of}
use Rattle.setting.specs.Meaning.{value, Silence}
use Rattle.setting.specs.Height.{height_back}
use Rattle.setting.specs.Lift.{Lift}
use Rattle.setting.specs.Values.{value_one}

pub tone_differs : Tone ≡ Volume → ⊥
tone_differs e = let z : ◌≡◌ {A = ℕ} 0 1 = cc in omega arith

pub delay_differs : Delay ≡ Volume → ⊥
delay_differs e = let z : ◌≡◌ {A = ℕ} 0 1 = cc in omega arith

pub silence_means : (s : Sort) (n : ℕ) → n < span_of s → Reads (silence_of s n) (Silence s (value s n))
silence_means Volume n f = record {
  says = λ e. record { volume = refl; is = ap (value Volume) (eqb-true n 32768 e) };
  denies = λ e q. eqb-false n 32768 e (value_one Volume n 32768 f (omega arith) q.is);
}
silence_means Tone n f = record { says = λ e. absurd (true≠false (sym e)); denies = λ e q. tone_differs q.volume }
silence_means Delay n f = record { says = λ e. absurd (true≠false (sym e)); denies = λ e q. delay_differs q.volume }

pub silence_fits : (s : Sort) (n : ℕ) → silence_of s n ≡ true → n < span_of s
silence_fits Volume n e = omega (arith, eqb-true n 32768 e)
silence_fits Tone n e = absurd (true≠false (sym e))
silence_fits Delay n e = absurd (true≠false (sym e))

pub silence_lowest : (s : Sort) (n : ℕ) → s ≡ Volume → n < span_of s → height_of s n ≡ 0 → silence_of s n ≡ true
silence_lowest Volume n v f h = eq-eqb n 32768 (sym (height_back Volume n f) ∙ ap (at_height Volume) h)
silence_lowest Tone n v f h = absurd (tone_differs v)
silence_lowest Delay n v f h = absurd (delay_differs v)

pub silent_lift : (s : Sort) (v : ℤ) → Silence s v → Lift (bias_of s) v 0
silent_lift Volume v q = ap (λ (z : ℤ). z +ℤ pos 32768) q.is
silent_lift Tone v q = absurd (tone_differs q.volume)
silent_lift Delay v q = absurd (delay_differs q.volume)
