-- Each test of GENERAL and FORMAT_TYPE decides its sentence.
--   reads_general, reads_format, reads_type_one  ==  the tests and their sentences
--   reads_tagged     ==  that of FORMAT_TYPE under a tag: TypeOne is asked where the tag is 1
use Rattle.std.specs.Prelude.{ℕ, ◌+◌, ◌*◌, ◌≤◌, ◌<◌, ◌≡◌, Bool, true, false, ◌&&◌, List, eqb, ltb, leb}
use Rattle.std.proofs.Math.Path.{refl}
use Rattle.std.proofs.Math.ListN.{length}
use Rattle.std.proofs.Common.{arith, ltb-true, ltb-false}
use Rattle.ground.specs.Pick.{pick, Reads, reads_eq, reads_le, reads_and, reads_within, reads_implies, reads_same}
use Rattle.ground.specs.Numbers.{byte, triple}
use Rattle.formats.specs.Formats.{OpensAs, General, Format, Samples, Rates, discrete, continuous, TypeOne}
use Rattle.formats.specs.Tests.{opens_as, is_general, is_format, samples_right, rates_right, is_type_one, format_right}

module _ (d : List ℕ) where
  reads_opens : (k : ℕ) → Reads (opens_as k d) (OpensAs k d)
  unfolding opens_as
  reads_opens k = reads_and _ _ (reads_eq (byte d 1) 0x24) (reads_eq (byte d 2) k)

  pub reads_general : Reads (is_general d) (General d)
  unfolding is_general
  reads_general = reads_and _ _ (reads_eq (length d) 7) (reads_opens 1)

  pub reads_format : Reads (is_format d) (Format d)
  unfolding is_format
  reads_format = reads_and _ _ (reads_le 4 (length d)) (reads_opens 2)

  reads_samples : Reads (samples_right d) (Samples d)
  unfolding samples_right
  reads_samples = reads_and _ _ (reads_within 1 (byte d 5) 4) (reads_within 1 (byte d 6) (8 * byte d 5))

  reads_rates : Reads (rates_right d) (Rates d)
  unfolding rates_right
  reads_rates = go (ltb 0 (byte d 7)) refl
    where
      listed : 0 < byte d 7 → Rates d → length d ≡ 8 + 3 * byte d 7
      listed h (discrete a b) = b
      listed h (continuous a b c) = absurd (omega arith)

      bounds : byte d 7 ≤ 0 → Rates d → (length d ≡ 14) × (triple d 8 ≤ triple d 11)
      bounds h (discrete a b) = absurd (omega arith)
      bounds h (continuous a b c) = (b, c)

      go : (t : Bool) → ltb 0 (byte d 7) ≡ t
          → Reads (pick t (eqb (length d) (8 + 3 * byte d 7)) (eqb (length d) 14 && leb (triple d 8) (triple d 11))) (Rates d)
      go true e = reads_same (reads_eq (length d) (8 + 3 * byte d 7)) (discrete (ltb-true 0 (byte d 7) e)) (listed (ltb-true 0 (byte d 7) e))
      go false e =
          let z : byte d 7 ≤ 0 = ltb-false 0 (byte d 7) e in
          reads_same (reads_and _ _ (reads_eq (length d) 14) (reads_le (triple d 8) (triple d 11))) (λ h. continuous (omega arith) h.0 h.1) (bounds z)

  pub reads_type_one : (c : ℕ) → Reads (is_type_one c d) (TypeOne c d)
  unfolding is_type_one
  reads_type_one c =
      reads_same (reads_and _ _ (reads_le 8 (length d)) (reads_and _ _ (reads_eq (byte d 3) 1) (reads_and _ _ (reads_eq (byte d 4) c) (reads_and _ _ reads_samples reads_rates))))
      (λ h. record { long = h.0; one = h.1.0; channels = h.1.1.0; samples = h.1.1.1.0; rates = h.1.1.1.1 })
      (λ h. (h.long, (h.one, (h.channels, (h.samples, h.rates)))))

  pub reads_tagged : (tag c : ℕ) → Reads (format_right tag c d) (Format d × (tag ≡ 1 → TypeOne c d))
  unfolding format_right
  reads_tagged tag c = reads_and _ _ reads_format (reads_implies _ _ (reads_eq tag 1) (reads_type_one c))
