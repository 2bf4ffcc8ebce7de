-- Legal ranges: what the test says of the heights, and that it says what the papers ask of the values.
--   fits_reads            ==  fits_of decides that a number is below the sort's span
--   LegalHeights s range  ==  the tests of legal_of, as facts on heights
--   legal_reads           ==  legal_of decides them
--   legal_means           ==  legal_of decides Legal
use Rattle.std.specs.Prelude.{ℕ, ◌+◌, ◌≤◌, ◌<◌, ◌≡◌, refl, true, pos, neg_ℤ, ◌≤ℤ◌}
use Rattle.std.proofs.Common.{sym, ap, ⊎_elim, arith, eqb-true, le-leb}
use Rattle.ground.specs.Pick.{Reads, reads_true, reads_and, reads_not, reads_le, reads_lt, true≠false}
use Rattle.setting.specs.declared.Sort.{Sort}
use Rattle.setting.specs.declared.Sort.TheVariants.{Volume, Tone, Delay}
use Rattle.setting.specs.declared.Range.{Range}
use Rattle.setting.specs.Setting.{span_of, bias_of, most_res, silence_of, height_of, fits_of, legal_of}
use Rattle.setting.specs.Meaning.{value, Legal}
use Rattle.setting.specs.Grid.{ordered}
use Rattle.setting.specs.Lift.{lift_le, le_lift}
use Rattle.setting.specs.Values.{value_lift, value_order, res_fits, res_value, res_from_value, res_to_value}
use Rattle.setting.specs.Silence.{tone_differs, delay_differs, silence_lowest}

pub fits_reads : (s : Sort) (n : ℕ) → Reads (fits_of s n) (n < span_of s)
unfolding fits_of
fits_reads s n = reads_lt n (span_of s)

pub record LegalHeights (s : Sort) (range : Range) : Type 0 where
  pub min_fits : range.min < span_of s
  pub max_fits : range.max < span_of s
  pub min_max : height_of s range.min ≤ height_of s range.max
  pub res_some : 1 ≤ range.res
  pub res_most : range.res ≤ most_res s
  pub min_heard : silence_of s range.min ≡ true → ⊥

module _ (s : Sort) (range : Range) where
  tested : Reads (legal_of s range) ((range.min < span_of s) × ((range.max < span_of s) × ((height_of s range.min ≤ height_of s range.max) × ((1 ≤ range.res) × ((range.res ≤ most_res s) × (silence_of s range.min ≡ true → ⊥))))))
  unfolding legal_of
  tested =
      reads_and _ _ (fits_reads s range.min)
      (reads_and _ _ (fits_reads s range.max)
      (reads_and _ _ (reads_le (height_of s range.min) (height_of s range.max))
      (reads_and _ _ (reads_le 1 range.res)
      (reads_and _ _ (reads_le range.res (most_res s)) (reads_not (silence_of s range.min) (reads_true (silence_of s range.min)))))))

  pub legal_reads : Reads (legal_of s range) (LegalHeights s range)
  legal_reads = record {
    says =
        λ e.
        let t = tested.says e in
        record {
          min_fits = t.0;
          max_fits = t.1.0;
          min_max = t.1.1.0;
          res_some = t.1.1.1.0;
          res_most = t.1.1.1.1.0;
          min_heard = t.1.1.1.1.1;
        };
    denies = λ e l. tested.denies e (l.min_fits, (l.max_fits, (l.min_max, (l.res_some, (l.res_most, l.min_heard)))));
  }

-- "volume MIN at least −32767": MIN is not silence
heard_up : (s : Sort) (n : ℕ) → n < span_of s → (silence_of s n ≡ true → ⊥) → s ≡ Volume → neg_ℤ (pos 32767) ≤ℤ value s n
heard_up Volume n f q v =
    ⊎_elim
    (λ z. absurd (q (silence_lowest Volume n refl f (omega arith))))
    (λ h. le_lift 32768 (neg_ℤ (pos 32767)) (value Volume n) 1 (height_of Volume n) refl (value_lift Volume n f) h)
    (ordered (height_of Volume n) 0)
heard_up Tone n f q v = absurd (tone_differs v)
heard_up Delay n f q v = absurd (delay_differs v)

heard_down : (s : Sort) (n : ℕ) → n < span_of s → (s ≡ Volume → neg_ℤ (pos 32767) ≤ℤ value s n) → silence_of s n ≡ true → ⊥
heard_down Volume n f h e =
    let l : 1 ≤ height_of Volume n = lift_le 32768 (neg_ℤ (pos 32767)) (value Volume n) 1 (height_of Volume n) refl (value_lift Volume n f) (h refl) in
    omega (arith, ap (height_of Volume) (eqb-true n 32768 e))
heard_down Tone n f h e = true≠false (sym e)
heard_down Delay n f h e = true≠false (sym e)

pub legal_means : (s : Sort) (range : Range) → Reads (legal_of s range) (Legal s range)
legal_means s range = record {
  says =
      λ e.
      let l = (legal_reads s range).says e in
      let f = res_fits s range.res l.res_most in
      record {
        min_fits = l.min_fits;
        max_fits = l.max_fits;
        res_fits = f;
        min_max = (value_order s range.min range.max l.min_fits l.max_fits).says (le-leb _ _ l.min_max);
        res_from = rw (res_value s range.res l.res_most) (le_lift 0 (pos 1) (pos range.res) 1 (range.res + 0) refl refl (omega (arith, l.res_some)));
        res_to = rw (res_value s range.res l.res_most) (le_lift 0 (pos range.res) (pos (most_res s)) (range.res + 0) (most_res s + 0) refl refl (omega (arith, l.res_most)));
        min_heard = heard_up s range.min l.min_fits l.min_heard;
      };
  denies =
      λ e l.
      (legal_reads s range).denies e record {
        min_fits = l.min_fits;
        max_fits = l.max_fits;
        min_max = lift_le (bias_of s) (value s range.min) (value s range.max) _ _ (value_lift s range.min l.min_fits) (value_lift s range.max l.max_fits) l.min_max;
        res_some = res_from_value s range.res l.res_fits l.res_from;
        res_most = res_to_value s range.res l.res_fits l.res_from l.res_to;
        min_heard = heard_down s range.min l.min_fits l.min_heard;
      };
}
