-- What refusal 30 asks of one control, in document 01's words, with no computed answer. The paper's row, part by part: "an unknown
-- selector" SoundAs; "a channel over 16 (over 0 for a Selector's)" channel; "a pin count no Selector may have" pins; "in a loaded
-- control, an illegal range" legal; "in an unranged or loaded one, a number too wide for the control or a value that is no setting"
-- narrow, fits, setting. What it asks of the table stands in crate sound.
--   Narrow c        ==  no number of the control is too wide for one byte
--   SoundYesNo c    ==  what 30 asks of a yes/no control
--   SoundPin c      ==  what it asks of a Selector's
--   SoundLoaded s c ==  what it asks of a loaded control of sort s: a legal range, a CUR not too wide, which is silence or available
--   loaded_legal, loaded_fits, loaded_setting, loaded_tested ==  that, and the three tests that the code makes of it
--   SoundRanged s c ==  what it asks of a ranged control of sort s, loaded or not
--   SoundAs k c     ==  what it asks of a control that holds k
--   sound_control_lem   ==  the test of one control decides what it asks of that control
use Rattle.std.specs.Prelude.{◌≤◌, ◌<◌, ◌≡◌, true, ◌&&◌, ◌⊎◌}
use Rattle.std.proofs.Common.{sym}
use Rattle.ground.specs.Pick.{true≠false, Reads, shows, reads_same, reads_true, reads_eq, reads_le, reads_and, reads_implies}
use Rattle.layout.specs.Layout.{Pins}
use Rattle.setting.specs.Setting.{span_of, fits_of, legal_of, available_of}
use Rattle.setting.specs.Meaning.{value, Legal, Available, Silence}
use Rattle.setting.specs.Legal.{fits_reads, legal_means}
use Rattle.setting.specs.Available.{available_means}
use Rattle.setting.specs.declared.Sort.{Sort}
use Rattle.table.specs.declared.Control.{Control}
use Rattle.table.specs.declared.Sense.{Sense}
use Rattle.table.specs.declared.Sense.TheVariants.{Unknown, YesNo, Ranged, Pin}
use Rattle.table.specs.Controls.{sense_of, range_of}
use Rattle.single.specs.Tests.{narrow_of, sound_yes_no, sound_pin, sound_ranged, sound_by, sound_control}

pub record Narrow (c : Control) : Type 0 where
  pub min : c.min ≤ 255
  pub max : c.max ≤ 255
  pub res : c.res ≤ 255
  pub cur : c.cur ≤ 255

pub record SoundYesNo (c : Control) : Type 0 where
  pub channel : c.channel ≤ 16
  pub narrow : Narrow c
  pub setting : c.cur ≤ 1

pub record SoundPin (c : Control) : Type 0 where
  pub channel : c.channel ≡ 0
  pub pins : Pins c.pins
  pub narrow : Narrow c
  pub setting : (1 ≤ c.cur) × (c.cur ≤ c.pins)

pub record SoundLoaded (s : Sort) (c : Control) : Type 0 where
  pub legal : Legal s (range_of c)
  pub fits : c.cur < span_of s
  pub setting : Silence s (value s c.cur) ⊎ Available s (range_of c) (value s c.cur)

pub record SoundRanged (s : Sort) (c : Control) : Type 0 where
  pub channel : c.channel ≤ 16
  pub loaded : c.loaded ≡ true → SoundLoaded s c

abbrev pub SoundAs : Sense → Control → Type 0
SoundAs Unknown c = ⊥
SoundAs YesNo c = SoundYesNo c
SoundAs (Ranged s) c = SoundRanged s c
SoundAs Pin c = SoundPin c

-- what 30 asks of a loaded control, and the tests that the code makes of it
module _ (s : Sort) (c : Control) where
  module _ (h : SoundLoaded s c) where
    pub loaded_legal : legal_of s (range_of c) ≡ true
    loaded_legal = shows (legal_means s (range_of c)) h.legal

    pub loaded_fits : fits_of s c.cur ≡ true
    loaded_fits = shows (fits_reads s c.cur) h.fits

    pub loaded_setting : available_of s (range_of c) c.cur ≡ true
    loaded_setting = shows (available_means s (range_of c) loaded_legal c.cur) (h.fits, h.setting)

  pub loaded_tested : legal_of s (range_of c) ≡ true → fits_of s c.cur ≡ true → available_of s (range_of c) c.cur ≡ true → SoundLoaded s c
  loaded_tested l f a = record {
    legal = (legal_means s (range_of c)).says l;
    fits = (fits_reads s c.cur).says f;
    setting = ((available_means s (range_of c) l c.cur).says a).1;
  }

module _ (c : Control) where
  reads_narrow : Reads (narrow_of c) (Narrow c)
  unfolding narrow_of
  reads_narrow =
      reads_same (reads_and _ _ (reads_le _ _) (reads_and _ _ (reads_le _ _) (reads_and _ _ (reads_le _ _) (reads_le _ _))))
      (λ h. record { min = h.0; max = h.1.0; res = h.1.1.0; cur = h.1.1.1 })
      (λ h. (h.min, (h.max, (h.res, h.cur))))

  reads_yes_no : Reads (sound_yes_no c) (SoundYesNo c)
  unfolding sound_yes_no
  reads_yes_no =
      reads_same (reads_and _ _ (reads_le _ _) (reads_and _ _ reads_narrow (reads_le _ _)))
      (λ h. record { channel = h.0; narrow = h.1.0; setting = h.1.1 })
      (λ h. (h.channel, (h.narrow, h.setting)))

  reads_pin : Reads (sound_pin c) (SoundPin c)
  unfolding sound_pin
  reads_pin =
      reads_same
      (reads_and _ _ (reads_eq _ _)
      (reads_and _ _ (reads_le _ _)
      (reads_and _ _ (reads_le _ _) (reads_and _ _ reads_narrow (reads_and _ _ (reads_le _ _) (reads_le _ _))))))
      (λ h. record { channel = h.0; pins = (h.1.0, h.1.1.0); narrow = h.1.1.1.0; setting = h.1.1.1.1 })
      (λ h. (h.channel, (h.pins.0, (h.pins.1, (h.narrow, h.setting)))))

  reads_loaded : (s : Sort) → Reads (legal_of s (range_of c) && (fits_of s c.cur && available_of s (range_of c) c.cur)) (SoundLoaded s c)
  reads_loaded s =
      reads_same (reads_and _ _ (reads_true _) (reads_and _ _ (reads_true _) (reads_true _)))
      (λ h. loaded_tested s c h.0 h.1.0 h.1.1)
      (λ h. (loaded_legal s c h, (loaded_fits s c h, loaded_setting s c h)))

  reads_ranged : (s : Sort) → Reads (sound_ranged s c) (SoundRanged s c)
  unfolding sound_ranged
  reads_ranged s =
      reads_same (reads_and _ _ (reads_le _ _) (reads_implies _ _ (reads_true _) (reads_loaded s)))
      (λ h. record { channel = h.0; loaded = h.1 })
      (λ h. (h.channel, h.loaded))

  reads_as : (k : Sense) → Reads (sound_by k c) (SoundAs k c)
  unfolding sound_by
  reads_as Unknown = record { says = λ e. true≠false (sym e); denies = λ e h. h }
  reads_as YesNo = reads_yes_no
  reads_as (Ranged s) = reads_ranged s
  reads_as Pin = reads_pin

  pub sound_control_lem : Reads (sound_control c) (SoundAs (sense_of c.selector) c)
  unfolding sound_control
  sound_control_lem = reads_as (sense_of c.selector)
