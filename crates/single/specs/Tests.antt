-- What refusal 30 asks of one control by itself, as the code computes it. What it means is said and proved in Meaning.
--   narrow_of c          ==  no number of the control is "too wide" for one byte
--   sound_yes_no c        ==  30 has nothing against the yes/no control c by itself
--   sound_pin c          ==  nor against the Selector's control c
--   sound_ranged s c     ==  nor against the ranged control c of sort s
--   sound_by k c         ==  nor against the control c, which holds k
--   sound_control c      ==  nor against the control c, whatever it holds
use Rattle.std.specs.Prelude.{Bool, false, not, ◌&&◌, ◌||◌, eqb, leb}
use Rattle.layout.specs.Layout.{most_pins}
use Rattle.setting.specs.Setting.{fits_of, legal_of, available_of}
use Rattle.setting.specs.declared.Sort.{Sort}
use Rattle.table.specs.declared.Control.{Control}
use Rattle.table.specs.declared.Sense.{Sense}
use Rattle.table.specs.declared.Sense.TheVariants.{Unknown, YesNo, Ranged, Pin}
use Rattle.table.specs.Controls.{sense_of, range_of}

unfoldable pub narrow_of : Control → Bool
narrow_of c = leb c.min 255 && (leb c.max 255 && (leb c.res 255 && leb c.cur 255))

unfoldable pub sound_yes_no : Control → Bool
sound_yes_no c = leb c.channel 16 && (narrow_of c && leb c.cur 1)

unfoldable pub sound_pin : Control → Bool
sound_pin c =
    eqb c.channel 0 && (leb 1 c.pins && (leb c.pins most_pins && (narrow_of c && (leb 1 c.cur && leb c.cur c.pins))))

unfoldable pub sound_ranged : Sort → Control → Bool
sound_ranged s c =
    leb c.channel 16 && (not c.loaded || (legal_of s (range_of c) && (fits_of s c.cur && available_of s (range_of c) c.cur)))

unfoldable pub sound_by : Sense → Control → Bool
sound_by Unknown c = false
sound_by YesNo c = sound_yes_no c
sound_by (Ranged s) c = sound_ranged s c
sound_by Pin c = sound_pin c

unfoldable pub sound_control : Control → Bool
sound_control c = sound_by (sense_of c.selector) c
