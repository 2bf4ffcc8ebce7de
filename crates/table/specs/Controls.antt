-- Controls and the table (document 01, "Controls and settings").
--   most_controls        ==  128; a table has no more ("over 128 controls", row 30)
--   blank_control        ==  a "spare place": all zeros
--   empty_table          ==  the table with no control
--   at t p              ==  what stands at index p of the table t; past the last, a spare place
--   placed t p c        ==  the table with the control c at index p, and else as it was
--   sense_of n           ==  what a control with selector n holds: "Yes/no: 1 mute, 7 AGC, 9 bass boost, 10 loudness.
--                           Ranged: 2 volume, 3 bass, 4 mid, 5 treble, 8 delay. A Selector's value is a pin"
--   size_of held         ==  how many bytes its value has: "2 volume (signed 16 bits), 3 bass, 4 mid, 5 treble (signed 8),
--                           8 delay (unsigned 16)", one byte else
--   range_of c           ==  the control's MIN, MAX and RES
--   answers_to u ch s c  ==  c is the control of unit u, channel ch and selector s
use Rattle.std.specs.Prelude.{ℕ, Bool, false, ◌&&◌, get_or, set, replicate, eqb}
use Rattle.ground.specs.Pick.{pick}
use Rattle.setting.specs.declared.Sort.TheVariants.{Volume, Tone, Delay}
use Rattle.setting.specs.declared.Range.{Range}
use Rattle.table.specs.declared.Control.{Control}
use Rattle.table.specs.declared.Table.{Table}
use Rattle.table.specs.declared.Sense.{Sense}
use Rattle.table.specs.declared.Sense.TheVariants.{Unknown, YesNo, Ranged, Pin}

abbrev pub most_controls : ℕ
most_controls = 128

abbrev pub blank_control : Control
blank_control =
    record { unit = 0; channel = 0; selector = 0; pins = 0; loaded = false; min = 0; max = 0; res = 0; cur = 0 }

abbrev pub empty_table : Table
empty_table = record { count = 0; controls = replicate most_controls blank_control }

abbrev pub at : Table → ℕ → Control
at t p = get_or t.controls p blank_control

abbrev pub placed : Table → ℕ → Control → Table
placed t p c = record { count = t.count; controls = set t.controls p c }

unfoldable pub sense_of : ℕ → Sense
sense_of n =
    pick (eqb n 0) Pin
    (pick (eqb n 1) YesNo
    (pick (eqb n 2) (Ranged Volume)
    (pick (eqb n 3) (Ranged Tone)
    (pick (eqb n 4) (Ranged Tone)
    (pick (eqb n 5) (Ranged Tone)
    (pick (eqb n 7) YesNo
    (pick (eqb n 8) (Ranged Delay)
    (pick (eqb n 9) YesNo
    (pick (eqb n 10) YesNo
    Unknown)))))))))

abbrev pub size_of : Sense → ℕ
size_of (Ranged Volume) = 2
size_of (Ranged Tone) = 1
size_of (Ranged Delay) = 2
size_of YesNo = 1
size_of Pin = 1
size_of Unknown = 1

abbrev pub range_of : Control → Range
range_of c = record { min = c.min; max = c.max; res = c.res }

unfoldable pub answers_to : ℕ → ℕ → ℕ → Control → Bool
answers_to u ch s c = eqb c.unit u && (eqb c.channel ch && eqb c.selector s)
