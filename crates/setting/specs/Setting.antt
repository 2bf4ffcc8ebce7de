-- Ranges and settings, as the code computes them: on heights. A control's numbers are held as on the wire (two's
-- complement where the control is signed); the height of a number is how far its value lies above the lowest value that
-- the control can hold. Heights are ordered and spaced as the values are, and none is negative, so one definition serves the
-- three sorts. What all this means over the integers is said in Meaning, and proved in Legal, Available and Closest.
--   span_of s                         ==  how many numbers a control of the sort s has
--   bias_of s                         ==  how far its lowest value lies below 0
--   most_res s                        ==  "RES 1 to 32767 (127 for one byte, 65535 for delay)"
--   silence_of s n                    ==  "For volume −32768 means silence"
--   height_of s n                     ==  the height of the number n
--   at_height s h                     ==  the number of that height
--   fits_of s n                       ==  n is not "too wide for the control"
--   legal_of s range                  ==  the range is legal
--   whole_steps room step             ==  the largest multiple of step that is not above room
--   on_grid least most step x         ==  x is least + k·step, up to most
--   available_of s range n            ==  n is a setting: "MIN + k·RES up to MAX", or silence
--   nearer most step x low           ==  of the point low and the next, the closer to x
--   closest_height least most step x  ==  the closest point to x, "at a tie the lower"
--   closest_setting s range n         ==  the number at the closest height
--   closest_to s range n              ==  what is stored where n is wanted
use Rattle.std.specs.Prelude.{ℕ, ◌+◌, ◌-◌, ◌*◌, ◌/◌, ◌%◌, min, Bool, false, not, ◌&&◌, ◌||◌, eqb, leb, ltb}
use Rattle.ground.specs.Pick.{pick}
use Rattle.setting.specs.declared.Sort.{Sort}
use Rattle.setting.specs.declared.Sort.TheVariants.{Volume, Tone, Delay}
use Rattle.setting.specs.declared.Range.{Range}

abbrev pub span_of : Sort → ℕ
span_of Volume = 65536
span_of Tone = 256
span_of Delay = 65536

abbrev pub bias_of : Sort → ℕ
bias_of Volume = 32768
bias_of Tone = 128
bias_of Delay = 0

abbrev pub most_res : Sort → ℕ
most_res Volume = 32767
most_res Tone = 127
most_res Delay = 65535

abbrev pub silence_of : Sort → ℕ → Bool
silence_of Volume n = eqb n 32768
silence_of Tone n = false
silence_of Delay n = false

abbrev pub height_of : Sort → ℕ → ℕ
height_of s n = (n + bias_of s) % span_of s

-- the signed sorts have as many negative values as others, so the way back is the same sum
abbrev pub at_height : Sort → ℕ → ℕ
at_height s h = (h + bias_of s) % span_of s

unfoldable pub fits_of : Sort → ℕ → Bool
fits_of s n = ltb n (span_of s)

-- "MIN ≤ MAX; RES 1 to 32767 (127 for one byte, 65535 for delay); volume MIN at least −32767", and no number too wide (RES is
-- not, where it is at most most_res)
unfoldable pub legal_of : Sort → Range → Bool
legal_of s range =
    fits_of s range.min
    && (fits_of s range.max
    && (leb (height_of s range.min) (height_of s range.max)
    && (leb 1 range.res
    && (leb range.res (most_res s)
    && not (silence_of s range.min)))))

unfoldable pub whole_steps : ℕ → ℕ → ℕ
whole_steps room step = room / step * step

unfoldable pub on_grid : ℕ → ℕ → ℕ → ℕ → Bool
on_grid least most step x = leb least x && (leb x most && eqb (whole_steps (x - least) step) (x - least))

-- "30 takes it for a setting": silence is one of every volume range
unfoldable pub available_of : Sort → Range → ℕ → Bool
available_of s range n =
    silence_of s n || (fits_of s n && on_grid (height_of s range.min) (height_of s range.max) range.res (height_of s n))

-- low is the last point that is above neither x nor most; the next point counts if it is not above most
unfoldable pub nearer : ℕ → ℕ → ℕ → ℕ → ℕ
nearer most step x low =
    pick (ltb (most - low) step) low
    (pick (ltb (low + step - x) (x - low)) (low + step)
    low)

unfoldable pub closest_height : ℕ → ℕ → ℕ → ℕ → ℕ
closest_height least most step x = pick (leb x least) least (nearer most step x (least + whole_steps (min x most - least) step))

unfoldable pub closest_setting : Sort → Range → ℕ → ℕ
closest_setting s range n =
    at_height s (closest_height (height_of s range.min) (height_of s range.max) range.res (height_of s n))

-- Silence is stored as it is. A number too wide, or one wanted of an illegal range, is given back as it is: the papers ask
-- nothing there.
unfoldable pub closest_to : Sort → Range → ℕ → ℕ
closest_to s range n =
    pick (silence_of s n) n
    (pick (not (fits_of s n)) n
    (pick (not (legal_of s range)) n
    (closest_setting s range n)))
