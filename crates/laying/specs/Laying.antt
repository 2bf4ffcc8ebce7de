-- An entity laid into a lent buffer as its descriptor (document 02, No. 9): the one format by which it is read (fields/specs/Listed) says its bytes.
--   most_long         ==  255: no descriptor is longer, since byte 0 is its length
--   short_of n        ==  a length, none where it passes 255
--   fits_at d at n    ==  the test that d is no longer than 255 and that a buffer of n bytes has room for it from place at on
--   laid_size, laid_in ==  how many bytes are laid, and the buffer afterwards: d at the place, or nothing where it does not fit
--   Lay d at b a r   ==  the buffer b became a and the answer is r, by these
use Rattle.std.specs.Prelude.{ℕ, ◌+◌, ◌≡◌, Bool, ◌&&◌, List, length, leb}
use Rattle.std.specs.declared.option.Option.{Option}
use Rattle.std.specs.declared.option.Option.TheVariants.{None, Some}
use Rattle.ground.specs.Pick.{pick}
use Rattle.laying.specs.Paste.{pasted}

abbrev pub most_long : ℕ
most_long = 255

unfoldable pub short_of : ℕ → Option ℕ
short_of n = pick (leb n most_long) (Some n) None

unfoldable pub fits_at : List ℕ → ℕ → ℕ → Bool
fits_at d at n = leb (length d) most_long && leb (at + length d) n

unfoldable pub laid_size : List ℕ → ℕ → ℕ → ℕ
laid_size d at n = pick (fits_at d at n) (length d) 0

unfoldable pub laid_in : List ℕ → ℕ → List ℕ → List ℕ
laid_in d at b = pick (fits_at d at (length b)) (pasted at d b) b

pub record Lay (d : List ℕ) (at : ℕ) (before after : List ℕ) (r : ℕ) : Type 0 where
  pub size : r ≡ laid_size d at (length before)
  pub lent : after ≡ laid_in d at before
