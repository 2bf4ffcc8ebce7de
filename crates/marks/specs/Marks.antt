-- Marks at the end of a lent buffer.
--   mark             ==  AA hex
--   before_marks s n  ==  of the first n bytes of s, how many are left without the marks that they end in
--   BeforeMarks s r  ==  r is that of all bytes of s, and no more than there are
use Rattle.std.specs.Prelude.{ℕ, zero, suc, ◌≤◌, ◌≡◌, List, eqb, length}
use Rattle.ground.specs.Pick.{pick}
use Rattle.ground.specs.Numbers.{byte}

abbrev pub mark : ℕ
mark = 0xAA

unfoldable pub before_marks : List ℕ → ℕ → ℕ
before_marks s zero = 0
before_marks s (suc n) = pick (eqb (byte s n) mark) (before_marks s n) (suc n)

pub record BeforeMarks (s : List ℕ) (r : ℕ) : Type 0 where
  pub same : r ≡ before_marks s (length s)
  pub inside : r ≤ length s
