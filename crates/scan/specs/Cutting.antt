-- A cutting of bytes into pieces, each as long as it says itself, and no shorter than the least: of a configuration into descriptors
-- (document 01, refusal 3), whose first byte is their length, 2 at least. How a piece tells its length, and the least, are a value, so that
-- what is said of cuttings is said once, of every such measure (document 02, No. 12: "proved once over both editions").
--   Measure         ==  told s at: the length that the piece at place at of s tells; least: the least length; some: it is 1 or more; within: a
--                       piece that is long enough tells its length itself, whatever stands before it and behind it
--   Piece m d       ==  d is as long as it tells, and at least the least
--   Pieces m s ds   ==  ds are pieces which, one after another, are the bytes s
--   end_by m s at    ==  where the piece at place at ends; at itself where none stands there
--   rest_by m s at   ==  the pieces that stand one after another from place at on; rest_from_by m k s at: the first k of them
--   reach_by m s     ==  the place up to which they stand from the first byte on
--   breach_by m s    ==  nowhere, or the place where a piece's length is below the least or runs past the end
--   MisfitBy m s p  ==  pieces stand up to place p, p is not the end, and none stands there
--   own_byte, first_byte  ==  what stands at an offset within a piece is the piece's own byte
-- Of descriptors:
--   one_byte         ==  the measure: the first byte, 2 at least
--   Descriptor, Cutting, end_at, rest, breach3, Misfit  ==  the same by that measure
--   Rule3 s         ==  there is a cutting of s
--   reach s at      ==  the place up to which descriptors stand from place at on
use Rattle.std.specs.Prelude.{ℕ, zero, suc, ◌+◌, ◌≤◌, ◌<◌, ◌≡◌, length, take, drop, ltb, eqb, Option}
use Rattle.std.proofs.Common.{sym, ap, ◌∙◌, arith, add-zero, get_or-drop}
use mathlib.Core.List.{List, [], ◌∷◌, ◌++◌, flatten, Memᴰ}
use Rattle.std.proofs.Math.ListN.{get_or-append}
use Rattle.ground.specs.Pick.{pick}
use Rattle.ground.specs.Numbers.{byte}
use Rattle.ground.specs.Lists.{part, total}
use Rattle.ground.specs.Refuse.{kept_at}

pub record Measure : Type 0 where
  pub told : List ℕ → ℕ → ℕ
  pub least : ℕ
  pub some : 1 ≤ least
  pub within : (s : List ℕ) (at : ℕ) (d tail : List ℕ) → drop at s ≡ d ++ tail → least ≤ length d → told s at ≡ told d 0

pub record Piece (m : Measure) (d : List ℕ) : Type 0 where
  pub long : m.least ≤ length d
  pub own : m.told d 0 ≡ length d

pub record Pieces (m : Measure) (s : List ℕ) (ds : List (List ℕ)) : Type 0 where
  pub whole : flatten ds ≡ s
  pub each : (d : List ℕ) → Memᴰ d ds → Piece m d

unfoldable pub end_by : Measure → List ℕ → ℕ → ℕ
end_by m s at = pick (ltb (m.told s at) m.least) at (pick (ltb (length s) (at + m.told s at)) at (at + m.told s at))

-- with as many turns as there are bytes, which are enough
unfoldable pub rest_from_by : Measure → ℕ → List ℕ → ℕ → List (List ℕ)
rest_from_by m zero s at = []
rest_from_by m (suc k) s at = pick (eqb (end_by m s at) at) [] (part s at (end_by m s at) ∷ rest_from_by m k s (end_by m s at))

unfoldable pub rest_by : Measure → List ℕ → ℕ → List (List ℕ)
rest_by m s at = rest_from_by m (length s) s at

unfoldable pub reach_by : Measure → List ℕ → ℕ → ℕ
reach_by m s at = at + total (rest_by m s at)

unfoldable pub breach_by : Measure → List ℕ → Option ℕ
breach_by m s = kept_at (eqb (reach_by m s 0) (length s)) (reach_by m s 0)

pub record MisfitBy (m : Measure) (s : List ℕ) (p : ℕ) : Type 0 where
  pub before : List (List ℕ)
  pub stands : Pieces m (take p s) before
  pub inside : p < length s
  pub none : m.least ≤ m.told s p → p + m.told s p ≤ length s → ⊥

pub own_byte : (s : List ℕ) (at : ℕ) (d tail : List ℕ) → drop at s ≡ d ++ tail → (k : ℕ) → k < length d → byte s (at + k) ≡ byte d k
own_byte s at d tail e k h = sym (get_or-drop at s k 0) ∙ ap (λ (l : List ℕ). byte l k) e ∙ get_or-append d tail 0 k h

pub first_byte : (s : List ℕ) (at : ℕ) (d tail : List ℕ) → drop at s ≡ d ++ tail → 1 ≤ length d → byte s at ≡ byte d 0
first_byte s at d tail e h = ap (byte s) (sym (add-zero at)) ∙ own_byte s at d tail e 0 h

abbrev pub one_byte : Measure
one_byte = record { told = byte; least = 2; some = omega arith; within = λ s at d tail e h. first_byte s at d tail e (omega arith) }

abbrev pub Descriptor : List ℕ → Type 0
Descriptor d = Piece one_byte d

abbrev pub Cutting : List ℕ → List (List ℕ) → Type 0
Cutting s ds = Pieces one_byte s ds

abbrev pub Rule3 : List ℕ → Type 0
Rule3 s = (ds : List (List ℕ)) × Cutting s ds

abbrev pub end_at : List ℕ → ℕ → ℕ
end_at s at = end_by one_byte s at

abbrev pub rest : List ℕ → ℕ → List (List ℕ)
rest s at = rest_by one_byte s at

abbrev pub reach : List ℕ → ℕ → ℕ
reach s at = reach_by one_byte s at

abbrev pub breach3 : List ℕ → Option ℕ
breach3 s = breach_by one_byte s

abbrev pub Misfit : List ℕ → ℕ → Type 0
Misfit s p = MisfitBy one_byte s p
