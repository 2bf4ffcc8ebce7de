-- Laws of the cutting into descriptors: those of pieces (PieceLaws), by the measure of descriptors.
--   end_none, end_stands, end_off  ==  what end_at answers where no descriptor stands at the place, where one does, and where it answers another place
--   rest_none, rest_more  ==  the descriptors from a place on, where none stands there, and where one does
--   starts_end, starts_part  ==  where the bytes from a place on begin with a descriptor: where it ends, and that it is that part of the bytes
--   rest_of          ==  descriptors that the bytes from a place on begin with are the first of the rest
--   Standing s at ds ==  ds are descriptors, and they are the bytes of s from place at up to where they reach
--   standing         ==  so stands the rest
--   cutting_rest     ==  a cutting is what stands from the first byte on
--   cutting_one      ==  THE CUTTING THEOREM: there is one cutting at most
--   byte_inside      ==  a byte that is not 0 stands within the bytes
use Rattle.std.specs.Prelude.{ℕ, ◌+◌, ◌≤◌, ◌<◌, ◌≡◌, refl, Bool, true, false, ◌↔◌, length, drop, ltb}
use mathlib.Core.List.{List, [], ◌∷◌, ◌++◌, flatten, Memᴰ}
use Rattle.std.proofs.Math.ListN.{get_or-eq_default}
use Rattle.std.proofs.Common.{arith, ltb-true, ltb-false}
use Rattle.ground.specs.Numbers.{byte}
use Rattle.ground.specs.Lists.{part, total}
use Rattle.scan.specs.Cutting.{one_byte, Descriptor, Cutting, Rule3, end_at, rest, breach3, Misfit}
use Rattle.scan.specs.PieceLaws as pieces

abbrev pub Standing : List ℕ → ℕ → List (List ℕ) → Type 0
Standing s at ds = pieces.StandingBy one_byte s at ds

module _ (s : List ℕ) where
  pub end_stands : (at : ℕ) → 2 ≤ byte s at → at + byte s at ≤ length s → end_at s at ≡ at + byte s at
  end_stands = pieces.end_stands one_byte s

  pub end_none : (at : ℕ) → (2 ≤ byte s at → at + byte s at ≤ length s → ⊥) → end_at s at ≡ at
  end_none = pieces.end_none one_byte s

  pub end_off : (at : ℕ) → (end_at s at ≡ at → ⊥) → (at + 2 ≤ end_at s at) × (end_at s at ≤ length s)
  end_off = pieces.end_off one_byte s

  pub rest_none : (at : ℕ) → end_at s at ≡ at → rest s at ≡ []
  rest_none = pieces.rest_none one_byte s

  pub rest_more : (at : ℕ) → (end_at s at ≡ at → ⊥) → rest s at ≡ part s at (end_at s at) ∷ rest s (end_at s at)
  rest_more = pieces.rest_more one_byte s

  pub starts_end : (at : ℕ) (d tail : List ℕ) → drop at s ≡ d ++ tail → Descriptor d → end_at s at ≡ at + length d
  starts_end = pieces.starts_end one_byte s

  pub starts_part : (at : ℕ) (d tail : List ℕ) → drop at s ≡ d ++ tail → Descriptor d → part s at (at + length d) ≡ d
  starts_part = pieces.starts_part one_byte s

  pub rest_of : (at : ℕ) (b : List (List ℕ)) (tail : List ℕ) → drop at s ≡ flatten b ++ tail → ((d : List ℕ) → Memᴰ d b → Descriptor d)
      → rest s at ≡ b ++ rest s (at + total b)
  rest_of = pieces.rest_of one_byte s

  pub standing : (at : ℕ) → at ≤ length s → Standing s at (rest s at)
  standing = pieces.standing one_byte s

  pub cutting_rest : (ds : List (List ℕ)) → Cutting s ds → rest s 0 ≡ ds
  cutting_rest = pieces.cut_rest one_byte s

  pub cutting_one : (ds es : List (List ℕ)) → Cutting s ds → Cutting s es → ds ≡ es
  cutting_one = pieces.cut_one one_byte s

pub byte_inside : (s : List ℕ) (at : ℕ) → 0 < byte s at → at < length s
byte_inside s at h = go (ltb at (length s)) refl
  where
    go : (b : Bool) → ltb at (length s) ≡ b → at < length s
    go true e = ltb-true _ _ e
    go false e = let z : byte s at ≡ 0 = get_or-eq_default s 0 (ltb-false _ _ e) in absurd (omega arith)
