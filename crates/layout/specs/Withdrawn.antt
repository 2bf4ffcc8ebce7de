-- The printed Selector (source document 004, tables C-11 to C-13), which is withdrawn: a Selector of length 7+p with a byte 0 in front of its sources.
-- "The reader no longer accepts it. .. Refusals: 17, at the first such entity, after 9 and before 10" (document 02, No. 6).
--   Printed d        ==  d is one; is_printed d: the test; reads_printed: it decides
--   layout_number e d ==  the refusal that the layout of d asks for, which was read as e: 9, 17 for the printed Selector; 0 where it has one of the five
--   is_wrong d        ==  that refusal is 9: the layout of d is wrong
--   wrong_tests      ==  so it is by two tests: none of the five was read, nor is it this one
use Rattle.std.specs.Prelude.{ℕ, ◌+◌, ◌≡◌, refl, Bool, true, false, not, ◌&&◌, ◌⊎◌, List, eqb, length}
use Rattle.std.proofs.Common.{inl, inr, ⊎_elim, arith}
use Rattle.ground.specs.Numbers.{byte}
use Rattle.ground.specs.Pick.{pick, Reads, reads_and, reads_eq, reads_not, reads_same, reads_within, decided, within}
use Rattle.layout.specs.declared.Entity.{Entity}
use Rattle.layout.specs.declared.Entity.TheVariants.{Unknown, Input, Output, Mixer, Selector, Feature}
use Rattle.layout.specs.Layouts.{most_pins, Pins}
use Rattle.layout.specs.Layout.{LaidOut, entity_of, is_unknown}
use Rattle.layout.specs.LayoutLaws.{Told, unknown, input, output, mixer, selector, feature}

pub record Printed (d : List ℕ) : Type 0 where
  pub kind : byte d 2 ≡ 5
  pub pins : Pins (byte d 4)
  pub long : length d ≡ 7 + byte d 4
  pub pad : byte d 5 ≡ 0

unfoldable pub is_printed : List ℕ → Bool
is_printed d = eqb (byte d 2) 5 && (within 1 (byte d 4) most_pins && (eqb (length d) (7 + byte d 4) && eqb (byte d 5) 0))

pub reads_printed : (d : List ℕ) → Reads (is_printed d) (Printed d)
unfolding is_printed
reads_printed d =
    reads_same
    (reads_and _ _ (reads_eq (byte d 2) 5) (reads_and _ _ (reads_within 1 (byte d 4) most_pins) (reads_and _ _ (reads_eq (length d) (7 + byte d 4)) (reads_eq (byte d 5) 0))))
    (λ h. record { kind = h.0; pins = h.1.0; long = h.1.1.0; pad = h.1.1.1 })
    (λ h. (h.kind, (h.pins, (h.long, h.pad))))

unfoldable pub layout_number : Entity → List ℕ → ℕ
layout_number Unknown d = pick (is_printed d) 17 9
layout_number (Input i t c) d = 0
layout_number (Output i t s) d = 0
layout_number (Mixer i p c) d = 0
layout_number (Selector i p) d = 0
layout_number (Feature i s n) d = 0

unfoldable pub is_wrong : List ℕ → Bool
is_wrong d = eqb (layout_number (entity_of d) d) 9

pub wrong_tests : (e : Entity) (d : List ℕ) → eqb (layout_number e d) 9 ≡ is_unknown e && not (is_printed d)
unfolding layout_number is_unknown
wrong_tests Unknown d = go (is_printed d)
  where
    go : (b : Bool) → eqb (pick b 17 9) 9 ≡ not b
    go true = refl
    go false = refl
wrong_tests (Input i t c) d = refl
wrong_tests (Output i t s) d = refl
wrong_tests (Mixer i p c) d = refl
wrong_tests (Selector i p) d = refl
wrong_tests (Feature i s n) d = refl
