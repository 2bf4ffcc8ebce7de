-- Laws of what stands beside it in specs.
--   wrong_read       ==  a wrong layout, by what was read
--   printed_unlaid   ==  what is one has none of the five layouts
--   reads_wrong      ==  that test decides
--   layout_number_lem    ==  the number is by the tests of 9 and 17, in this order
--   layout_or        ==  what is neither wrong nor one has one of the five layouts
use Rattle.std.specs.Prelude.{ℕ, ◌≡◌, refl, Bool, true, false, not, ◌&&◌, ◌⊎◌, List}
use Rattle.std.proofs.Common.{inl, inr, ⊎_elim, arith}
use Rattle.ground.specs.Pick.{pick, Reads, reads_and, reads_not, decided}
use Rattle.layout.specs.declared.Entity.{Entity}
use Rattle.layout.specs.declared.Entity.TheVariants.{Unknown, Input, Output, Mixer, Selector, Feature}
use Rattle.layout.specs.Layout.{LaidOut, entity_of, is_unknown}
use Rattle.layout.specs.LayoutLaws.{Told, unknown, input, output, mixer, selector, feature}
use Rattle.layout.proofs.LayoutLemmas.{told, reads_unknown, laid_out}
use Rattle.layout.specs.Withdrawn.{Printed, is_printed, reads_printed, layout_number, is_wrong, wrong_tests}

pub wrong_read : (d : List ℕ) → is_wrong d ≡ is_unknown (entity_of d) && not (is_printed d)
unfolding is_wrong
wrong_read d = wrong_tests (entity_of d) d

pub printed_unlaid : (d : List ℕ) → Printed d → LaidOut d → ⊥
printed_unlaid d h o = of (told d)
  where
    of : {e : Entity} → Told d e → ⊥
    of (unknown n) = n o
    of (input k l) = let q = h.kind in omega arith
    of (output k l) = let q = h.kind in omega arith
    of (mixer k q l) = let r = h.kind in omega arith
    of (selector k q l) = let r = h.long in omega arith
    of (feature k q l) = let r = h.kind in omega arith

pub reads_wrong : (d : List ℕ) → Reads (is_wrong d) ((LaidOut d → ⊥) × (Printed d → ⊥))
unfolding is_wrong
reads_wrong d = rw (wrong_tests (entity_of d) d) (reads_and _ _ (reads_unknown d) (reads_not _ (reads_printed d)))

pub layout_or : (d : List ℕ) → ((LaidOut d → ⊥) × (Printed d → ⊥) → ⊥) → LaidOut d ⊎ Printed d
layout_or d f = ⊎_elim inl (λ n. ⊎_elim inr (λ m. absurd (f (n, m))) (decided (is_printed d) (reads_printed d))) (laid_out d)

pub layout_number_lem : (d : List ℕ) → layout_number (entity_of d) d ≡ pick (is_wrong d) 9 (pick (is_printed d) 17 0)
unfolding is_wrong layout_number is_unknown
layout_number_lem d = rw (wrong_tests (entity_of d) d) (go (entity_of d) (reads_unknown d))
  where
    known : (b : Bool) → Reads b (Printed d) → ((LaidOut d → ⊥) → ⊥) → ◌≡◌ {A = ℕ} 0 (pick b 17 0)
    known true r n = absurd (n (printed_unlaid d (r.says refl)))
    known false r n = refl

    none_read : (b : Bool) → ◌≡◌ {A = ℕ} (pick b 17 9) (pick (not b) 9 (pick b 17 0))
    none_read true = refl
    none_read false = refl

    go : (e : Entity) → Reads (is_unknown e) (LaidOut d → ⊥)
        → layout_number e d ≡ pick (is_unknown e && not (is_printed d)) 9 (pick (is_printed d) 17 0)
    go Unknown u = none_read (is_printed d)
    go (Input i t c) u = known (is_printed d) (reads_printed d) (u.denies refl)
    go (Output i t s) u = known (is_printed d) (reads_printed d) (u.denies refl)
    go (Mixer i p c) u = known (is_printed d) (reads_printed d) (u.denies refl)
    go (Selector i p) u = known (is_printed d) (reads_printed d) (u.denies refl)
    go (Feature i s n) u = known (is_printed d) (reads_printed d) (u.denies refl)
