-- A control that is put in the place of the same control, and 30.
--   placed_sound     ==  30 has nothing against the table if it had nothing and has nothing against the control
use Rattle.std.specs.Prelude.{ℕ, ◌<◌, ◌≡◌, eqb, length}
use Rattle.std.proofs.Common.{⊎_elim}
use Rattle.ground.specs.Pick.{decided, reads_eq}
use Rattle.table.specs.declared.Control.{Control}
use Rattle.table.specs.declared.Table.{Table}
use Rattle.table.specs.Controls.{at, placed, sense_of}
use Rattle.table.specs.Same.{Same, same_back, same_by}
use Rattle.table.specs.Placed.{placed_here, placed_elsewhere, placed_keeps}
use Rattle.single.specs.Meaning.{SoundAs}
use Rattle.sound.specs.Meaning.{Sound}

pub placed_sound : (t : Table) (p : ℕ) → p < length t.controls → (c : Control) → Same c (at t p) → Sound t → SoundAs (sense_of c.selector) c
    → Sound (placed t p c)
placed_sound t p inside c h s k = record {
  few = s.few;
  once = λ i j l m n.
      s.once i j l m (same_by (same_back (placed_keeps t p inside c h i)) (same_by n (placed_keeps t p inside c h j)));
  each = λ i l.
      ⊎_elim
      (λ (e : i ≡ p). rw (e, placed_here t p inside c) k)
      (λ (e : i ≡ p → ⊥). rw (placed_elsewhere t p c i e) (s.each i l))
      (decided (eqb i p) (reads_eq i p));
}
