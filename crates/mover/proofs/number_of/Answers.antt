-- One law for each way out, in the paper's order.
use borrow.Author.Rules.{rules}
use Prim.Native.Nat.{ℕ, ◌≤◌, ◌<◌}
use mathlib.Core.Path.{◌≡◌, sym, ap, ◌∙◌}
use mathlib.Core.Bool.{Bool, true, false}
use mathlib.Core.List.{List}
use lib.ListN.{length}
use borrow.Author.Tests.{eq-eqb, ne_eqb, lt-ltb, le-ltb}
use Rattle.ground.specs.Pick.{yes, no}
use Rattle.legal.specs.declared.Form.{Form}
use Rattle.legal.specs.Forms.{record_size_of}
use Rattle.legal.specs.Sheet.{most_sheet, number_by}
use Rattle.mover.specs.Moving.{other_of, loses_to, moved_to, move_number}
use Rattle.mover.specs.MovingLaws.{moved_short}
use Rattle.mover.proofs.number_of.Goals as goal

module _ (f : Form) (s : List ℕ) (room : ℕ) (g : Form) (q : g ≡ other_of f) (n : ℕ) (e : n ≡ number_by (record_size_of g) s) where
  known : n ≡ number_by (record_size_of (other_of f)) s
  known = e ∙ ap (λ (h : Form). number_by (record_size_of h) s) q

  by_form : (n ≡ 0 → ⊥) → n ≡ move_number f s room
  unfolding move_number
  by_form d = known ∙ sym (no _ _ (ne_eqb _ 0 (λ z. d (known ∙ z))))

  module _ (z : n ≡ 0) where
    short : length s ≤ most_sheet
    short = moved_short f s (sym known ∙ z)

    module _ (b : Bool) (l : b ≡ loses_to f s) where
      by_more : b ≡ true → 43 ≡ move_number f s room
      unfolding move_number
      by_more y = sym (yes _ _ (eq-eqb _ 0 (sym known ∙ z)) ∙ yes _ _ (sym l ∙ y))

      module _ (y : b ≡ false) (k : ℕ) (t : k ≡ length (moved_to f s)) where
        by_room : room < k → 44 ≡ move_number f s room
        unfolding move_number
        by_room h = sym (yes _ _ (eq-eqb _ 0 (sym known ∙ z)) ∙ no _ _ (sym l ∙ y) ∙ yes _ _ (lt-ltb _ _ (rw t at h)))

        moved : k ≤ room → 0 ≡ move_number f s room
        unfolding move_number
        moved h = sym (yes _ _ (eq-eqb _ 0 (sym known ∙ z)) ∙ no _ _ (sym l ∙ y) ∙ no _ _ (le-ltb _ _ (rw t at h)))

ruleset laws = (by_form, short, by_more, by_room, moved, rules)

pub returns-then-refused-ne0 : goal.returns-then-refused-ne0
returns-then-refused-ne0 c = search laws

pub returns-then-loses : goal.returns-then-loses
returns-then-loses c = search laws

pub moved_size-requires : goal.moved_size-requires
moved_size-requires c = search laws

pub returns-then-room-moved_size : goal.returns-then-room-moved_size
returns-then-room-moved_size c = search laws

pub returns : goal.returns
returns c = search laws
