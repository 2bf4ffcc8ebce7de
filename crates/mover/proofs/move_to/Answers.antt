-- One law for each way out. Where the move is not refused, as many bytes are lent as the records take.
use borrow.Author.Rules.{rules}
use Prim.Native.Nat.{ℕ, ◌*◌, ◌≤◌}
use mathlib.Core.Path.{◌≡◌, refl, sym, ◌∙◌}
use mathlib.Core.List.{List, ◌++◌}
use native.Mathlib.Omega.{arith}
use native.Mathlib.Nat.{div-mul-le_self}
use lib.ListN.{length, drop}
use borrow.Author.Tests.{eq-eqb, ne_eqb}
use Rattle.ground.specs.Pick.{yes, no}
use Rattle.legal.specs.declared.Form.{Form}
use Rattle.legal.specs.Forms.{record_size_of}
use Rattle.legal.specs.Sheet.{most_sheet, count_by}
use Rattle.mover.specs.Moving.{other_of, moved_to, move_number, written_by, room_after, Move}
use Rattle.mover.specs.Laid.{Room, resized}
use Rattle.mover.proofs.MovingLemmas.{moved_resized, moved_long, unrefused_short, unrefused_room}
use Rattle.mover.proofs.move_to.Goals as goal

module _ (f : Form) (s d : List ℕ) (x : ℕ) (e : x ≡ move_number f s (length d)) where
  refused : (x ≡ 0 → ⊥) → Move f s d x 0 d
  unfolding written_by room_after
  refused h = record { number = e; written = sym (no _ _ (ne_eqb _ 0 (λ z. h (e ∙ z)))); room = sym (no _ _ (ne_eqb _ 0 (λ z. h (e ∙ z)))) }

  module _ (z : x ≡ 0) where
    short : length s ≤ most_sheet
    short = unrefused_short f s (length d) (sym e ∙ z)

    module _ (g : Form) (q : g ≡ other_of f) (n : ℕ) (c : n ≡ count_by (record_size_of g) s) (k : ℕ) (a : k ≡ record_size_of g) (m : ℕ) (b : m ≡ record_size_of f) where
      long : length (moved_to f s) ≡ n * m
      long = moved_long f s ∙ rw (sym q, sym c, sym b) refl

      room_left : Room (length s) k (length d) m n
      room_left =
          let r = unrefused_room f s (length d) (sym e ∙ z) in
          let w = long in
          record { taken = rw (c, a) (div-mul-le_self (length s) (record_size_of g)); given = omega arith }

      put : (t : List ℕ) → t ≡ resized k m s n ++ drop (n * m) d → (w : ℕ) → w ≡ length (moved_to f s) → Move f s d x w t
      unfolding written_by room_after
      put t p w u =
          let same : resized k m s n ≡ moved_to f s = sym (moved_resized f s ∙ rw (sym q, sym c, sym a, sym b) refl) in
          record {
            number = e;
            written = u ∙ sym (yes _ _ (eq-eqb _ 0 (sym e ∙ z)));
            room = p ∙ rw (same, sym long) refl ∙ sym (yes _ _ (eq-eqb _ 0 (sym e ∙ z)));
          }

ruleset laws = (refused, short, room_left, put, rules)

pub returns-then-number-ne0 : goal.returns-then-number-ne0
returns-then-number-ne0 c = search laws

pub put_records-requires : goal.put_records-requires
put_records-requires c = search laws

pub moved_size-requires : goal.moved_size-requires
moved_size-requires c = search laws

pub returns : goal.returns
returns c = search laws
