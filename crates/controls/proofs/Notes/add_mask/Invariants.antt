use Prim.Native.Nat.{ℕ, suc, ◌+◌, ◌-◌, ◌≤◌, ◌<◌}
use mathlib.Core.Path.{◌≡◌, refl, sym, ap, ◌∙◌}
use mathlib.Core.List.{List, []}
use native.Mathlib.Omega.{arith}
use Rattle.ground.specs.Numbers.{byte, word}
use Rattle.table.specs.declared.Table.{Table}
use Rattle.masks.specs.Masks.{bit_set, bit_carries, bit_controls, bits_from, mask_controls}
use Rattle.controls.specs.Growth.{grown, grown_append}
use Rattle.controls.specs.Told.{table_by, Room, room_more, room_grown}
use Rattle.masks.specs.Counts.{bit_few}
use Rattle.controls.proofs.Notes.add_mask.Given as goal

module _ (m : List ℕ) (u k : ℕ) (t : Table) where
  -- both bytes are 0, so no bit is set
  pub no_bits : byte m 0 ≡ 0 → byte m 1 ≡ 0 → mask_controls m u k ≡ []
  unfolding mask_controls bits_from bit_controls bit_carries bit_set
  no_bits e f = rw (e, f) refl

  pub empty : (w : ℕ) → w ≡ word m 0 → w ≡ 0 → t ≡ grown t (mask_controls m u k)
  unfolding grown
  empty w e h = sym (ap (grown t) (no_bits (omega arith) (omega arith)))

  pub record Come (held : Table) (bit : ℕ) : Type 0 where
    pub low : bit ≤ 10
    pub same : grown t (mask_controls m u k) ≡ grown held (bits_from (10 - bit) bit m u k)
    pub room : Room held (990000 + bit)

  pub start : Room t 990000 → Come t 0
  unfolding mask_controls
  start r = record { low = omega arith; same = refl; room = r }

  module _ (held : Table) (bit : ℕ) (g : Come held bit) where
    pub room_next : Room held 1000000
    room_next = room_more held (990000 + bit) 1000000 g.room (let l = g.low in omega arith)

    pub on : (next : Table) → bit < 10 → next ≡ grown held (bit_controls m u k bit) → Come next (bit + 1)
    unfolding bits_from
    on next h e =
        let q : 10 - bit ≡ suc (10 - (bit + 1)) = omega arith in
        let z : 990000 + bit + 1 ≡ 990000 + (bit + 1) = omega arith in
        record {
          low = omega arith;
          same = g.same ∙ ap (λ (n : ℕ). grown held (bits_from n bit m u k)) q ∙ grown_append held (bit_controls m u k bit) (bits_from (10 - (bit + 1)) (bit + 1) m u k) ∙ ap (λ (x : Table). grown x (bits_from (10 - (bit + 1)) (bit + 1) m u k)) (sym e);
          room = rw (e, ← z) (room_grown held (bit_controls m u k bit) (990000 + bit) 1 g.room (bit_few m u k bit));
        }

    pub over : 10 ≤ bit → held ≡ grown t (mask_controls m u k)
    unfolding bits_from grown
    over h = let z : 10 - bit ≡ 0 = omega arith in sym (g.same ∙ ap (λ (n : ℕ). grown held (bits_from n bit m u k)) z)

abbrev pub invariant-loop-bit : goal.invariant-loop-bit
invariant-loop-bit l = Come l.mask l.unit l.channel (table_by l.initial.self.notes l.initial.self.count) (table_by l.self.notes l.self.count) l.bit
