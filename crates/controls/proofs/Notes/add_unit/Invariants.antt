use Prim.Native.Nat.{ℕ, suc, ◌+◌, ◌*◌, ◌-◌, ◌≤◌, ◌<◌}
use mathlib.Core.Path.{◌≡◌, sym, ap, ◌∙◌}
use mathlib.Core.List.{List}
use native.Mathlib.Omega.{arith}
use Rattle.table.specs.declared.Table.{Table}
use Rattle.masks.specs.Masks.{mask_of, mask_controls, channels_from, feature_controls}
use Rattle.controls.specs.Growth.{grown, grown_append}
use Rattle.controls.specs.Told.{table_by, Room, room_more, room_grown}
use Rattle.masks.specs.Counts.{mask_few}
use Rattle.controls.proofs.Notes.add_unit.Given as goal

module _ (d : List ℕ) (u n c : ℕ) (t : Table) where
  pub record Come (held : Table) (k : ℕ) : Type 0 where
    pub low : k ≤ c + 1
    pub same : grown t (feature_controls u n c d) ≡ grown held (channels_from (c + 1 - k) k u n d)
    pub room : Room held (900000 + 10 * k)

  pub start : Room t 900000 → Come t 0
  unfolding feature_controls
  start r = let q : suc c ≡ c + 1 - 0 = omega arith in record { low = omega arith; same = ap (λ (j : ℕ). grown t (channels_from j 0 u n d)) q; room = r }

  module _ (held : Table) (k : ℕ) (g : Come held k) where
    pub room_next : k ≤ c → c < 256 → Room held 990000
    room_next l m = room_more held (900000 + 10 * k) 990000 g.room (omega arith)

    pub on : (mask : List ℕ) (next : Table) → k ≤ c → mask ≡ mask_of d n k → next ≡ grown held (mask_controls mask u k) → Come next (k + 1)
    unfolding channels_from
    on mask next h e f =
        let q : c + 1 - k ≡ suc (c + 1 - (k + 1)) = omega arith in
        let z : 900000 + 10 * k + 10 ≡ 900000 + 10 * (k + 1) = omega arith in
        let r : next ≡ grown held (mask_controls (mask_of d n k) u k) = f ∙ ap (λ (x : List ℕ). grown held (mask_controls x u k)) e in
        record {
          low = omega arith;
          same = g.same ∙ ap (λ (j : ℕ). grown held (channels_from j k u n d)) q ∙ grown_append held (mask_controls (mask_of d n k) u k) (channels_from (c + 1 - (k + 1)) (k + 1) u n d) ∙ ap (λ (x : Table). grown x (channels_from (c + 1 - (k + 1)) (k + 1) u n d)) (sym r);
          room = rw (f, ← z) (room_grown held (mask_controls mask u k) (900000 + 10 * k) 10 g.room (mask_few mask u k));
        }

    pub over : c < k → held ≡ grown t (feature_controls u n c d)
    unfolding channels_from grown
    over h = let z : c + 1 - k ≡ 0 = omega arith in sym (g.same ∙ ap (λ (j : ℕ). grown held (channels_from j k u n d)) z)

  -- behind the last channel
  pub last : (held : Table) (k : ℕ) → Come held k → (mask : List ℕ) (next : Table) → k ≤ c → c ≤ k → mask ≡ mask_of d n k → next ≡ grown held (mask_controls mask u k)
      → next ≡ grown t (feature_controls u n c d)
  last held k g mask next h l e f = over next (k + 1) (on held k g mask next h e f) (omega arith)

abbrev pub invariant-loop-channel : goal.invariant-loop-channel
invariant-loop-channel l = Come l.d l.unit l.size l.channels (table_by l.initial.self.notes l.initial.self.count) (table_by l.self.notes l.self.count) l.channel
