use Prim.Native.Nat.{ℕ, suc, ◌+◌, ◌*◌, ◌-◌, ◌^◌, ◌≤◌, ◌<◌}
use mathlib.Core.Path.{◌≡◌, refl, sym, ap, ◌∙◌}
use mathlib.Core.Bool.{Bool, true, false}
use mathlib.Core.List.{List}
use native.Mathlib.Omega.{arith}
use native.Mathlib.Nat.{pow-le-pow_right}
use mir.Val.{bool_byte}
use Rattle.ground.specs.Pick.{pick}
use Rattle.records.specs.Records.{record_size}
use Rattle.differences.specs.Lines.{differs, differing, bits_set}
use Rattle.differences.specs.Masks.{bits_of, bits_below, mask_bits}
use Rattle.differences.proofs.mask_of.Given as goal

pub bit : (b : Bool) → bool_byte b ≡ pick b 1 0
bit true = refl
bit false = refl

module _ (a b : List ℕ) where
  pub record Masked (mask n : ℕ) : Type 0 where
    pub few : n ≤ record_size
    pub same : mask ≡ bits_of (differs a b) n (record_size - n)

  pub start : Masked 0 record_size
  unfolding bits_of
  start = record { few = omega arith; same = refl }

  module _ (mask n : ℕ) (g : Masked mask n) where
    pub over : n ≤ 0 → mask ≡ bits_set (differing a b)
    unfolding differing
    over h = let z : n ≡ 0 = omega arith in g.same ∙ rw z (sym (mask_bits (differs a b) 0 record_size ∙ (let q : 2 ^ 0 * bits_of (differs a b) 0 record_size ≡ bits_of (differs a b) 0 record_size = omega arith in q)))

    module _ (h : 0 < n) where
      -- one bit more still fits 32 bits, as long as a record has no more than 32 bytes
      pub room : mask * 2 + 1 < 2 ^ 32
      room =
          let f = g.few in
          let l = bits_below (differs a b) n (record_size - n) in
          let e = g.same in
          let k : 2 ^ suc (record_size - n) ≤ 2 ^ 32 = pow-le-pow_right (omega arith) {i = suc (record_size - n)} {j = 32} (omega arith) in
          omega arith

      pub doubled : mask * 2 < 2 ^ 32
      doubled = omega (arith, room)

      module _ (d : Bool) where
        pub fits : mask * 2 + bool_byte d < 2 ^ 32
        fits = go d
          where
            go : (d : Bool) → mask * 2 + bool_byte d < 2 ^ 32
            go true = room
            go false = omega (arith, room)

        pub on : d ≡ differs a b (n - 1) → Masked (mask * 2 + bool_byte d) (n - 1)
        unfolding bits_of
        on e =
            let f = g.few in
            let q : record_size - (n - 1) ≡ suc (record_size - n) = omega arith in
            let p : suc (n - 1) ≡ n = omega arith in
            record { few = omega arith; same = rw (q, p) (rw (g.same, e) (ap (λ (x : ℕ). bits_of (differs a b) n (record_size - n) * 2 + x) (bit (differs a b (n - 1))))) }

abbrev pub invariant-loop-n : goal.invariant-loop-n
invariant-loop-n l = Masked l.a l.b l.mask l.n
