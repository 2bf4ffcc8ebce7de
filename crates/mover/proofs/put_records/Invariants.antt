use Prim.Native.Nat.{ℕ, suc, ◌+◌, ◌*◌, ◌-◌, ◌^◌, ◌≤◌, ◌<◌}
use mathlib.Core.Path.{◌≡◌, sym, ap, ◌∙◌}
use mathlib.Core.List.{List, ◌++◌, append_assoc}
use native.Mathlib.Omega.{arith}
use native.Mathlib.Numerals.{add-one}
use native.Mathlib.Nat.{mul-le-mul_right, suc-mul}
use lib.ListN.{length, take, drop, length-append, length-drop, length-take}
use lib.Seq.{take_at, drop_at, drop-drop}
use mir.Val.{Fits}
use mir.Syntax.{w64}
use Rattle.ground.specs.Lists.{part, pad}
use Rattle.legal.specs.Sheet.{record_by}
use Rattle.mover.specs.Laid.{Room, resized, resized_more, resized_long, resized_none}
use Rattle.mover.proofs.put_records.Given as goal

module _ (s : List ℕ) (k : ℕ) (d : List ℕ) (m n : ℕ) where
  pub record Put (t : List ℕ) (i : ℕ) : Type 0 where
    pub low : i ≤ n
    pub room : Room (length s) k (length d) m n
    pub same : t ≡ resized k m s i ++ drop (i * m) d

  pub start : Room (length s) k (length d) m n → Put d 0
  start r = record { low = omega arith; room = r; same = resized_none k m s d }

  module _ (t : List ℕ) (i : ℕ) (g : Put t i) where
    pub long : length t ≡ length d
    long =
        let r = g.room.given in
        let l = mul-le-mul_right m g.low in
        let q = resized_long k m s i in
        let o = length-drop (i * m) d in
        ap length g.same ∙ length-append (resized k m s i) (drop (i * m) d) ∙ omega arith

    pub over : n ≤ i → t ≡ resized k m s n ++ drop (n * m) d
    over h = let l = g.low in let z : i ≡ n = omega arith in g.same ∙ ap (λ (j : ℕ). resized k m s j ++ drop (j * m) d) z

    module _ (h : i < n) where
      pub source_inside : i * k + k ≤ length s
      source_inside = let r = g.room.taken in omega (arith, mul-le-mul_right k h, suc-mul i k)

      pub target_inside : i * m + m ≤ length t
      target_inside = let r = g.room.given in let l = long in omega (arith, mul-le-mul_right m h, suc-mul i m)

      pub source_fits : length s < 2 ^ 64 → Fits w64 (i * k)
      source_fits p = let l = source_inside in record { fits = omega arith }

      pub target_fits : length d < 2 ^ 64 → Fits w64 (i * m)
      target_fits p = let l = target_inside in let q = long in record { fits = omega arith }

      pub source_end : length s < 2 ^ 64 → Fits w64 (i * k + k)
      source_end p = let l = source_inside in record { fits = omega arith }

      pub target_end : length d < 2 ^ 64 → Fits w64 (i * m + m)
      target_end p = let l = target_inside in let q = long in record { fits = omega arith }

      pub on : (x : List ℕ) → x ≡ pad 0 (length (part t (i * m) (i * m + m))) (part s (i * k) (i * k + k))
          → Put (take (i * m) t ++ (x ++ drop (i * m + m - i * m) (drop (i * m) t))) (i + 1)
      on x e =
          let a : i * m + m - i * m ≡ m = omega arith in
          let b : i * k + k - i * k ≡ k = omega arith in
          let l = target_inside in
          let w : length (part t (i * m) (i * m + m)) ≡ m = simp (length-take, length-drop) (omega arith) in
          let q : i * m + m ≡ suc i * m = sym (suc-mul i m) in
          record {
            low = omega arith;
            room = g.room;
            same =
                rw (e, w, a, b, add-one, g.same, take_at (resized k m s i) (drop (i * m) d) (i * m) (resized_long k m s i), drop_at (resized k m s i) (drop (i * m) d) (i * m) (resized_long k m s i), resized_more k m s i, drop-drop, q)
                (sym (append_assoc (resized k m s i) (pad 0 m (record_by k s i)) (drop (suc i * m) d)));
          }

abbrev pub invariant-loop-i : goal.invariant-loop-i
invariant-loop-i l = Put l.s l.from l.initial.room l.to l.n l.room l.i
