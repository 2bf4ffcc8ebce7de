use Prim.Native.Nat.{ℕ, zero, suc, ◌+◌, ◌*◌, ◌^◌, ◌≤◌, ◌<◌}
use mathlib.Core.Path.{◌≡◌}
use mathlib.Core.Bool.{Bool, true, false}
use mathlib.Core.List.{List}
use native.Mathlib.Omega.{arith}
use native.Mathlib.Nat.{div-zero}
use mir.Val.{Fits}
use mir.Syntax.{w64}
use lib.ListN.{length, get_or, set, replicate}
use Rattle.ground.specs.Places.{somewhere}
use Rattle.graph.specs.Borne.{Passed, passed_none, passed_over, passed_zero, passed_twice, passed_on}
use Rattle.legal.specs.Sheet.{count_by, id_by, bad_ids_by}
use Rattle.legal.specs.SheetLaws.{record_inside}
use Rattle.legal.proofs.has_bad_id.Given as goal

pub some_size : (k : ℕ) (s : List ℕ) (i : ℕ) → i < count_by k s → 0 < k
some_size zero s i h = let z = div-zero (length s) in absurd (omega arith)
some_size (suc k) s i h = omega arith

module _ (k : ℕ) (s : List ℕ) where
  pub record Come (n : ℕ) (borne : List Bool) (i : ℕ) : Type 0 where
    pub told : n ≡ count_by k s
    pub passed : Passed (id_by k s) (λ i. true) false (count_by k s) borne i

  pub start : (n : ℕ) → n ≡ count_by k s → Come n (replicate 256 false) 0
  start n e = record { told = e; passed = passed_none (id_by k s) (λ i. true) false (count_by k s) }

  module _ (n : ℕ) (borne : List Bool) (i : ℕ) (g : Come n borne i) where
    pub over : n ≤ i → false ≡ bad_ids_by k s
    unfolding bad_ids_by somewhere
    over h = let e = g.told in passed_over (id_by k s) (λ i. true) false (count_by k s) borne i g.passed (omega arith)

    module _ (h : i < n) where
      pub below : i < count_by k s
      below = let e = g.told in omega arith

      pub inside : i * k < length s
      inside = let p = some_size k s i below in omega (arith, record_inside k s i below)

      pub place_fits : length s < 2 ^ 64 → Fits w64 (i * k)
      place_fits p = let l = inside in record { fits = omega arith }

      module _ (x : ℕ) (w : (x ≡ id_by k s i) × (x < 256)) where
        pub zero_id : x ≡ 0 → true ≡ bad_ids_by k s
        unfolding bad_ids_by somewhere
        zero_id z = passed_zero (id_by k s) (λ i. true) false (count_by k s) borne i g.passed below x w.0 w.1 z

        module _ (z : x ≡ 0 → ⊥) where
          pub twice : get_or borne x false ≡ true → true ≡ bad_ids_by k s
          unfolding bad_ids_by somewhere
          twice y = passed_twice (id_by k s) (λ i. true) false (count_by k s) borne i g.passed below x w.0 w.1 z y

          pub on : get_or borne x false ≡ false → Come n (set borne x true) (i + 1)
          on y = record { told = g.told; passed = passed_on (id_by k s) (λ i. true) false (count_by k s) borne i g.passed below x w.0 w.1 z y }

abbrev pub invariant-loop-i : goal.invariant-loop-i
invariant-loop-i l = Come l.size l.s l.n l.borne l.i
