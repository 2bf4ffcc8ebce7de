use Prim.Native.Nat.{ℕ, ◌+◌, ◌≤◌, ◌<◌}
use mathlib.Core.Path.{◌≡◌, refl}
use mathlib.Core.Bool.{Bool}
use native.Mathlib.Omega.{arith}
use lib.Dec.{eqb}
use borrow.Author.Tests.{eq-eqb, ne_eqb}
use Rattle.ground.specs.Places.{Come, come_none, come_over, come_here, come_more}
use Rattle.entities.specs.declared.Run.{Run}
use Rattle.entities.specs.Run.{held, place_at}
use Rattle.indices.specs.Indices.{index_at}
use Rattle.indices.proofs.index_at.Given as goal

module _ (run : Run) (q : ℕ) where
  abbrev pub there : ℕ → Bool
  there i = eqb (place_at run i) q

  abbrev pub Seen : ℕ → Type 0
  Seen i = Come there (λ j. j) 0 (held run) i

  pub start : Seen 0
  start = come_none there (λ j. j) 0 (held run)

  module _ (n : ℕ) (m : n ≡ held run) (i : ℕ) (g : Seen i) where
    pub over : n ≤ i → 0 ≡ index_at run q
    unfolding index_at
    over h = come_over there (λ j. j) 0 (held run) i g (omega arith)

    module _ (h : i < n) where
      pub here : place_at run i ≡ q → i ≡ index_at run q
      unfolding index_at
      here e = come_here there (λ j. j) 0 (held run) i g (omega arith) (there i) refl (eq-eqb _ _ e)

      pub on : (place_at run i ≡ q → ⊥) → Seen (i + 1)
      on e = come_more there (λ j. j) 0 (held run) i g (omega arith) (there i) refl (ne_eqb _ _ e)

abbrev pub invariant-loop-i : goal.invariant-loop-i
invariant-loop-i l = Seen l.run l.place l.i
