-- So many places hold the controls that are given, and the others zeros; past the last place nothing is put.
use Prim.Native.Nat.{ℕ, zero, suc, ◌+◌, ◌*◌, ◌≤◌, ◌<◌}
use mathlib.Core.Path.{◌≡◌, refl, sym, ap, ◌∙◌}
use mathlib.Core.List.{List}
use native.Mathlib.Omega.{arith}
use native.Mathlib.Numerals.{add-one}
use lib.ListN.{length}
use Rattle.std.proofs.lemmas.List.{set_past, length-set}
use Rattle.ground.specs.Lists.{part}
use Rattle.table.specs.declared.Control.{Control}
use Rattle.table.specs.declared.Table.{Table}
use Rattle.table.specs.Controls.{placed}
use Rattle.listing.specs.Given.{control_of, filled}
use Rattle.listing.proofs.table_of.Given as goal

module _ (g : List ℕ) where
  places : (n : ℕ) → length (filled g n).controls ≡ 128
  unfolding filled
  places zero = refl
  places (suc n) = length-set (filled g n).controls n (control_of (part g (n * 13) (n * 13 + 13))) ∙ places n

  next : (i : ℕ) → filled g (i + 1) ≡ placed (filled g i) i (control_of (part g (i * 13) (i * 13 + 13)))
  unfolding filled
  next i = rw add-one refl

  module _ (t : Table) (i : ℕ) (e : t ≡ filled g i) where
    pub put_here : (b : List ℕ) → b ≡ part g (i * 13) (i * 13 + 13) → (c : Control) → c ≡ control_of b → placed t i c ≡ filled g (i + 1)
    put_here b p c q = rw (e, q, p) (sym (next i))

    pub past_end : (i < 128 → ⊥) → t ≡ filled g (i + 1)
    past_end n =
        let l : 128 ≤ i = omega arith in
        let m : length (filled g i).controls ≡ 128 = places i in
        e
        ∙ sym
        (ap (λ (x : List Control). record { count = (filled g i).count; controls = x })
        (set_past (filled g i).controls i (control_of (part g (i * 13) (i * 13 + 13))) (omega arith)))
        ∙ sym (next i)

abbrev pub invariant-loop-i : goal.invariant-loop-i
invariant-loop-i l = l.table ≡ filled l.given l.i
