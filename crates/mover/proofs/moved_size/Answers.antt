-- As many records as there are, each of the form's size.
use borrow.Author.Rules.{rules}
use Prim.Native.Nat.{ℕ, ◌*◌, ◌≤◌}
use mathlib.Core.Path.{◌≡◌, refl, sym, ◌∙◌}
use mathlib.Core.List.{List}
use native.Mathlib.Omega.{arith}
use native.Mathlib.Nat.{mul-le-mul, div-le_self}
use lib.ListN.{length}
use mir.Val.{Fits}
use mir.Syntax.{w64}
use Rattle.records.specs.Records.{record_size}
use Rattle.legal.specs.declared.Form.{Form}
use Rattle.legal.specs.Forms.{record_size_of, record_size_most}
use Rattle.legal.specs.Sheet.{most_sheet, count_by}
use Rattle.mover.specs.Moving.{other_of, moved_to}
use Rattle.mover.proofs.MovingLemmas.{moved_long}
use Rattle.mover.proofs.moved_size.Goals as goal

module _ (f : Form) (s : List ℕ) (g : Form) (q : g ≡ other_of f) (n m : ℕ) (e : n ≡ count_by (record_size_of g) s) (h : m ≡ record_size_of f) where
  product_fits : length s ≤ most_sheet → Fits w64 (n * m)
  product_fits l =
      let a = div-le_self (length s) (record_size_of g) in
      let b = record_size_most f in
      let few : n ≤ most_sheet = omega arith in
      let small : m ≤ record_size = omega arith in
      let c = mul-le-mul few small in
      record { fits = omega arith }

  told : n * m ≡ length (moved_to f s)
  told = sym (moved_long f s ∙ rw (sym q, sym e, sym h) refl)

ruleset laws = (product_fits, told, rules)

pub overflow_mul-result : goal.overflow_mul-result
overflow_mul-result c = search laws

pub returns : goal.returns
returns c = search laws
