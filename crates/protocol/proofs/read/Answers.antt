-- One law for each edition.
use borrow.Author.Rules.{rules}
use Prim.Native.Nat.{ℕ}
use mathlib.Core.Path.{◌≡◌, sym, ap, ◌∙◌}
use mathlib.Core.Bool.{true, false}
use mathlib.Core.List.{List}
use lib.Dec.{eqb}
use lib.ListN.{length}
use borrow.Author.Tests.{eq-eqb, ne_eqb}
use Rattle.ground.specs.Pick.{yes, no}
use Rattle.topology.specs.declared.Reading.{Reading}
use Rattle.topology.specs.Reading.{reading_of, sheet_of}
use Rattle.third.specs.declared.SheetAnswer.{SheetAnswer}
use Rattle.third.specs.Judgement.{third_answer, third_sheet}
use Rattle.protocol.specs.Protocol.{version3, protocol_of, sheet_reading, either_reading, either_sheet}
use Rattle.protocol.proofs.read.Goals as goal

module _ (s b d : List ℕ) (p : ℕ) (e : p ≡ protocol_of s) where
  by_third : p ≡ 48 → (a : SheetAnswer) → a ≡ third_answer s b (length d) → (x : List ℕ) → x ≡ third_sheet s b d → (r : Reading) → r ≡ sheet_reading a
      → (r ≡ either_reading s b (length d)) × (x ≡ either_sheet s b d)
  unfolding either_reading either_sheet
  by_third h a f x g r k =
      let z : eqb (protocol_of s) version3 ≡ true = eq-eqb _ _ (sym e ∙ h) in
      (k ∙ ap sheet_reading f ∙ sym (yes _ _ z), g ∙ sym (yes _ _ z))

  by_first : (p ≡ 48 → ⊥) → (r : Reading) → r ≡ reading_of s (length d) → (x : List ℕ) → x ≡ sheet_of s d
      → (r ≡ either_reading s b (length d)) × (x ≡ either_sheet s b d)
  unfolding either_reading either_sheet
  by_first h r f x g =
      let z : eqb (protocol_of s) version3 ≡ false = ne_eqb _ _ (λ q. h (e ∙ q)) in
      (f ∙ sym (no _ _ z), g ∙ sym (no _ _ z))

ruleset laws = (by_third, by_first, rules)

pub returns-then-protocol_of-eq-VERSION_3 : goal.returns-then-protocol_of-eq-VERSION_3
returns-then-protocol_of-eq-VERSION_3 c =
    let r = by_third _ _ _ _ c.protocol_of.ensures c.if-protocol_of-eq-VERSION_3.true _ c.read.ensures.value _ c.read.ensures.sheet_after _ c.reading.ensures in
    record { value = r.0; sheet_after = r.1 }

pub returns : goal.returns
returns c =
    let r = by_first _ c.args.clusters.now _ _ c.protocol_of.ensures c.if-protocol_of-eq-VERSION_3.false _ c.read-2.ensures.value _ c.read-2.ensures.sheet_after in
    record { value = r.0; sheet_after = r.1 }
