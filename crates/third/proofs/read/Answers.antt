-- By its two ways out: refused, with the sheet as it stood, or taken and the records shown.
use borrow.Author.Rules.{rules}
use Prim.Native.Nat.{ℕ}
use mathlib.Core.Path.{◌≡◌, sym, ap, ◌∙◌}
use mathlib.Core.List.{List}
use Rattle.std.specs.Prelude.{Result, Ok, Err}
use Rattle.ground.specs.declared.Refusal.{Refusal}
use lib.ListN.{length}
use borrow.Author.Tests.{eq-eqb, ne_eqb}
use Rattle.ground.specs.Pick.{yes, no}
use Rattle.ground.specs.Told.{told, ok_told, err_told}
use Rattle.records.specs.Records.{shown_in}
use Rattle.third.specs.declared.Finding.{Finding}
use Rattle.third.specs.declared.SheetAnswer.{SheetAnswer}
use Rattle.third.specs.Judgement.{third_verdict, found_in, sheet_refused, third_answer, third_sheet}
use Rattle.third.proofs.read.Goals as goal

module _ (s b d : List ℕ) (a : Result Finding Refusal) (e : a ≡ told (third_verdict s b (length d)) (found_in s b)) where
  module _ (q : Refusal) (h : a ≡ Err q) where
    refused : ((third_verdict s b (length d)).number ≡ 0 → ⊥) × (q ≡ third_verdict s b (length d))
    refused = err_told _ _ q (sym h ∙ e)

    refused_value : (x : SheetAnswer) → x ≡ sheet_refused q → x ≡ third_answer s b (length d)
    unfolding third_answer
    refused_value x k = k ∙ ap sheet_refused refused.1 ∙ sym (no _ _ (ne_eqb _ _ refused.0))

    refused_sheet : d ≡ third_sheet s b d
    unfolding third_sheet
    refused_sheet = sym (no _ _ (ne_eqb _ _ refused.0))

  module _ (f : Finding) (h : a ≡ Ok f) where
    taken : ((third_verdict s b (length d)).number ≡ 0) × (f ≡ found_in s b)
    taken = ok_told _ _ f (sym h ∙ e)

    taken_value : record { number = 0; place = 0; entities = f.run.count } ≡ third_answer s b (length d)
    unfolding third_answer
    taken_value =
        ap (λ (y : Finding). record { number = 0; place = 0; entities = y.run.count }) taken.1
        ∙ sym (yes _ _ (eq-eqb _ _ taken.0))

    taken_sheet : (x : List ℕ) → x ≡ shown_in s f.run f.clusters d → x ≡ third_sheet s b d
    unfolding third_sheet
    taken_sheet x k = k ∙ ap (λ (y : Finding). shown_in s y.run y.clusters d) taken.1 ∙ sym (yes _ _ (eq-eqb _ _ taken.0))

ruleset laws = (refused_value, refused_sheet, taken_value, taken_sheet, rules)

pub returns-in-Err-clause-value : goal.returns-in-Err-clause-value
returns-in-Err-clause-value c = search laws

pub returns-in-Err-clause-sheet_after : goal.returns-in-Err-clause-sheet_after
returns-in-Err-clause-sheet_after c = search laws

pub returns-in-Ok-clause-value : goal.returns-in-Ok-clause-value
returns-in-Ok-clause-value c = search laws

pub returns-in-Ok-clause-sheet_after : goal.returns-in-Ok-clause-sheet_after
returns-in-Ok-clause-sheet_after c = search laws
