-- By its two ways out: refused, with the sheet as it stood, or taken and the records shown.
use borrow.Author.Rules.{rules}
use Prim.Native.Nat.{ℕ}
use mathlib.Core.Path.{◌≡◌, sym, ap, ◌∙◌}
use mathlib.Core.List.{List}
use Rattle.std.specs.Prelude.{Result, Ok, Err}
use Rattle.ground.specs.declared.Refusal.{Refusal}
use lib.ListN.{length}
use borrow.Author.Tests.{eq-eqb, ne_eqb}
use Rattle.ground.specs.Pick.{yes, no}
use Rattle.ground.specs.Told.{told, ok_told, err_told}
use Rattle.records.specs.Records.{shown_in}
use Rattle.topology.specs.declared.Finding.{Finding}
use Rattle.topology.specs.declared.Reading.{Reading}
use Rattle.topology.specs.Reading.{verdict_of, finding_with, found_in, refused_reading, taken_reading, reading_of, sheet_of}
use Rattle.topology.proofs.read.Goals as goal

module _ (s d : List ℕ) (a : Result Finding Refusal) (e : a ≡ told (verdict_of s (length d)) (found_in s)) where
  module _ (q : Refusal) (h : a ≡ Err q) where
    refused : ((verdict_of s (length d)).number ≡ 0 → ⊥) × (q ≡ verdict_of s (length d))
    refused = err_told _ _ q (sym h ∙ e)

    refused_value : (x : Reading) → x ≡ refused_reading q → x ≡ reading_of s (length d)
    unfolding reading_of
    refused_value x k = k ∙ ap refused_reading refused.1 ∙ sym (no _ _ (ne_eqb _ _ refused.0))

    refused_sheet : d ≡ sheet_of s d
    unfolding sheet_of
    refused_sheet = sym (no _ _ (ne_eqb _ _ refused.0))

  module _ (f : Finding) (h : a ≡ Ok f) where
    taken : ((verdict_of s (length d)).number ≡ 0) × (f ≡ found_in s)
    taken = ok_told _ _ f (sym h ∙ e)

    taken_value : record { number = 0; place = 0; control = f.control; entities = f.run.count; controls = f.table.count; table = f.table } ≡ reading_of s (length d)
    unfolding finding_with reading_of taken_reading
    taken_value =
        ap (λ (y : Finding). record { number = 0; place = 0; control = y.control; entities = y.run.count; controls = y.table.count; table = y.table }) taken.1
        ∙ sym (yes _ _ (eq-eqb _ _ taken.0))

    taken_sheet : (x : List ℕ) → x ≡ shown_in s f.run f.clusters d → x ≡ sheet_of s d
    unfolding finding_with sheet_of
    taken_sheet x k = k ∙ ap (λ (y : Finding). shown_in s y.run y.clusters d) taken.1 ∙ sym (yes _ _ (eq-eqb _ _ taken.0))

ruleset laws = (refused_value, refused_sheet, taken_value, taken_sheet, rules)

pub returns-in-Err-clause-value : goal.returns-in-Err-clause-value
returns-in-Err-clause-value c = search laws

pub returns-in-Err-clause-sheet_after : goal.returns-in-Err-clause-sheet_after
returns-in-Err-clause-sheet_after c = search laws

pub returns-in-Ok-clause-value : goal.returns-in-Ok-clause-value
returns-in-Ok-clause-value c = search laws

pub returns-in-Ok-clause-sheet_after : goal.returns-in-Ok-clause-sheet_after
returns-in-Ok-clause-sheet_after c = search laws
