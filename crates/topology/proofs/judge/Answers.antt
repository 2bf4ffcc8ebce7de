-- By its two ways out: refused by the rules 1 to 9, or judged by those behind them.
use borrow.Author.Rules.{rules}
use Prim.Native.Nat.{ℕ}
use mathlib.Core.Path.{◌≡◌, sym, ap, ◌∙◌}
use mathlib.Core.List.{List}
use Rattle.std.specs.Prelude.{Result, Ok, Err}
use Rattle.ground.specs.declared.Refusal.{Refusal}
use Rattle.ground.specs.Refuse.{none}
use Rattle.ground.specs.Told.{told, Leaves, left}
use Rattle.cutting.specs.declared.Survey.{Survey}
use Rattle.cutting.specs.Survey.{verdict, survey_of}
use Rattle.topology.specs.declared.Finding.{Finding}
use Rattle.topology.specs.Reading.{survey_judged, judged_then, survey_finding, found_in, finding_of}
use Rattle.topology.specs.Verdict.{survey_refusal, survey_behind, survey_told}
use Rattle.topology.proofs.judge.Goals as goal

module _ (s : List ℕ) where
  uncut : (q : Refusal) → Err q ≡ told (verdict s) (survey_of s) → (r : Result Finding Refusal) → Leaves r q → r ≡ finding_of s
  unfolding finding_of judged_then
  uncut q e r h = left r q h ∙ survey_refusal s q e (survey_judged s (survey_of s) none) (found_in s)

  judged_on : (v : Survey) → Ok v ≡ told (verdict s) (survey_of s) → (r : Result Finding Refusal) → r ≡ survey_finding s v → r ≡ finding_of s
  unfolding finding_of judged_then survey_finding
  judged_on v e r h =
      h ∙ ap (survey_finding s) (survey_told s v e)
      ∙ sym (ap (λ (x : Refusal). told x (found_in s)) (survey_behind s v e (survey_judged s (survey_of s) none)))

ruleset laws = (judged_on, rules)

pub returns-in_err-survey : goal.returns-in_err-survey
returns-in_err-survey c = uncut _ _ c.in_err-survey.ensures _ c.from_residual.ensures.1

pub returns : goal.returns
returns c = search laws
