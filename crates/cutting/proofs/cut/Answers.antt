-- By its two ways out: refused by the rules 1 to 7, or kept by them and surveyed by 8, 9 and 17.
use borrow.Author.Rules.{rules}
use Prim.Native.Nat.{ℕ}
use mathlib.Core.Path.{◌≡◌, refl, sym, ap, ◌∙◌}
use mathlib.Core.Bool.{Bool, true, false}
use mathlib.Core.List.{List}
use lib.Dec.{eqb}
use Rattle.std.specs.Prelude.{Result, Ok, Err}
use Rattle.ground.specs.declared.Refusal.{Refusal}
use Rattle.ground.specs.Pick.{pick}
use Rattle.ground.specs.Refuse.{none}
use Rattle.ground.specs.Told.{told, Leaves, left}
use Rattle.groups.specs.declared.Frame.{Frame}
use Rattle.groups.specs.Reading.{frame_of, framed_of}
use Rattle.groups.specs.Judged.{framed_refusal, framed_behind, framed_frame}
use Rattle.cutting.specs.declared.Survey.{Survey}
use Rattle.cutting.specs.Survey.{run_judged, verdict_then, verdict, surveyed, run_survey, no_survey, survey_of}
use Rattle.cutting.proofs.cut.Goals as goal

-- which survey stands beside a refusal is not told
told_picked : (r : Refusal) (a b : Survey) → told r a ≡ told r (pick (eqb r.number 0) a b)
unfolding told
told_picked r a b = go (eqb r.number 0)
  where
    go : (c : Bool) → ◌≡◌ {A = Result Survey Refusal} (pick c (Ok a) (Err r)) (pick c (Ok (pick c a b)) (Err r))
    go true = refl
    go false = refl

module _ (s : List ℕ) where
  turned_away : (q : Refusal) → Err q ≡ framed_of s → (r : Result Survey Refusal) → Leaves r q → r ≡ told (verdict s) (survey_of s)
  unfolding verdict verdict_then
  turned_away q e r k = left r q k ∙ framed_refusal s q e (run_judged s (frame_of s) none) (survey_of s)

  surveyed_then : (f : Frame) → Ok f ≡ framed_of s → (r : Result Survey Refusal) → r ≡ run_survey s f → r ≡ told (verdict s) (surveyed s (frame_of s))
  unfolding verdict verdict_then run_survey
  surveyed_then f e r k =
      k ∙ ap (run_survey s) (framed_frame s f e)
      ∙ sym (ap (λ (x : Refusal). told x (surveyed s (frame_of s))) (framed_behind s f e (run_judged s (frame_of s) none)))

  taken : (f : Frame) → Ok f ≡ framed_of s → (r : Result Survey Refusal) → r ≡ run_survey s f → r ≡ told (verdict s) (survey_of s)
  unfolding survey_of
  taken f e r k = surveyed_then f e r k ∙ told_picked (verdict s) (surveyed s (frame_of s)) no_survey

ruleset laws = (taken, rules)

pub returns-in_err-frame : goal.returns-in_err-frame
returns-in_err-frame c = turned_away _ _ c.in_err-frame.ensures _ c.from_residual.ensures.1

pub returns : goal.returns
returns c = search laws
