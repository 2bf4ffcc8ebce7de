-- By its two ways out: refused by the rules 8, 9 and 17, or surveyed; the run is read in the configuration up to the run's end.
use borrow.Author.Rules.{rules}
use Prim.Native.Nat.{ℕ, ◌+◌, ◌-◌}
use mathlib.Core.Path.{◌≡◌, refl, sym, ap, ◌∙◌}
use mathlib.Core.List.{List}
use native.Mathlib.Omega.{arith}
use lib.ListN.{length, take}
use Rattle.std.specs.Prelude.{Result, Ok, Err}
use Rattle.ground.specs.declared.Refusal.{Refusal}
use Rattle.ground.specs.Numbers.{byte}
use Rattle.ground.specs.Lists.{part}
use Rattle.ground.specs.Refuse.{none}
use Rattle.ground.specs.Told.{kept_or, Leaves, left, told_ok, ok_told, row_stays}
use Rattle.scan.specs.Search.{searched}
use Rattle.layout.specs.Layout.{entity_of, is_unknown}
use Rattle.edition.specs.Audio.{audio}
use Rattle.entities.specs.declared.Run.{Run}
use Rattle.entities.specs.declared.Walk.{Walk}
use Rattle.entities.specs.Run.{run_in, walk_of}
use Rattle.groups.specs.declared.Frame.{Frame}
use Rattle.cutting.specs.declared.Survey.{Survey}
use Rattle.cutting.specs.Verdict.{run_chain}
use Rattle.cutting.proofs.VerdictLemmas.{unlaid_judged}
use Rattle.cutting.specs.Survey.{run_found, breach8, breach9, breach17, run_judged, surveyed, run_refused, run_survey}
use Rattle.cutting.proofs.survey_run.Goals as goal

module _ (c : List ℕ) (f : Frame) (s : List ℕ) (e : s ≡ part c 0 f.end) where
  front : s ≡ take f.end c
  front = let z : f.end - 0 ≡ f.end = omega arith in e ∙ ap (λ (i : ℕ). take i c) z

  module _ (walk : Walk) (g : walk ≡ walk_of s f.run) where
    walk_told : walk ≡ walk_of (take f.end c) f.run
    walk_told = g ∙ ap (λ (x : List ℕ). walk_of x f.run) front

    run_told : walk.run ≡ run_in audio f.run (run_found c f)
    unfolding run_found walk_of
    run_told = ap (λ (w : Walk). w.run) walk_told

    count_told : walk.run.count ≡ length (run_found c f)
    unfolding run_in
    count_told = ap (λ (r : Run). r.count) run_told

    unlaid_told : walk.unlaid ≡ searched (λ b d. is_unknown (entity_of d)) (take f.end c) f.run
    unfolding walk_of
    unlaid_told = ap (λ (w : Walk). w.unlaid) walk_told

    judged_told : run_refused s f.run walk.run.count walk.unlaid f.header ≡ run_judged c f none
    unfolding run_refused run_judged breach8 breach9 breach17
    judged_told = rw (count_told, unlaid_told, front, unlaid_judged (take f.end c) f.run) refl

    turned_away : (q : Refusal) → Err q ≡ kept_or (run_refused s f.run walk.run.count walk.unlaid f.header) → (r : Result Survey Refusal) → Leaves r q
        → r ≡ run_survey c f
    unfolding run_survey
    turned_away q h r k = left r q k ∙ row_stays (run_judged c f) (run_chain c f) tt q (h ∙ ap kept_or judged_told) none (surveyed c f)

    taken : (u : Unit {0}) → Ok u ≡ kept_or (run_refused s f.run walk.run.count walk.unlaid f.header) → (b : ℕ) → b ≡ byte c (f.control + 2)
        → Ok (record { control = b; header = f.header; run = walk.run }) ≡ run_survey c f
    unfolding run_survey surveyed
    taken u h b k = rw (k, run_told) (sym (told_ok _ _ (ok_told (run_judged c f none) tt u (h ∙ ap kept_or judged_told)).0))

ruleset laws = (taken, rules)

pub returns-in_err-judge_run : goal.returns-in_err-judge_run
returns-in_err-judge_run c =
    turned_away _ _ _ c.stretch-s.ensures _ c.read_run-walk.ensures _ c.in_err-judge_run.ensures _ c.from_residual.ensures.1

pub returns : goal.returns
returns c = search laws
