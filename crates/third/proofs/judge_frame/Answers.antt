-- By its two ways out: refused by the rules 8, 51 and 9, or judged further; the run is read in the configuration up to the run's end.
use borrow.Author.Rules.{rules}
use Prim.Native.Nat.{ℕ, ◌-◌}
use mathlib.Core.Path.{◌≡◌, refl, sym, ap, ◌∙◌}
use mathlib.Core.List.{List, []}
use native.Mathlib.Omega.{arith}
use lib.ListN.{length, take}
use Rattle.std.specs.Prelude.{Result, Ok, Err}
use Rattle.ground.specs.declared.Refusal.{Refusal}
use Rattle.ground.specs.Lists.{part}
use Rattle.ground.specs.Refuse.{none}
use Rattle.ground.specs.Told.{told, kept_or, Leaves, left, row_on, row_stays}
use Rattle.scan.specs.Cutting.{rest}
use Rattle.edition3.specs.Third.{third}
use Rattle.entities.specs.declared.Run.{Run}
use Rattle.entities.specs.Run.{run_in}
use Rattle.groups.specs.declared.Frame.{Frame}
use Rattle.third.specs.declared.Finding.{Finding}
use Rattle.third.specs.Judgement.{run_for, run_refused, run_judged, links_judged, frame_judged, all_found, linked_in, framed_in}
use Rattle.third.specs.Verdict.{run_chain}
use Rattle.third.proofs.judge_frame.Goals as goal

module _ (c b : List ℕ) (f : Frame) (s : List ℕ) (e : s ≡ part c 0 f.end) where
  front : s ≡ take f.end c
  front = let z : f.end - 0 ≡ f.end = omega arith in e ∙ ap (λ (i : ℕ). take i c) z

  module _ (run : Run) (g : run ≡ run_in (third []) f.run (rest s f.run)) where
    run_told : run ≡ run_for c f
    unfolding run_for
    run_told = g ∙ ap (λ (x : List ℕ). run_in (third []) f.run (rest x f.run)) front

    count_told : run.count ≡ length (rest (take f.end c) f.run)
    unfolding run_for run_in
    count_told = ap (λ (r : Run). r.count) run_told

    judged_told : run_refused s b f.run run.count f.header none ≡ run_judged c b f none
    unfolding run_judged
    judged_told = rw (count_told, front) refl

    turned_away : (q : Refusal) → Err q ≡ kept_or (run_refused s b f.run run.count f.header none) → (r : Result Finding Refusal) → Leaves r q
        → r ≡ framed_in c b f
    unfolding framed_in frame_judged
    turned_away q h r k =
        left r q k ∙ row_stays (run_judged c b f) (run_chain c b f) tt q (h ∙ ap kept_or judged_told) (links_judged c b (run_for c f) none) (all_found c b f.header (run_for c f))

    on : (u : Unit {0}) → Ok u ≡ kept_or (run_refused s b f.run run.count f.header none) → (r : Result Finding Refusal) → r ≡ linked_in c b f.header run
        → r ≡ framed_in c b f
    unfolding framed_in frame_judged linked_in
    on u h r k =
        k ∙ ap (linked_in c b f.header) run_told
        ∙ sym (ap (λ (x : Refusal). told x (all_found c b f.header (run_for c f)))
        (row_on (run_judged c b f) (run_chain c b f) tt u (h ∙ ap kept_or judged_told) (links_judged c b (run_for c f) none)))

ruleset laws = (on, rules)

pub returns-in_err-judge_run : goal.returns-in_err-judge_run
returns-in_err-judge_run c =
    turned_away _ _ _ _ c.stretch-s.ensures _ c.read_run-run.ensures _ c.in_err-judge_run.ensures _ c.from_residual.ensures.1

pub returns : goal.returns
returns c = search laws
