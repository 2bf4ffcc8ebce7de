-- By its two ways out: refused by the rules 1 to 6, or judged further.
use borrow.Author.Rules.{rules}
use Prim.Native.Nat.{ℕ}
use mathlib.Core.Path.{◌≡◌, sym, ap, ◌∙◌}
use mathlib.Core.List.{List}
use Rattle.std.specs.Prelude.{Result, Ok, Err}
use Rattle.ground.specs.declared.Refusal.{Refusal}
use Rattle.ground.specs.Refuse.{none}
use Rattle.ground.specs.Told.{told, Leaves, left}
use Rattle.groups.specs.declared.Frame.{Frame}
use Rattle.groups.specs.Reading.{frame_of}
use Rattle.groups.specs.Third.{third_framed_of, third_refusal, third_behind, third_frame}
use Rattle.third.specs.declared.Finding.{Finding}
use Rattle.third.specs.Judgement.{frame_judged, third_then, framed_in, found_in, third_finding}
use Rattle.third.proofs.judge.Goals as goal

module _ (s b : List ℕ) where
  turned_away : (q : Refusal) → Err q ≡ third_framed_of s → (r : Result Finding Refusal) → Leaves r q → r ≡ third_finding s b
  unfolding third_finding third_then
  turned_away q e r h = left r q h ∙ third_refusal s q e (frame_judged s b (frame_of s) none) (found_in s b)

  on : (f : Frame) → Ok f ≡ third_framed_of s → (r : Result Finding Refusal) → r ≡ framed_in s b f → r ≡ third_finding s b
  unfolding third_finding third_then framed_in
  on f e r h =
      h ∙ ap (framed_in s b) (third_frame s f e)
      ∙ sym (ap (λ (x : Refusal). told x (found_in s b)) (third_behind s f e (frame_judged s b (frame_of s) none)))

ruleset laws = (on, rules)

pub returns-in_err-frame : goal.returns-in_err-frame
returns-in_err-frame c = turned_away _ _ _ c.in_err-frame.ensures _ c.from_residual.ensures.1

pub returns : goal.returns
returns c = search laws
