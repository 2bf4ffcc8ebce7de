-- By its three ways out: one of the rules 1 to 4 is broken, one of the rules 5 and 6, or none.
use borrow.Author.Rules.{rules}
use Prim.Native.Nat.{ℕ}
use mathlib.Core.Path.{◌≡◌, sym, ap, ◌∙◌}
use mathlib.Core.List.{List}
use Rattle.std.specs.Prelude.{Result, Ok, Err}
use Rattle.ground.specs.declared.Refusal.{Refusal}
use Rattle.ground.specs.Refuse.{none}
use Rattle.ground.specs.Told.{told, kept_or, Leaves, left, told_ok, ok_told, row_on, row_stays}
use Rattle.interfaces.specs.Reading.{interfaces_judged}
use Rattle.interfaces.specs.Judged.{interfaces_chain}
use Rattle.groups.specs.declared.Frame.{Frame}
use Rattle.groups.specs.Reading.{frame_of}
use Rattle.groups.specs.Third.{third_group_judged, third_judged, third_framed_of, third_group_chain}
use Rattle.groups.proofs.framed_third.Goals as goal

module _ (s : List ℕ) where
  early : (q : Refusal) → Err q ≡ told (interfaces_judged s none) (frame_of s) → (r : Result Frame Refusal) → Leaves r q → r ≡ third_framed_of s
  unfolding third_framed_of third_judged
  early q e r h = left r q h ∙ row_stays (interfaces_judged s) (interfaces_chain s) (frame_of s) q e (third_group_judged s (frame_of s) none) (frame_of s)

  module _ (f : Frame) (e : Ok f ≡ told (interfaces_judged s none) (frame_of s)) where
    -- the rest is judged where the rules 1 to 4 are kept
    behind : told (third_group_judged s f none) f ≡ third_framed_of s
    unfolding third_framed_of third_judged
    behind =
        ap (λ (y : Frame). told (third_group_judged s y none) y) (ok_told (interfaces_judged s none) (frame_of s) f e).1
        ∙ sym (ap (λ (r : Refusal). told r (frame_of s)) (row_on (interfaces_judged s) (interfaces_chain s) (frame_of s) f e (third_group_judged s (frame_of s) none)))

    group : (q : Refusal) → Err q ≡ kept_or (third_group_judged s f none) → (r : Result Frame Refusal) → Leaves r q → r ≡ third_framed_of s
    group q k r h = left r q h ∙ row_stays (third_group_judged s f) (third_group_chain s f) tt q k none f ∙ behind

    all_kept : (u : Unit {0}) → Ok u ≡ kept_or (third_group_judged s f none) → Ok f ≡ third_framed_of s
    all_kept u k = sym (told_ok (third_group_judged s f none) f (ok_told (third_group_judged s f none) tt u k).0) ∙ behind

ruleset laws = (all_kept, rules)

pub returns-in_err-frame : goal.returns-in_err-frame
returns-in_err-frame c = early _ _ c.in_err-frame.ensures _ c.from_residual.ensures.1

pub returns-in_err-judge_third_group : goal.returns-in_err-judge_third_group
returns-in_err-judge_third_group c = group _ _ c.in_ok-frame.ensures _ c.in_err-judge_third_group.ensures _ c.from_residual-in_err-judge_third_group.ensures.1

pub returns : goal.returns
returns c = search laws
