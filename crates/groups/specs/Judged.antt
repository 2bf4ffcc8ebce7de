-- The refusals 1 to 7 in a row: what stands behind them is reached exactly where none of them is given.
--   group_chain, judged_chain  ==  the refusals 5 to 7, and all seven
--   framed_refusal, framed_behind, framed_frame  ==  what the rules 1 to 7 refuse is refused whatever is judged behind them; where they refuse
--                         nothing, that is judged, and the frame is told
use Rattle.std.specs.Prelude.{ℕ, ◌≡◌, List, Ok, Err}
use Rattle.std.proofs.Common.{arith}
use Rattle.ground.specs.declared.Refusal.{Refusal}
use Rattle.ground.specs.Refuse.{none, Chain, chain_end, chain_more, chain_both}
use Rattle.ground.specs.Told.{told, ok_told, row_on, row_stays}
use Rattle.interfaces.specs.Reading.{interfaces_judged}
use Rattle.interfaces.specs.Judged.{interfaces_chain}
use Rattle.groups.specs.declared.Frame.{Frame}
use Rattle.groups.specs.Reading.{breach5, breach6, breach7, frame_of, group_judged, judged, framed_of}

pub group_chain : (s : List ℕ) (f : Frame) → Chain (group_judged s f)
unfolding group_judged
group_chain s f =
    chain_more 5 (λ e. omega arith) (breach5 s f) _ (chain_more 6 (λ e. omega arith) (breach6 s f) _ (chain_more 7 (λ e. omega arith) (breach7 s f) _ chain_end))

pub judged_chain : (s : List ℕ) → Chain (judged s)
unfolding judged
judged_chain s = chain_both (interfaces_judged s) (group_judged s (frame_of s)) (interfaces_chain s) (group_chain s (frame_of s))

module _ (s : List ℕ) where
  pub framed_refusal : {B : Type 0} (q : Refusal) → Err q ≡ framed_of s → (r : Refusal) (b : B) → Err q ≡ told (judged s r) b
  unfolding framed_of
  framed_refusal = row_stays (judged s) (judged_chain s) (frame_of s)

  module _ (f : Frame) (e : Ok f ≡ framed_of s) where
    pub framed_behind : (r : Refusal) → judged s r ≡ r
    unfolding framed_of
    framed_behind = row_on (judged s) (judged_chain s) (frame_of s) f e

    pub framed_frame : f ≡ frame_of s
    unfolding framed_of
    framed_frame = (ok_told (judged s none) (frame_of s) f e).1
