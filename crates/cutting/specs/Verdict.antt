-- The refusals 1 to 9 and 17 in a row: what the layer above puts behind them is reached exactly where none of them is given.
--   run_chain, verdict_chain  ==  the refusals 8, 9 and 17, and all of them
use Rattle.std.specs.Prelude.{ℕ, List}
use Rattle.std.proofs.Common.{arith}
use Rattle.ground.specs.Refuse.{Chain, chain_end, chain_more, chain_both}
use Rattle.groups.specs.declared.Frame.{Frame}
use Rattle.groups.specs.Reading.{frame_of, judged}
use Rattle.groups.specs.Judged.{judged_chain}
use Rattle.cutting.specs.Survey.{breach8, breach9, breach17, run_judged, verdict_then}

pub run_chain : (s : List ℕ) (f : Frame) → Chain (run_judged s f)
unfolding run_judged
run_chain s f = chain_more 8 (λ e. omega arith) (breach8 s f) _ (chain_more 9 (λ e. omega arith) (breach9 s f) _ (chain_more 17 (λ e. omega arith) (breach17 s f) _ chain_end))

pub verdict_chain : (s : List ℕ) → Chain (verdict_then s)
unfolding verdict_then
verdict_chain s = chain_both (judged s) (run_judged s (frame_of s)) (judged_chain s) (run_chain s (frame_of s))
