-- The refusals in a row: what comes behind a row is reached exactly where none of it is given. So each function answers the whole verdict from what
-- its callees say of their rows.
--   run_chain, links_chain, frame_chain, verdict3_chain  ==  the rows 8, 51, 9; 10 to 13; all behind 6; all but 16 are such
--   finding_told, finding_all  ==  what is refused is the verdict of all rules but 16; where there is none, what is found is all of it
--   verdict_before, verdict_room  ==  with rule 16 behind them
use Rattle.std.specs.Prelude.{ℕ, ◌≡◌, List, Ok, Err}
use Rattle.std.proofs.Math.Path.{sym}
use Rattle.std.proofs.Common.{arith}
use Rattle.ground.specs.declared.Refusal.{Refusal}
use Rattle.ground.specs.Told.{ok_told, err_told}
use Rattle.ground.specs.Refuse.{none, Chain, chain_end, chain_more, chain_both}
use Rattle.entities.specs.declared.Run.{Run}
use Rattle.groups.specs.declared.Frame.{Frame}
use Rattle.groups.specs.Reading.{frame_of}
use Rattle.groups.specs.Third.{third_judged, third_chain}
use Rattle.third.specs.declared.Finding.{Finding}
use Rattle.third.specs.Judgement.{run_for, run_judged, clusters_judged, links_judged, frame_judged, third_then, room_refused, third_verdict, found_in, third_finding}

pub run_chain : (s b : List ℕ) (f : Frame) → Chain (run_judged s b f)
unfolding run_judged
run_chain s b f = chain_more 8 (λ e. omega arith) _ _ (chain_more 51 (λ e. omega arith) _ _ (chain_more 9 (λ e. omega arith) _ _ chain_end))

pub links_chain : (s b : List ℕ) (run : Run) → Chain (links_judged s b run)
unfolding links_judged clusters_judged
links_chain s b run =
    chain_more 10 (λ e. omega arith) _ _
    (chain_more 11 (λ e. omega arith) _ _ (chain_more 12 (λ e. omega arith) _ _ (chain_more 52 (λ e. omega arith) _ _ (chain_more 13 (λ e. omega arith) _ _ chain_end))))

pub frame_chain : (s b : List ℕ) (f : Frame) → Chain (frame_judged s b f)
unfolding frame_judged
frame_chain s b f = chain_both (run_judged s b f) (links_judged s b (run_for s f)) (run_chain s b f) (links_chain s b (run_for s f))

pub verdict3_chain : (s b : List ℕ) → Chain (third_then s b)
unfolding third_then
verdict3_chain s b = chain_both (third_judged s) (frame_judged s b (frame_of s)) (third_chain s) (frame_chain s b (frame_of s))

module _ (s b : List ℕ) where
  pub finding_told : (q : Refusal) → Err q ≡ third_finding s b → ((third_then s b none).number ≡ 0 → ⊥) × (q ≡ third_then s b none)
  unfolding third_finding
  finding_told = err_told (third_then s b none) (found_in s b)

  pub finding_all : (f : Finding) → Ok f ≡ third_finding s b → ((third_then s b none).number ≡ 0) × (f ≡ found_in s b)
  unfolding third_finding
  finding_all = ok_told (third_then s b none) (found_in s b)

  module _ (room : ℕ) where
    pub verdict_before : ((third_then s b none).number ≡ 0 → ⊥) → third_then s b none ≡ third_verdict s b room
    unfolding third_verdict
    verdict_before n = sym ((verdict3_chain s b).stays n (room_refused s room none))

    pub verdict_room : (third_then s b none).number ≡ 0 → third_verdict s b room ≡ room_refused s room none
    unfolding third_verdict
    verdict_room z = (verdict3_chain s b).on z (room_refused s room none)
