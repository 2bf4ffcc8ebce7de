-- The refusals 1 to 4 in a row: what stands behind them is reached exactly where none of them is given.
--   interfaces_chain  ==  they are a row
--   location_refusal, location_behind, location_control  ==  what the rules 1 to 4 refuse is refused whatever is judged behind them; where they refuse nothing, that
--                         is judged, and the place of the AudioControl interface is told
use Rattle.std.specs.Prelude.{ℕ, ◌≡◌, List, Ok, Err}
use Rattle.std.proofs.Common.{arith}
use Rattle.ground.specs.declared.Refusal.{Refusal}
use Rattle.ground.specs.Refuse.{none, Chain, chain_end, chain_more}
use Rattle.ground.specs.Told.{told, ok_told, row_on, row_stays}
use Rattle.scan.specs.Cutting.{breach3}
use Rattle.opening.specs.Reading.{breach1, breach2}
use Rattle.interfaces.specs.Reading.{breach4, control_at, interfaces_judged, location_of}

pub interfaces_chain : (s : List ℕ) → Chain (interfaces_judged s)
unfolding interfaces_judged
interfaces_chain s =
    chain_more 1 (λ e. omega arith) (breach1 s) _
    (chain_more 2 (λ e. omega arith) (breach2 s) _
    (chain_more 3 (λ e. omega arith) (breach3 s) _ (chain_more 4 (λ e. omega arith) (breach4 s) _ chain_end)))

module _ (s : List ℕ) where
  pub location_refusal : {B : Type 0} (q : Refusal) → Err q ≡ location_of s → (r : Refusal) (b : B) → Err q ≡ told (interfaces_judged s r) b
  unfolding location_of
  location_refusal = row_stays (interfaces_judged s) (interfaces_chain s) (control_at s)

  module _ (c : ℕ) (e : Ok c ≡ location_of s) where
    pub location_behind : (r : Refusal) → interfaces_judged s r ≡ r
    unfolding location_of
    location_behind = row_on (interfaces_judged s) (interfaces_chain s) (control_at s) c e

    pub location_control : c ≡ control_at s
    unfolding location_of
    location_control = (ok_told (interfaces_judged s none) (control_at s) c e).1
