-- The refusals in a row: what comes behind a row is reached exactly where none of it is given. So each function of the reader answers the
-- whole verdict from what its callees say of their rows.
--   rest_chain, survey_chain, judged_chain  ==  the rows 14 and 15, 10 to 15, and 1 to 15 are such
--   connected_refusal, connected_behind, connected_clusters  ==  what the connections say: the refusal of the rules 10 to 13, whatever is judged
--                       behind them; where there is none, that is judged, and the clusters are told
--   survey_refusal, survey_behind, survey_told  ==  the same of the rules 1 to 9 and the survey
--   finding_refusal, finding_taken  ==  what is refused is the verdict of the rules 1 to 15; where there is none, what is found is all of it
--   verdict_refused, verdict_room  ==  with rule 16 behind them
--   verdict_whole    ==  with a whole sheet lent, or more, 16 is never given; reading_whole: so the answer is the same
use Rattle.std.specs.Prelude.{ℕ, ◌*◌, ◌≤◌, ◌≡◌, List, eqb, Ok, Err}
use Rattle.std.proofs.Math.Path.{sym, ap}
use Rattle.std.proofs.Common.{◌∙◌, arith, le-leb}
use Rattle.ground.specs.declared.Refusal.{Refusal}
use Rattle.ground.specs.Pick.{pick, yes}
use Rattle.ground.specs.Refuse.{none, refuse_on, Chain, chain_end, chain_more, chain_both}
use Rattle.ground.specs.Told.{told, ok_told, err_told, row_on, row_stays}
use Rattle.layout.specs.declared.Cluster.{Cluster}
use Rattle.entities.specs.declared.Run.{Run}
use Rattle.entities.specs.Run.{held}
use Rattle.cutting.specs.declared.Survey.{Survey}
use Rattle.cutting.specs.Survey.{verdict_then, verdict, survey_of}
use Rattle.cutting.specs.Verdict.{verdict_chain}
use Rattle.connections.specs.Judgement.{judged, clusters_for, connected_in}
use Rattle.connections.specs.JudgementLaws.{connected_chain}
use Rattle.records.specs.Records.{record_size, room_for}
use Rattle.records.specs.Sheet.{whole_sheet}
use Rattle.topology.specs.declared.Finding.{Finding}
use Rattle.topology.specs.Reading.{clusters_at, rest_judged, survey_judged, judged_then, room_judged, verdict_of, found_in, finding_of, refused_reading, taken_reading, reading_of}

module _ (s : List ℕ) (v : Survey) where
  pub rest_chain : (cs : List Cluster) → Chain (rest_judged s v cs)
  unfolding rest_judged
  rest_chain cs = chain_more 14 (λ e. omega arith) _ _ (chain_more 15 (λ e. omega arith) _ _ chain_end)

  pub survey_chain : Chain (survey_judged s v)
  unfolding survey_judged
  survey_chain = chain_both (judged s v.run) (rest_judged s v (clusters_at s v)) (connected_chain s v.run) (rest_chain (clusters_at s v))

pub judged_chain : (s : List ℕ) → Chain (judged_then s)
unfolding judged_then
judged_chain s = chain_both (verdict_then s) (survey_judged s (survey_of s)) (verdict_chain s) (survey_chain s (survey_of s))

module _ (s : List ℕ) (run : Run) where
  pub connected_refusal : {B : Type 0} (q : Refusal) → Err q ≡ connected_in s run → (r : Refusal) (b : B) → Err q ≡ told (judged s run r) b
  unfolding connected_in
  connected_refusal = row_stays (judged s run) (connected_chain s run) (clusters_for s run)

  module _ (cs : List Cluster) (e : Ok cs ≡ connected_in s run) where
    pub connected_behind : (r : Refusal) → judged s run r ≡ r
    unfolding connected_in
    connected_behind = row_on (judged s run) (connected_chain s run) (clusters_for s run) cs e

    pub connected_clusters : cs ≡ clusters_for s run
    unfolding connected_in
    connected_clusters = (ok_told (judged s run none) (clusters_for s run) cs e).1

module _ (s : List ℕ) where
  pub survey_refusal : {B : Type 0} (q : Refusal) → Err q ≡ told (verdict s) (survey_of s) → (r : Refusal) (b : B) → Err q ≡ told (verdict_then s r) b
  unfolding verdict
  survey_refusal = row_stays (verdict_then s) (verdict_chain s) (survey_of s)

  module _ (v : Survey) (e : Ok v ≡ told (verdict s) (survey_of s)) where
    pub survey_behind : (r : Refusal) → verdict_then s r ≡ r
    unfolding verdict
    survey_behind = row_on (verdict_then s) (verdict_chain s) (survey_of s) v e

    pub survey_told : v ≡ survey_of s
    survey_told = (ok_told (verdict s) (survey_of s) v e).1

module _ (s : List ℕ) where
  pub finding_refusal : (q : Refusal) → Err q ≡ finding_of s → ((judged_then s none).number ≡ 0 → ⊥) × (q ≡ judged_then s none)
  unfolding finding_of
  finding_refusal = err_told (judged_then s none) (found_in s)

  pub finding_taken : (f : Finding) → Ok f ≡ finding_of s → ((judged_then s none).number ≡ 0) × (f ≡ found_in s)
  unfolding finding_of
  finding_taken = ok_told (judged_then s none) (found_in s)

  module _ (room : ℕ) where
    pub verdict_refused : ((judged_then s none).number ≡ 0 → ⊥) → judged_then s none ≡ verdict_of s room
    unfolding verdict_of
    verdict_refused n = sym ((judged_chain s).stays n (room_judged (survey_of s) room none))

    pub verdict_room : (judged_then s none).number ≡ 0 → verdict_of s room ≡ room_judged (survey_of s) room none
    unfolding verdict_of
    verdict_room z = (judged_chain s).on z (room_judged (survey_of s) room none)

module _ (s : List ℕ) where
  pub verdict_whole : (room : ℕ) → whole_sheet ≤ room → verdict_of s room ≡ judged_then s none
  unfolding verdict_of room_judged room_for
  verdict_whole room h = ap (judged_then s) (refuse_on 16 none (yes _ _ (le-leb (held (survey_of s).run * record_size) room (omega arith))))

  pub reading_whole : (room : ℕ) → whole_sheet ≤ room → reading_of s room ≡ reading_of s whole_sheet
  unfolding reading_of
  reading_whole room h =
      ap (λ (v : Refusal). pick (eqb v.number 0) (taken_reading s (survey_of s)) (refused_reading v))
      (verdict_whole room h ∙ sym (verdict_whole whole_sheet (omega arith)))
