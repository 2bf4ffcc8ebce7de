-- By its three ways out: refused by the rules 10 to 13, by 14, or judged by 15.
use borrow.Author.Rules.{rules}
use Prim.Native.Nat.{ℕ}
use mathlib.Core.Path.{◌≡◌, sym, ap, ◌∙◌}
use mathlib.Core.List.{List}
use native.Mathlib.Omega.{arith}
use Rattle.std.specs.Prelude.{Result, Ok, Err, Option}
use Rattle.ground.specs.declared.Refusal.{Refusal}
use Rattle.ground.specs.Refuse.{none, refuse, refuse_on}
use Rattle.ground.specs.Told.{told, kept_or, Leaves, left, rule_kept, rule_stays}
use Rattle.layout.specs.declared.Cluster.{Cluster}
use Rattle.cutting.specs.declared.Survey.{Survey}
use Rattle.connections.specs.Judgement.{connected_in}
use Rattle.terminals.specs.Terminals.{terminals_of}
use Rattle.streaming.specs.Tests.{breach14}
use Rattle.topology.specs.declared.Finding.{Finding}
use Rattle.topology.specs.Reading.{clusters_at, count_judged, rest_judged, survey_judged, finding_with, table_judged, survey_finding}
use Rattle.topology.specs.Verdict.{connected_refusal, connected_behind, connected_clusters}
use Rattle.topology.proofs.judge_survey.Goals as goal

module _ (s : List ℕ) (v : Survey) where
  unconnected : (q : Refusal) → Err q ≡ connected_in s v.run → (r : Result Finding Refusal) → Leaves r q → r ≡ survey_finding s v
  unfolding survey_finding survey_judged
  unconnected q e r h = left r q h ∙ connected_refusal s v.run q e (rest_judged s v (clusters_at s v) none) _

  module _ (cs : List Cluster) (e : Ok cs ≡ connected_in s v.run) where
    -- the rest is judged where the four rules are kept
    behind : told (rest_judged s v cs none) (finding_with s v cs) ≡ survey_finding s v
    unfolding survey_finding survey_judged
    behind =
        ap (λ (x : List Cluster). told (rest_judged s v x none) (finding_with s v x)) (connected_clusters s v.run cs e)
        ∙ sym (ap (λ (r : Refusal). told r (finding_with s v (clusters_at s v))) (connected_behind s v.run cs e (rest_judged s v (clusters_at s v) none)))

    module _ (m : Option ℕ) (f : m ≡ breach14 (terminals_of s v.run cs) s) where
      streams : (q : Refusal) → Err q ≡ kept_or (refuse 14 m none) → (r : Result Finding Refusal) → Leaves r q → r ≡ survey_finding s v
      unfolding rest_judged
      streams q g r h =
          left r q h
          ∙ rule_stays 14 (λ z. omega arith) m q g (count_judged s v cs none) (finding_with s v cs)
          ∙ ap (λ (x : Option ℕ). told (refuse 14 x (count_judged s v cs none)) (finding_with s v cs)) f ∙ behind

      counts : (u : Unit {0}) → Ok u ≡ kept_or (refuse 14 m none) → (r : Result Finding Refusal) → r ≡ table_judged s v cs → r ≡ survey_finding s v
      unfolding rest_judged table_judged
      counts u g r h =
          h
          ∙ sym (ap (λ (x : Refusal). told x (finding_with s v cs)) (refuse_on 14 (count_judged s v cs none) (sym f ∙ rule_kept 14 (λ z. omega arith) m u g)))
          ∙ behind

ruleset laws = (counts, rules)

pub returns-in_err-clusters : goal.returns-in_err-clusters
returns-in_err-clusters c = unconnected _ _ _ c.in_err-clusters.ensures _ c.from_residual.ensures.1

pub returns-in_err-refuse_at : goal.returns-in_err-refuse_at
returns-in_err-refuse_at c =
    streams _ _ _ c.in_ok-clusters.ensures _ c.check_streams.ensures _ c.in_err-refuse_at.ensures _ c.from_residual-in_err-refuse_at.ensures.1

pub returns : goal.returns
returns c = search laws
