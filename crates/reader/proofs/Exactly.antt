-- The reader gives exactly the first row of the papers' table that applies, at exactly its place.
--   shown_rows              ==  the bytes are a configuration, and its records have room: every rule is kept
--   clusters_on, controls_on  ==  what the reader has at an entity's index is the cluster on its ID; its controls are those of the descriptors
--   answers                 ==  the verdict is put together by the table's rows, each by what decides it
--   accepted_exactly, refused_exactly  ==  THE THEOREMS, for every configuration and every room
use Prim.Native.Nat.{ℕ, ◌<◌}
use mathlib.Core.Path.{◌≡◌, refl}
use mathlib.Core.List.{List, []}
use mathlib.Core.Logic.{◌↔◌}
use lib.ListN.{length, get_or}
use native.Mathlib.Omega.{arith}
use Rattle.ground.specs.Refuse.{none, kept_at}
use Rattle.ground.specs.Rows.{AllKept, Numbered, Answers, Decides, kept_decides, answers_kept, answers_broken}
use Rattle.layout.specs.Layout.{no_cluster}
use Rattle.edition.specs.Edition.{own_id}
use Rattle.edition.specs.Audio.{audio}
use Rattle.cutting.specs.Rules1to9.{header_place, Kept, BrokenAt}
use Rattle.cutting.specs.Survey.{survey_of}
use Rattle.cutting.proofs.ExactLemmas.{cutting_answers, cutting_numbered, all_nine, nine_kept}
use Rattle.ids.specs.OwnIds.{own_ids, distinct_ids}
use Rattle.clusters.specs.Rule13.{Connected}
use Rattle.clusters.specs.Topology.{connected_parts}
use Rattle.clusters.proofs.TopologyLemmas.{clusters_shown}
use Rattle.connections.specs.JudgementLaws.{judged_answers}
use Rattle.streaming.specs.Rule14.{Breaks14}
use Rattle.terminals.specs.Terminals.{terminals_of}
use Rattle.streaming.specs.Tests.{breach14}
use Rattle.terminals.specs.Standing.{one_each}
use Rattle.terminals.proofs.StandingLemmas.{terminals_are}
use Rattle.streaming.specs.Breaches.{rule14_kept, rule14_broken}
use Rattle.controls.specs.Controls.{controls_of, controls_of_run, breach15}
use Rattle.controls.specs.Rule15.{rule15_kept, rule15_broken}
use Rattle.controls.specs.Reader.{controls_same}
use Rattle.records.specs.Records.{room_for}
use Rattle.records.specs.Sheet.{reads_room}
use Rattle.topology.specs.Reading.{clusters_at, table_for, rest_judged, survey_judged, judged_then, room_judged, verdict_of}
use Rattle.reader.proofs.Surveyed.{entities_of, kept_survey, survey_kept, represented}
use Rattle.reader.specs.Configuration.{run_of, Streams, FewControls}
use Rattle.reader.specs.Refusals.{run_rows, kept_rows, table_of_rows, Refused, Shown}

module _ (s : List ℕ) (k : Kept s) where
  pub clusters_on : (c : Connected audio (run_of k)) (i : ℕ) → i < length (run_of k)
      → get_or (clusters_at s (kept_survey k)) i no_cluster ≡ c.cluster (own_id (get_or (run_of k) i []))
  clusters_on c = clusters_shown (represented s k) c

  pub controls_on : (c : Connected audio (run_of k)) → controls_of_run s (entities_of k) (clusters_at s (kept_survey k)) ≡ controls_of (run_of k) c.cluster
  controls_on c = controls_same (represented s k) (clusters_at s (kept_survey k)) c.cluster (clusters_on c)

  module _ (room : ℕ) (c : Connected audio (run_of k)) where
    decides_14 : Decides (breach14 (terminals_of s (entities_of k) (clusters_at s (kept_survey k))) s) (Streams k c.cluster) (Breaks14 (run_of k) c.cluster k.opened.descriptors)
    decides_14 =
        let all = terminals_are (represented s k) k.rule9 c.cluster (clusters_at s (kept_survey k)) (clusters_on c) in
        let one = one_each (represented s k) (clusters_at s (kept_survey k)) (own_ids (run_of k) c.rule10) in
        let ts = terminals_of s (entities_of k) (clusters_at s (kept_survey k)) in
        record {
          kept = rule14_kept (run_of k) c.cluster ts all one s k.opened.descriptors k.opened.rule3;
          broken = rule14_broken (run_of k) c.cluster ts all one s k.opened.descriptors k.opened.rule3;
        }

    decides_15 : Decides (breach15 (table_for s (kept_survey k) (clusters_at s (kept_survey k))).count (header_place k.opened)) (FewControls k c.cluster) (BrokenAt (header_place k.opened) (FewControls k c.cluster))
    decides_15 = rw (controls_on c) (record {
      kept = rule15_kept (run_of k) c.cluster k.rule9 (distinct_ids (run_of k) c.rule10) (header_place k.opened);
      broken = rule15_broken (run_of k) c.cluster k.rule9 (distinct_ids (run_of k) c.rule10) (header_place k.opened);
    })

    run_answers : Answers (run_rows k c.cluster room) (rest_judged s (kept_survey k) (clusters_at s (kept_survey k)) (room_judged (kept_survey k) room none))
    unfolding rest_judged room_judged
    run_answers = (
      _,
      _,
      refl,
      decides_14,
      λ a. (
        _,
        _,
        refl,
        decides_15,
        λ b. (kept_at (room_for (entities_of k) room) (header_place k.opened), none, refl, kept_decides (header_place k.opened) (reads_room (represented s k) room), λ e. refl),
      ),
    )

  kept_answers : (room : ℕ) → Answers (kept_rows k room) (survey_judged s (kept_survey k) (room_judged (kept_survey k) room none))
  unfolding survey_judged
  kept_answers room =
      judged_answers (represented s k) (λ a b c e. run_rows k e.0 room) (rest_judged s (kept_survey k) (clusters_at s (kept_survey k)) (room_judged (kept_survey k) room none))
      (λ a b c e. run_answers room ((connected_parts (represented s k) a b).1 (c, e)))

  kept_numbered : (room : ℕ) → Numbered (kept_rows k room)
  kept_numbered room = (
    λ e. omega arith,
    λ a. (
      λ e. omega arith,
      λ b. (
        λ e. omega arith,
        λ c. (λ e. omega arith, λ x. (λ e. omega arith, λ f. (λ e. omega arith, λ g. (λ e. omega arith, λ h. tt)))),
      ),
    ),
  )

module _ (s : List ℕ) (room : ℕ) where
  pub answers : Answers (table_of_rows s room) (verdict_of s room)
  unfolding verdict_of judged_then
  answers =
      cutting_answers s (λ k. kept_rows k room) (survey_judged s (survey_of s) (room_judged (survey_of s) room none))
      (λ k. rw (survey_kept s k) (kept_answers s k room))

  numbered : Numbered (table_of_rows s room)
  numbered = cutting_numbered s (λ k. kept_rows k room) (λ k. kept_numbered s k room)

  pub shown_rows : AllKept (table_of_rows s room) ↔ Shown s room
  shown_rows = (to, from)
    where
      to : AllKept (table_of_rows s room) → Shown s room
      to h = let n = nine_kept s (λ k. kept_rows k room) h in of n.0 n.1
        where
          of : (k : Kept s) → AllKept (kept_rows k room) → Shown s room
          of k (a, (b, (c, (e, (x, (y, (z, u))))))) = (record { kept = k; connected = (connected_parts (represented s k) a b).1 (c, e); rule14 = x; rule15 = y }, z)

      from : Shown s room → AllKept (table_of_rows s room)
      from (t, z) =
          let c = t.connected in
          let h = (connected_parts (represented s t.kept) c.rule10 c.rule11).0 c in
          all_nine s (λ k. kept_rows k room) t.kept (c.rule10, (c.rule11, (h.0, (h.1, (t.rule14, (t.rule15, (z, tt)))))))

  -- THE THEOREMS
  pub accepted_exactly : ((verdict_of s room).number ≡ 0) ↔ Shown s room
  accepted_exactly =
      let a = answers_kept (table_of_rows s room) (verdict_of s room) numbered answers in
      (λ e. shown_rows.0 (a.0 e), λ t. a.1 (shown_rows.1 t))

  pub refused_exactly : (n p : ℕ) → (n ≡ 0 → ⊥) → (verdict_of s room ≡ record { number = n; place = p }) ↔ Refused s room n p
  refused_exactly = answers_broken (table_of_rows s room) (verdict_of s room) numbered answers
