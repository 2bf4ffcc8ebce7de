-- What the reader's answer and its sheet show of a configuration, and that what keeps the rules is one.
--   one_cutting, one_descriptors, one_clusters  ==  what keeps the rules is one: the cutting, the run's descriptors byte by byte, the cluster
--                       on each ID
--   answer_shows    ==  the whole answer: the AudioControl number, the count of entities, the controls
--   sheet_shows     ==  the sheet: the records of the run's descriptors with those clusters, then the lent bytes as they stood
--   record_shows    ==  .. of which the 32 bytes at 32·i are the record of the i-th descriptor with the cluster on its ID
--   record_bytes    ==  .. byte by byte: the ID and the kind that the descriptor has, the cluster's numbers, the pins, the source IDs at the
--                       offsets that its layout has
--   controls_stand, controls_order  ==  a control is in the table exactly where an entity carries it; and the table's order
--   controls_counted  ==  the answer's count of controls is the table's, whatever the configuration and the sheet
--   number_told     ==  the number in the answer is that of the refusal
--   run s t, cluster s t, controls s t  ==  of the configuration t: the run's descriptors, the clusters on IDs, the controls
use Prim.Native.Nat.{ℕ, ◌*◌, ◌<◌}
use mathlib.Core.Path.{◌≡◌, refl, sym, ap, ◌∙◌, subst}
use mathlib.Core.Bool.{Bool, true, false}
use mathlib.Core.List.{List, [], ◌++◌}
use mathlib.Core.Logic.{◌⊎◌, inl, inr, ◌↔◌}
use lib.ListN.{length, get_or, take, drop}
use lib.Dec.{eqb}
use borrow.Author.Tests.{eq-eqb, ne_eqb}
use Rattle.ground.specs.Pick.{pick, yes, no, decided, reads_eq}
use Rattle.ground.specs.Numbers.{byte}
use Rattle.ground.specs.Lists.{member_at}
use Rattle.graph.specs.Members.{◌∈◌}
use Rattle.layout.specs.declared.Cluster.{Cluster}
use Rattle.edition.specs.Edition.{own_id}
use Rattle.edition.specs.Audio.{audio}
use Rattle.entities.specs.Run.{run_in}
use Rattle.cutting.specs.declared.Survey.{Survey}
use Rattle.cutting.specs.Survey.{survey_of}
use Rattle.cutting.specs.Context.{opened_one, run_one}
use Rattle.ids.specs.OwnIds.{distinct_ids}
use Rattle.clusters.proofs.TopologyLemmas.{clusters_one}
use Rattle.table.specs.declared.Control.{Control}
use Rattle.table.specs.Controls.{at}
use Rattle.table.specs.Keys.{InTable}
use Rattle.controls.specs.Controls.{controls_of}
use Rattle.controls.specs.Growth.{table_of}
use Rattle.controls.specs.Standing.{Stands}
use Rattle.controls.specs.Order.{Before}
use Rattle.controls.specs.Reader.{table_stands, table_ordered}
use Rattle.records.specs.Records.{record_size, record_in, shown_in}
use Rattle.records.specs.Sheet.{records_of, Rule16, shown_same, record_at}
use Rattle.records.specs.Bytes.{RecordBytes, bytes_told}
use Rattle.topology.specs.declared.Reading.{Reading}
use Rattle.topology.specs.Reading.{clusters_at, verdict_of, refused_reading, taken_reading, reading_of, sheet_of}
use Rattle.reader.proofs.Surveyed.{kept_survey, survey_kept, represented}
use Rattle.reader.specs.Configuration.{run_of, Configuration}
use Rattle.reader.proofs.Exactly.{accepted_exactly, clusters_on, controls_on}

pub number_told : (s : List ℕ) (room : ℕ) → (reading_of s room).number ≡ (verdict_of s room).number
unfolding reading_of taken_reading refused_reading
number_told s room = go (decided (eqb (verdict_of s room).number 0) (reads_eq (verdict_of s room).number 0))
  where
    go : ((verdict_of s room).number ≡ 0) ⊎ ((verdict_of s room).number ≡ 0 → ⊥) → (reading_of s room).number ≡ (verdict_of s room).number
    go (inl e) = ap (λ (r : Reading). r.number) (yes (taken_reading s (survey_of s)) (refused_reading (verdict_of s room)) (eq-eqb _ _ e)) ∙ sym e
    go (inr n) = ap (λ (r : Reading). r.number) (no (taken_reading s (survey_of s)) (refused_reading (verdict_of s room)) (ne_eqb _ _ n))

pub controls_counted : (s : List ℕ) (room : ℕ) → (reading_of s room).controls ≡ (reading_of s room).table.count
unfolding reading_of taken_reading refused_reading
controls_counted s room = go (eqb (verdict_of s room).number 0)
  where
    go : (b : Bool)
        → (pick b (taken_reading s (survey_of s)) (refused_reading (verdict_of s room))).controls ≡ (pick b (taken_reading s (survey_of s)) (refused_reading (verdict_of s room))).table.count
    go true = refl
    go false = refl

module _ (s : List ℕ) where
  -- what keeps the rules is one
  pub one_cutting : (t u : Configuration s) → t.kept.opened.descriptors ≡ u.kept.opened.descriptors
  one_cutting t u = opened_one s t.kept.opened u.kept.opened

  pub one_descriptors : (t u : Configuration s) → run_of t.kept ≡ run_of u.kept
  one_descriptors t u = run_one s t.kept.opened u.kept.opened t.kept.rule5 u.kept.rule5 t.kept.rule6 u.kept.rule6

  pub one_clusters : (t u : Configuration s) (d : List ℕ) → d ∈ run_of t.kept → t.connected.cluster (own_id d) ≡ u.connected.cluster (own_id d)
  one_clusters t u = clusters_one (one_descriptors t u) t.connected u.connected

-- what the answer and the sheet show of a configuration
module _ (s : List ℕ) (t : Configuration s) where
  abbrev pub run : List (List ℕ)
  run = run_of t.kept

  abbrev pub cluster : ℕ → Cluster
  cluster = t.connected.cluster

  abbrev pub controls : List Control
  controls = controls_of run cluster

  accepted_for : (room : ℕ) → Rule16 run room → (verdict_of s room).number ≡ 0
  accepted_for room h = (accepted_exactly s room).1 (t, h)

  taken_shows : taken_reading s (kept_survey t.kept) ≡ record { number = 0; place = 0; control = byte t.kept.opened.control 2; entities = length run; controls = length controls; table = table_of controls }
  unfolding taken_reading table_of run_in
  taken_shows =
      ap (λ (l : List Control). record { number = 0; place = 0; control = byte t.kept.opened.control 2; entities = length run; controls = (table_of l).count; table = table_of l }) (controls_on s t.kept t.connected)

  pub answer_shows : (room : ℕ) → Rule16 run room
      → reading_of s room ≡ record { number = 0; place = 0; control = byte t.kept.opened.control 2; entities = length run; controls = length controls; table = table_of controls }
  unfolding reading_of
  answer_shows room h = yes _ _ (eq-eqb _ _ (accepted_for room h)) ∙ ap (taken_reading s) (survey_kept s t.kept) ∙ taken_shows

  pub sheet_shows : (d : List ℕ) → Rule16 run (length d) → sheet_of s d ≡ records_of run cluster ++ drop (length run * record_size) d
  unfolding sheet_of
  sheet_shows d h =
      yes _ _ (eq-eqb _ _ (accepted_for (length d) h))
      ∙ ap (λ (v : Survey). shown_in s v.run (clusters_at s v) d) (survey_kept s t.kept)
      ∙ shown_same (represented s t.kept) (clusters_at s (kept_survey t.kept)) cluster (clusters_on s t.kept t.connected) d h

  pub record_shows : (d : List ℕ) → Rule16 run (length d) → (i : ℕ) → i < length run
      → take record_size (drop (i * record_size) (sheet_of s d)) ≡ record_in (get_or run i []) (cluster (own_id (get_or run i [])))
  record_shows d h i l = ap (λ (x : List ℕ). take record_size (drop (i * record_size) x)) (sheet_shows d h) ∙ record_at audio run cluster i l (drop (length run * record_size) d)

  pub record_bytes : (d : List ℕ) → Rule16 run (length d) → (i : ℕ) → i < length run
      → RecordBytes (get_or run i []) (cluster (own_id (get_or run i []))) (take record_size (drop (i * record_size) (sheet_of s d)))
  record_bytes d h i l =
      rw (record_shows d h i l) (bytes_told (get_or run i []) (cluster (own_id (get_or run i []))) (t.kept.rule9 (get_or run i []) (member_at [] run i l)))

  -- a control is in the table exactly where some entity carries it, and the table goes by entity place, channel, selector
  pub controls_stand : (room : ℕ) → Rule16 run room → (x : Control) → InTable (reading_of s room).table x ↔ Stands run cluster x
  controls_stand room h x =
      subst (λ (r : Reading). InTable r.table x ↔ Stands run cluster x) (sym (answer_shows room h))
      (table_stands run cluster t.kept.rule9 (distinct_ids run t.connected.rule10) t.rule15 x)

  pub controls_order : (room : ℕ) → Rule16 run room → (p q : ℕ) → p < q → q < (reading_of s room).table.count
      → Before run (at (reading_of s room).table p) (at (reading_of s room).table q)
  controls_order room h p q l =
      subst (λ (r : Reading). q < r.table.count → Before run (at r.table p) (at r.table q)) (sym (answer_shows room h))
      (table_ordered run cluster t.kept.rule9 (distinct_ids run t.connected.rule10) t.rule15 p q l)
