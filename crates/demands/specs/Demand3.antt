-- Demand 3: "With a sheet of" 1,024 "bytes or more lent, a configuration is accepted exactly when there exist a cutting into descriptors, a
-- rank on each entity, lower at a source than at its user, and a channel cluster on each entity's output, that keep every rule of
-- document 01, written without the reader's search. For accepted bytes only one cutting and one set of clusters keep them, and the
-- sheet shows those." What there must be is Configuration (reader/specs), and the same said of the bytes alone is PlainConfiguration (there too); the
-- 1,024 bytes are whole_sheet (records/specs).
--   run t, cluster t, controls t  ==  of the configuration t: the run's descriptors, the clusters on IDs, the controls
--   Demand3         ==  accepted: the reader's number is 0 exactly where the bytes are a configuration
--                       accepted_plainly: .. exactly where they are one by the rules as they are said of the bytes of each kind
--                       one_cutting, one_descriptors, one_clusters: what keeps the rules is one: the cutting, the run's descriptors byte
--                       by byte, the cluster on each ID; one_plainly: .. and what keeps them as they are said of the bytes is the same
--                       plainly: each descriptor of the run has its kind's length and fields, and the cluster on its ID is what its kind
--                       gives out and keeps its kind's rule, in bytes
--                       laid_plainly, sources_plainly, rule13_plainly, broken_plainly: the rows 9, 11 and 13 of the refusals, in bytes: who
--                       has a layout (what row 17 asks, Printed, is in bytes itself); whose source IDs are right, where the rules 9 and
--                       10 are kept; that there are clusters by which all keep their rules, and who does not keep its own by those that
--                       are given out, where rule 9 is kept; source_ids: the source IDs along which the chains of row 12 go, in bytes
--                       answer_shows: the whole answer: the AudioControl number, the count of entities, the controls
--                       sheet_shows: the sheet: the records of the run's descriptors with those clusters, then the lent bytes as they
--                       stood; record_shows: of which the 32 bytes at 32·i are the record of the i-th descriptor with the cluster on
--                       its ID; record_bytes: byte by byte: the ID and the kind that the descriptor has, the cluster's numbers, the
--                       pins, the source IDs at the offsets that its layout has
--                       controls_stand, controls_order: a control is in the table exactly where an entity carries it; and the
--                       table's order
--                       controls_counted: the answer's count of controls is the table's, whatever the configuration and the sheet
use Rattle.std.specs.Prelude.{ℕ, ◌*◌, ◌≤◌, ◌<◌, ◌≡◌, List, [], ◌++◌, ◌↔◌, length, get_or, take, drop}
use Rattle.ground.specs.Numbers.{byte}
use Rattle.graph.specs.Members.{◌∈◌}
use Rattle.layout.specs.declared.Cluster.{Cluster}
use Rattle.edition.specs.Edition.{own_id, sources}
use Rattle.edition.specs.Audio.{audio}
use Rattle.cutting.specs.Rules1to9.{Kept}
use Rattle.ids.specs.Rule10.{Rule10}
use Rattle.sources.specs.Rule11.{WrongSources}
use Rattle.clusters.specs.Rule13.{Rule13, Broken}
use Rattle.table.specs.declared.Control.{Control}
use Rattle.table.specs.Controls.{at}
use Rattle.table.specs.Keys.{InTable}
use Rattle.controls.specs.Controls.{controls_of}
use Rattle.controls.specs.Growth.{table_of}
use Rattle.controls.specs.Standing.{Stands}
use Rattle.controls.specs.Order.{Before}
use Rattle.records.specs.Records.{record_size, record_in}
use Rattle.records.specs.Sheet.{records_of, Rule16, whole_sheet}
use Rattle.records.specs.Bytes.{RecordBytes}
use Rattle.topology.specs.Reading.{reading_of, sheet_of}
use Rattle.reader.specs.Configuration.{run_of, Configuration}
use Rattle.reader.specs.Plainly.{SourceId, SourceNamed, LaidPlainly, Plainly, KeptPlainly, BrokenPlainly, PlainConfiguration}

module _ {s : List ℕ} (t : Configuration s) where
  abbrev pub run : List (List ℕ)
  run = run_of t.kept

  abbrev pub cluster : ℕ → Cluster
  cluster = t.connected.cluster

  abbrev pub controls : List Control
  controls = controls_of run cluster

pub record Demand3 (s : List ℕ) : Type 0 where
  pub accepted : (d : List ℕ) → whole_sheet ≤ length d → ((reading_of s (length d)).number ≡ 0) ↔ Configuration s
  pub accepted_plainly : (d : List ℕ) → whole_sheet ≤ length d → ((reading_of s (length d)).number ≡ 0) ↔ PlainConfiguration s
  pub one_cutting : (t u : Configuration s) → t.kept.opened.descriptors ≡ u.kept.opened.descriptors
  pub one_descriptors : (t u : Configuration s) → run t ≡ run u
  pub one_clusters : (t u : Configuration s) (d : List ℕ) → d ∈ run t → cluster t (own_id d) ≡ cluster u (own_id d)
  pub one_plainly : (t : Configuration s) (p : PlainConfiguration s)
      → (p.opened.descriptors ≡ t.kept.opened.descriptors) × (p.rule6.run ≡ run t) × ((d : List ℕ) → d ∈ run t → p.cluster (own_id d) ≡ cluster t (own_id d))
  pub plainly : (t : Configuration s) (d : List ℕ) → d ∈ run t → Plainly (cluster t) d
  pub laid_plainly : (d : List ℕ) → audio.LaidOut d ↔ LaidPlainly d
  pub source_ids : (k : Kept s) (d : List ℕ) → d ∈ run_of k → (x : ℕ) → x ∈ sources audio d ↔ SourceId d x
  pub sources_plainly : (k : Kept s) → Rule10 (run_of k) → (d : List ℕ) → d ∈ run_of k
      → (WrongSources audio (run_of k) d → ⊥) ↔ ((x : ℕ) → SourceId d x → SourceNamed (run_of k) x)
  pub rule13_plainly : (k : Kept s) → Rule13 audio (run_of k) ↔ KeptPlainly (run_of k)
  pub broken_plainly : (k : Kept s) (d : List ℕ) → d ∈ run_of k → Broken audio (run_of k) d ↔ BrokenPlainly (run_of k) d
  pub answer_shows : (t : Configuration s) (room : ℕ) → Rule16 (run t) room
      → reading_of s room
      ≡ record {
        number = 0;
        place = 0;
        control = byte t.kept.opened.control 2;
        entities = length (run t);
        controls = length (controls t);
        table = table_of (controls t);
      }
  pub sheet_shows : (t : Configuration s) (d : List ℕ) → Rule16 (run t) (length d)
      → sheet_of s d ≡ records_of (run t) (cluster t) ++ drop (length (run t) * record_size) d
  pub record_shows : (t : Configuration s) (d : List ℕ) → Rule16 (run t) (length d) → (i : ℕ) → i < length (run t)
      → take record_size (drop (i * record_size) (sheet_of s d)) ≡ record_in (get_or (run t) i []) (cluster t (own_id (get_or (run t) i [])))
  pub record_bytes : (t : Configuration s) (d : List ℕ) → Rule16 (run t) (length d) → (i : ℕ) → i < length (run t)
      → RecordBytes (get_or (run t) i []) (cluster t (own_id (get_or (run t) i []))) (take record_size (drop (i * record_size) (sheet_of s d)))
  pub controls_stand : (t : Configuration s) (room : ℕ) → Rule16 (run t) room → (x : Control)
      → InTable (reading_of s room).table x ↔ Stands (run t) (cluster t) x
  pub controls_order : (t : Configuration s) (room : ℕ) → Rule16 (run t) room → (p q : ℕ) → p < q → q < (reading_of s room).table.count
      → Before (run t) (at (reading_of s room).table p) (at (reading_of s room).table q)
  pub controls_counted : (room : ℕ) → (reading_of s room).controls ≡ (reading_of s room).table.count
