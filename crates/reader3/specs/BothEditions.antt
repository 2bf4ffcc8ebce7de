-- Demand 3 for the 3.0 edition, and which edition a configuration is read by (document 02, No. 12). What there must be is ThirdConfiguration, as Configuration is
-- for Audio 1.0.
--   third_run t, third_cluster t, third_buffer t  ==  of the configuration t: the run's descriptors, the clusters on IDs, the cluster descriptors of the buffer
--   RefusedSheet s b d  ==  what the reader answers and leaves where it refuses: number and place are those of the table, no entity, the sheet as it stood
--   PlainAlike t p      ==  the plain configuration p has the cuttings, the run's descriptors and the clusters of t
--   ThirdDemand s b     ==  accepted: with 1,024 bytes or more lent the number is 0 exactly where the bytes are a configuration and a cluster buffer of the edition
--                           accepted_plainly: .. exactly where they are such in plain words, with no search
--                           refused: number and place are exactly those of the table; refuses: and what a refusal leaves
--                           one_cutting, one_buffer, one_descriptors, one_clusters: what keeps the rules is one: the cutting of the configuration, that of the buffer,
--                           the run's descriptors byte by byte, the cluster on each ID; one_plainly: and what keeps them in plain words is the same
--                           from_buffer: the cluster on the output of each entity but a Clock Source is one of the buffer's descriptors
--                           plainly: what each entity gives out and keeps, in bytes; rule13_plainly, broken_plainly: so the row 13 of the table, which stands
--                           behind 52: the rule, and who breaks it; laid_plainly, links_plainly, unknown_plainly: so who keeps 9, who keeps 11, which stands
--                           behind 10, and who breaks 52
--                           answer_shows, sheet_shows, record_shows, record_bytes: the answer, and the sheet, which shows them
--   EitherConfiguration s b  ==  the bytes are a configuration of the 3.0 edition, whose protocol byte is 0x30, or one of Audio 1.0 with another
--   EitherPlainly s b   ==  the same of the two in plain words
--   Choice s b          ==  THE CHOICE: by the protocol byte of the AudioControl interface, at offset 7, 0x30 or another; where the rules 1
--                           to 4 are not kept both editions refuse alike (alike), and the answer is Audio 1.0's (unopened). either_accepted: so demand 3 of both
--                           editions together; either_plainly: and in plain words
use Rattle.std.specs.Prelude.{ℕ, ◌*◌, ◌≤◌, ◌<◌, ◌≡◌, List, [], ◌++◌, ◌⊎◌, ◌↔◌, length, get_or, take, drop}
use Rattle.ground.specs.Numbers.{byte}
use Rattle.graph.specs.Members.{◌∈◌}
use Rattle.edition.specs.Edition.{own_id}
use Rattle.edition3.specs.Third.{third, UnknownCluster, Rule52}
use Rattle.cutting.specs.Rules1to9.{Opened}
use Rattle.ids.specs.Rule10.{Rule10}
use Rattle.links3.specs.Rules.{WrongLinks}
use Rattle.clusters.specs.Rule13.{Rule13, Broken}
use Rattle.clusters3.specs.Shown.{shown_cluster}
use Rattle.records.specs.Records.{record_size, record_for}
use Rattle.records.specs.Sheet.{records_for, Rule16, whole_sheet}
use Rattle.topology.specs.Reading.{reading_of, sheet_of}
use Rattle.third.specs.Judgement.{third_answer, third_sheet}
use Rattle.protocol.specs.Protocol.{version3, sheet_reading, either_reading, either_sheet}
use Rattle.reader3.specs.ThirdConfiguration.{KeptThird, run_in3, clusters_in, ThirdConfiguration}
use Rattle.reader3.specs.ThirdRefusals.{RefusedThird}
use Rattle.reader.specs.Configuration.{Configuration}
use Rattle.reader.specs.Plainly as first
use Rattle.reader3.specs.ThirdRecord.{ThirdRecord}
use Rattle.reader3.specs.Plainly.{LaidPlainly, EachSource, SourceNamed, ClockedPlainly, UnknownPlainly, Plainly, KeptPlainly, BrokenPlainly}
use Rattle.reader3.specs.PlainConfiguration.{PlainConfiguration}

module _ {s b : List ℕ} (t : ThirdConfiguration s b) where
  abbrev pub third_run : List (List ℕ)
  third_run = run_in3 t.kept

  abbrev pub third_cluster : ℕ → List ℕ
  third_cluster = t.connected.cluster

  abbrev pub third_buffer : List (List ℕ)
  third_buffer = clusters_in t.kept

pub record RefusedSheet (s b d : List ℕ) : Type 0 where
  pub row : RefusedThird s b (length d) (third_answer s b (length d)).number (third_answer s b (length d)).place
  pub no_entities : (third_answer s b (length d)).entities ≡ 0
  pub sheet : third_sheet s b d ≡ d

pub record PlainAlike {s b : List ℕ} (t : ThirdConfiguration s b) (p : PlainConfiguration s b) : Type 0 where
  pub cutting : t.kept.opened.descriptors ≡ p.opened.descriptors
  pub buffer : third_buffer t ≡ p.rule51.pieces
  pub descriptors : third_run t ≡ p.rule6.run
  pub clusters : (d : List ℕ) → d ∈ third_run t → third_cluster t (own_id d) ≡ p.cluster (own_id d)

pub record ThirdDemand (s b : List ℕ) : Type 0 where
  pub accepted : (d : List ℕ) → whole_sheet ≤ length d → ((third_answer s b (length d)).number ≡ 0) ↔ ThirdConfiguration s b
  pub accepted_plainly : (d : List ℕ) → whole_sheet ≤ length d → ((third_answer s b (length d)).number ≡ 0) ↔ PlainConfiguration s b
  pub refused : (room n p : ℕ) → (n ≡ 0 → ⊥)
      → (((third_answer s b room).number ≡ n) × ((third_answer s b room).place ≡ p)) ↔ RefusedThird s b room n p
  pub refuses : (d : List ℕ) → ((third_answer s b (length d)).number ≡ 0 → ⊥) → RefusedSheet s b d
  pub one_cutting : (t u : ThirdConfiguration s b) → t.kept.opened.descriptors ≡ u.kept.opened.descriptors
  pub one_buffer : (t u : ThirdConfiguration s b) → third_buffer t ≡ third_buffer u
  pub one_descriptors : (t u : ThirdConfiguration s b) → third_run t ≡ third_run u
  pub one_clusters : (t u : ThirdConfiguration s b) (d : List ℕ) → d ∈ third_run t → third_cluster t (own_id d) ≡ third_cluster u (own_id d)
  pub one_plainly : (t : ThirdConfiguration s b) (p : PlainConfiguration s b) → PlainAlike t p
  pub from_buffer : (t : ThirdConfiguration s b) (d : List ℕ) → d ∈ third_run t → (byte d 2 ≡ 0x0B → ⊥) → third_cluster t (own_id d) ∈ third_buffer t
  pub plainly : (t : ThirdConfiguration s b) (d : List ℕ) → d ∈ third_run t → Plainly (third_buffer t) (third_run t) (third_cluster t) d
  pub laid_plainly : (ks : List (List ℕ)) (d : List ℕ) → (third ks).LaidOut d ↔ LaidPlainly d
  pub links_plainly : (k : KeptThird s b) → Rule10 (run_in3 k) → (d : List ℕ) → d ∈ run_in3 k
      → (WrongLinks (clusters_in k) (run_in3 k) d → ⊥) ↔ (EachSource (SourceNamed (run_in3 k)) d × ClockedPlainly (run_in3 k) d)
  pub unknown_plainly : (k : KeptThird s b) (d : List ℕ) → d ∈ run_in3 k → UnknownCluster (clusters_in k) d ↔ UnknownPlainly (clusters_in k) d
  pub rule13_plainly : (k : KeptThird s b) → Rule52 (clusters_in k) (run_in3 k) → Rule13 (third (clusters_in k)) (run_in3 k) ↔ KeptPlainly (clusters_in k) (run_in3 k)
  pub broken_plainly : (k : KeptThird s b) → Rule52 (clusters_in k) (run_in3 k) → (d : List ℕ) → d ∈ run_in3 k
      → Broken (third (clusters_in k)) (run_in3 k) d ↔ BrokenPlainly (clusters_in k) (run_in3 k) d
  pub answer_shows : (t : ThirdConfiguration s b) (room : ℕ) → Rule16 (third_run t) room → third_answer s b room ≡ record { number = 0; place = 0; entities = length (third_run t) }
  pub sheet_shows : (t : ThirdConfiguration s b) (d : List ℕ) → Rule16 (third_run t) (length d)
      → third_sheet s b d ≡ records_for (third (third_buffer t)) (third_run t) (λ x. shown_cluster (third_cluster t x)) ++ drop (length (third_run t) * record_size) d
  pub record_shows : (t : ThirdConfiguration s b) (d : List ℕ) → Rule16 (third_run t) (length d) → (i : ℕ) → i < length (third_run t)
      → take record_size (drop (i * record_size) (third_sheet s b d))
      ≡ record_for (third (third_buffer t)) (get_or (third_run t) i []) (shown_cluster (third_cluster t (own_id (get_or (third_run t) i []))))
  pub record_bytes : (t : ThirdConfiguration s b) (d : List ℕ) → Rule16 (third_run t) (length d) → (i : ℕ) → i < length (third_run t)
      → ThirdRecord (get_or (third_run t) i []) (third_cluster t (own_id (get_or (third_run t) i []))) (take record_size (drop (i * record_size) (third_sheet s b d)))

abbrev pub EitherConfiguration : List ℕ → List ℕ → Type 0
EitherConfiguration s b =
    ((t : ThirdConfiguration s b) × (byte t.kept.opened.control 7 ≡ version3)) ⊎ ((t : Configuration s) × (byte t.kept.opened.control 7 ≡ version3 → ⊥))

abbrev pub EitherPlainly : List ℕ → List ℕ → Type 0
EitherPlainly s b =
    ((p : PlainConfiguration s b) × (byte p.opened.control 7 ≡ version3)) ⊎ ((p : first.PlainConfiguration s) × (byte p.opened.control 7 ≡ version3 → ⊥))

pub record Choice (s b : List ℕ) : Type 0 where
  pub third_read : (o : Opened s) → byte o.control 7 ≡ version3 → (d : List ℕ)
      → (either_reading s b (length d) ≡ sheet_reading (third_answer s b (length d))) × (either_sheet s b d ≡ third_sheet s b d)
  pub others_read : (o : Opened s) → (byte o.control 7 ≡ version3 → ⊥) → (d : List ℕ)
      → (either_reading s b (length d) ≡ reading_of s (length d)) × (either_sheet s b d ≡ sheet_of s d)
  pub alike : (Opened s → ⊥) → (d : List ℕ) → (sheet_reading (third_answer s b (length d)) ≡ reading_of s (length d)) × (third_sheet s b d ≡ sheet_of s d)
  pub unopened : (Opened s → ⊥) → (d : List ℕ) → (either_reading s b (length d) ≡ reading_of s (length d)) × (either_sheet s b d ≡ sheet_of s d)
  pub either_accepted : (d : List ℕ) → whole_sheet ≤ length d → ((either_reading s b (length d)).number ≡ 0) ↔ EitherConfiguration s b
  pub either_plainly : (d : List ℕ) → whole_sheet ≤ length d → ((either_reading s b (length d)).number ≡ 0) ↔ EitherPlainly s b
