-- The sheet's records said of the run's descriptors and of the clusters on their IDs, one behind another in entity order.
--   records_for ed ds cluster  ==  the records of the descriptors ds by the edition ed, each with the cluster on its ID; records_of ds cluster: by the
--                            Audio 1.0 edition
--   record_long           ==  a record is record_size bytes long
--   records_same          ==  what the reader shows of a run that stands for ds
--   Rule16 ds room        ==  the sheet of room bytes has a record's, 32, for each of the descriptors ds
--   whole_sheet            ==  room for as many records as a run may have entities; whole_sheet_lem: 1,024 bytes (document 02, No. 7)
--   reads_room            ==  the test of room decides rule 16, of a run that stands for ds
--   shown_same            ==  what a sheet with room holds afterwards: the records, then the lent bytes as they stood
--   record_at             ==  the record of the i-th descriptor stands at i times record_size
use Prim.Native.Nat.{ℕ, zero, suc, ◌+◌, ◌*◌, ◌≤◌, ◌<◌}
use Rattle.std.specs.Prelude.{◌≡◌, length, take}
use Rattle.std.proofs.Math.Path.{refl, sym, ap}
use Rattle.std.proofs.Common.{◌∙◌, arith, le_of_suc-le-suc, take-suc, take_at, drop_at, drop-drop}
use mathlib.Core.List.{List, [], ◌∷◌, ◌++◌, append_assoc, append-nil}
use Rattle.std.proofs.Math.ListN.{get_or, drop}
use Rattle.std.proofs.Math.Seq.{take-length}
use Rattle.ground.specs.Lists.{pad_length}
use Rattle.ground.specs.Pick.{yes, Reads, reads_le, shows}
use Rattle.layout.specs.declared.Cluster.{Cluster}
use Rattle.layout.specs.Layout.{most_pins, no_cluster}
use Rattle.edition.specs.Edition.{Edition, own_id, sources}
use Rattle.edition.specs.Audio.{audio}
use Rattle.entities.specs.declared.Run.{Run}
use Rattle.entities.specs.Run.{most_entities, held, node_at}
use Rattle.entities.specs.Represents.{Represents}
use Rattle.records.specs.Records.{record_size, record_for, record_of, records_to, room_for, shown_in, record_of_lem}

unfoldable pub records_for : Edition → List (List ℕ) → (ℕ → Cluster) → List ℕ
records_for ed [] cluster = []
records_for ed (d ∷ ds) cluster = record_for ed d (cluster (own_id d)) ++ records_for ed ds cluster

abbrev pub records_of : List (List ℕ) → (ℕ → Cluster) → List ℕ
records_of ds cluster = records_for audio ds cluster

pub record_long : (ed : Edition) (d : List ℕ) (c : Cluster) → length (record_for ed d c) ≡ record_size
unfolding record_for
record_long ed d c = let e = pad_length 0 most_pins (sources ed d) in omega arith

records_more : (ed : Edition) (x : List (List ℕ)) (d : List ℕ) (cluster : ℕ → Cluster)
    → records_for ed (x ++ d ∷ []) cluster ≡ records_for ed x cluster ++ record_for ed d (cluster (own_id d))
unfolding records_for
records_more ed [] d cluster = append-nil (record_for ed d (cluster (own_id d)))
records_more ed (e ∷ x) d cluster = ap (λ (l : List ℕ). record_for ed e (cluster (own_id e)) ++ l) (records_more ed x d cluster) ∙ sym (append_assoc (record_for ed e (cluster (own_id e))) (records_for ed x cluster) (record_for ed d (cluster (own_id d))))

abbrev pub Rule16 : List (List ℕ) → ℕ → Type 0
Rule16 ds room = length ds * record_size ≤ room

abbrev pub whole_sheet : ℕ
whole_sheet = most_entities * record_size

pub whole_sheet_lem : whole_sheet ≡ 1024
whole_sheet_lem = refl

pub reads_room : {ed : Edition} {s : List ℕ} {p : ℕ} {ds : List (List ℕ)} {r : Run} → Represents ed s p ds r → (room : ℕ) → Reads (room_for r room) (Rule16 ds room)
unfolding room_for
reads_room {r = r} h room = rw (← h.counted) (reads_le (held r * record_size) room)

module _ {ed : Edition} {s : List ℕ} {p : ℕ} {ds : List (List ℕ)} {r : Run} (h : Represents ed s p ds r) (cs : List Cluster) (cluster : ℕ → Cluster)
    (agree : (i : ℕ) → i < length ds → get_or cs i no_cluster ≡ cluster (own_id (get_or ds i []))) where
  records_front : (m : ℕ) → m ≤ length ds → records_to m s r cs ≡ records_for ed (take m ds) cluster
  unfolding records_to records_for
  records_front zero l = refl
  records_front (suc m) l =
      let d = get_or ds m [] in
      ap (λ (x : List ℕ). x ++ record_of s (node_at r m) (get_or cs m no_cluster)) (records_front m (omega arith))
      ∙ ap (λ (x : List ℕ). records_for ed (take m ds) cluster ++ x) (record_of_lem h m l (get_or cs m no_cluster) ∙ ap (record_for ed d) (agree m l))
      ∙ sym (records_more ed (take m ds) d cluster)
      ∙ ap (λ (x : List (List ℕ)). records_for ed x cluster) (sym (take-suc ds m [] l))

  pub records_same : records_to (held r) s r cs ≡ records_for ed ds cluster
  records_same =
      ap (λ (m : ℕ). records_to m s r cs) h.counted ∙ records_front (length ds) (omega arith) ∙ ap (λ (x : List (List ℕ)). records_for ed x cluster) (take-length ds)

  pub shown_same : (d : List ℕ) → Rule16 ds (length d) → shown_in s r cs d ≡ records_for ed ds cluster ++ drop (length ds * record_size) d
  unfolding shown_in
  shown_same d room =
      yes (records_to (held r) s r cs ++ drop (held r * record_size) d) d (shows (reads_room h (length d)) room)
      ∙ ap (λ (l : List ℕ). l ++ drop (held r * record_size) d) records_same
      ∙ ap (λ (m : ℕ). records_for ed ds cluster ++ drop (m * record_size) d) h.counted

pub record_at : (ed : Edition) (ds : List (List ℕ)) (cluster : ℕ → Cluster) (i : ℕ) → i < length ds → (y : List ℕ)
    → take record_size (drop (i * record_size) (records_for ed ds cluster ++ y)) ≡ record_for ed (get_or ds i []) (cluster (own_id (get_or ds i [])))
unfolding records_for
record_at ed [] cluster i l y = absurd (omega arith)
record_at ed (d ∷ ds) cluster zero l y =
    let r = record_for ed d (cluster (own_id d)) in
    ap (take record_size) (append_assoc r (records_for ed ds cluster) y) ∙ take_at r (records_for ed ds cluster ++ y) record_size (record_long ed d (cluster (own_id d)))
record_at ed (d ∷ ds) cluster (suc i) l y =
    let r = record_for ed d (cluster (own_id d)) in
    let n : suc i * record_size ≡ record_size + i * record_size = omega arith in
    ap (λ (k : ℕ). take record_size (drop k ((r ++ records_for ed ds cluster) ++ y))) n
    ∙ ap (take record_size) (sym (drop-drop (i * record_size) record_size ((r ++ records_for ed ds cluster) ++ y)))
    ∙ ap (λ (x : List ℕ). take record_size (drop (i * record_size) (drop record_size x))) (append_assoc r (records_for ed ds cluster) y)
    ∙ ap (λ (x : List ℕ). take record_size (drop (i * record_size) x)) (drop_at r (records_for ed ds cluster ++ y) record_size (record_long ed d (cluster (own_id d))))
    ∙ record_at ed ds cluster i (le_of_suc-le-suc l) y
