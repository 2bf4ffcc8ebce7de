-- The sheet (document 01): "Records .., no header, in entity order: ID; kind ..; c; bitmap (2); name index; pins; 00; then" the "source IDs, unused
-- ones 00. Bytes past the last record stay." Document 02, No. 7: "The new record is 32 bytes: the first eight as before, then twenty-four source IDs."
--   head_size, record_size  ==  the bytes in front of the source IDs: 8; the bytes of a record: these, and one for each source ID that it has
--                         a place for, 32 in all
--   front_of i k p c     ==  those in front, of an entity with ID i, kind k and p pins, and of its cluster c
--   ids_shown l          ==  the places of the source IDs: the IDs l, then 00
--   head_of s n c        ==  the front of the record of the entity n of the configuration s with the cluster c; its pins are as many as
--                         source IDs stand there
--   record_of s n c      ==  the whole record
--   records_to k s r cs  ==  the records of the first k entities of the run r with the clusters cs, one after another
--   room_for r room      ==  the test that a sheet of that many bytes holds the records of the run r
--   shown_in s r cs d    ==  the lent bytes d with the records of the run r in front, where they have room; else d
--   record_for ed d c     ==  the record, said of the entity's descriptor d alone, by the edition ed; record_in d c: by the Audio 1.0 edition
--   record_of_lem           ==  what is shown of the i-th entity of a run is the record of the i-th descriptor that the run stands for
--   record_length, records_length  ==  how long a record is, and so many of them
use Rattle.std.specs.Prelude.{ℕ, zero, suc, ◌+◌, ◌*◌, ◌/◌, ◌%◌, ◌<◌, ◌≡◌, refl, Bool, List, [], ◌∷◌, ◌++◌, length, get_or, drop, leb}
use Rattle.std.proofs.Common.{arith, length-append}
use Rattle.ground.specs.Pick.{pick}
use Rattle.ground.specs.Lists.{pad, pad_length}
use Rattle.layout.specs.declared.Cluster.{Cluster}
use Rattle.layout.specs.Layout.{most_pins, no_cluster}
use Rattle.edition.specs.Edition.{Edition, own_id, sources}
use Rattle.edition.specs.Audio.{audio}
use Rattle.entities.specs.declared.Node.{Node}
use Rattle.entities.specs.declared.Run.{Run}
use Rattle.entities.specs.Run.{held, node_at, sources_of}
use Rattle.entities.specs.Represents.{Represents}

abbrev pub head_size : ℕ
head_size = 8

abbrev pub record_size : ℕ
record_size = head_size + most_pins

abbrev pub front_of : ℕ → ℕ → ℕ → Cluster → List ℕ
front_of i k p c = i ∷ k ∷ c.channels ∷ c.locations % 256 ∷ c.locations / 256 ∷ c.names ∷ p ∷ 0 ∷ []

abbrev pub ids_shown : List ℕ → List ℕ
ids_shown l = pad 0 most_pins l

unfoldable pub head_of : List ℕ → Node → Cluster → List ℕ
head_of s n c = front_of n.id n.kind (length (sources_of s n)) c

unfoldable pub record_of : List ℕ → Node → Cluster → List ℕ
record_of s n c = head_of s n c ++ ids_shown (sources_of s n)

unfoldable pub records_to : ℕ → List ℕ → Run → List Cluster → List ℕ
records_to zero s r cs = []
records_to (suc k) s r cs = records_to k s r cs ++ record_of s (node_at r k) (get_or cs k no_cluster)

unfoldable pub room_for : Run → ℕ → Bool
room_for r room = leb (held r * record_size) room

unfoldable pub shown_in : List ℕ → Run → List Cluster → List ℕ → List ℕ
shown_in s r cs d = pick (room_for r (length d)) (records_to (held r) s r cs ++ drop (held r * record_size) d) d

unfoldable pub record_for : Edition → List ℕ → Cluster → List ℕ
record_for ed d c = front_of (own_id d) (ed.kind d) (length (sources ed d)) c ++ ids_shown (sources ed d)

abbrev pub record_in : List ℕ → Cluster → List ℕ
record_in d c = record_for audio d c

pub record_of_lem : {ed : Edition} {s : List ℕ} {p : ℕ} {ds : List (List ℕ)} {r : Run} → Represents ed s p ds r
    → (i : ℕ) → i < length ds → (c : Cluster) → record_of s (node_at r i) c ≡ record_for ed (get_or ds i []) c
unfolding record_of head_of record_for
record_of_lem h i l c = rw (h.id i l, h.kind i l, h.sources i l) refl

pub record_length : (s : List ℕ) (n : Node) (c : Cluster) → length (record_of s n c) ≡ record_size
unfolding record_of head_of
record_length s n c = let e = pad_length 0 most_pins (sources_of s n) in omega arith

pub records_length : (k : ℕ) (s : List ℕ) (r : Run) (cs : List Cluster) → length (records_to k s r cs) ≡ k * record_size
unfolding records_to
records_length zero s r cs = omega arith
records_length (suc k) s r cs =
    let a = records_length k s r cs in
    let b = record_length s (node_at r k) (get_or cs k no_cluster) in
    let e = length-append (records_to k s r cs) (record_of s (node_at r k) (get_or cs k no_cluster)) in
    omega arith
