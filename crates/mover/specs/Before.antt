-- The sheet that the reader wrote before No. 7 (document 01, "The sheet"; no 15 hex since No. 6): "ID; kind ..; c; bitmap (2); name index; pins; 00; then eight source IDs, unused
-- ones 00".
--   old_pins             ==  the places for source IDs in a record of the old form: 8
--   old_record_in d c     ==  the record of the descriptor d with the cluster c, as it was
--   old_records_of ds cs  ==  the records of the descriptors ds, each with the cluster on its ID, as they were
--   OldRun ds           ==  such a run as the reader took: no more descriptors than there may be, none with more pins than there were places, and each
--                         ID its descriptor's own and not zero
use Rattle.std.specs.Prelude.{ℕ, ◌≤◌, length, get_or}
use mathlib.Core.List.{List, [], ◌++◌, map, flatten}
use Rattle.ground.specs.Lists.{pad}
use Rattle.graph.specs.Members.{◌∈◌}
use Rattle.graph.specs.Borne.{Own}
use Rattle.layout.specs.declared.Cluster.{Cluster}
use Rattle.edition.specs.Edition.{own_id, sources}
use Rattle.edition.specs.Audio.{audio}
use Rattle.entities.specs.Run.{most_entities}
use Rattle.records.specs.Records.{front_of}

abbrev pub old_pins : ℕ
old_pins = 8

abbrev pub old_record_in : List ℕ → Cluster → List ℕ
old_record_in d c = front_of (own_id d) (audio.kind d) (length (sources audio d)) c ++ pad 0 old_pins (sources audio d)

abbrev pub old_records_of : List (List ℕ) → (ℕ → Cluster) → List ℕ
old_records_of ds cluster = flatten (map (λ d. old_record_in d (cluster (own_id d))) ds)

pub record OldRun (ds : List (List ℕ)) : Type 0 where
  pub short : length ds ≤ most_entities
  pub few : (d : List ℕ) → d ∈ ds → audio.pins d ≤ old_pins
  pub own : Own (λ i. own_id (get_or ds i [])) (length ds)
