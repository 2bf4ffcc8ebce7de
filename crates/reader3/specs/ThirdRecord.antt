-- The bytes of a record of the 3.0 edition, each said of the descriptor's bytes and of the cluster on its ID. Document 02, No. 12: "The answer is the sheet only,
-- with document 01's kind numbers, 0B and no channels for a Clock Source, and 00 for bitmap and name index".
--   ShownKind n k         ==  an entity of subtype n (001, table A-15) is shown as kind k
--   ThirdSourcesAt d k p  ==  d has p source IDs, one behind another from offset k on, as its kind has them: an Input Terminal and a Clock Source none; an Output
--                             Terminal one, at 7; a Mixer and a Selector p at 4, sources from 5; a Feature Unit one, at 4
--   ThirdRecord d c r     ==  the bytes r are the record of the descriptor d with the cluster c: "ID; kind ..; c; bitmap (2); name index; pins; 00", then
--                             twenty-four source IDs, unused ones 00
use Rattle.std.specs.Prelude.{ℕ, ◌+◌, ◌≤◌, ◌<◌, ◌≡◌, List, length}
use Rattle.ground.specs.Numbers.{byte}
use Rattle.layout.specs.Layouts.{most_pins}
use Rattle.buffer.specs.Clusters.{channels_of}
use Rattle.edition.specs.Edition.{own_id}
use Rattle.records.specs.Records.{head_size, record_size}

pub data ShownKind : ℕ → ℕ → Type 0 where
  input : ShownKind 2 2
  output : ShownKind 3 3
  mixer : ShownKind 5 4
  selector : ShownKind 6 5
  feature : ShownKind 7 6
  clock : ShownKind 0x0B 0x0B

pub data ThirdSourcesAt (d : List ℕ) : ℕ → ℕ → Type 0 where
  input : byte d 2 ≡ 2 → ThirdSourcesAt d 0 0
  output : byte d 2 ≡ 3 → ThirdSourcesAt d 7 1
  mixer : byte d 2 ≡ 5 → ThirdSourcesAt d 5 (byte d 4)
  selector : byte d 2 ≡ 6 → ThirdSourcesAt d 5 (byte d 4)
  feature : byte d 2 ≡ 7 → ThirdSourcesAt d 4 1
  clock : byte d 2 ≡ 0x0B → ThirdSourcesAt d 0 0

pub record ThirdRecord (d c r : List ℕ) : Type 0 where
  pub long : length r ≡ record_size
  pub id : byte r 0 ≡ own_id d
  pub kind : ShownKind (byte d 2) (byte r 1)
  pub channels : byte r 2 ≡ channels_of c
  pub no_bitmap : (byte r 3 ≡ 0) × (byte r 4 ≡ 0)
  pub no_name : byte r 5 ≡ 0
  pub from : ℕ
  pub pins : ThirdSourcesAt d from (byte r 6)
  pub spare : byte r 7 ≡ 0
  pub source : (j : ℕ) → j < byte r 6 → byte r (head_size + j) ≡ byte d (from + j)
  pub unused : (j : ℕ) → byte r 6 ≤ j → j < most_pins → byte r (head_size + j) ≡ 0
