-- Document 01, "Cases to prove together": "Over the definitions, as a table under a single statement: case A accepted; its bytes 2..3
-- made 108: 2; its first 8 bytes alone: 1; Feature Unit sourcing itself: 12; its ID made 1: 10; its source made 3: 11; cluster 5,
-- 0x0051, index 254: kept, 255: broken; 4, 0x0107, index 0: kept, 1: broken. Volume −5120..0 by 256: −300 gives −256, −384 gives −512,
-- 500 gives 0, −32768 stays. Bass −10..9 by 4: 9 gives 6."
--   case_a            ==  the document's 109 bytes
--   Configurations   ==  the six configurations, each with the number that the document gives, 0 for accepted
--   cluster c b i    ==  the cluster of c channels, locations b and name index i
--   Together         ==  the single statement
--   PrintedA         ==  the whole answer for case A, and the sheet as the document prints it
--   case_b, AnswerB   ==  case A with a second Output Terminal and volume on the master channel too, and what is answered to it
--   OtherProtocol    ==  case A with the protocol byte of its AudioControl interface made 0x30, document 02's No. 12: "Nos. 8, 9 and 11 stay with
--                        1.0, and take 0x30 there as any other protocol byte", and "requests stay with 1.0". The 1.0 reader, by which all
--                        these go, answers what it answers to case A, and leaves the same sheet
--   case_table        ==  the table of case A before any load
--   lent             ==  the sheet that the program lends, 1,024 bytes, all zeros
use Rattle.std.specs.Prelude.{ℕ, ◌≡◌, true, false, List, [], ◌∷◌, map, take, set, replicate, pos}
use Rattle.ground.specs.Numbers.{byte}
use Rattle.channels.specs.DeclaredChannels.{cluster_kept}
use Rattle.layout.specs.declared.Cluster.{Cluster}
use Rattle.setting.specs.Cases.{minus, found, volume, bass}
use Rattle.table.specs.declared.Control.{Control}
use Rattle.table.specs.declared.Table.{Table}
use Rattle.table.specs.Controls.{blank_control}
use Rattle.topology.specs.Reading.{reading_of, sheet_of}
use Rattle.records.specs.Sheet.{whole_sheet}

unfoldable pub case_a : List ℕ
case_a =
    0x09 ∷ 0x02 ∷ 0x6D ∷ 0x00 ∷ 0x02 ∷ 0x01 ∷ 0x00 ∷ 0x80 ∷ 0x32
    ∷ 0x09 ∷ 0x04 ∷ 0x00 ∷ 0x00 ∷ 0x00 ∷ 0x01 ∷ 0x01 ∷ 0x00 ∷ 0x00
    ∷ 0x09 ∷ 0x24 ∷ 0x01 ∷ 0x00 ∷ 0x01 ∷ 0x27 ∷ 0x00 ∷ 0x01 ∷ 0x01
    ∷ 0x0C ∷ 0x24 ∷ 0x02 ∷ 0x01 ∷ 0x01 ∷ 0x02 ∷ 0x00 ∷ 0x01 ∷ 0x00 ∷ 0x00 ∷ 0x00 ∷ 0x00
    ∷ 0x09 ∷ 0x24 ∷ 0x06 ∷ 0x02 ∷ 0x01 ∷ 0x01 ∷ 0x01 ∷ 0x02 ∷ 0x00
    ∷ 0x09 ∷ 0x24 ∷ 0x03 ∷ 0x03 ∷ 0x01 ∷ 0x01 ∷ 0x00 ∷ 0x02 ∷ 0x00
    ∷ 0x09 ∷ 0x04 ∷ 0x01 ∷ 0x00 ∷ 0x00 ∷ 0x01 ∷ 0x02 ∷ 0x00 ∷ 0x00
    ∷ 0x09 ∷ 0x04 ∷ 0x01 ∷ 0x01 ∷ 0x01 ∷ 0x01 ∷ 0x02 ∷ 0x00 ∷ 0x00
    ∷ 0x07 ∷ 0x24 ∷ 0x01 ∷ 0x03 ∷ 0x01 ∷ 0x01 ∷ 0x00
    ∷ 0x0B ∷ 0x24 ∷ 0x02 ∷ 0x01 ∷ 0x01 ∷ 0x02 ∷ 0x10 ∷ 0x01 ∷ 0x80 ∷ 0xBB ∷ 0x00
    ∷ 0x09 ∷ 0x05 ∷ 0x81 ∷ 0x05 ∷ 0x60 ∷ 0x00 ∷ 0x01 ∷ 0x00 ∷ 0x00
    ∷ 0x07 ∷ 0x25 ∷ 0x01 ∷ 0x00 ∷ 0x00 ∷ 0x00 ∷ 0x00
    ∷ []

-- the Feature Unit stands at place 39: its ID at 42, its source at 43
pub record Configurations : Type 0 where
  pub accepted : (reading_of case_a whole_sheet).number ≡ 0
  pub length_wrong : (reading_of (set case_a 2 108) whole_sheet).number ≡ 2
  pub eight_bytes : (reading_of (take 8 case_a) whole_sheet).number ≡ 1
  pub sources_itself : (reading_of (set case_a 43 2) whole_sheet).number ≡ 12
  pub same_id : (reading_of (set case_a 42 1) whole_sheet).number ≡ 10
  pub sources_output : (reading_of (set case_a 43 3) whole_sheet).number ≡ 11

abbrev pub cluster : ℕ → ℕ → ℕ → Cluster
cluster c b i = record { channels = c; locations = b; names = i }

pub record Together : Type 0 where
  pub configurations : Configurations
  pub clusters : map cluster_kept (cluster 5 0x0051 254 ∷ cluster 5 0x0051 255 ∷ cluster 4 0x0107 0 ∷ cluster 4 0x0107 1 ∷ []) ≡ true ∷ false ∷ true ∷ false ∷ []
  pub settings : map found (volume (minus 300) ∷ volume (minus 384) ∷ volume (pos 500) ∷ volume (minus 32768) ∷ bass (pos 9) ∷ []) ≡ minus 256 ∷ minus 512 ∷ pos 0 ∷ minus 32768 ∷ pos 6 ∷ []

abbrev pub lent : List ℕ
lent = replicate whole_sheet 0

-- the table of case A before any load: Feature Unit 2 has mute on the master channel and volume on channel 1
abbrev made : ℕ → ℕ → ℕ → Control
made u ch s = record { unit = u; channel = ch; selector = s; pins = 0; loaded = false; min = 0; max = 0; res = 0; cur = 0 }

abbrev pub case_table : Table
case_table = record { count = 2; controls = made 2 0 1 ∷ made 2 1 2 ∷ replicate 126 blank_control }

pub record PrintedA : Type 0 where
  pub answer : reading_of case_a whole_sheet ≡ record { number = 0; place = 0; control = 0; entities = 3; controls = 2; table = case_table }
  pub sheet : sheet_of case_a lent
      ≡ 0x01 ∷ 0x02 ∷ 0x01 ∷ 0x00 ∷ 0x00 ∷ 0x00 ∷ 0x00 ∷ 0x00 ∷ 0x00 ∷ 0x00 ∷ 0x00 ∷ 0x00 ∷ 0x00 ∷ 0x00 ∷ 0x00 ∷ 0x00
      ∷ 0x00 ∷ 0x00 ∷ 0x00 ∷ 0x00 ∷ 0x00 ∷ 0x00 ∷ 0x00 ∷ 0x00 ∷ 0x00 ∷ 0x00 ∷ 0x00 ∷ 0x00 ∷ 0x00 ∷ 0x00 ∷ 0x00 ∷ 0x00
      ∷ 0x02 ∷ 0x06 ∷ 0x01 ∷ 0x00 ∷ 0x00 ∷ 0x00 ∷ 0x01 ∷ 0x00 ∷ 0x01 ∷ 0x00 ∷ 0x00 ∷ 0x00 ∷ 0x00 ∷ 0x00 ∷ 0x00 ∷ 0x00
      ∷ 0x00 ∷ 0x00 ∷ 0x00 ∷ 0x00 ∷ 0x00 ∷ 0x00 ∷ 0x00 ∷ 0x00 ∷ 0x00 ∷ 0x00 ∷ 0x00 ∷ 0x00 ∷ 0x00 ∷ 0x00 ∷ 0x00 ∷ 0x00
      ∷ 0x03 ∷ 0x03 ∷ 0x01 ∷ 0x00 ∷ 0x00 ∷ 0x00 ∷ 0x01 ∷ 0x00 ∷ 0x02 ∷ 0x00 ∷ 0x00 ∷ 0x00 ∷ 0x00 ∷ 0x00 ∷ 0x00 ∷ 0x00
      ∷ 0x00 ∷ 0x00 ∷ 0x00 ∷ 0x00 ∷ 0x00 ∷ 0x00 ∷ 0x00 ∷ 0x00 ∷ 0x00 ∷ 0x00 ∷ 0x00 ∷ 0x00 ∷ 0x00 ∷ 0x00 ∷ 0x00 ∷ 0x00
      ∷ replicate 928 0

unfoldable pub case_b : List ℕ
case_b =
    0x09 ∷ 0x02 ∷ 0x76 ∷ 0x00 ∷ 0x02 ∷ 0x01 ∷ 0x00 ∷ 0x80 ∷ 0x32
    ∷ 0x09 ∷ 0x04 ∷ 0x00 ∷ 0x00 ∷ 0x00 ∷ 0x01 ∷ 0x01 ∷ 0x00 ∷ 0x00
    ∷ 0x09 ∷ 0x24 ∷ 0x01 ∷ 0x00 ∷ 0x01 ∷ 0x30 ∷ 0x00 ∷ 0x01 ∷ 0x01
    ∷ 0x0C ∷ 0x24 ∷ 0x02 ∷ 0x01 ∷ 0x01 ∷ 0x02 ∷ 0x00 ∷ 0x01 ∷ 0x00 ∷ 0x00 ∷ 0x00 ∷ 0x00
    ∷ 0x09 ∷ 0x24 ∷ 0x06 ∷ 0x02 ∷ 0x01 ∷ 0x01 ∷ 0x03 ∷ 0x02 ∷ 0x00
    ∷ 0x09 ∷ 0x24 ∷ 0x03 ∷ 0x03 ∷ 0x01 ∷ 0x01 ∷ 0x00 ∷ 0x02 ∷ 0x00
    ∷ 0x09 ∷ 0x24 ∷ 0x03 ∷ 0x04 ∷ 0x01 ∷ 0x03 ∷ 0x00 ∷ 0x02 ∷ 0x00
    ∷ 0x09 ∷ 0x04 ∷ 0x01 ∷ 0x00 ∷ 0x00 ∷ 0x01 ∷ 0x02 ∷ 0x00 ∷ 0x00
    ∷ 0x09 ∷ 0x04 ∷ 0x01 ∷ 0x01 ∷ 0x01 ∷ 0x01 ∷ 0x02 ∷ 0x00 ∷ 0x00
    ∷ 0x07 ∷ 0x24 ∷ 0x01 ∷ 0x03 ∷ 0x01 ∷ 0x01 ∷ 0x00
    ∷ 0x0B ∷ 0x24 ∷ 0x02 ∷ 0x01 ∷ 0x01 ∷ 0x02 ∷ 0x10 ∷ 0x01 ∷ 0x80 ∷ 0xBB ∷ 0x00
    ∷ 0x09 ∷ 0x05 ∷ 0x81 ∷ 0x05 ∷ 0x60 ∷ 0x00 ∷ 0x01 ∷ 0x00 ∷ 0x00
    ∷ 0x07 ∷ 0x25 ∷ 0x01 ∷ 0x00 ∷ 0x00 ∷ 0x00 ∷ 0x00
    ∷ []

pub record AnswerB : Type 0 where
  pub accepted : (reading_of case_b whole_sheet).number ≡ 0
  pub entities : (reading_of case_b whole_sheet).entities ≡ 4
  pub controls : (reading_of case_b whole_sheet).controls ≡ 3
  pub fourth : byte (sheet_of case_b lent) 96 ≡ 4

-- the AudioControl interface stands at place 9: its protocol byte at 16
pub record OtherProtocol : Type 0 where
  pub answer : reading_of (set case_a 16 0x30) whole_sheet ≡ reading_of case_a whole_sheet
  pub sheet : sheet_of (set case_a 16 0x30) lent ≡ sheet_of case_a lent
