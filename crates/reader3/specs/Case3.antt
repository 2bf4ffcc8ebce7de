-- Cases of the 3.0 edition (document 02, No. 12), each with its cluster buffer, computed from the definitions. The theorems of this edition would hold of
-- rules that no bytes keep; here are bytes that keep them. Turned away (document 01, "What the contracts owe") are a reader that refuses everything, one
-- that takes everything, one that gives a single sheet for all or writes none, and one whose count of entities is not taken from the bytes.
--   case_c            ==  94 bytes: Clock Source 1, Input Terminal 2, Feature Unit 3, which 2 feeds, and Output Terminal 4, which 3 feeds
--   case_d            ==  79 bytes: the same without the Feature Unit; 2 feeds 4
--   mono_buffer       ==  one cluster descriptor: ID 1, one channel
--   lent_c            ==  128 bytes lent, four records' room, none of them 00, so that each 00 of a record is written
--   AnswerC, AnswerD  ==  what is answered to case_c and to case_d, what the lent bytes hold afterwards, and that there is such a configuration
--   Unread s b n p   ==  number n at place p is answered to the configuration s with the cluster buffer b, no entity, and the lent bytes stay
--   AnswersRefused   ==  one byte changed: the buffer's ID 0: 51; the buffer's ID 2, where the Input Terminal names 1: 52; the Input Terminal's clock ID 5, which
--                        no Clock Source bears: 11. 51 has its place in the buffer, the others at the Input Terminal, place 40
--   Cases3           ==  all of them
use Rattle.std.specs.Prelude.{ℕ, ◌≡◌, List, [], ◌∷◌, ◌++◌, set, replicate}
use Rattle.records.specs.Sheet.{whole_sheet}
use Rattle.protocol.specs.Protocol.{either_reading, either_sheet}
use Rattle.reader3.specs.ThirdConfiguration.{ThirdConfiguration}

unfoldable pub case_c : List ℕ
case_c =
    0x09 ∷ 0x02 ∷ 0x5E ∷ 0x00 ∷ 0x01 ∷ 0x01 ∷ 0x00 ∷ 0x80 ∷ 0x32
    ∷ 0x09 ∷ 0x04 ∷ 0x00 ∷ 0x00 ∷ 0x00 ∷ 0x01 ∷ 0x01 ∷ 0x30 ∷ 0x00
    ∷ 0x0A ∷ 0x24 ∷ 0x01 ∷ 0x00 ∷ 0x4C ∷ 0x00 ∷ 0x00 ∷ 0x00 ∷ 0x00 ∷ 0x00
    ∷ 0x0C ∷ 0x24 ∷ 0x0B ∷ 0x01 ∷ 0x03 ∷ 0x01 ∷ 0x00 ∷ 0x00 ∷ 0x00 ∷ 0x00 ∷ 0x00 ∷ 0x00
    ∷ 0x14 ∷ 0x24 ∷ 0x02 ∷ 0x02 ∷ 0x01 ∷ 0x02 ∷ 0x00 ∷ 0x01 ∷ 0x00 ∷ 0x00 ∷ 0x00 ∷ 0x00 ∷ 0x01 ∷ 0x00 ∷ 0x00 ∷ 0x00 ∷ 0x00 ∷ 0x00 ∷ 0x00 ∷ 0x00
    ∷ 0x0F ∷ 0x24 ∷ 0x07 ∷ 0x03 ∷ 0x02 ∷ 0x03 ∷ 0x00 ∷ 0x00 ∷ 0x00 ∷ 0x00 ∷ 0x00 ∷ 0x00 ∷ 0x00 ∷ 0x00 ∷ 0x00
    ∷ 0x13 ∷ 0x24 ∷ 0x03 ∷ 0x04 ∷ 0x01 ∷ 0x01 ∷ 0x00 ∷ 0x03 ∷ 0x01 ∷ 0x00 ∷ 0x00 ∷ 0x00 ∷ 0x00 ∷ 0x00 ∷ 0x00 ∷ 0x00 ∷ 0x00 ∷ 0x00 ∷ 0x00
    ∷ []

unfoldable pub case_d : List ℕ
case_d =
    0x09 ∷ 0x02 ∷ 0x4F ∷ 0x00 ∷ 0x01 ∷ 0x01 ∷ 0x00 ∷ 0x80 ∷ 0x32
    ∷ 0x09 ∷ 0x04 ∷ 0x00 ∷ 0x00 ∷ 0x00 ∷ 0x01 ∷ 0x01 ∷ 0x30 ∷ 0x00
    ∷ 0x0A ∷ 0x24 ∷ 0x01 ∷ 0x00 ∷ 0x3D ∷ 0x00 ∷ 0x00 ∷ 0x00 ∷ 0x00 ∷ 0x00
    ∷ 0x0C ∷ 0x24 ∷ 0x0B ∷ 0x01 ∷ 0x03 ∷ 0x01 ∷ 0x00 ∷ 0x00 ∷ 0x00 ∷ 0x00 ∷ 0x00 ∷ 0x00
    ∷ 0x14 ∷ 0x24 ∷ 0x02 ∷ 0x02 ∷ 0x01 ∷ 0x02 ∷ 0x00 ∷ 0x01 ∷ 0x00 ∷ 0x00 ∷ 0x00 ∷ 0x00 ∷ 0x01 ∷ 0x00 ∷ 0x00 ∷ 0x00 ∷ 0x00 ∷ 0x00 ∷ 0x00 ∷ 0x00
    ∷ 0x13 ∷ 0x24 ∷ 0x03 ∷ 0x04 ∷ 0x01 ∷ 0x01 ∷ 0x00 ∷ 0x02 ∷ 0x01 ∷ 0x00 ∷ 0x00 ∷ 0x00 ∷ 0x00 ∷ 0x00 ∷ 0x00 ∷ 0x00 ∷ 0x00 ∷ 0x00 ∷ 0x00
    ∷ []

unfoldable pub mono_buffer : List ℕ
mono_buffer = 0x07 ∷ 0x00 ∷ 0x26 ∷ 0x00 ∷ 0x01 ∷ 0x00 ∷ 0x01 ∷ []

abbrev pub lent_c : List ℕ
lent_c = replicate 128 0xFF

pub record AnswerC : Type 0 where
  pub accepted : (either_reading case_c mono_buffer whole_sheet).number ≡ 0
  pub entities : (either_reading case_c mono_buffer whole_sheet).entities ≡ 4
  pub sheet : either_sheet case_c mono_buffer lent_c
      ≡ (0x01 ∷ 0x0B ∷ 0x00 ∷ 0x00 ∷ 0x00 ∷ 0x00 ∷ 0x00 ∷ 0x00 ∷ replicate 24 0)
      ++ (0x02 ∷ 0x02 ∷ 0x01 ∷ 0x00 ∷ 0x00 ∷ 0x00 ∷ 0x00 ∷ 0x00 ∷ replicate 24 0)
      ++ (0x03 ∷ 0x06 ∷ 0x01 ∷ 0x00 ∷ 0x00 ∷ 0x00 ∷ 0x01 ∷ 0x00 ∷ 0x02 ∷ replicate 23 0)
      ++ (0x04 ∷ 0x03 ∷ 0x01 ∷ 0x00 ∷ 0x00 ∷ 0x00 ∷ 0x01 ∷ 0x00 ∷ 0x03 ∷ replicate 23 0)
  pub configuration : ThirdConfiguration case_c mono_buffer

-- "Bytes past the last record stay"
pub record AnswerD : Type 0 where
  pub accepted : (either_reading case_d mono_buffer whole_sheet).number ≡ 0
  pub entities : (either_reading case_d mono_buffer whole_sheet).entities ≡ 3
  pub sheet : either_sheet case_d mono_buffer lent_c
      ≡ (0x01 ∷ 0x0B ∷ 0x00 ∷ 0x00 ∷ 0x00 ∷ 0x00 ∷ 0x00 ∷ 0x00 ∷ replicate 24 0)
      ++ (0x02 ∷ 0x02 ∷ 0x01 ∷ 0x00 ∷ 0x00 ∷ 0x00 ∷ 0x00 ∷ 0x00 ∷ replicate 24 0)
      ++ (0x04 ∷ 0x03 ∷ 0x01 ∷ 0x00 ∷ 0x00 ∷ 0x00 ∷ 0x01 ∷ 0x00 ∷ 0x02 ∷ replicate 23 0)
      ++ replicate 32 0xFF
  pub configuration : ThirdConfiguration case_d mono_buffer

pub record Unread (s b : List ℕ) (n p : ℕ) : Type 0 where
  pub number : (either_reading s b whole_sheet).number ≡ n
  pub place : (either_reading s b whole_sheet).place ≡ p
  pub no_entities : (either_reading s b whole_sheet).entities ≡ 0
  pub sheet : either_sheet s b lent_c ≡ lent_c

-- the ID stands at place 4 of the buffer, the Input Terminal at place 40 of the configuration, its clock ID at 47
pub record AnswersRefused : Type 0 where
  pub zero_id : Unread case_c (set mono_buffer 4 0) 51 0
  pub unknown_cluster : Unread case_c (set mono_buffer 4 2) 52 40
  pub unknown_clock : Unread (set case_c 47 5) mono_buffer 11 40

pub record Cases3 : Type 0 where
  pub case_c_lem : AnswerC
  pub case_d_lem : AnswerD
  pub refused : AnswersRefused
