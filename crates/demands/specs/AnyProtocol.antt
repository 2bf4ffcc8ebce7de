-- Document 02, No. 12, of what stays with 1.0: "requests stay with 1.0", "Nos. 8, 9 and 11 stay with 1.0, and take 0x30 there as any other protocol
-- byte". Here it is said of the 1.0 reader, whose rules all of these go by: it does not read that byte.
--   protocol_place o  ==  where the protocol byte (offset 7) of the AudioControl interface stands, in a configuration that keeps the rules 1 to 4
--   AnyProtocol      ==  THE STATEMENT: with any other byte there, 0x30 among them, the reader answers the same, refusals from 5 on and their
--                        places included, and leaves the same sheet
use Rattle.std.specs.Prelude.{ℕ, ◌+◌, ◌≡◌, List, set}
use Rattle.ground.specs.Lists.{total}
use Rattle.cutting.specs.Rules1to9.{Opened}
use Rattle.topology.specs.Reading.{reading_of, sheet_of}

abbrev pub protocol_place : {s : List ℕ} → Opened s → ℕ
protocol_place o = total o.before + 7

pub record AnyProtocol : Type 0 where
  pub answer : (s : List ℕ) (o : Opened s) (x room : ℕ) → reading_of (set s (protocol_place o) x) room ≡ reading_of s room
  pub sheet : (s : List ℕ) (o : Opened s) (x : ℕ) (d : List ℕ) → sheet_of (set s (protocol_place o) x) d ≡ sheet_of s d
