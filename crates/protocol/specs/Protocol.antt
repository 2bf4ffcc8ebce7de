-- Which edition a configuration is read by. Document 02, No. 12: "An AudioControl interface whose protocol byte (offset 7) is 0x30 is read by source document
-- 001; all others as now."
--   version3            ==  that protocol byte
--   protocol_of s        ==  the protocol byte of the AudioControl interface that the reader finds; 0 where there is none
--   sheet_reading a      ==  the 3.0 edition's answer a in the form of the 1.0 reader's: interface number, count of controls and table are those of a refusal
--   either_reading s b room  ==  the answer by the edition that the protocol byte names
--   either_sheet s b d   ==  what the lent bytes d hold afterwards
use Rattle.std.specs.Prelude.{ℕ, List, eqb, Some, None}
use Rattle.ground.specs.Pick.{pick}
use Rattle.ground.specs.Numbers.{byte}
use Rattle.ground.specs.Lists.{part}
use Rattle.scan.specs.Cutting.{end_at}
use Rattle.search.specs.Want.{found_from}
use Rattle.search.specs.declared.Want.TheVariants as want
use Rattle.table.specs.Controls.{empty_table}
use Rattle.topology.specs.declared.Reading.{Reading}
use Rattle.topology.specs.Reading.{reading_of, sheet_of}
use Rattle.third.specs.declared.SheetAnswer.{SheetAnswer}
use Rattle.third.specs.Judgement.{third_answer, third_sheet}

abbrev pub version3 : ℕ
version3 = 0x30

unfoldable pub protocol_of : List ℕ → ℕ
protocol_of s = elim (found_from s 0 (want.Audio 1)) [ None ↦ 0 | Some p ↦ byte (part s p (end_at s p)) 7 ]

unfoldable pub sheet_reading : SheetAnswer → Reading
sheet_reading a = record { number = a.number; place = a.place; control = 0; entities = a.entities; controls = 0; table = empty_table }

unfoldable pub either_reading : List ℕ → List ℕ → ℕ → Reading
either_reading s b room = pick (eqb (protocol_of s) version3) (sheet_reading (third_answer s b room)) (reading_of s room)

unfoldable pub either_sheet : List ℕ → List ℕ → List ℕ → List ℕ
either_sheet s b d = pick (eqb (protocol_of s) version3) (third_sheet s b d) (sheet_of s d)
