-- What the reader computes for the rules 5 to 7, and for all seven: for each, nowhere or the place of the refusal (document 01's table).
--   breach5, breach6, breach7 ==  where rule 5, 6, 7 is broken in s with the frame f: where the AudioControl group's parts stand
--   frame_of s                 ==  control: the AudioControl interface; header: 9 bytes behind it, where the header should stand;
--                                 run: where the header ends; end: where the run of type 24 descriptors behind it ends
--   frame_from s c             ==  the frame, where the AudioControl interface stands at place c
--   run_end s p                ==  where the run of type 24 descriptors that begins at place p ends
--   header_of s f              ==  the descriptor that stands where the header should
--   opens h                   ==  the test that bytes 1 to 4 of h are 24 01 00 01
--   is_header h                ==  the test that h opens so and is 8+n long, where byte 7 is n
--   strays_from s p            ==  the test that a type 24 descriptor stands in the group from place p on
--   group_judged s f r         ==  the lowest number of 5 to 7 that applies, with its place; r where none does
--   judged s r                ==  the lowest number of 1 to 7 that applies, with its place; r where none does
--   framed_of s                ==  the frame of s, or what the rules 1 to 7 refuse
use Rattle.std.specs.Prelude.{ℕ, ◌+◌, Bool, false, not, ◌&&◌, List, length, eqb, Result, Option, Some, None}
use Rattle.ground.specs.declared.Refusal.{Refusal}
use Rattle.ground.specs.Numbers.{byte, word}
use Rattle.ground.specs.Lists.{part}
use Rattle.ground.specs.Refuse.{none, kept_at, refuse, place_or}
use Rattle.ground.specs.Told.{told}
use Rattle.scan.specs.Cutting.{end_at}
use Rattle.search.specs.Want.{found_from}
use Rattle.search.specs.declared.Want.TheVariants as want
use Rattle.interfaces.specs.Reading.{control_at, interfaces_judged}
use Rattle.collection.specs.Reading.{collects}
use Rattle.groups.specs.Rules5and6.{listed_of}
use Rattle.groups.specs.declared.Frame.{Frame}

unfoldable pub run_end : List ℕ → ℕ → ℕ
run_end s run = place_or (found_from s run want.NotClass) (length s)

unfoldable pub frame_from : List ℕ → ℕ → Frame
frame_from s control = record { control = control; header = control + 9; run = end_at s (control + 9); end = run_end s (end_at s (control + 9)) }

unfoldable pub frame_of : List ℕ → Frame
frame_of s = frame_from s (control_at s)

abbrev pub header_of : List ℕ → Frame → List ℕ
header_of s f = part s f.header f.run

unfoldable pub opens : List ℕ → Bool
opens h = eqb (byte h 1) 0x24 && (eqb (byte h 2) 1 && (eqb (byte h 3) 0 && eqb (byte h 4) 1))

unfoldable pub is_header : List ℕ → Bool
is_header h = opens h && eqb (length h) (8 + byte h 7)

unfoldable pub breach5 : List ℕ → Frame → Option ℕ
breach5 s f = kept_at (is_header (header_of s f)) f.header

unfoldable pub strays_from : List ℕ → ℕ → Bool
strays_from s e = elim (found_from s e want.ClassOrInterface) [ None ↦ false | Some q ↦ eqb (byte s (q + 1)) 0x24 ]

unfoldable pub breach6 : List ℕ → Frame → Option ℕ
breach6 s f = kept_at (eqb (f.header + word (header_of s f) 5) f.end && not (strays_from s f.end)) f.header

unfoldable pub breach7 : List ℕ → Frame → Option ℕ
breach7 s f = kept_at (collects s (listed_of (header_of s f))) f.header

unfoldable pub group_judged : List ℕ → Frame → Refusal → Refusal
group_judged s f r = refuse 5 (breach5 s f) (refuse 6 (breach6 s f) (refuse 7 (breach7 s f) r))

unfoldable pub judged : List ℕ → Refusal → Refusal
judged s r = interfaces_judged s (group_judged s (frame_of s) r)

unfoldable pub framed_of : List ℕ → Result Frame Refusal
framed_of s = told (judged s none) (frame_of s)
