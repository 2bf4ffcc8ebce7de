-- The reader's answer (document 01, "What the box does", "Refusals of a configuration"): the first row that applies, or what stands
-- in the configuration.
--   table_for s v cs         ==  the controls of what v surveys, with the clusters cs by index, in the table
--   rest_judged s v cs r     ==  the refusals 14 and 15 in their order; r where neither applies
--   survey_judged s v r      ==  the first of 10 to 15 that applies to what v surveys, with its place; r where none does
--   judged_then s r          ==  the first of 1 to 9, 17 and 10 to 15 that applies to the configuration s; r where none does
--   room_judged v room r     ==  the refusal 16, for a sheet of room bytes; r where it does not apply
--   verdict_of s room        ==  the refusal of a configuration s with a sheet of room bytes lent; 0 and 0 for none
--   clusters_at s v          ==  the cluster of each entity of what v surveys, by index
--   finding_with s v cs      ==  what is found where nothing is refused, with the clusters cs
--   count_judged s v cs r    ==  the refusal 15; r where it does not apply
--   table_judged, survey_finding  ==  what is found of a survey, or the refusal: behind the rules 1 to 14, behind the rules 1 to 9
--   found_in s               ==  what is found where nothing is refused
--   finding_of s             ==  what is found by the rules 1 to 15, or the refusal
--   refused_reading r        ==  the answer where r is refused: interface number 0, zero counts and an empty table
--   taken_reading s v        ==  the answer where nothing is refused: the AudioControl number, the counts and the table
--   reading_of s room        ==  the reader's answer
--   sheet_of s d             ==  what the lent bytes d hold afterwards
use Rattle.std.specs.Prelude.{ℕ, List, length, eqb, Result}
use Rattle.ground.specs.declared.Refusal.{Refusal}
use Rattle.ground.specs.Pick.{pick}
use Rattle.ground.specs.Refuse.{none, refuse, kept_at}
use Rattle.ground.specs.Told.{told}
use Rattle.layout.specs.declared.Cluster.{Cluster}
use Rattle.cutting.specs.declared.Survey.{Survey}
use Rattle.cutting.specs.Survey.{survey_of, verdict_then}
use Rattle.connections.specs.Judgement.{judged, clusters_for}
use Rattle.terminals.specs.Terminals.{terminals_of}
use Rattle.streaming.specs.Tests.{breach14}
use Rattle.controls.specs.Controls.{controls_of_run, breach15}
use Rattle.controls.specs.Growth.{table_of}
use Rattle.records.specs.Records.{room_for, shown_in}
use Rattle.table.specs.declared.Table.{Table}
use Rattle.table.specs.Controls.{empty_table}
use Rattle.topology.specs.declared.Finding.{Finding}
use Rattle.topology.specs.declared.Reading.{Reading}

abbrev pub table_for : List ℕ → Survey → List Cluster → Table
table_for s v cs = table_of (controls_of_run s v.run cs)

abbrev pub clusters_at : List ℕ → Survey → List Cluster
clusters_at s v = clusters_for s v.run

unfoldable pub rest_judged : List ℕ → Survey → List Cluster → Refusal → Refusal
rest_judged s v cs r = refuse 14 (breach14 (terminals_of s v.run cs) s) (refuse 15 (breach15 (table_for s v cs).count v.header) r)

unfoldable pub survey_judged : List ℕ → Survey → Refusal → Refusal
survey_judged s v r = judged s v.run (rest_judged s v (clusters_at s v) r)

unfoldable pub judged_then : List ℕ → Refusal → Refusal
judged_then s r = verdict_then s (survey_judged s (survey_of s) r)

unfoldable pub room_judged : Survey → ℕ → Refusal → Refusal
room_judged v room r = refuse 16 (kept_at (room_for v.run room) v.header) r

unfoldable pub verdict_of : List ℕ → ℕ → Refusal
verdict_of s room = judged_then s (room_judged (survey_of s) room none)

unfoldable pub finding_with : List ℕ → Survey → List Cluster → Finding
finding_with s v cs = record { control = v.control; header = v.header; run = v.run; clusters = cs; table = table_for s v cs }

abbrev pub count_judged : List ℕ → Survey → List Cluster → Refusal → Refusal
count_judged s v cs r = refuse 15 (breach15 (table_for s v cs).count v.header) r

unfoldable pub table_judged : List ℕ → Survey → List Cluster → Result Finding Refusal
table_judged s v cs = told (count_judged s v cs none) (finding_with s v cs)

unfoldable pub survey_finding : List ℕ → Survey → Result Finding Refusal
survey_finding s v = told (survey_judged s v none) (finding_with s v (clusters_at s v))

abbrev pub found_in : List ℕ → Finding
found_in s = finding_with s (survey_of s) (clusters_at s (survey_of s))

unfoldable pub finding_of : List ℕ → Result Finding Refusal
finding_of s = told (judged_then s none) (found_in s)

unfoldable pub refused_reading : Refusal → Reading
refused_reading r = record { number = r.number; place = r.place; control = 0; entities = 0; controls = 0; table = empty_table }

unfoldable pub taken_reading : List ℕ → Survey → Reading
taken_reading s v = record {
  number = 0;
  place = 0;
  control = v.control;
  entities = v.run.count;
  controls = (table_for s v (clusters_at s v)).count;
  table = table_for s v (clusters_at s v);
}

unfoldable pub reading_of : List ℕ → ℕ → Reading
reading_of s room = pick (eqb (verdict_of s room).number 0) (taken_reading s (survey_of s)) (refused_reading (verdict_of s room))

unfoldable pub sheet_of : List ℕ → List ℕ → List ℕ
sheet_of s d = pick (eqb (verdict_of s (length d)).number 0) (shown_in s (survey_of s).run (clusters_at s (survey_of s)) d) d
