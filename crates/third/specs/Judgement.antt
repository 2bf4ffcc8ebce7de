-- The rules of the 3.0 edition in their order: "the lowest number that applies is given" reads 1 to 6, 8, 51, 9, 10, 11, 12, 52, 13, 16 (document 02, No. 12).
--   run_for s f           ==  the run of the configuration s, where its frame is f; it does not hang on the cluster descriptors (run3, `run-any`), so none are given
--   unlaid before d      ==  the test that d has none of the layouts
--   run_refused s b from count header r  ==  the first of 8, 51 and 9 of the descriptors from place from on, count of them, the header at header; r where none applies
--   run_judged s b f r    ==  the same of the configuration's run
--   clusters_judged s b run r  ==  the first of 52 and 13 that applies; r where neither does
--   links_judged s b run r  ==  the first of 10, 11, 12, 52 and 13 that applies; r where none does
--   frame_judged s b f r  ==  the first of all behind 6 that applies; r where none does
--   third_then s b r      ==  the first of all but 16 that applies to the configuration s with the cluster buffer b; r where none does
--   room_refused s room r  ==  the refusal 16, for a sheet of room bytes; r where it does not apply
--   third_verdict s b room  ==  the refusal with a sheet of room bytes lent; 0 and 0 for none
--   clusters_shown s b run  ==  what the sheet shows of the cluster of each entity, by index
--   all_found s b h run   ==  what is found where nothing is refused
--   clustered_in s b h run, linked_in s b h run, framed_in s b f  ==  what is found behind the rules 1 to 12, behind 1 to 9, behind 1 to 6, or
--                           the refusal
--   found_in s b          ==  all that is found of the configuration s with the cluster buffer b
--   third_finding s b     ==  what is found by all rules but 16, or the refusal
--   sheet_refused r, sheet_taken s  ==  the answer where r is refused; where nothing is: how many entities there are
--   third_answer s b room ==  the answer
--   third_sheet s b d     ==  what the lent bytes d hold afterwards
use Rattle.std.specs.Prelude.{ℕ, Bool, List, [], eqb, length, take, Result}
use Rattle.ground.specs.declared.Refusal.{Refusal}
use Rattle.ground.specs.Pick.{pick, within}
use Rattle.ground.specs.Refuse.{none, refuse, kept_at}
use Rattle.ground.specs.Told.{told}
use Rattle.scan.specs.Cutting.{rest}
use Rattle.scan.specs.Search.{searched}
use Rattle.layout.specs.declared.Cluster.{Cluster}
use Rattle.layout3.specs.Layout.{entity_of, is_unknown}
use Rattle.buffer.specs.Reading.{breach51}
use Rattle.edition3.specs.Third.{third}
use Rattle.entities.specs.declared.Run.{Run}
use Rattle.entities.specs.Run.{most_entities, run_in}
use Rattle.ids.specs.Breach.{breach10}
use Rattle.ranks.specs.Order.{ordered}
use Rattle.ranks.specs.Breach.{breach12}
use Rattle.links3.specs.Links.{breach11_third, breach52}
use Rattle.sweep3.specs.Sweep.{given_ids}
use Rattle.keeping3.specs.Keeping.{breach13}
use Rattle.clusters3.specs.Shown.{clusters_by}
use Rattle.clusters3.specs.Given.{given_clusters}
use Rattle.groups.specs.declared.Frame.{Frame}
use Rattle.groups.specs.Reading.{frame_of}
use Rattle.groups.specs.Third.{third_judged}
use Rattle.records.specs.Records.{room_for, shown_in}
use Rattle.third.specs.declared.Finding.{Finding}
use Rattle.third.specs.declared.SheetAnswer.{SheetAnswer}

unfoldable pub run_for : List ℕ → Frame → Run
run_for s f = run_in (third []) f.run (rest (take f.end s) f.run)

abbrev pub unlaid : List (List ℕ) → List ℕ → Bool
unlaid before d = is_unknown (entity_of d)

abbrev pub run_refused : List ℕ → List ℕ → ℕ → ℕ → ℕ → Refusal → Refusal
run_refused s b from count header r = refuse 8 (kept_at (within 1 count most_entities) header) (refuse 51 (breach51 b) (refuse 9 (searched unlaid s from) r))

unfoldable pub run_judged : List ℕ → List ℕ → Frame → Refusal → Refusal
run_judged s b f r = run_refused (take f.end s) b f.run (length (rest (take f.end s) f.run)) f.header r

unfoldable pub clusters_judged : List ℕ → List ℕ → Run → Refusal → Refusal
clusters_judged s b run r = refuse 52 (breach52 s b run) (refuse 13 (breach13 s b run (given_clusters b s run)) r)

unfoldable pub links_judged : List ℕ → List ℕ → Run → Refusal → Refusal
links_judged s b run r =
    refuse 10 (breach10 run) (refuse 11 (breach11_third s run) (refuse 12 (breach12 run (ordered s run)) (clusters_judged s b run r)))

unfoldable pub frame_judged : List ℕ → List ℕ → Frame → Refusal → Refusal
frame_judged s b f r = run_judged s b f (links_judged s b (run_for s f) r)

unfoldable pub third_then : List ℕ → List ℕ → Refusal → Refusal
third_then s b r = third_judged s (frame_judged s b (frame_of s) r)

unfoldable pub room_refused : List ℕ → ℕ → Refusal → Refusal
room_refused s room r = refuse 16 (kept_at (room_for (run_for s (frame_of s)) room) (frame_of s).header) r

unfoldable pub third_verdict : List ℕ → List ℕ → ℕ → Refusal
third_verdict s b room = third_then s b (room_refused s room none)

abbrev pub clusters_shown : List ℕ → List ℕ → Run → List Cluster
clusters_shown s b run = clusters_by b run (given_ids s (ordered s run))

abbrev pub all_found : List ℕ → List ℕ → ℕ → Run → Finding
all_found s b header run = record { header = header; run = run; clusters = clusters_shown s b run }

unfoldable pub clustered_in : List ℕ → List ℕ → ℕ → Run → Result Finding Refusal
clustered_in s b header run = told (clusters_judged s b run none) (all_found s b header run)

unfoldable pub linked_in : List ℕ → List ℕ → ℕ → Run → Result Finding Refusal
linked_in s b header run = told (links_judged s b run none) (all_found s b header run)

unfoldable pub framed_in : List ℕ → List ℕ → Frame → Result Finding Refusal
framed_in s b f = told (frame_judged s b f none) (all_found s b f.header (run_for s f))

abbrev pub found_in : List ℕ → List ℕ → Finding
found_in s b = all_found s b (frame_of s).header (run_for s (frame_of s))

unfoldable pub third_finding : List ℕ → List ℕ → Result Finding Refusal
third_finding s b = told (third_then s b none) (found_in s b)

unfoldable pub sheet_refused : Refusal → SheetAnswer
sheet_refused r = record { number = r.number; place = r.place; entities = 0 }

abbrev pub sheet_taken : List ℕ → SheetAnswer
sheet_taken s = record { number = 0; place = 0; entities = (run_for s (frame_of s)).count }

unfoldable pub third_answer : List ℕ → List ℕ → ℕ → SheetAnswer
third_answer s b room = pick (eqb (third_verdict s b room).number 0) (sheet_taken s) (sheet_refused (third_verdict s b room))

unfoldable pub third_sheet : List ℕ → List ℕ → List ℕ → List ℕ
third_sheet s b d =
    pick (eqb (third_verdict s b (length d)).number 0) (shown_in s (run_for s (frame_of s)) (clusters_shown s b (run_for s (frame_of s))) d) d
