-- What the reader computes for the rules 8, 9 and 17, the verdict by the rules from 1 on, and the survey that the layer above stands on.
--   run_found s f            ==  the run's descriptors, the entities; f is where the AudioControl group's parts stand
--   breach8, breach9, breach17  ==  where rule 8, 9, 17 is broken first
--   run_judged s f r         ==  the first of 8, 9 and 17 that applies, with its place; r where none does
--   verdict s               ==  the first of 1 to 9 and 17 that applies, with its place; 0 and 0 where none does
--   verdict_then s r         ==  the same, with r where none applies
--   surveyed s f            ==  the survey where nothing is refused: the AudioControl number, the header's place and the entities
--   no_survey               ==  the survey of what is refused: interface number 0 and no entity
--   survey_of s              ==  the survey of s: surveyed, or none where the verdict refuses s
-- In the order of the reader's steps:
--   unlaid_refused s p u     ==  the refusal by rules 9 and 17 of the descriptors from place p on, of which the first that has none of the layouts stands
--                               at u, if any does: only then the two are told apart
--   run_refused s p n u h    ==  the same with rule 8, of n descriptors, the header at h
--   run_survey s f           ==  the survey of a configuration s that keeps the rules 1 to 7, or what 8, 9 and 17 refuse
use Rattle.std.specs.Prelude.{ℕ, ◌+◌, List, [], length, take, eqb, Result, Option, Some, None}
use Rattle.ground.specs.declared.Refusal.{Refusal}
use Rattle.ground.specs.Pick.{pick, within}
use Rattle.ground.specs.Numbers.{byte}
use Rattle.ground.specs.Refuse.{none, refuse, kept_at}
use Rattle.ground.specs.Told.{told}
use Rattle.scan.specs.Cutting.{rest}
use Rattle.scan.specs.Search.{searched}
use Rattle.layout.specs.Withdrawn.{is_printed, is_wrong}
use Rattle.edition.specs.Audio.{audio}
use Rattle.entities.specs.Run.{most_entities, run_in}
use Rattle.groups.specs.declared.Frame.{Frame}
use Rattle.groups.specs.Reading.{frame_of, judged}
use Rattle.cutting.specs.declared.Survey.{Survey}

-- the run is read in the configuration up to its end, so that a search in it stops with the run
unfoldable pub run_found : List ℕ → Frame → List (List ℕ)
run_found s f = rest (take f.end s) f.run

unfoldable pub breach8 : List ℕ → Frame → Option ℕ
breach8 s f = kept_at (within 1 (length (run_found s f)) most_entities) f.header

unfoldable pub breach9 : List ℕ → Frame → Option ℕ
breach9 s f = searched (λ b d. is_wrong d) (take f.end s) f.run

unfoldable pub breach17 : List ℕ → Frame → Option ℕ
breach17 s f = searched (λ b d. is_printed d) (take f.end s) f.run

unfoldable pub run_judged : List ℕ → Frame → Refusal → Refusal
run_judged s f r = refuse 8 (breach8 s f) (refuse 9 (breach9 s f) (refuse 17 (breach17 s f) r))

unfoldable pub verdict_then : List ℕ → Refusal → Refusal
verdict_then s r = judged s (run_judged s (frame_of s) r)

unfoldable pub verdict : List ℕ → Refusal
verdict s = verdict_then s none

unfoldable pub surveyed : List ℕ → Frame → Survey
surveyed s f = record { control = byte s (f.control + 2); header = f.header; run = run_in audio f.run (run_found s f) }

unfoldable pub unlaid_refused : List ℕ → ℕ → Option ℕ → Refusal
unlaid_refused s p None = none
unlaid_refused s p (Some q) = refuse 9 (searched (λ b d. is_wrong d) s p) (refuse 17 (Some q) none)

unfoldable pub run_refused : List ℕ → ℕ → ℕ → Option ℕ → ℕ → Refusal
run_refused s p count unlaid header = refuse 8 (kept_at (within 1 count most_entities) header) (unlaid_refused s p unlaid)

unfoldable pub run_survey : List ℕ → Frame → Result Survey Refusal
run_survey s f = told (run_judged s f none) (surveyed s f)

unfoldable pub no_survey : Survey
no_survey = record { control = 0; header = 0; run = run_in audio 0 [] }

unfoldable pub survey_of : List ℕ → Survey
survey_of s = pick (eqb (verdict s).number 0) (surveyed s (frame_of s)) no_survey
