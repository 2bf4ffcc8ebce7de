-- What the survey holds where the rules 1 to 9 are kept: the control's number, the header's place and the entities are those of the
-- cutting, the header and the run that keep them.
--   entities_of k   ==  the entities of the run, as the reader hands them on
--   survey_with, kept_survey k  ==  a survey; the one of that control, header and run
--   survey_kept    ==  the survey is that control's number, that header's place and those entities
--   run_stands     ==  from that place on the configuration's bytes are those of the run, then those of the descriptors behind it
--   run_cut        ==  each of the run is one of the cutting's descriptors
--   represented    ==  so the entities that the reader hands on stand for the run's descriptors
use Prim.Native.Nat.{ℕ, ◌+◌}
use mathlib.Core.Path.{◌≡◌, ap, ◌∙◌}
use mathlib.Core.List.{List, ◌++◌, flatten, Memᴰ}
use lib.ListN.{drop}
use native.Mathlib.Omega.{arith}
use borrow.Author.Tests.{eq-eqb}
use Rattle.ground.specs.declared.Refusal.{Refusal}
use Rattle.ground.specs.Pick.{yes}
use Rattle.ground.specs.Numbers.{byte}
use Rattle.ground.specs.Refuse.{none}
use Rattle.scan.specs.Cutting.{Descriptor}
use Rattle.entities.specs.declared.Run.{Run}
use Rattle.edition.specs.Audio.{audio}
use Rattle.entities.specs.Run.{run_in}
use Rattle.entities.specs.Represents.{Represents}
use Rattle.entities.proofs.RepresentsLemmas.{run_represents}
use Rattle.groups.specs.Reading.{frame_of}
use Rattle.cutting.specs.declared.Survey.{Survey}
use Rattle.cutting.specs.Rules1to9.{header_place, Kept}
use Rattle.cutting.specs.Survey.{run_found, surveyed, survey_of}
use Rattle.cutting.specs.Context.{control_byte, header_place_lem, run_place, run_is}
use Rattle.cutting.specs.Context as context
use Rattle.cutting.proofs.ExactLemmas.{verdict_kept}
use Rattle.reader.specs.Configuration.{place_of_run}

abbrev pub entities_of : {s : List ℕ} → Kept s → Run
entities_of k = run_in audio (place_of_run k) k.rule6.run

abbrev pub survey_with : ℕ → ℕ → ℕ → List (List ℕ) → Survey
survey_with control header place ds = record { control = control; header = header; run = run_in audio place ds }

abbrev pub kept_survey : {s : List ℕ} → Kept s → Survey
kept_survey k = survey_with (byte k.opened.control 2) (header_place k.opened) (place_of_run k) k.rule6.run

module _ (s : List ℕ) (k : Kept s) where
  surveyed_kept : surveyed s (frame_of s) ≡ kept_survey k
  unfolding surveyed
  surveyed_kept =
      ap (λ (c : ℕ). survey_with c (frame_of s).header (frame_of s).run (run_found s (frame_of s))) (control_byte s k.opened 2 (omega arith))
      ∙ ap (λ (h : ℕ). survey_with (byte k.opened.control 2) h (frame_of s).run (run_found s (frame_of s))) (header_place_lem s k.opened)
      ∙ ap (λ (p : ℕ). survey_with (byte k.opened.control 2) (header_place k.opened) p (run_found s (frame_of s))) (run_place s k.opened k.rule5)
      ∙ ap (survey_with (byte k.opened.control 2) (header_place k.opened) (place_of_run k)) (run_is s k.opened k.rule5 k.rule6)

  pub survey_kept : survey_of s ≡ kept_survey k
  unfolding survey_of
  survey_kept = yes _ _ (eq-eqb _ _ (ap (λ (r : Refusal). r.number) ((verdict_kept s).1 k))) ∙ surveyed_kept

  abbrev pub behind : List (List ℕ)
  behind = k.rule6.later ++ k.rule6.after

  pub run_stands : drop (place_of_run k) s ≡ flatten k.rule6.run ++ flatten behind
  run_stands = context.run_stands s k.opened k.rule5 k.rule6

  pub run_cut : (d : List ℕ) → Memᴰ d k.rule6.run → Descriptor d
  run_cut = context.run_cut s k.opened k.rule5 k.rule6

  pub represented : Represents audio s (place_of_run k) k.rule6.run (entities_of k)
  represented = run_represents audio s (place_of_run k) k.rule6.run (flatten behind) run_stands run_cut k.rule9 k.rule8.1
