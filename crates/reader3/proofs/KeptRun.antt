-- What the reader of the 3.0 edition works with where its rules up to 9 are kept: the run is that of the cutting, and stands for its descriptors.
--   entities_third k  ==  the entities of the run, as the reader hands them on
--   run_kept         ==  the reader's run is those entities
--   represented      ==  they stand for the run's descriptors
use Prim.Native.Nat.{ℕ}
use mathlib.Core.Path.{◌≡◌, ap, ◌∙◌}
use mathlib.Core.List.{List, [], ◌++◌, flatten}
use lib.ListN.{take}
use Rattle.scan.specs.Cutting.{rest}
use Rattle.edition3.specs.Third.{third}
use Rattle.entities.specs.declared.Run.{Run}
use Rattle.entities.specs.Run.{run_in}
use Rattle.entities.specs.Represents.{Represents}
use Rattle.entities.proofs.RepresentsLemmas.{run_represents}
use Rattle.run3.specs.AnyBuffer.{run_any}
use Rattle.groups.specs.Reading.{frame_of}
use Rattle.cutting.specs.Survey.{run_found}
use Rattle.cutting.specs.Context.{run_place, run_is, run_stands, run_cut}
use Rattle.third.specs.Judgement.{run_for}
use Rattle.reader3.specs.ThirdConfiguration.{KeptThird, run_in3, place_in3, clusters_in}

abbrev pub entities_third : {s b : List ℕ} → KeptThird s b → Run
entities_third k = run_in (third []) (place_in3 k) (run_in3 k)

module _ (s b : List ℕ) (k : KeptThird s b) where
  pub run_kept : run_for s (frame_of s) ≡ entities_third k
  unfolding run_for run_found
  run_kept =
      ap (λ (p : ℕ). run_in (third []) p (rest (take (frame_of s).end s) (frame_of s).run)) (run_place s k.opened k.rule5)
      ∙ ap (run_in (third []) (place_in3 k)) (run_is s k.opened k.rule5 k.rule6)

  pub represented : Represents (third (clusters_in k)) s (place_in3 k) (run_in3 k) (entities_third k)
  represented =
      rw (← (run_any (clusters_in k) (place_in3 k) (run_in3 k)))
      (run_represents (third (clusters_in k)) s (place_in3 k) (run_in3 k) (flatten (k.rule6.later ++ k.rule6.after))
      (run_stands s k.opened k.rule5 k.rule6) (run_cut s k.opened k.rule5 k.rule6) k.rule9 k.rule8.1)
