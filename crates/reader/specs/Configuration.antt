-- Demand 3, what there must be: "there exist a cutting into descriptors, a rank on each entity, lower at a source than at its user, and a
-- channel cluster on each entity's output, that keep every rule of document 01, written without the reader's search."
--   Connected audio ds  ==  (clusters/specs/Rule13) the rules 10 to 13: right IDs and sources, a rank on each entity, lower at a source
--                           than at its user, and a cluster on each entity's output, given out by the rules, that keep every rule
--   run_of k             ==  the descriptors of the run, in a configuration that keeps the rules 1 to 9
--   place_of_run k        ==  where the run begins: behind the header
--   Streams k c, FewControls k c  ==  the rules 14 and 15, with the clusters c on IDs
--   Configuration s     ==  the bytes s are a configuration: a cutting that keeps the rules 1 to 9, and entities that are connected,
--                           with the rules 14 and 15
use Rattle.std.specs.Prelude.{ℕ, ◌+◌, List, length}
use Rattle.layout.specs.declared.Cluster.{Cluster}
use Rattle.edition.specs.Audio.{audio}
use Rattle.cutting.specs.Rules1to9.{header_place, Kept}
use Rattle.clusters.specs.Rule13.{Connected}
use Rattle.streaming.specs.Rule14.{Rule14}
use Rattle.controls.specs.Rule15.{Rule15}

abbrev pub run_of : {s : List ℕ} → Kept s → List (List ℕ)
run_of k = k.rule6.run

abbrev pub place_of_run : {s : List ℕ} → Kept s → ℕ
place_of_run k = header_place k.opened + length k.rule5.header

abbrev pub Streams : {s : List ℕ} → Kept s → (ℕ → Cluster) → Type 0
Streams k cluster = Rule14 (run_of k) cluster k.opened.descriptors

abbrev pub FewControls : {s : List ℕ} → Kept s → (ℕ → Cluster) → Type 0
FewControls k cluster = Rule15 (run_of k) cluster

pub record Configuration (s : List ℕ) : Type 0 where
  pub kept : Kept s
  pub connected : Connected audio (run_of kept)
  pub rule14 : Streams kept connected.cluster
  pub rule15 : FewControls kept connected.cluster
