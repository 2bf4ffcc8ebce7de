-- Demand 3, proved.
--   room_enough  ==  1,024 bytes hold the records of every configuration
use Prim.Native.Nat.{ℕ, ◌≤◌}
use mathlib.Core.Path.{◌≡◌, sym, ◌∙◌}
use mathlib.Core.List.{List}
use mathlib.Core.Logic.{◌↔◌}
use lib.ListN.{length}
use native.Mathlib.Omega.{arith}
use Rattle.topology.specs.Reading.{reading_of}
use Rattle.records.specs.Sheet.{Rule16, whole_sheet}
use Rattle.reader.specs.Configuration.{run_of, Configuration}
use Rattle.reader.specs.Plainly.{PlainConfiguration}
use Rattle.reader.proofs.Exactly.{accepted_exactly}
use Rattle.reader.proofs.Shows.{number_told, one_cutting, one_descriptors, one_clusters, answer_shows, sheet_shows, record_shows, record_bytes, controls_stand, controls_order, controls_counted}
use Rattle.reader.proofs.Plainly.{source_ids, laid_plainly, sources_plainly, rule13_plainly, broken_plainly, run_plainly, plain_configuration, configuration_plain, one_plainly}
use Rattle.demands.specs.Demand3.{Demand3}

pub room_enough : (s : List ℕ) (room : ℕ) → whole_sheet ≤ room → (t : Configuration s) → Rule16 (run_of t.kept) room
room_enough s room h t = let l = t.kept.rule8.1 in omega arith

-- THE THEOREM
accepted : (s d : List ℕ) → whole_sheet ≤ length d → ((reading_of s (length d)).number ≡ 0) ↔ Configuration s
accepted s d h = (
  λ e. ((accepted_exactly s (length d)).0 (sym (number_told s (length d)) ∙ e)).0,
  λ t. number_told s (length d) ∙ (accepted_exactly s (length d)).1 (t, room_enough s (length d) h t),
)

accepted_plainly : (s d : List ℕ) → whole_sheet ≤ length d → ((reading_of s (length d)).number ≡ 0) ↔ PlainConfiguration s
accepted_plainly s d h = let a = accepted s d h in (λ e. plain_configuration (a.0 e), λ p. a.1 (configuration_plain p))

pub demand_3 : (s : List ℕ) → Demand3 s
demand_3 s = record {
  accepted = accepted s;
  accepted_plainly = accepted_plainly s;
  one_cutting = one_cutting s;
  one_descriptors = one_descriptors s;
  one_clusters = one_clusters s;
  one_plainly = one_plainly;
  plainly = run_plainly;
  laid_plainly = laid_plainly;
  source_ids = λ k d m x. source_ids d x (k.rule9 d m);
  sources_plainly = λ k. sources_plainly (run_of k) k.rule9;
  rule13_plainly = λ k. rule13_plainly (run_of k) k.rule9;
  broken_plainly = λ k. broken_plainly (run_of k) k.rule9;
  answer_shows = answer_shows s;
  sheet_shows = sheet_shows s;
  record_shows = record_shows s;
  record_bytes = record_bytes s;
  controls_stand = controls_stand s;
  controls_order = controls_order s;
  controls_counted = controls_counted s;
}
