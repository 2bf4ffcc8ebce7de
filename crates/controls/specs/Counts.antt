-- How many controls there may be, so that counting them cannot wrap.
--   entity_few  ==  ten at most for each channel of an entity, and ten for master
use Rattle.std.specs.Prelude.{ℕ, ◌+◌, ◌*◌, ◌≤◌, List, length}
use Rattle.std.proofs.Common.{arith}
use Rattle.layout.specs.declared.Entity.{Entity}
use Rattle.layout.specs.declared.Entity.TheVariants.{Unknown, Input, Output, Mixer, Selector, Feature}
use Rattle.masks.specs.Counts.{feature_few}
use Rattle.controls.specs.Controls.{entity_controls}

pub entity_few : (e : Entity) (d : List ℕ) (c : ℕ) → length (entity_controls e d c) ≤ 10 * (c + 1)
unfolding entity_controls
entity_few Unknown d c = omega arith
entity_few (Input i t own) d c = omega arith
entity_few (Output i t s) d c = omega arith
entity_few (Mixer i p own) d c = omega arith
entity_few (Selector i p) d c = omega arith
entity_few (Feature i s n) d c = feature_few i n c d
