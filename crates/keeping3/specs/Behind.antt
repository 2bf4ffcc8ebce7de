-- The clusters that stand on entities' IDs, as the code has them together.
--   cluster_on k x  ==  the cluster on the entity ID x, where k holds a buffer and what was given out
use Rattle.std.specs.Prelude.{ℕ, List}
use Rattle.keeping3.specs.Keeping.{cluster_behind}
use Rattle.keeping3.specs.declared.Behind.{Behind}

abbrev pub cluster_on : Behind → ℕ → List ℕ
cluster_on k = cluster_behind k.clusters.now k.given.now
