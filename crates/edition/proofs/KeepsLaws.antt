-- The test that the reader computes reads the rule of each kind of entity.
use Rattle.std.specs.Prelude.{ℕ, List}
use Rattle.ground.specs.Pick.{Reads, reads_and}
use Rattle.layout.specs.declared.Cluster.{Cluster}
use Rattle.layout.specs.declared.Entity.{Entity}
use Rattle.pins.specs.Same.{reads_all_same}
use Rattle.edition.specs.Audio.{Alike, Keeps, alike, keeps, channels_each, locations_each, reads_kept}

reads_alike : (cs : List Cluster) → Reads (alike cs) (Alike cs)
unfolding alike
reads_alike cs = reads_and _ _ (reads_all_same (channels_each cs)) (reads_all_same (locations_each cs))

pub reads_keeps : (e : Entity) (l : ℕ) (cs : List Cluster) → Reads (keeps e l cs) (Keeps e l cs)
unfolding alike
reads_keeps e l cs = reads_kept reads_alike e l cs
