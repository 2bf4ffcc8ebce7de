-- Laws of what the reader computes of rule 13.
--   breach13_same    ==  clusters that agree on every ID are checked alike
use Rattle.std.specs.Prelude.{ℕ, ◌≡◌, List, length, Some, None}
use Rattle.std.proofs.Math.Path.{ap}
use Rattle.std.proofs.Math.Bool.{not}
use Rattle.ground.specs.Places.{first_same}
use Rattle.layout.specs.declared.Cluster.{Cluster}
use Rattle.layout.specs.Layout.{entity_of}
use Rattle.entities.specs.declared.Run.{Run}
use Rattle.entities.specs.Run.{held, place_at, sources_at, descriptor_at}
use Rattle.keeping.specs.Keeping.{keeps_by}
use Rattle.keeping.specs.KeepingLaws.{keeps_same}
use Rattle.clusters.specs.Breach.{breach13}

module _ (run : Run) (f g : ℕ → Cluster) (same : (x : ℕ) → f x ≡ g x) where
  pub breach13_same : (s : List ℕ) → breach13 s run f ≡ breach13 s run g
  unfolding breach13 keeps_by
  breach13_same s =
      first_same _ _ (λ i. Some (place_at run i)) None (held run)
      (λ i l. ap not (keeps_same f g (λ x. ap (λ (c : Cluster). c.channels) (same x)) (λ x. ap (λ (c : Cluster). c.locations) (same x)) (entity_of (descriptor_at s run i)) (length (descriptor_at s run i)) (sources_at s run i)))
