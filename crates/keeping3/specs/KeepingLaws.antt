-- Laws of what the reader computes of rule 13 in the 3.0 edition.
--   breach13_same    ==  clusters that agree on every ID are checked alike
use Rattle.std.specs.Prelude.{ℕ, ◌≡◌, not, List, length, Some, None}
use Rattle.std.proofs.Common.{ap}
use Rattle.ground.specs.Places.{first_same}
use Rattle.graph.specs.Members.{map_same}
use Rattle.layout3.specs.Layout.{entity_of}
use Rattle.buffer.specs.Reading.{pieces}
use Rattle.edition3.specs.Third.{keeps}
use Rattle.entities.specs.declared.Run.{Run}
use Rattle.entities.specs.Run.{held, place_at, sources_at, descriptor_at}
use Rattle.keeping3.specs.Keeping.{keeps_by, breach13}

pub breach13_same : (s b : List ℕ) (run : Run) (f g : ℕ → List ℕ) → ((x : ℕ) → f x ≡ g x) → breach13 s b run f ≡ breach13 s b run g
unfolding breach13 keeps_by
breach13_same s b run f g same =
    first_same _ _ (λ i. Some (place_at run i)) None (held run)
    (λ i l. ap (λ (cs : List (List ℕ)). not (keeps (pieces b) (entity_of (descriptor_at s run i)) (length (descriptor_at s run i)) cs)) (map_same f g (sources_at s run i) (λ x m. same x)))
