-- Document 01, refusal 10: "ID zero or borne by an earlier entity". It speaks of the run's descriptors, each a list of bytes, for any edition.
--   WrongId before d    ==  the ID of d, which stands behind the descriptors before, is zero or borne by one of those
--   Rule10 ds           ==  of no descriptor of the run ds is it so
use Rattle.std.specs.Prelude.{ℕ, ◌≡◌, ◌⊎◌, List}
use Rattle.ground.specs.Lists.{SomeOf}
use Rattle.ground.specs.First.{Sound}
use Rattle.edition.specs.Edition.{own_id}

abbrev pub WrongId : List (List ℕ) → List ℕ → Type 0
WrongId before d = (own_id d ≡ 0) ⊎ SomeOf (λ e. own_id e ≡ own_id d) before

abbrev pub Rule10 : List (List ℕ) → Type 0
Rule10 ds = Sound WrongId ds
