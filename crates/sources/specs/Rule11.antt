-- Document 01, refusal 11: "a source ID is 0, unknown, or an Output Terminal's". It speaks of the run's descriptors, each a list of bytes, for
-- any edition.
--   WrongSource ed ds x ==  a source ID x is 0, unknown in the run ds, or borne there by an entity with no output (an Output Terminal; in the 3.0
--                           edition a Clock Source too)
--   WrongSources ed ds d  ==  a source ID of d is such
--   Rule11 ed ds        ==  of no descriptor of the run is it so
use Rattle.std.specs.Prelude.{ℕ, ◌≡◌, false, List}
use Rattle.ground.specs.Lists.{SomeOf}
use Rattle.graph.specs.Members.{◌∈◌}
use Rattle.edition.specs.Edition.{Edition, own_id, sources}

pub data WrongSource (ed : Edition) (ds : List (List ℕ)) (x : ℕ) : Type 0 where
  zero_source : x ≡ 0 → WrongSource ed ds x
  unknown : ((d : List ℕ) → d ∈ ds → own_id d ≡ x → ⊥) → WrongSource ed ds x
  no_output : (d : List ℕ) → d ∈ ds → own_id d ≡ x → ed.feeds d ≡ false → WrongSource ed ds x

abbrev pub WrongSources : Edition → List (List ℕ) → List ℕ → Type 0
WrongSources ed ds d = SomeOf (WrongSource ed ds) (sources ed d)

abbrev pub Rule11 : Edition → List (List ℕ) → Type 0
Rule11 ed ds = (d : List ℕ) → d ∈ ds → WrongSources ed ds d → ⊥
