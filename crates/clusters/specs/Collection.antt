-- "Order carries no meaning: a source may stand after its user" (document 01). The rules 11 to 13, for any edition, ask for membership in the run and
-- never for a place: a run with the same descriptors is connected by the same ranks and the same clusters.
--   SameMembers ds es  ==  the descriptors of ds are those of es
--   wrong_source_members, rule11_members  ==  rule 11 is the same for both
use Rattle.std.specs.Prelude.{ℕ, List, ◌↔◌}
use Rattle.graph.specs.Members.{◌∈◌}
use Rattle.edition.specs.Edition.{Edition}
use Rattle.sources.specs.Rule11.{WrongSource, zero_source, unknown, no_output, Rule11}

abbrev pub SameMembers : List (List ℕ) → List (List ℕ) → Type 0
SameMembers ds es = (d : List ℕ) → d ∈ ds ↔ d ∈ es

module _ {ed : Edition} {ds es : List (List ℕ)} (same : SameMembers ds es) where
  pub wrong_source_members : (x : ℕ) → WrongSource ed es x → WrongSource ed ds x
  wrong_source_members x (zero_source e) = zero_source e
  wrong_source_members x (unknown n) = unknown (λ d m. n d ((same d).0 m))
  wrong_source_members x (no_output d m e f) = no_output d ((same d).1 m) e f

  pub rule11_members : Rule11 ed ds → Rule11 ed es
  rule11_members r d m w = r d ((same d).1 m) (record { one = w.one; among = w.among; has = wrong_source_members w.one w.has })
