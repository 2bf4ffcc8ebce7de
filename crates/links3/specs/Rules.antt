-- Rule 11 of the 3.0 edition (document 02, No. 12), said of the run's descriptors ds: "A Terminal's clock ID names a Clock Source, which is no source for a
-- pin; rule 11 covers both". ks are the cluster descriptors of the buffer.
--   WrongLinks ks ds d ==  a source ID of d is wrong, as in every edition, or d is a Terminal whose clock ID is no Clock Source's
--   Rule11Third ks ds  ==  of no descriptor of the run is it so
--   ClocksNamed ds     ==  no descriptor of the run is a Terminal whose clock ID is no Clock Source's
--   rule11_third_parts ==  rule 11 is every edition's rule 11, and that the clocks are named
use Rattle.std.specs.Prelude.{ℕ, ◌⊎◌, ◌↔◌, List}
use Rattle.std.proofs.Common.{inl, inr, ⊎_elim}
use Rattle.graph.specs.Members.{◌∈◌}
use Rattle.edition3.specs.Third.{third, WrongClock}
use Rattle.sources.specs.Rule11.{WrongSources, Rule11}

abbrev pub ClocksNamed : List (List ℕ) → Type 0
ClocksNamed ds = (d : List ℕ) → d ∈ ds → WrongClock ds d → ⊥

module _ (ks ds : List (List ℕ)) where
  abbrev pub WrongLinks : List ℕ → Type 0
  WrongLinks d = WrongSources (third ks) ds d ⊎ WrongClock ds d

  abbrev pub Rule11Third : Type 0
  Rule11Third = (d : List ℕ) → d ∈ ds → WrongLinks d → ⊥

  pub rule11_third_parts : Rule11Third ↔ (Rule11 (third ks) ds × ClocksNamed ds)
  rule11_third_parts = (λ h. (λ d m w. h d m (inl w), λ d m w. h d m (inr w)), λ h d m. ⊎_elim (h.0 d m) (h.1 d m))
