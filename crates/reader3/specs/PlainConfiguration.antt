-- Demand 3 for the 3.0 edition, what there must be, in plain words: "a cutting into descriptors, a rank on each entity, lower at a source than at its user, and a
-- channel cluster on each entity's output, that keep every rule .., written without the reader's search". Nothing here searches: a cluster that an entity names is
-- one of the buffer's descriptors, and bears the ID.
--   PlainConfiguration s b  ==  the rules 1 to 4, this edition's 5 and 6, 8 and 51; right IDs; right sources; a rank on each entity, lower at a source than at its user;
--                           and a cluster on each entity's output, so that each has its kind's length and fields, gives out and keeps, and has a clock, as its bytes say
use Rattle.std.specs.Prelude.{ℕ, ◌<◌, List}
use Rattle.graph.specs.Members.{◌∈◌}
use Rattle.edition.specs.Edition.{own_id}
use Rattle.buffer.specs.Clusters.{Buffer}
use Rattle.groups.specs.Rules5and6.{Rule5By, Rule6By}
use Rattle.groups.specs.Third.{third_form}
use Rattle.cutting.specs.Rules1to9.{Rule8, Opened}
use Rattle.ids.specs.Rule10.{Rule10}
use Rattle.reader3.specs.Plainly.{EachSource, SourceNamed, Plainly}

pub record PlainConfiguration (s b : List ℕ) : Type 0 where
  pub opened : Opened s
  pub rule5 : Rule5By third_form opened.tail
  pub rule6 : Rule6By third_form rule5.header rule5.others
  pub rule8 : Rule8 rule6.run
  pub rule51 : Buffer b
  pub rule10 : Rule10 rule6.run
  pub rule11 : (d : List ℕ) → d ∈ rule6.run → EachSource (SourceNamed rule6.run) d
  pub rank : ℕ → ℕ
  pub ranked : (d : List ℕ) → d ∈ rule6.run → EachSource (λ x. rank x < rank (own_id d)) d
  pub cluster : ℕ → List ℕ
  pub plainly : (d : List ℕ) → d ∈ rule6.run → Plainly rule51.pieces rule6.run cluster d
