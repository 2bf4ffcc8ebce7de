-- Demand 3 for the 3.0 edition, what there must be (document 02, No. 12: "For this edition demand 3 reads these rules, those of the cluster buffer among them,
-- and its cutting covers that buffer too"). "Rules 7, 14, 15 and 17 are not applied." Nothing here searches but `cluster_in`, by which
-- `third` finds the descriptor of a cluster that an entity names; PlainConfiguration says the same without it, and the two are one (ThirdDemand, accepted-plainly).
--   KeptThird s b       ==  the rules 1 to 4, which are every edition's; the header, the run and the next group by this edition's rules 5 and 6; 8; the cutting
--                           of the cluster buffer b, rule 51; and 9, by this edition's layouts
--   run_in3 k, place_in3 k, clusters_in k  ==  the run's descriptors, where the run begins, and the cluster descriptors of the buffer
--   ThirdConfiguration s b  ==  besides, the entities are connected by this edition: right IDs and sources, a rank on each entity, lower at a source than at
--                           its user, and a cluster on each entity's output, given out by the rules, that keep every rule; each Terminal's clock ID
--                           names a Clock Source; and every cluster ID is known
use Rattle.std.specs.Prelude.{ℕ, ◌+◌, List, length}
use Rattle.buffer.specs.Clusters.{Buffer}
use Rattle.edition3.specs.Third.{third, Rule52}
use Rattle.groups.specs.Rules5and6.{Rule5By, Rule6By}
use Rattle.groups.specs.Third.{third_form}
use Rattle.cutting.specs.Rules1to9.{Rule8, Rule9, Opened, header_place}
use Rattle.links3.specs.Rules.{ClocksNamed}
use Rattle.clusters.specs.Rule13.{Connected}

pub record KeptThird (s b : List ℕ) : Type 0 where
  pub opened : Opened s
  pub rule5 : Rule5By third_form opened.tail
  pub rule6 : Rule6By third_form rule5.header rule5.others
  pub rule8 : Rule8 rule6.run
  pub rule51 : Buffer b
  pub rule9 : Rule9 (third rule51.pieces) rule6.run

module _ {s b : List ℕ} (k : KeptThird s b) where
  abbrev pub run_in3 : List (List ℕ)
  run_in3 = k.rule6.run

  abbrev pub place_in3 : ℕ
  place_in3 = header_place k.opened + length k.rule5.header

  abbrev pub clusters_in : List (List ℕ)
  clusters_in = k.rule51.pieces

pub record ThirdConfiguration (s b : List ℕ) : Type 0 where
  pub kept : KeptThird s b
  pub connected : Connected (third (clusters_in kept)) (run_in3 kept)
  pub clocks : ClocksNamed (run_in3 kept)
  pub rule52 : Rule52 (clusters_in kept) (run_in3 kept)
