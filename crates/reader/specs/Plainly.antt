-- The rules 9 to 13 of document 01 said of the bytes of each descriptor of the run, kind by kind: "Entities" has kinds, offsets and lengths, "Clusters" what is
-- given out and what is kept; document 02, No. 5, has the Selector's rule, No. 7 the pins up to 24. No layout, no entity and no list of sources that the reader makes
-- of a descriptor stand here.
--   pin_ids d           ==  "p at 4, sources from 5": the p source IDs of a Mixer or a Selector
--   SourceId d x       ==  x is one of the source IDs of d, which stand where its kind has them (SourcesAt)
--   SourceNamed ds x   ==  rule 11 of the source ID x: it is not 0, and it is borne in the run ds, by what is no Output Terminal
--   LaidPlainly d      ==  rule 9: d is one of the five kinds, with that kind's length; a Mixer and a Selector have 1 to 24 pins, a Feature Unit a control size of 1 to 4. A
--                          Mixer's and a Feature Unit's exact lengths are rule 13's; here these have room for their fields
--   Selected cl d      ==  what a Selector gives out: pin 1's c and bitmap; pin 1's name index where no two pins' differ, and "If their name indices differ, the
--                          Selector gives out index 0"
--   GivesPlainly cl d  ==  with the clusters cl on IDs, d gives out what its kind gives out: an Input Terminal its cluster at 7..10, a Mixer its own at 5+p..8+p; a
--                          Feature Unit gives out its source's; an Output Terminal has the entering one
--   KeepsPlainly cl d  ==  .. and d keeps its kind's rule: an Input Terminal's and a Mixer's cluster the rule of a declared one; a Mixer's and a Feature Unit's length is
--                          exact; of a Selector "all pins must have the same c and the same bitmap"
--   Plainly cl d       ==  these three
--   KeptPlainly ds     ==  rule 13: there are clusters, given out so, by which every descriptor of the run ds keeps its rule
--   BrokenPlainly ds d ==  .. as they are given out, d does not keep its rule
--   PlainConfiguration s  ==  the bytes s are a configuration, in these words: a cutting that keeps the rules 1 to 8, "a rank on each entity, lower at a source than
--                          at its user, and a channel cluster on each entity's output, that keep every rule"; rule 9, and so 17, is in Plainly
use Rattle.std.specs.Prelude.{ℕ, ◌+◌, ◌≤◌, ◌<◌, ◌≡◌, List, map, length, take, drop}
use Rattle.ground.specs.Numbers.{byte}
use Rattle.ground.specs.Lists.{SomeOf}
use Rattle.graph.specs.Members.{◌∈◌}
use Rattle.layout.specs.declared.Cluster.{Cluster}
use Rattle.layout.specs.Layout.{Pins, cluster_at}
use Rattle.channels.specs.DeclaredChannels.{ClusterKept}
use Rattle.edition.specs.Edition.{own_id}
use Rattle.edition.specs.Audio.{channels_in, mixer_length, feature_length}
use Rattle.collection.specs.Rule7.{Rule7}
use Rattle.groups.specs.Rules5and6.{Rule5, listed_of, Rule6}
use Rattle.cutting.specs.Rules1to9.{Rule8, Opened}
use Rattle.ids.specs.Rule10.{Rule10}
use Rattle.records.specs.Bytes.{SourcesAt}
use Rattle.streaming.specs.Rule14.{Rule14}
use Rattle.controls.specs.Rule15.{Rule15}

abbrev pub pin_ids : List ℕ → List ℕ
pin_ids d = take (byte d 4) (drop 5 d)

abbrev pub SourceId : List ℕ → ℕ → Type 0
SourceId d x = (k p : ℕ) × SourcesAt d k p × x ∈ take p (drop k d)

abbrev pub SourceNamed : List (List ℕ) → ℕ → Type 0
SourceNamed ds x = (x ≡ 0 → ⊥) × SomeOf (λ e. (own_id e ≡ x) × (byte e 2 ≡ 3 → ⊥)) ds

pub data LaidPlainly (d : List ℕ) : Type 0 where
  input : byte d 2 ≡ 2 → length d ≡ 12 → LaidPlainly d
  output : byte d 2 ≡ 3 → length d ≡ 9 → LaidPlainly d
  mixer : byte d 2 ≡ 4 → Pins (byte d 4) → 10 + byte d 4 ≤ length d → LaidPlainly d
  selector : byte d 2 ≡ 5 → Pins (byte d 4) → length d ≡ 6 + byte d 4 → LaidPlainly d
  feature : byte d 2 ≡ 6 → (1 ≤ byte d 5) × (byte d 5 ≤ 4) → 7 ≤ length d → LaidPlainly d

module _ (cl : ℕ → Cluster) (d : List ℕ) where
  abbrev out : Cluster
  out = cl (own_id d)

  pub record Selected : Type 0 where
    pub first_channels : out.channels ≡ (cl (byte d 5)).channels
    pub first_locations : out.locations ≡ (cl (byte d 5)).locations
    pub one_name : ((x y : ℕ) → x ∈ pin_ids d → y ∈ pin_ids d → (cl x).names ≡ (cl y).names) → out.names ≡ (cl (byte d 5)).names
    pub other_names : (x y : ℕ) → x ∈ pin_ids d → y ∈ pin_ids d → ((cl x).names ≡ (cl y).names → ⊥) → out.names ≡ 0

  pub record GivesPlainly : Type 0 where
    pub input : byte d 2 ≡ 2 → out ≡ cluster_at d 7
    pub output : byte d 2 ≡ 3 → out ≡ cl (byte d 7)
    pub mixer : byte d 2 ≡ 4 → out ≡ cluster_at d (5 + byte d 4)
    pub selector : byte d 2 ≡ 5 → Selected
    pub feature : byte d 2 ≡ 6 → out ≡ cl (byte d 4)

  pub record KeepsPlainly : Type 0 where
    pub input : byte d 2 ≡ 2 → ClusterKept out
    pub mixer : byte d 2 ≡ 4 → ClusterKept out × (length d ≡ mixer_length (byte d 4) out.channels (channels_in (map cl (pin_ids d))))
    pub selector : byte d 2 ≡ 5 → (x : ℕ) → x ∈ pin_ids d → ((cl x).channels ≡ out.channels) × ((cl x).locations ≡ out.locations)
    pub feature : byte d 2 ≡ 6 → length d ≡ feature_length out.channels (byte d 5)

  pub record Plainly : Type 0 where
    pub laid : LaidPlainly d
    pub gives : GivesPlainly
    pub keeps : KeepsPlainly

module _ (ds : List (List ℕ)) where
  abbrev pub KeptPlainly : Type 0
  KeptPlainly = (cl : ℕ → Cluster) × ((e : List ℕ) → e ∈ ds → GivesPlainly cl e) × ((d : List ℕ) → d ∈ ds → KeepsPlainly cl d)

  abbrev pub BrokenPlainly : List ℕ → Type 0
  BrokenPlainly d = (cl : ℕ → Cluster) × ((e : List ℕ) → e ∈ ds → GivesPlainly cl e) × (KeepsPlainly cl d → ⊥)

pub record PlainConfiguration (s : List ℕ) : Type 0 where
  pub opened : Opened s
  pub rule5 : Rule5 opened.tail
  pub rule6 : Rule6 rule5.header rule5.others
  pub rule7 : Rule7 opened.descriptors (listed_of rule5.header)
  pub rule8 : Rule8 rule6.run
  pub rule10 : Rule10 rule6.run
  pub rule11 : (d : List ℕ) → d ∈ rule6.run → (x : ℕ) → SourceId d x → SourceNamed rule6.run x
  pub rank : ℕ → ℕ
  pub ranked : (d : List ℕ) → d ∈ rule6.run → (x : ℕ) → SourceId d x → rank x < rank (own_id d)
  pub cluster : ℕ → Cluster
  pub plainly : (d : List ℕ) → d ∈ rule6.run → Plainly cluster d
  pub rule14 : Rule14 rule6.run cluster opened.descriptors
  pub rule15 : Rule15 rule6.run cluster
