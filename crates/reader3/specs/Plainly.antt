-- The rules 9, 11, 52 and 13 of the 3.0 edition said of the bytes of each descriptor of the run, kind by kind (001, tables 4-16, 4-17, 4-29 to 4-31, 4-43; document
-- 02, No. 12). Nothing here searches, and no layout, no entity and no list of sources that the reader makes of a descriptor stand here. d is a descriptor of the run ds;
-- ks are the cluster descriptors of the buffer; the clusters cl are on IDs, and d's own is on its output.
--   LaidPlainly d         ==  rule 9: d is one of the six kinds, with that kind's length and 1 to 24 pins; a Mixer's and a Feature Unit's exact lengths are rule 13's
--   EachSource P d        ==  each source ID of d is P: an Output Terminal's at 7, a Mixer's and a Selector's from 5, p at 4 (pin_ids, as in Audio 1.0), a Feature
--                             Unit's at 4
--   SourceNamed ds x      ==  rule 11 of the source ID x: it is not 0, and it is borne in the run, by what is no Output Terminal and no Clock Source
--   ClockNamed ds x       ==  x is the ID of a Clock Source of the run
--   ClockedPlainly ds d   ==  rule 11 of a clock: a Terminal's clock ID names a Clock Source
--   UnknownPlainly ks d   ==  refusal 52: d is an Input Terminal or a Mixer, and the cluster ID which it names, at 12 or behind its source IDs, is borne by none of ks
--   GivesPlainly ks cl d  ==  an Input Terminal's and a Mixer's cluster is the descriptor of the buffer that bears the ID which it names; an Output Terminal, a Selector and
--                             a Feature Unit pass on pin 1's; nothing leaves a Clock Source
--   KeepsPlainly cl d     ==  an Input Terminal's and a Mixer's cluster has 1 to 16 channels; a Mixer's length is 13+p+N, a Feature Unit's 7+4(c+1); a Selector's pins have
--                             the same content
--   Plainly ks ds cl d    ==  all of these but rule 11 of the sources
--   KeptPlainly ks ds     ==  rule 13: there are clusters, given out so, by which every descriptor keeps its rule
--   BrokenPlainly ks ds d ==  .. as they are given out, d does not keep its rule
use Rattle.std.specs.Prelude.{ℕ, ◌+◌, ◌≤◌, ◌≡◌, List, [], map, ◌⊎◌, length}
use Rattle.ground.specs.Numbers.{byte, word}
use Rattle.ground.specs.Lists.{SomeOf}
use Rattle.graph.specs.Members.{◌∈◌}
use Rattle.layout.specs.Layouts.{Pins}
use Rattle.buffer.specs.Clusters.{cluster_id, channels_of, SameContent}
use Rattle.edition.specs.Edition.{own_id}
use Rattle.edition3.specs.Third.{channels_in, Few, mixer_length, feature_length}
use Rattle.reader.specs.Plainly.{pin_ids}

pub data LaidPlainly (d : List ℕ) : Type 0 where
  input : byte d 2 ≡ 2 → length d ≡ 20 → LaidPlainly d
  output : byte d 2 ≡ 3 → length d ≡ 19 → LaidPlainly d
  mixer : byte d 2 ≡ 5 → Pins (byte d 4) → 13 + byte d 4 ≤ length d → LaidPlainly d
  selector : byte d 2 ≡ 6 → Pins (byte d 4) → length d ≡ 11 + byte d 4 → LaidPlainly d
  feature : byte d 2 ≡ 7 → 7 ≤ length d → LaidPlainly d
  clock : byte d 2 ≡ 0x0B → length d ≡ 12 → LaidPlainly d

pub record EachSource (P : ℕ → Type 0) (d : List ℕ) : Type 0 where
  pub output : byte d 2 ≡ 3 → P (byte d 7)
  pub mixer : byte d 2 ≡ 5 → (x : ℕ) → x ∈ pin_ids d → P x
  pub selector : byte d 2 ≡ 6 → (x : ℕ) → x ∈ pin_ids d → P x
  pub feature : byte d 2 ≡ 7 → P (byte d 4)

abbrev pub SourceNamed : List (List ℕ) → ℕ → Type 0
SourceNamed ds x = (x ≡ 0 → ⊥) × SomeOf (λ e. (own_id e ≡ x) × (byte e 2 ≡ 3 → ⊥) × (byte e 2 ≡ 0x0B → ⊥)) ds

abbrev pub ClockNamed : List (List ℕ) → ℕ → Type 0
ClockNamed ds x = SomeOf (λ e. (own_id e ≡ x) × (byte e 2 ≡ 0x0B)) ds

pub record ClockedPlainly (ds : List (List ℕ)) (d : List ℕ) : Type 0 where
  pub input : byte d 2 ≡ 2 → ClockNamed ds (byte d 7)
  pub output : byte d 2 ≡ 3 → ClockNamed ds (byte d 8)

abbrev pub UnknownPlainly : List (List ℕ) → List ℕ → Type 0
UnknownPlainly ks d =
    ((byte d 2 ≡ 2) × ((k : List ℕ) → k ∈ ks → cluster_id k ≡ word d 12 → ⊥)) ⊎ ((byte d 2 ≡ 5) × ((k : List ℕ) → k ∈ ks → cluster_id k ≡ word d (5 + byte d 4) → ⊥))

pub record GivesPlainly (ks : List (List ℕ)) (cl : ℕ → List ℕ) (d : List ℕ) : Type 0 where
  pub input : byte d 2 ≡ 2 → (cl (own_id d) ∈ ks) × (cluster_id (cl (own_id d)) ≡ word d 12)
  pub output : byte d 2 ≡ 3 → cl (own_id d) ≡ cl (byte d 7)
  pub mixer : byte d 2 ≡ 5 → (cl (own_id d) ∈ ks) × (cluster_id (cl (own_id d)) ≡ word d (5 + byte d 4))
  pub selector : byte d 2 ≡ 6 → cl (own_id d) ≡ cl (byte d 5)
  pub feature : byte d 2 ≡ 7 → cl (own_id d) ≡ cl (byte d 4)
  pub clock : byte d 2 ≡ 0x0B → cl (own_id d) ≡ []

pub record KeepsPlainly (cl : ℕ → List ℕ) (d : List ℕ) : Type 0 where
  pub input : byte d 2 ≡ 2 → Few (channels_of (cl (own_id d)))
  pub mixer : byte d 2 ≡ 5 → Few (channels_of (cl (own_id d))) × (length d ≡ mixer_length (byte d 4) (channels_of (cl (own_id d))) (channels_in (map cl (pin_ids d))))
  pub selector : byte d 2 ≡ 6 → (k : List ℕ) → k ∈ map cl (pin_ids d) → SameContent k (cl (own_id d))
  pub feature : byte d 2 ≡ 7 → length d ≡ feature_length (channels_of (cl (own_id d)))

pub record Plainly (ks ds : List (List ℕ)) (cl : ℕ → List ℕ) (d : List ℕ) : Type 0 where
  pub laid : LaidPlainly d
  pub gives : GivesPlainly ks cl d
  pub keeps : KeepsPlainly cl d
  pub clocked : ClockedPlainly ds d

module _ (ks ds : List (List ℕ)) where
  abbrev pub KeptPlainly : Type 0
  KeptPlainly = (cl : ℕ → List ℕ) × ((e : List ℕ) → e ∈ ds → GivesPlainly ks cl e) × ((d : List ℕ) → d ∈ ds → KeepsPlainly cl d)

  abbrev pub BrokenPlainly : List ℕ → Type 0
  BrokenPlainly d = (cl : ℕ → List ℕ) × ((e : List ℕ) → e ∈ ds → GivesPlainly ks cl e) × (KeepsPlainly cl d → ⊥)
