-- The 3.0 edition (document 02, No. 12; 001). A cluster is a cluster descriptor of the second buffer. An Input Terminal and a Mixer name theirs by ID; a
-- Feature Unit gives out its source's, a Selector pin 1's; for an Output Terminal the entering one is shown; nothing leaves a Clock Source. Rule 13:
-- "c stays 1 to 16" where an Input Terminal or a Mixer names it; "Mixer 13+p+N", N = i·c/8 rounded up; "Feature Unit 7+4(c+1)"; "Selector pins must
-- have the same cluster content, all bytes but the ID". ks are the cluster descriptors of the buffer.
--   said_by d           ==  what the layout of d says
--   first_of cs         ==  pin 1's cluster; none where there is no pin
--   channels_in cs      ==  i, the channels entering in all
--   Few c              ==  c is 1 to 16
--   mixer_length p c i, feature_length c  ==  the lengths
--   Alike cs           ==  all of cs have the same content as the first; alike cs: the test
--   Keeps ks e l cs    ==  e, whose descriptor is l long, keeps its kind's rule where cs enter; keeps ks e l cs: what the reader computes; reads_keeps:
--                          these agree
--   gives_out ks d cs   ==  what d gives out where cs enter
--   third ks           ==  the edition
--   UnknownCluster ks d  ==  refusal 52: d names a cluster by an ID that none of ks bears
--   Rule52 ks ds       ==  no descriptor of the run ds is so
--   WrongClock ds d    ==  refusal 11, for a clock: d is a Terminal whose clock ID is no Clock Source's of ds
use Rattle.std.specs.Prelude.{ℕ, ◌+◌, ◌*◌, ◌≤◌, ◌≡◌, Bool, true, ◌&&◌, List, [], ◌∷◌, eqb, length, get_or}
use Rattle.ground.specs.Pick.{pick, within, Reads, reads_eq, reads_and, reads_within, true≠false}
use Rattle.graph.specs.Members.{◌∈◌, all, reads_all}
use Rattle.channels.specs.DeclaredChannels.{most_channels}
use Rattle.edition.specs.Edition.{Edition, own_id}
use Rattle.edition.specs.Audio.{control_bytes}
use Rattle.layout3.specs.declared.Entity.{Entity}
use Rattle.layout3.specs.declared.Entity.TheVariants.{Unknown, Input, Output, Mixer, Selector, Feature, Clock}
use Rattle.layout3.specs.declared.Facts.{Facts}
use Rattle.layout3.specs.Layouts.{LaidOut}
use Rattle.layout3.specs.Layout.{entity_of}
use Rattle.layout3.specs.Facts.{facts_of}
use Rattle.layout3.specs.LayoutLaws.{sources_within}
use Rattle.buffer.specs.Clusters.{cluster_id, channels_of, SameContent}
use Rattle.buffer.specs.Reading.{cluster_in, same_content, reads_content}

abbrev pub said_by : List ℕ → Facts
said_by d = facts_of (entity_of d)

unfoldable pub first_of : List (List ℕ) → List ℕ
first_of cs = get_or cs 0 []

unfoldable pub channels_in : List (List ℕ) → ℕ
channels_in [] = 0
channels_in (k ∷ cs) = channels_of k + channels_in cs

abbrev pub Few : ℕ → Type 0
Few c = (1 ≤ c) × (c ≤ most_channels)

unfoldable pub mixer_length : ℕ → ℕ → ℕ → ℕ
mixer_length p c i = 13 + p + control_bytes (i * c)

unfoldable pub feature_length : ℕ → ℕ
feature_length c = 7 + 4 * (c + 1)

abbrev pub Alike : List (List ℕ) → Type 0
Alike cs = (k : List ℕ) → k ∈ cs → SameContent k (first_of cs)

unfoldable pub alike : List (List ℕ) → Bool
alike cs = all (λ k. same_content k (first_of cs)) cs

reads_alike : (cs : List (List ℕ)) → Reads (alike cs) (Alike cs)
unfolding alike
reads_alike cs = reads_all (λ k. same_content k (first_of cs)) (λ k. SameContent k (first_of cs)) cs (λ k m. reads_content k (first_of cs))

module _ (ks : List (List ℕ)) where
  unfoldable pub Keeps : Entity → ℕ → List (List ℕ) → Type 0
  Keeps Unknown l cs = Unit {0}
  Keeps (Input k c) l cs = Few (channels_of (cluster_in ks c))
  Keeps (Output s k) l cs = Unit {0}
  Keeps (Mixer p c) l cs = Few (channels_of (cluster_in ks c)) × (l ≡ mixer_length p (channels_of (cluster_in ks c)) (channels_in cs))
  Keeps (Selector p) l cs = Alike cs
  Keeps (Feature s) l cs = l ≡ feature_length (channels_of (first_of cs))
  Keeps Clock l cs = Unit {0}

  unfoldable pub keeps : Entity → ℕ → List (List ℕ) → Bool
  keeps Unknown l cs = true
  keeps (Input k c) l cs = within 1 (channels_of (cluster_in ks c)) most_channels
  keeps (Output s k) l cs = true
  keeps (Mixer p c) l cs = within 1 (channels_of (cluster_in ks c)) most_channels && eqb l (mixer_length p (channels_of (cluster_in ks c)) (channels_in cs))
  keeps (Selector p) l cs = alike cs
  keeps (Feature s) l cs = eqb l (feature_length (channels_of (first_of cs)))
  keeps Clock l cs = true

  pub reads_keeps : (e : Entity) (l : ℕ) (cs : List (List ℕ)) → Reads (keeps e l cs) (Keeps e l cs)
  unfolding keeps Keeps
  reads_keeps Unknown l cs = record { says = λ e. tt; denies = λ e. absurd (true≠false e) }
  reads_keeps (Input k c) l cs = reads_within 1 (channels_of (cluster_in ks c)) most_channels
  reads_keeps (Output s k) l cs = record { says = λ e. tt; denies = λ e. absurd (true≠false e) }
  reads_keeps (Mixer p c) l cs = reads_and _ _ (reads_within 1 (channels_of (cluster_in ks c)) most_channels) (reads_eq l (mixer_length p (channels_of (cluster_in ks c)) (channels_in cs)))
  reads_keeps (Selector p) l cs = reads_alike cs
  reads_keeps (Feature s) l cs = reads_eq l (feature_length (channels_of (first_of cs)))
  reads_keeps Clock l cs = record { says = λ e. tt; denies = λ e. absurd (true≠false e) }

  unfoldable pub gives_out : List ℕ → List (List ℕ) → List ℕ
  gives_out d cs = pick (said_by d).declares (cluster_in ks (said_by d).cluster) (first_of cs)

  abbrev pub third : Edition
  third = record {
    LaidOut = LaidOut;
    Withdrawn = λ d. ⊥;
    kind = λ d. (said_by d).kind;
    feeds = λ d. (said_by d).feeds;
    first = λ d. (said_by d).first;
    pins = λ d. (said_by d).pins;
    inside = λ d l. sources_within d;
    Cluster = List ℕ;
    gives_out = gives_out;
    Keeps = λ d cs. Keeps (entity_of d) (length d) cs;
    keeps = λ d cs. keeps (entity_of d) (length d) cs;
    reads = λ d cs. reads_keeps (entity_of d) (length d) cs;
  }

  abbrev pub UnknownCluster : List ℕ → Type 0
  UnknownCluster d = ((said_by d).declares ≡ true) × ((k : List ℕ) → k ∈ ks → cluster_id k ≡ (said_by d).cluster → ⊥)

  abbrev pub Rule52 : List (List ℕ) → Type 0
  Rule52 ds = (d : List ℕ) → d ∈ ds → UnknownCluster d → ⊥

-- a Clock Source is shown as 0B
abbrev pub WrongClock : List (List ℕ) → List ℕ → Type 0
WrongClock ds d = ((said_by d).clocked ≡ true) × ((e : List ℕ) → e ∈ ds → own_id e ≡ (said_by d).clock → (said_by e).kind ≡ 0x0B → ⊥)
