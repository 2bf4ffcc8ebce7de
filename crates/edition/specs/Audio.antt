-- The Audio 1.0 edition. Document 01, "Clusters": an Input Terminal and a Mixer declare theirs; "A Feature Unit gives out its source's cluster;
-- its length is 7+(c+1)n. .. A Mixer with i channels entering in all has N = i·c/8 rounded up, and length 10+p+N. For an Output
-- Terminal the entering cluster is shown. Each rule reads the declared bytes, even where those break a rule themselves." Of a Selector
-- document 02, No. 5: "all pins must have the same c and the same bitmap. If their name indices differ, the Selector gives out index 0."
-- Where its pins are not alike, what it gives out, for the rules of others, is pin 1's c and bitmap.
--   first_of cs       ==  pin 1's cluster
--   channels_in cs    ==  i, the channels entering in all
--   channels_each cs, locations_each cs, names_each cs  ==  c, bitmap and first name index of each
--   named k ns       ==  the cluster k with its own index where the indices ns do not differ, and with index 0 where they do; one_name, other_names:
--                        so in statements
--   Alike cs         ==  all of cs have the same c and the same bitmap; alike cs: the test
--   give_out e cs     ==  what the entity e gives out where cs enter, pin by pin
--   control_bytes m   ==  m/8 rounded up; rounded_up: it is enough, and no more than is needed
--   mixer_length p c i, feature_length c n  ==  the lengths
--   mixer_kept, feature_kept  ==  their rules as tests
--   Keeps e l cs     ==  e, whose descriptor is l long, keeps its kind's rule where cs enter; keeps e l cs: what the reader computes;
--                        reads_keeps: these agree
--   audio            ==  the edition
--   reads_kept       ==  keeps e l cs decides Keeps e l cs, given a test of whether the clusters that enter a Selector are alike
use Rattle.std.specs.Prelude.{ℕ, ◌+◌, ◌*◌, ◌/◌, ◌≤◌, ◌<◌, ◌≡◌, Bool, true, ◌&&◌, List, [], ◌∷◌, map, eqb, length, get_or}
use Rattle.std.proofs.Common.{div-mul-le_self, arith, lit<}
use Rattle.std.proofs.Math.Nat.{lt-div-mul-add}
use Rattle.ground.specs.Pick.{pick, yes, no, shows, refutes, Reads, reads_eq, reads_and, true≠false}
use Rattle.layout.specs.declared.Cluster.{Cluster}
use Rattle.layout.specs.declared.Entity.{Entity}
use Rattle.layout.specs.declared.Entity.TheVariants.{Unknown, Input, Output, Mixer, Selector, Feature}
use Rattle.layout.specs.Layout.{LaidOut, entity_of, no_cluster}
use Rattle.layout.specs.Withdrawn.{Printed}
use Rattle.kinds.specs.Shown.{kind_of}
use Rattle.kinds.specs.Sources.{sources_from, pins_of, feeds_of}
use Rattle.kinds.specs.SourcesLaws.{sources_within}
use Rattle.pins.specs.Same.{AllSame, all_same, reads_all_same}
use Rattle.channels.specs.DeclaredChannels.{ClusterKept, cluster_kept, reads_cluster}
use Rattle.edition.specs.Edition.{Edition}

unfoldable pub first_of : List Cluster → Cluster
first_of cs = get_or cs 0 no_cluster

unfoldable pub channels_in : List Cluster → ℕ
channels_in [] = 0
channels_in (k ∷ cs) = k.channels + channels_in cs

abbrev pub channels_each : List Cluster → List ℕ
channels_each cs = map (λ k. k.channels) cs

abbrev pub locations_each : List Cluster → List ℕ
locations_each cs = map (λ k. k.locations) cs

abbrev pub names_each : List Cluster → List ℕ
names_each cs = map (λ k. k.names) cs

unfoldable pub named : Cluster → List ℕ → Cluster
named k ns = record { channels = k.channels; locations = k.locations; names = pick (all_same ns) k.names 0 }

pub one_name : (k : Cluster) (ns : List ℕ) → AllSame ns → (named k ns).names ≡ k.names
unfolding named
one_name k ns h = yes _ _ (shows (reads_all_same ns) h)

pub other_names : (k : Cluster) (ns : List ℕ) → (AllSame ns → ⊥) → (named k ns).names ≡ 0
unfolding named
other_names k ns n = no _ _ (refutes (reads_all_same ns) n)

unfoldable pub give_out : Entity → List Cluster → Cluster
give_out Unknown cs = first_of cs
give_out (Input i t c) cs = c
give_out (Output i t s) cs = first_of cs
give_out (Mixer i p c) cs = c
give_out (Selector i p) cs = named (first_of cs) (names_each cs)
give_out (Feature i s n) cs = first_of cs

abbrev pub control_bytes : ℕ → ℕ
control_bytes m = (m + 7) / 8

pub rounded_up : (m : ℕ) → (m ≤ control_bytes m * 8) × (control_bytes m * 8 < m + 8)
rounded_up m =
    let above : m + 7 < (m + 7) / 8 * 8 + 8 = lt-div-mul-add (lit< tt) in
    let under : (m + 7) / 8 * 8 ≤ m + 7 = div-mul-le_self (m + 7) 8 in
    (omega arith, omega arith)

unfoldable pub mixer_length : ℕ → ℕ → ℕ → ℕ
mixer_length p c i = 10 + p + control_bytes (i * c)

unfoldable pub feature_length : ℕ → ℕ → ℕ
feature_length c n = 7 + (c + 1) * n

abbrev pub Alike : List Cluster → Type 0
Alike cs = AllSame (channels_each cs) × AllSame (locations_each cs)

unfoldable pub Keeps : Entity → ℕ → List Cluster → Type 0
Keeps Unknown l cs = Unit {0}
Keeps (Input i t c) l cs = ClusterKept c
Keeps (Output i t s) l cs = Unit {0}
Keeps (Mixer i p c) l cs = ClusterKept c × (l ≡ mixer_length p c.channels (channels_in cs))
Keeps (Selector i p) l cs = Alike cs
Keeps (Feature i s n) l cs = l ≡ feature_length (first_of cs).channels n

-- what the reader computes
unfoldable pub alike : List Cluster → Bool
alike cs = all_same (channels_each cs) && all_same (locations_each cs)

unfoldable pub mixer_kept : ℕ → Cluster → ℕ → List Cluster → Bool
mixer_kept p c l cs = cluster_kept c && eqb l (mixer_length p c.channels (channels_in cs))

unfoldable pub feature_kept : ℕ → ℕ → List Cluster → Bool
feature_kept n l cs = eqb l (feature_length (first_of cs).channels n)

unfoldable pub keeps : Entity → ℕ → List Cluster → Bool
keeps Unknown l cs = true
keeps (Input i t c) l cs = cluster_kept c
keeps (Output i t s) l cs = true
keeps (Mixer i p c) l cs = mixer_kept p c l cs
keeps (Selector i p) l cs = alike cs
keeps (Feature i s n) l cs = feature_kept n l cs

-- .. from a test of whether the clusters that enter a Selector are alike: `audio` gives it
pub reads_kept : ((cs : List Cluster) → Reads (all_same (channels_each cs) && all_same (locations_each cs)) (Alike cs))
    → (e : Entity) (l : ℕ) (cs : List Cluster) → Reads (keeps e l cs) (Keeps e l cs)
unfolding keeps Keeps alike mixer_kept feature_kept
reads_kept both Unknown l cs = record { says = λ e. tt; denies = λ e. absurd (true≠false e) }
reads_kept both (Input i t c) l cs = reads_cluster c
reads_kept both (Output i t s) l cs = record { says = λ e. tt; denies = λ e. absurd (true≠false e) }
reads_kept both (Mixer i p c) l cs = reads_and _ _ (reads_cluster c) (reads_eq l (mixer_length p c.channels (channels_in cs)))
reads_kept both (Selector i p) l cs = both cs
reads_kept both (Feature i s n) l cs = reads_eq l (feature_length (first_of cs).channels n)

abbrev pub audio : Edition
audio = record {
  LaidOut = LaidOut;
  Withdrawn = Printed;
  kind = λ d. kind_of (entity_of d);
  feeds = λ d. feeds_of (entity_of d);
  first = λ d. sources_from (entity_of d);
  pins = λ d. pins_of (entity_of d);
  inside = λ d l. sources_within d;
  Cluster = Cluster;
  gives_out = λ d cs. give_out (entity_of d) cs;
  Keeps = λ d cs. Keeps (entity_of d) (length d) cs;
  keeps = λ d cs. keeps (entity_of d) (length d) cs;
  reads = λ d cs. reads_kept (λ cs. reads_and _ _ (reads_all_same (channels_each cs)) (reads_all_same (locations_each cs))) (entity_of d) (length d) cs;
}
