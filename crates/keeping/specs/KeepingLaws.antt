-- Of a cluster the rules look at no more than its channels and its bitmap, and at the bitmap only where a Selector selects.
--   mixer_same, feature_same  ==  clusters that agree in channels on every ID keep a Mixer's and a Feature Unit's rule alike
--   keeps_same       ==  clusters that agree in channels and bitmap keep any entity's rule alike
--   keeps_content    ==  so whether an entity keeps its rule hangs on these alone
use Rattle.std.specs.Prelude.{ℕ, ◌≡◌, length}
use Rattle.std.proofs.Math.Path.{refl}
use mathlib.Core.List.{List, [], ◌∷◌, map}
use Rattle.layout.specs.declared.Cluster.{Cluster}
use Rattle.layout.specs.declared.Entity.{Entity}
use Rattle.layout.specs.declared.Entity.TheVariants.{Unknown, Input, Output, Mixer, Selector, Feature}
use Rattle.layout.specs.Layout.{entity_of}
use Rattle.entities.specs.declared.Node.{Node}
use Rattle.entities.specs.Run.{sources_of, descriptor_of}
use Rattle.edition.specs.Audio.{first_of, channels_in, channels_each, locations_each, alike, mixer_kept, feature_kept, keeps}
use Rattle.sweep.specs.Sweep.{cluster_by}
use Rattle.keeping.specs.Keeping.{content_on, keeps_by}

module _ (f g : ℕ → Cluster) (same : (x : ℕ) → (f x).channels ≡ (g x).channels) where
  first_channels : (ids : List ℕ) → (first_of (map f ids)).channels ≡ (first_of (map g ids)).channels
  unfolding first_of
  first_channels [] = refl
  first_channels (x ∷ ids) = same x

  in_channels : (ids : List ℕ) → channels_in (map f ids) ≡ channels_in (map g ids)
  unfolding channels_in
  in_channels [] = refl
  in_channels (x ∷ ids) = rw (same x, in_channels ids)

  channels_same : (ids : List ℕ) → channels_each (map f ids) ≡ channels_each (map g ids)
  channels_same [] = refl
  channels_same (x ∷ ids) = rw (same x, channels_same ids) refl

  pub mixer_same : (p : ℕ) (c : Cluster) (l : ℕ) (ids : List ℕ) → mixer_kept p c l (map f ids) ≡ mixer_kept p c l (map g ids)
  unfolding mixer_kept
  mixer_same p c l ids = rw (in_channels ids) refl

  pub feature_same : (n l : ℕ) (ids : List ℕ) → feature_kept n l (map f ids) ≡ feature_kept n l (map g ids)
  unfolding feature_kept
  feature_same n l ids = rw (first_channels ids) refl

module _ (f g : ℕ → Cluster) (channels : (x : ℕ) → (f x).channels ≡ (g x).channels) (locations : (x : ℕ) → (f x).locations ≡ (g x).locations) where
  locations_same : (ids : List ℕ) → locations_each (map f ids) ≡ locations_each (map g ids)
  locations_same [] = refl
  locations_same (x ∷ ids) = rw (locations x, locations_same ids) refl

  alike_same : (ids : List ℕ) → alike (map f ids) ≡ alike (map g ids)
  unfolding alike
  alike_same ids = rw (channels_same f g channels ids, locations_same ids) refl

  pub keeps_same : (e : Entity) (l : ℕ) (ids : List ℕ) → keeps e l (map f ids) ≡ keeps e l (map g ids)
  unfolding keeps
  keeps_same Unknown l ids = refl
  keeps_same (Input i t c) l ids = refl
  keeps_same (Output i t s) l ids = refl
  keeps_same (Mixer i p c) l ids = mixer_same f g channels p c l ids
  keeps_same (Selector i p) l ids = alike_same ids
  keeps_same (Feature i s n) l ids = feature_same f g channels n l ids

pub keeps_content : (s : List ℕ) (n : Node) (channels locations names : List ℕ)
    → keeps_by s n (content_on channels locations) ≡ keeps_by s n (cluster_by channels locations names)
unfolding keeps_by
keeps_content s n channels locations names =
    keeps_same (content_on channels locations) (cluster_by channels locations names) (λ x. refl) (λ x. refl)
    (entity_of (descriptor_of s n)) (length (descriptor_of s n)) (sources_of s n)
