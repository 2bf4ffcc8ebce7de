-- One law for each kind, from what its own test answers.
use borrow.Author.Rules.{rules}
use Prim.Native.Nat.{ℕ, ◌<◌, ◌≤◌}
use mathlib.Core.Path.{◌≡◌, refl, sym, ap, ◌∙◌}
use mathlib.Core.Bool.{Bool, true}
use mathlib.Core.List.{List, map}
use native.Mathlib.Omega.{arith}
use lib.ListN.{length, length-take}
use Rattle.layout.specs.declared.Cluster.{Cluster}
use Rattle.layout.specs.declared.Entity.{Entity}
use Rattle.layout.specs.declared.Entity.TheVariants.{Unknown, Input, Output, Mixer, Selector, Feature}
use Rattle.layout.specs.Layout.{entity_of}
use Rattle.channels.specs.DeclaredChannels.{cluster_kept}
use Rattle.entities.specs.declared.Node.{Node}
use Rattle.entities.specs.Run.{sources_of, descriptor_of}
use Rattle.edition.specs.Audio.{alike, mixer_kept, feature_kept, keeps}
use Rattle.keeping.specs.Keeping.{channels_on, content_on, keeps_by}
use Rattle.keeping.specs.KeepingLaws.{mixer_same, feature_same}
use Rattle.keeping.proofs.kept.Goals as goal

-- a byte says how many pins there are
few : (s : List ℕ) (n : Node) → n.pins < 256 → (ids : List ℕ) → ids ≡ sources_of s n → length ids ≤ 255
few s n h ids e = rw e (simp length-take (omega arith))

module _ (s : List ℕ) (n : Node) (counts bitmaps d : List ℕ) (p : d ≡ descriptor_of s n)
    (ids : List ℕ) (t : ids ≡ sources_of s n) (e : Entity) (q : e ≡ entity_of d) where
  of : {x : Entity} → e ≡ x → keeps x (length d) (map (content_on counts bitmaps) ids) ≡ keeps_by s n (content_on counts bitmaps)
  unfolding keeps_by
  of h =
      ap (λ (y : Entity). keeps y (length d) (map (content_on counts bitmaps) ids)) (sym h ∙ q)
      ∙ ap (λ (b : List ℕ). keeps (entity_of b) (length b) (map (content_on counts bitmaps) ids)) p
      ∙ ap (λ (l : List ℕ). keeps (entity_of (descriptor_of s n)) (length (descriptor_of s n)) (map (content_on counts bitmaps) l)) t

  unknown : e ≡ Unknown → true ≡ keeps_by s n (content_on counts bitmaps)
  unfolding keeps
  unknown h = of h

  input : {i t : ℕ} {c : Cluster} → e ≡ Input i t c → (b : Bool) → b ≡ cluster_kept c → b ≡ keeps_by s n (content_on counts bitmaps)
  unfolding keeps
  input h b a = a ∙ of h

  output : {i t s' : ℕ} → e ≡ Output i t s' → true ≡ keeps_by s n (content_on counts bitmaps)
  unfolding keeps
  output h = of h

  mixer : {i p : ℕ} {c : Cluster} → e ≡ Mixer i p c → (b : Bool)
      → b ≡ mixer_kept p c (length d) (map (channels_on counts) ids) → b ≡ keeps_by s n (content_on counts bitmaps)
  unfolding keeps
  mixer {p = p} {c = c} h b a = a ∙ mixer_same (channels_on counts) (content_on counts bitmaps) (λ x. refl) p c (length d) ids ∙ of h

  selector : {i p : ℕ} → e ≡ Selector i p → (b : Bool) → b ≡ alike (map (content_on counts bitmaps) ids) → b ≡ keeps_by s n (content_on counts bitmaps)
  unfolding keeps
  selector h b a = a ∙ of h

  feature : {i s' k : ℕ} → e ≡ Feature i s' k → (b : Bool)
      → b ≡ feature_kept k (length d) (map (channels_on counts) ids) → b ≡ keeps_by s n (content_on counts bitmaps)
  unfolding keeps
  feature {k = k} h b a = a ∙ feature_same (channels_on counts) (content_on counts bitmaps) (λ x. refl) k (length d) ids ∙ of h

ruleset laws = (few, unknown, input, output, mixer, selector, feature, rules)

pub returns-in-Unknown : goal.returns-in-Unknown
returns-in-Unknown c = search laws

pub returns-in-Input : goal.returns-in-Input
returns-in-Input c = search laws

pub returns-in-Output : goal.returns-in-Output
returns-in-Output c = search laws

pub returns-in-Mixer : goal.returns-in-Mixer
returns-in-Mixer c = search laws

pub returns-in-Selector : goal.returns-in-Selector
returns-in-Selector c = search laws

pub returns-in-Feature : goal.returns-in-Feature
returns-in-Feature c = search laws
