-- One law for each kind, from what its own test answers.
use borrow.Author.Rules.{rules}
use Prim.Native.Nat.{ℕ, ◌≤◌, ◌<◌}
use mathlib.Core.Path.{◌≡◌, sym, ap, ◌∙◌}
use mathlib.Core.Bool.{Bool, true, ◌&&◌}
use mathlib.Core.List.{List, map}
use native.Mathlib.Omega.{arith}
use lib.Dec.{eqb}
use lib.ListN.{length, length-take}
use Rattle.ground.specs.Pick.{within}
use Rattle.channels.specs.DeclaredChannels.{most_channels}
use Rattle.layout3.specs.declared.Entity.{Entity}
use Rattle.layout3.specs.declared.Entity.TheVariants.{Unknown, Input, Output, Mixer, Selector, Feature, Clock}
use Rattle.layout3.specs.Layout.{entity_of}
use Rattle.buffer.specs.Clusters.{channels_of}
use Rattle.buffer.specs.Reading.{pieces, cluster_with}
use Rattle.edition3.specs.Third.{first_of, channels_in, mixer_length, feature_length, alike, keeps}
use Rattle.entities.specs.declared.Node.{Node}
use Rattle.entities.specs.Run.{sources_of, descriptor_of}
use Rattle.keeping3.specs.Keeping.{cluster_behind, keeps_by}
use Rattle.keeping3.proofs.Behind.kept.Goals as goal

-- a byte says how many pins there are
few : (s : List ℕ) (n : Node) → n.pins < 256 → (ids : List ℕ) → ids ≡ sources_of s n → length ids ≤ 255
few s n h ids e = rw e (simp length-take (omega arith))

module _ (s b : List ℕ) (n : Node) (given d : List ℕ) (p : d ≡ descriptor_of s n) (ids : List ℕ) (t : ids ≡ sources_of s n) (e : Entity) (q : e ≡ entity_of d) where
  abbrev Answer : Bool
  Answer = keeps_by s b n (cluster_behind b given)

  abbrev cs : List (List ℕ)
  cs = map (cluster_behind b given) ids

  of : {x : Entity} → e ≡ x → keeps (pieces b) x (length d) cs ≡ Answer
  unfolding keeps_by
  of h =
      ap (λ (y : Entity). keeps (pieces b) y (length d) cs) (sym h ∙ q)
      ∙ ap (λ (z : List ℕ). keeps (pieces b) (entity_of z) (length z) cs) p
      ∙ ap (λ (l : List ℕ). keeps (pieces b) (entity_of (descriptor_of s n)) (length (descriptor_of s n)) (map (cluster_behind b given) l)) t

  unknown : e ≡ Unknown → true ≡ Answer
  unfolding keeps
  unknown h = of h

  input : {k c : ℕ} → e ≡ Input k c → (m : ℕ) → m ≡ channels_of (cluster_with b c) → (r : Bool) → r ≡ within 1 m most_channels → r ≡ Answer
  unfolding keeps cluster_with
  input h m g r a = a ∙ ap (λ (i : ℕ). within 1 i most_channels) g ∙ of h

  output : {k c : ℕ} → e ≡ Output k c → true ≡ Answer
  unfolding keeps
  output h = of h

  mixer : {m c : ℕ} → e ≡ Mixer m c → (r : Bool)
      → r ≡ (within 1 (channels_of (cluster_with b c)) most_channels && eqb (length d) (mixer_length m (channels_of (cluster_with b c)) (channels_in cs))) → r ≡ Answer
  unfolding keeps cluster_with
  mixer h r a = a ∙ of h

  selector : {m : ℕ} → e ≡ Selector m → (r : Bool) → r ≡ alike cs → r ≡ Answer
  unfolding keeps
  selector h r a = a ∙ of h

  feature : {m : ℕ} → e ≡ Feature m → (c : ℕ) → c ≡ channels_of (first_of cs) → (l : ℕ) → l ≡ feature_length c → eqb (length d) l ≡ Answer
  unfolding keeps
  feature h c f l g = ap (eqb (length d)) (g ∙ ap feature_length f) ∙ of h

  clock : e ≡ Clock → true ≡ Answer
  unfolding keeps
  clock h = of h

ruleset laws = (few, unknown, input, output, mixer, selector, feature, clock, rules)

pub returns-in-Unknown : goal.returns-in-Unknown
returns-in-Unknown c = search laws

pub returns-in-Input : goal.returns-in-Input
returns-in-Input c = search laws

pub returns-in-Output : goal.returns-in-Output
returns-in-Output c = search laws

pub returns-in-Mixer : goal.returns-in-Mixer
returns-in-Mixer c = search laws

pub returns-in-Selector : goal.returns-in-Selector
returns-in-Selector c = search laws

pub returns-in-Feature : goal.returns-in-Feature
returns-in-Feature c = search laws

pub returns-in-Clock : goal.returns-in-Clock
returns-in-Clock c = search laws
