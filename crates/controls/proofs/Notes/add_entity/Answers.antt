-- One law for each kind of entity.
use borrow.Author.Rules.{rules}
use Prim.Native.Nat.{ℕ, ◌≤◌, ◌<◌}
use mathlib.Core.Path.{◌≡◌, sym, ap, ◌∙◌}
use mathlib.Core.List.{List}
use native.Mathlib.Omega.{arith}
use lib.ListN.{length}
use Rattle.layout.specs.declared.Cluster.{Cluster}
use Rattle.layout.specs.declared.Entity.{Entity}
use Rattle.layout.specs.declared.Entity.TheVariants.{Unknown, Input, Output, Mixer, Selector, Feature}
use Rattle.layout.specs.Layout.{entity_of}
use Rattle.table.specs.declared.Table.{Table}
use Rattle.masks.specs.Masks.{feature_controls}
use Rattle.masks.specs.Notes.{control_from}
use Rattle.controls.specs.Controls.{selector_control, entity_controls}
use Rattle.controls.specs.Growth.{added, grown}
use Rattle.controls.specs.Told.{Room, room_more}
use Rattle.controls.specs.Counts.{entity_few}
use Rattle.controls.proofs.Notes.add_entity.Goals as goal

module _ (t : Table) (d : List ℕ) (c : ℕ) (e : Entity) (read : e ≡ entity_of d) where
  by_kind : (k : Entity) → e ≡ k → grown t (entity_controls (entity_of d) d c) ≡ grown t (entity_controls k d c)
  by_kind k h = ap (λ (x : Entity). grown t (entity_controls x d c)) (sym read ∙ h)

  at_unknown : e ≡ Unknown → t ≡ grown t (entity_controls (entity_of d) d c)
  unfolding entity_controls grown
  at_unknown h = sym (by_kind Unknown h)

  at_input : (i k : ℕ) (own : Cluster) → e ≡ Input i k own → t ≡ grown t (entity_controls (entity_of d) d c)
  unfolding entity_controls grown
  at_input i k own h = sym (by_kind (Input i k own) h)

  at_output : (i k f : ℕ) → e ≡ Output i k f → t ≡ grown t (entity_controls (entity_of d) d c)
  unfolding entity_controls grown
  at_output i k f h = sym (by_kind (Output i k f) h)

  at_mixer : (i p : ℕ) (own : Cluster) → e ≡ Mixer i p own → t ≡ grown t (entity_controls (entity_of d) d c)
  unfolding entity_controls grown
  at_mixer i p own h = sym (by_kind (Mixer i p own) h)

  module _ (r : Table) where
    at_selector : (i p : ℕ) → e ≡ Selector i p → (x : ℕ) → control_from x ≡ selector_control i p → r ≡ added t (control_from x) → r ≡ grown t (entity_controls (entity_of d) d c)
    unfolding entity_controls grown
    at_selector i p h x f g = g ∙ ap (added t) f ∙ sym (by_kind (Selector i p) h)

    at_feature : (i f n : ℕ) → e ≡ Feature i f n → r ≡ grown t (feature_controls i n c d) → r ≡ grown t (entity_controls (entity_of d) d c)
    unfolding entity_controls
    at_feature i f n h g = g ∙ sym (by_kind (Feature i f n) h)

-- ten at most for each channel, and ten for master
few : (d : List ℕ) (c : ℕ) → c < 256 → length (entity_controls (entity_of d) d c) ≤ 2560
few d c h = let k = entity_few (entity_of d) d c in omega arith

room : (t : Table) → Room t 900000 → Room t 1000000
room t r = room_more t 900000 1000000 r (omega arith)

ruleset laws = (at_unknown, at_input, at_output, at_mixer, at_selector, at_feature, few, room, rules)

pub returns-in-Unknown : goal.returns-in-Unknown
returns-in-Unknown c = search laws

pub returns-in-Input : goal.returns-in-Input
returns-in-Input c = search laws

pub returns-in-Output : goal.returns-in-Output
returns-in-Output c = search laws

pub returns-in-Mixer : goal.returns-in-Mixer
returns-in-Mixer c = search laws

pub returns-in-Selector : goal.returns-in-Selector
returns-in-Selector c = search laws

pub returns-in-Feature : goal.returns-in-Feature
returns-in-Feature c = search laws
