-- "The table goes by entity place, channel, selector" (document 01).
--   Earlier ds u v   ==  in the run ds an entity with ID u stands before one with ID v
--   Before ds a b    ==  a's entity stands earlier, or the two are of one unit and a is Lower
--   controls_ordered ==  each control of the list is Before each that stands behind it
use Rattle.std.specs.Prelude.{ℕ, suc, ◌≡◌, refl, ◌⊎◌}
use Rattle.std.proofs.Common.{sym, ap, ◌∙◌, inl, inr}
use mathlib.Core.List.Memᴰ
use mathlib.Core.List.{List, [], ◌∷◌, ◌++◌, Memᴰ}
use Rattle.ground.specs.Numbers.{byte}
use Rattle.graph.specs.Members.{◌∈◌}
use Rattle.layout.specs.declared.Cluster.{Cluster}
use Rattle.layout.specs.declared.Entity.{Entity}
use Rattle.layout.specs.declared.Entity.TheVariants.{Unknown, Input, Output, Mixer, Selector, Feature}
use Rattle.layout.specs.Layout.{entity_of}
use Rattle.layout.proofs.LayoutLemmas.{told}
use Rattle.edition.specs.Edition.{own_id}
use Rattle.table.specs.declared.Control.{Control}
use Rattle.masks.specs.Masks.{feature_controls}
use Rattle.masks.specs.Order.{Pairs, none, more, pairs_append, pairs_as, Lower, channels_pairs}
use Rattle.controls.specs.Controls.{entity_controls, controls_of}
use Rattle.controls.specs.Standing.{Carries, feature, selector, carried, Stands, stands_of}

pub record Earlier (ds : List (List ℕ)) (u v : ℕ) : Type 0 where
  pub before : List (List ℕ)
  pub one : List ℕ
  pub behind : List (List ℕ)
  pub other : List ℕ
  pub split : ds ≡ before ++ one ∷ behind
  pub among : Memᴰ other behind
  pub first : byte one 3 ≡ u
  pub second : byte other 3 ≡ v

abbrev pub Before : List (List ℕ) → Control → Control → Type 0
Before ds a b = Earlier ds a.unit b.unit ⊎ ((a.unit ≡ b.unit) × Lower a b)

entity_pairs : (e : Entity) (d : List ℕ) (c : ℕ) → Pairs Lower (entity_controls e d c)
unfolding entity_controls feature_controls
entity_pairs Unknown d c = none
entity_pairs (Input i t own) d c = none
entity_pairs (Output i t s) d c = none
entity_pairs (Mixer i p own) d c = none
entity_pairs (Selector i p) d c = more (λ x m. absurd (Memᴰ.not-nil m)) none
entity_pairs (Feature i s n) d c = channels_pairs i n d (suc c) 0

-- the unit is the entity's ID
carried_unit : {d : List ℕ} {c : ℕ} {x : Control} → Carries d c x → x.unit ≡ byte d 3
carried_unit (feature k b i p q f g) = refl
carried_unit (selector i) = refl

unit_of : (d : List ℕ) (c : ℕ) (x : Control) → Memᴰ x (entity_controls (entity_of d) d c) → x.unit ≡ byte d 3
unit_of d c x m = carried_unit (carried d c (told d) x m)

unit_among : (cluster : ℕ → Cluster) {ds : List (List ℕ)} {x : Control} → Stands ds cluster x → (e : List ℕ) × e ∈ ds × (byte e 3 ≡ x.unit)
unit_among cluster h = (h.one, h.among, sym (carried_unit h.has))

before_more : (d : List ℕ) (ds : List (List ℕ)) (a b : Control) → Before ds a b → Before (d ∷ ds) a b
before_more d ds a b (inl e) =
    inl (record { before = d ∷ e.before; one = e.one; behind = e.behind; other = e.other; split = ap (λ (l : List (List ℕ)). d ∷ l) e.split; among = e.among; first = e.first; second = e.second })
before_more d ds a b (inr h) = inr h

-- THE LAW: by entity place, channel, selector
pub controls_ordered : (cluster : ℕ → Cluster) (ds : List (List ℕ)) → Pairs (Before ds) (controls_of ds cluster)
unfolding controls_of
controls_ordered cluster [] = none
controls_ordered cluster (d ∷ ds) =
    pairs_append (Before (d ∷ ds))
    (pairs_as (λ a. a.unit ≡ byte d 3) Lower (Before (d ∷ ds)) (λ a b p q l. inr (p ∙ sym q, l)) (unit_of d c) (entity_pairs (entity_of d) d c))
    (pairs_as (λ a. Control) (Before ds) (Before (d ∷ ds)) (λ a b p q l. before_more d ds a b l) (λ a m. a) (controls_ordered cluster ds))
    (λ a b i j. let r = unit_among cluster (stands_of cluster ds b j) in
    inl (record { before = []; one = d; behind = ds; other = r.0; split = refl; among = r.1; first = sym (unit_of d c a i); second = r.2 }))
  where
    c : ℕ
    c = (cluster (own_id d)).channels
