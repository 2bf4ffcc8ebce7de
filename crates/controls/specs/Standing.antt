-- Which control stands in the list, said without the list's making.
--   Carries d c x    ==  the entity d, whose cluster has c channels, carries the control x: "Channel k's mask (0 is master), bit b:
--                        control with selector b+1, for b from 0 to 9 except 5", k at most c; "Each Selector has one control"
--   Stands ds cluster x  ==  some entity of the run ds, with the cluster on its ID, carries x
--   carried          ==  what is listed of an entity, it carries
--   stands_of        ==  what is listed of the run stands
--   control_stands   ==  a control stands in the list exactly where some entity carries it
use Rattle.std.specs.Prelude.{ℕ, suc, ◌+◌, ◌≤◌, ◌≡◌, ◌↔◌}
use Rattle.std.proofs.Math.Path.{refl}
use Rattle.std.proofs.Math.Logic.{⊎_elim}
use mathlib.Core.List.Memᴰ
use mathlib.Core.List.{List, [], ◌∷◌, Memᴰ}
use Rattle.std.proofs.Common.{arith}
use Rattle.ground.specs.Numbers.{byte}
use Rattle.ground.specs.Lists.{SomeOf}
use Rattle.graph.specs.Members.{◌∈◌}
use Rattle.layout.specs.declared.Cluster.{Cluster}
use Rattle.layout.specs.declared.Entity.{Entity}
use Rattle.layout.specs.Layout.{LaidOut, entity_of}
use Rattle.layout.specs.LayoutLaws.{Told}
use Rattle.layout.proofs.LayoutLemmas.{told}
use Rattle.layout.specs.LayoutLaws as laid
use Rattle.layout.proofs.LayoutLemmas as laid_laws
use Rattle.edition.specs.Edition.{own_id}
use Rattle.table.specs.declared.Control.{Control}
use Rattle.masks.specs.Masks.{unit_control, mask_of, feature_controls}
use Rattle.masks.specs.Carried.{SetBit, channels_of, of_channels}
use Rattle.controls.specs.Controls.{selector_control, entity_controls, controls_of}

pub data Carries (d : List ℕ) (c : ℕ) : Control → Type 0 where
  feature : (k b : ℕ) → byte d 2 ≡ 6 → k ≤ c → b ≤ 9 → (b ≡ 5 → ⊥) → SetBit (mask_of d (byte d 5) k) b
      → Carries d c (unit_control (byte d 3) k (b + 1))
  selector : byte d 2 ≡ 5 → Carries d c (selector_control (byte d 3) (byte d 4))

abbrev pub Stands : List (List ℕ) → (ℕ → Cluster) → Control → Type 0
Stands ds cluster x = SomeOf (λ d. Carries d (cluster (own_id d)).channels x) ds

-- an entity's controls are those that it carries
module _ (d : List ℕ) (c : ℕ) where
  pub carried : {e : Entity} → Told d e → (x : Control) → Memᴰ x (entity_controls e d c) → Carries d c x
  unfolding entity_controls feature_controls
  carried (laid.unknown n) x m = absurd (Memᴰ.not-nil m)
  carried (laid.input k l) x m = absurd (Memᴰ.not-nil m)
  carried (laid.output k l) x m = absurd (Memᴰ.not-nil m)
  carried (laid.mixer k q l) x m = absurd (Memᴰ.not-nil m)
  carried (laid.selector k q l) x m = rw (Memᴰ.eq_of_singleton m) (selector k)
  carried (laid.feature k q l) x m =
      let r = channels_of (byte d 3) (byte d 5) d (suc c) 0 x m in
      let f = r.carried in
      rw f.is (feature r.channel r.bit k (let h = r.not_behind in omega arith) r.known f.not_five f.set)

  carries : {e : Entity} → Told d e → LaidOut d → (x : Control) → Carries d c x → Memᴰ x (entity_controls e d c)
  unfolding entity_controls feature_controls
  carries (laid.unknown n) o x h = absurd (n o)
  carries (laid.input k l) o x (feature a b i p q f g) = absurd (omega arith)
  carries (laid.input k l) o x (selector i) = absurd (omega arith)
  carries (laid.output k l) o x (feature a b i p q f g) = absurd (omega arith)
  carries (laid.output k l) o x (selector i) = absurd (omega arith)
  carries (laid.mixer k q l) o x (feature a b i p r f g) = absurd (omega arith)
  carries (laid.mixer k q l) o x (selector i) = absurd (omega arith)
  carries (laid.selector k q l) o x (feature a b i p r f g) = absurd (omega arith)
  carries (laid.selector k q l) o x (selector i) = Memᴰ.head refl
  carries (laid.feature k q l) o x (feature a b i p r f g) = of_channels (byte d 3) (byte d 5) d (suc c) 0 a b (omega arith) (omega arith) r f g
  carries (laid.feature k q l) o x (selector i) = absurd (omega arith)

-- THE LAW: a control stands in the list exactly where some entity carries it
module _ (cluster : ℕ → Cluster) where
  pub stands_of : (ds : List (List ℕ)) (x : Control) → x ∈ controls_of ds cluster → Stands ds cluster x
  unfolding controls_of
  stands_of [] x m = absurd (Memᴰ.not-nil m)
  stands_of (d ∷ ds) x m =
      ⊎_elim
      (λ h. record { one = d; among = Memᴰ.head refl; has = carried d (cluster (own_id d)).channels (told d) x h })
      (λ h. let r = stands_of ds x h in record { one = r.one; among = Memᴰ.tail r.among; has = r.has })
      (Memᴰ.append_cases (entity_controls (entity_of d) d (cluster (own_id d)).channels) m)

  of_stands : {d : List ℕ} {ds : List (List ℕ)} (x : Control) → d ∈ ds → LaidOut d → Carries d (cluster (own_id d)).channels x
      → x ∈ controls_of ds cluster
  unfolding controls_of
  of_stands {ds = []} x m o h = elim m [ ]
  of_stands {d} {ds = a ∷ ds} x (Memᴰ.head e) o h =
      Memᴰ.append_left {s = entity_controls (entity_of a) a (cluster (own_id a)).channels} (controls_of ds cluster)
      (rw e at (carries d (cluster (own_id d)).channels (told d) o x h))
  of_stands {ds = a ∷ ds} x (Memᴰ.tail m) o h =
      Memᴰ.append_right (entity_controls (entity_of a) a (cluster (own_id a)).channels) (of_stands x m o h)

  pub control_stands : (ds : List (List ℕ)) → ((d : List ℕ) → d ∈ ds → LaidOut d)
      → (x : Control) → x ∈ controls_of ds cluster ↔ Stands ds cluster x
  control_stands ds o x = (stands_of ds x, λ h. of_stands x h.among (o h.one h.among) h.has)
