-- The reader's table, of a run with right layouts and distinct IDs that keeps rule 15.
--   controls_same    ==  the controls of a run as the reader has it are those of the descriptors that it stands for
--   table_stands     ==  a control stands in the table exactly where some entity of the run carries it
--   table_ordered    ==  of two places of the table the earlier holds the control that is Before the other
--   reader_fresh     ==  its controls are as they are made: nothing loaded, first values, spare places zero
use Prim.Native.Nat.{ℕ, zero, suc, ◌+◌, ◌≤◌, ◌<◌}
use Rattle.std.specs.Prelude.{◌≡◌, ◌↔◌, ltb, length, take}
use Rattle.std.proofs.Math.Path.{refl, sym, ap}
use Rattle.std.proofs.Common.{◌∙◌, ⊎_elim, arith, take-suc}
use mathlib.Core.List.{List, [], ◌∷◌, ◌++◌, append_assoc, append-nil}
use Rattle.std.proofs.Math.ListN.{get_or, get_or-eq_default}
use Rattle.std.proofs.Math.Seq.{take-length}
use Rattle.ground.specs.Pick.{decided, reads_lt}
use Rattle.ground.specs.Numbers.{byte}
use Rattle.ground.specs.Lists.{pad, pad_length, pad_at, member_at, member_index}
use Rattle.graph.specs.Members.{◌∈◌}
use Rattle.layout.specs.declared.Cluster.{Cluster}
use Rattle.layout.specs.Layout.{Pins, LaidOut, no_cluster, entity_of}
use Rattle.layout.specs.declared.Entity.{Entity}
use Rattle.layout.specs.LayoutLaws.{Told}
use Rattle.layout.proofs.LayoutLemmas.{told}
use Rattle.layout.specs.LayoutLaws as laid
use Rattle.layout.proofs.LayoutLemmas as laid_laws
use Rattle.edition.specs.Edition.{own_id, DistinctIds}
use Rattle.edition.specs.Audio.{audio}
use Rattle.entities.specs.declared.Run.{Run}
use Rattle.entities.specs.Run.{node_at}
use Rattle.entities.specs.Represents.{Represents}
use Rattle.setting.specs.declared.Sort.{Sort}
use Rattle.setting.specs.declared.Sort.TheVariants.{Volume, Tone, Delay}
use Rattle.table.specs.declared.Control.{Control}
use Rattle.table.specs.declared.Sense.{Sense}
use Rattle.table.specs.declared.Sense.TheVariants.{YesNo, Ranged}
use Rattle.table.specs.Controls.{most_controls, blank_control, at, sense_of}
use Rattle.table.specs.Keys.{InTable}
use Rattle.single.specs.FreshControl.{FreshAs}
use Rattle.sound.specs.Fresh.{Fresh}
use Rattle.masks.specs.Masks.{unit_control}
use Rattle.masks.specs.Order.{pairs_at}
use Rattle.controls.specs.Controls.{entity_controls, controls_of, node_controls, controls_to, controls_of_run}
use Rattle.controls.specs.Growth.{table_of}
use Rattle.controls.specs.Standing.{Carries, feature, selector, Stands, stands_of, control_stands}
use Rattle.controls.specs.Order.{Before, controls_ordered}
use Rattle.controls.specs.Rule15.{Rule15, before_other, listed_few}

controls_append : (cluster : ℕ → Cluster) (xs ys : List (List ℕ))
    → controls_of (xs ++ ys) cluster ≡ controls_of xs cluster ++ controls_of ys cluster
unfolding controls_of
controls_append cluster [] ys = refl
controls_append cluster (d ∷ xs) ys =
    ap (λ (l : List Control). entity_controls (entity_of d) d (cluster (own_id d)).channels ++ l) (controls_append cluster xs ys)
    ∙ sym (append_assoc (entity_controls (entity_of d) d (cluster (own_id d)).channels) (controls_of xs cluster) (controls_of ys cluster))

-- THE LAW: what the reader lists of its run, with clusters index by index, is what the descriptors have, with clusters by their IDs
module _ {s : List ℕ} {p : ℕ} {ds : List (List ℕ)} {run : Run} (h : Represents audio s p ds run) (cs : List Cluster) (cluster : ℕ → Cluster)
    (agree : (i : ℕ) → i < length ds → get_or cs i no_cluster ≡ cluster (own_id (get_or ds i []))) where
  controls_front : (i : ℕ) → i ≤ length ds → controls_to i s run cs ≡ controls_of (take i ds) cluster
  unfolding controls_to controls_of
  controls_front zero l = refl
  controls_front (suc i) l =
      ap (λ (x : List Control). x ++ node_controls s (node_at run i) (get_or cs i no_cluster).channels) (controls_front i (omega arith))
      ∙ ap (λ (d : List ℕ). controls_of (take i ds) cluster ++ entity_controls (entity_of d) d (get_or cs i no_cluster).channels) (h.bytes i l)
      ∙ ap (λ (c : Cluster). controls_of (take i ds) cluster ++ entity_controls (entity_of (get_or ds i [])) (get_or ds i []) c.channels) (agree i l)
      ∙ ap (λ (x : List Control). controls_of (take i ds) cluster ++ x) (sym (append-nil (entity_controls (entity_of (get_or ds i [])) (get_or ds i []) (cluster (own_id (get_or ds i []))).channels)))
      ∙ sym (controls_append cluster (take i ds) (get_or ds i [] ∷ []))
      ∙ ap (λ (x : List (List ℕ)). controls_of x cluster) (sym (take-suc ds i [] l))

  pub controls_same : controls_of_run s run cs ≡ controls_of ds cluster
  unfolding controls_of_run
  controls_same =
      ap (λ (i : ℕ). controls_to i s run cs) h.counted
      ∙ controls_front (length ds) (omega arith)
      ∙ ap (λ (x : List (List ℕ)). controls_of x cluster) (take-length ds)

-- what stands at a place of the table of at most 128 controls
at_place : (l : List Control) → length l ≤ most_controls → (p : ℕ) → p < length l → at (table_of l) p ≡ get_or l p blank_control
unfolding table_of
at_place l few p h = pad_at blank_control most_controls l p (omega arith)

spare_place : (l : List Control) (p : ℕ) → length l ≤ p → at (table_of l) p ≡ blank_control
unfolding table_of
spare_place l p h =
    ⊎_elim
    (λ (m : p < most_controls). pad_at blank_control most_controls l p m ∙ get_or-eq_default l blank_control h)
    (λ (n : p < most_controls → ⊥). let e = pad_length blank_control most_controls l in let m : length (pad blank_control most_controls l) ≤ p = omega arith in get_or-eq_default (pad blank_control most_controls l) blank_control m)
    (decided (ltb p most_controls) (reads_lt p most_controls))

-- the control x stands at one of the places that the table counts
-- what a Feature Unit's control may hold
data Held : Sense → Type 0 where
  yes_no : Held YesNo
  ranged : (s : Sort) → Held (Ranged s)

known : (b : ℕ) → b ≤ 9 → (b ≡ 5 → ⊥) → Held (sense_of (b + 1))
unfolding sense_of
known zero h n = yes_no
known (suc zero) h n = ranged Volume
known (suc (suc zero)) h n = ranged Tone
known (suc (suc (suc zero))) h n = ranged Tone
known (suc (suc (suc (suc zero)))) h n = ranged Tone
known (suc (suc (suc (suc (suc zero))))) h n = absurd (n refl)
known (suc (suc (suc (suc (suc (suc zero)))))) h n = yes_no
known (suc (suc (suc (suc (suc (suc (suc zero))))))) h n = ranged Delay
known (suc (suc (suc (suc (suc (suc (suc (suc zero)))))))) h n = yes_no
known (suc (suc (suc (suc (suc (suc (suc (suc (suc zero))))))))) h n = yes_no
known (suc (suc (suc (suc (suc (suc (suc (suc (suc (suc b)))))))))) h n = absurd (omega arith)

unit_fresh : {held : Sense} → Held held → (u k v : ℕ) → k ≤ 16 → FreshAs held (unit_control u k v)
unit_fresh yes_no u k v h = record { channel = h; pins = refl; unused = record { unloaded = refl; min = refl; max = refl; res = refl }; first = refl }
unit_fresh (ranged s) u k v h = record { channel = h; pins = refl; unused = record { unloaded = refl; min = refl; max = refl; res = refl }; first = refl }

selector_pins : (d : List ℕ) → LaidOut d → byte d 2 ≡ 5 → Pins (byte d 4)
selector_pins d o e = of (told d)
  where
    of : {x : Entity} → Told d x → Pins (byte d 4)
    of (laid.unknown n) = absurd (n o)
    of (laid.input k l) = absurd (omega arith)
    of (laid.output k l) = absurd (omega arith)
    of (laid.mixer k q l) = absurd (omega arith)
    of (laid.selector k q l) = q
    of (laid.feature k q l) = absurd (omega arith)

carried_fresh : {d : List ℕ} {c : ℕ} {x : Control} → LaidOut d → c ≤ 16 → Carries d c x → FreshAs (sense_of x.selector) x
unfolding sense_of
carried_fresh {d} o h (feature k b i p q f g) = unit_fresh (known b q f) (byte d 3) k (b + 1) (omega arith)
carried_fresh {d} o h (selector i) =
    record { channel = refl; pins = selector_pins d o i; unused = record { unloaded = refl; min = refl; max = refl; res = refl }; first = refl }

module _ (ds : List (List ℕ)) (cluster : ℕ → Cluster) (laid : (d : List ℕ) → d ∈ ds → LaidOut d)
    (distinct : DistinctIds ds) (rule : Rule15 ds cluster) where
  abbrev listed : List Control
  listed = controls_of ds cluster

  few : length listed ≤ most_controls
  few = (listed_few ds cluster laid distinct).1 rule

  -- THE LAW: a control stands in the table exactly where some entity of the run carries it
  pub table_stands : (x : Control) → InTable (table_of listed) x ↔ Stands ds cluster x
  unfolding table_of
  table_stands x = (of, to)
    where
      of : InTable (table_of listed) x → Stands ds cluster x
      of k =
          let e : get_or listed k.index blank_control ≡ x = sym (at_place listed few k.index k.inside) ∙ k.is in
          stands_of cluster ds x (rw (← e) (member_at blank_control listed k.index k.inside))

      to : Stands ds cluster x → InTable (table_of listed) x
      to h =
          let k = member_index blank_control ((control_stands cluster ds laid x).1 h) in
          record { index = k.0; inside = k.1; is = at_place listed few k.0 k.1 ∙ k.2 }

  -- THE LAW: the table goes by entity place, channel, selector
  pub table_ordered : (p q : ℕ) → p < q → q < (table_of listed).count → Before ds (at (table_of listed) p) (at (table_of listed) q)
  unfolding table_of
  table_ordered p q l h =
      rw (at_place listed few p (omega arith), at_place listed few q h) (pairs_at (Before ds) blank_control (controls_ordered cluster ds) p q l h)

  -- THE THEOREM: with at most 16 channels on each ID, the table is as document 01 has it at first; so refusal 30 does not turn it away
  pub reader_fresh : ((d : List ℕ) → d ∈ ds → (cluster (own_id d)).channels ≤ 16) → Fresh (table_of listed)
  unfolding table_of
  reader_fresh channels = record { few = few; once = λ p q l h. before_other ds distinct _ _ (table_ordered p q l h); each = each; spare = spare_place listed }
    where
      each : (p : ℕ) → p < (table_of listed).count → FreshAs (sense_of (at (table_of listed) p).selector) (at (table_of listed) p)
      each p h =
          let r = stands_of cluster ds (get_or listed p blank_control) (member_at blank_control listed p h) in
          rw (at_place listed few p h) (carried_fresh (laid r.one r.among) (channels r.one r.among) r.has)
