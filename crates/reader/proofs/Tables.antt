-- The table that the reader answers is as document 01 has it before any load.
--   few_channels   ==  a cluster that keeps the rules has at most 16 channels, on every entity's output
--   reader_table   ==  so is the reader's table, whatever the configuration and the sheet: first values, nothing loaded, spare places
--                      zero; refusal 30 has nothing against it (`fresh-sound`, of crate sound)
use Prim.Native.Nat.{ℕ, zero, suc, ◌≤◌, ◌<◌, zero-le}
use mathlib.Core.Path.{◌≡◌, refl, sym, ap, subst}
use mathlib.Core.List.Memᴰ
use mathlib.Core.List.{List, [], ◌∷◌, map}
use mathlib.Core.Logic.{◌⊎◌, inl, inr}
use lib.Dec.{eqb}
use lib.ListN.{length}
use native.Mathlib.Omega.{arith}
use borrow.Author.Tests.{ne_eqb}
use Rattle.ground.specs.Pick.{no, decided, reads_eq}
use Rattle.layout.specs.declared.Cluster.{Cluster}
use Rattle.layout.specs.declared.Entity.{Entity}
use Rattle.layout.specs.declared.Entity.TheVariants.{Unknown, Input, Output, Mixer, Selector, Feature}
use Rattle.layout.specs.Layout.{entity_of}
use Rattle.graph.specs.Members.{◌∈◌}
use Rattle.channels.specs.DeclaredChannels.{most_channels}
use Rattle.edition.specs.Edition.{own_id, sources}
use Rattle.edition.specs.Audio.{first_of, named, give_out, Keeps, audio}
use Rattle.ids.specs.OwnIds.{distinct_ids}
use Rattle.clusters.specs.Rule13.{entering, Connected}
use Rattle.clusters.specs.Topology.{source_of}
use Rattle.sound.specs.Fresh.{Fresh, fresh_empty}
use Rattle.controls.specs.Growth.{table_of}
use Rattle.controls.specs.Reader.{reader_fresh}
use Rattle.topology.specs.declared.Reading.{Reading}
use Rattle.topology.specs.Reading.{verdict_of, refused_reading, reading_of}
use Rattle.reader.specs.Configuration.{Configuration}
use Rattle.reader.proofs.Exactly.{accepted_exactly}
use Rattle.reader.proofs.Shows.{run, cluster, controls, answer_shows}

few_out : (e : Entity) (l : ℕ) (cs : List Cluster) → Keeps e l cs → (first_of cs).channels ≤ most_channels → (give_out e cs).channels ≤ most_channels
unfolding give_out named Keeps
few_out Unknown l cs k h = h
few_out (Input i t own) l cs k h = k.channels.1
few_out (Output i t s) l cs k h = h
few_out (Mixer i p own) l cs k h = k.0.channels.1
few_out (Selector i p) l cs k h = h
few_out (Feature i s n) l cs k h = h

few_first : (l : List ℕ) (cluster : ℕ → Cluster) → ((b : ℕ) → b ∈ l → (cluster b).channels ≤ most_channels)
    → (first_of (map cluster l)).channels ≤ most_channels
unfolding first_of
few_first [] cluster h = zero-le
few_first (b ∷ l) cluster h = h b (Memᴰ.head refl)

module _ (ds : List (List ℕ)) (c : Connected audio ds) where
  -- along the ranks: a source's is lower than its user's
  few_below : (n : ℕ) (d : List ℕ) → d ∈ ds → c.rank (own_id d) < n → (c.cluster (own_id d)).channels ≤ most_channels
  few_below zero d m h = absurd (omega arith)
  few_below (suc n) d m h =
      subst (λ (k : Cluster). k.channels ≤ most_channels) (sym (c.given_out d m))
      (few_out (entity_of d) (length d) (entering audio c.cluster d) (c.fits d m)
      (few_first (sources audio d) c.cluster
      (λ x a. let b = source_of c.rule11 d m x a in
      let q : c.rank (own_id b.one) < n = rw b.has (let q = c.ranked d m x a in omega arith) in
      subst (λ (y : ℕ). (c.cluster y).channels ≤ most_channels) b.has (few_below n b.one b.among q))))

  pub few_channels : (d : List ℕ) → d ∈ ds → (c.cluster (own_id d)).channels ≤ most_channels
  few_channels d m = few_below (suc (c.rank (own_id d))) d m (omega arith)

configuration_table : (s : List ℕ) (t : Configuration s) → Fresh (table_of (controls s t))
configuration_table s t =
    reader_fresh (run s t) (cluster s t) t.kept.rule9 (distinct_ids (run s t) t.connected.rule10) t.rule15 (few_channels (run s t) t.connected)

pub reader_table : (s : List ℕ) (room : ℕ) → Fresh (reading_of s room).table
unfolding reading_of refused_reading
reader_table s room = go (decided (eqb (verdict_of s room).number 0) (reads_eq (verdict_of s room).number 0))
  where
    go : ((verdict_of s room).number ≡ 0) ⊎ ((verdict_of s room).number ≡ 0 → ⊥) → Fresh (reading_of s room).table
    go (inl e) =
        let t = (accepted_exactly s room).0 e in
        subst Fresh (sym (ap (λ (x : Reading). x.table) (answer_shows s t.0 room t.1))) (configuration_table s t.0)
    go (inr n) = subst Fresh (sym (ap (λ (x : Reading). x.table) (no _ _ (ne_eqb _ _ n)))) fresh_empty
