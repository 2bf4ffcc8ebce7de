-- The bytes of a record, each said of the descriptor's bytes and of the cluster on its ID (document 01, "The sheet" and "Entities").
--   SourcesAt d k p    ==  d has p source IDs, one behind another from offset k on, as its kind has them: an Input Terminal none; an Output Terminal one, at 7; a
--                          Mixer and a Selector "p at 4, sources from 5"; a Feature Unit one, at 4
--   sources_stand      ==  so it is of a descriptor that has its layout, by what the reader makes of it
--   sources_one        ==  .. and in one way only
--   RecordBytes d c b  ==  the bytes b are the record of the descriptor d with the cluster c: "ID; kind ..; c; bitmap (2); name index; pins; 00", then
--                          "twenty-four source IDs", "unused ones 00"; d has one of the five layouts, and the kind is one of the five
--   source_at          ==  what stands behind the head of a record, of any edition: the source IDs, unused ones 00
--   bytes_told         ==  the record of a descriptor that has its layout is such
use Rattle.std.specs.Prelude.{ℕ, ◌+◌, ◌/◌, ◌%◌, ◌≤◌, ◌<◌, ◌≡◌, refl, List, eqb, length}
use Rattle.std.proofs.Common.{sym, ap, ◌∙◌, get_or-append-add, arith}
use Rattle.std.proofs.Math.Path.{subst}
use Rattle.std.proofs.Math.ListN.{get_or-eq_default}
use Rattle.ground.specs.Pick.{pick}
use Rattle.ground.specs.Numbers.{byte}
use Rattle.ground.specs.Lists.{pad, pad_length, pad_at}
use Rattle.layout.specs.declared.Cluster.{Cluster}
use Rattle.layout.specs.Layouts.{most_pins}
use Rattle.layout.specs.declared.Entity.{Entity}
use Rattle.layout.specs.Layout.{LaidOut, entity_of}
use Rattle.layout.specs.LayoutLaws.{Told}
use Rattle.layout.proofs.LayoutLemmas.{told}
use Rattle.layout.specs.LayoutLaws as laid
use Rattle.layout.proofs.LayoutLemmas as laid_laws
use Rattle.kinds.specs.Shown.{kind_told, kind_range}
use Rattle.kinds.specs.Sources.{pins_of, sources_from}
use Rattle.kinds.specs.SourcesLaws.{ids_length, id_at, pins_few}
use Rattle.edition.specs.Edition.{Edition, own_id, sources}
use Rattle.edition.specs.Audio.{audio}
use Rattle.records.specs.Records.{head_size, record_size, front_of, record_for, record_in}

pub data SourcesAt (d : List ℕ) : ℕ → ℕ → Type 0 where
  input : byte d 2 ≡ 2 → SourcesAt d 0 0
  output : byte d 2 ≡ 3 → SourcesAt d 7 1
  mixer : byte d 2 ≡ 4 → SourcesAt d 5 (byte d 4)
  selector : byte d 2 ≡ 5 → SourcesAt d 5 (byte d 4)
  feature : byte d 2 ≡ 6 → SourcesAt d 4 1

pub record RecordBytes (d : List ℕ) (c : Cluster) (b : List ℕ) : Type 0 where
  pub laid : LaidOut d
  pub long : length b ≡ record_size
  pub id : byte b 0 ≡ own_id d
  pub kind : byte b 1 ≡ byte d 2
  pub one_of_five : (2 ≤ byte b 1) × (byte b 1 ≤ 6)
  pub channels : byte b 2 ≡ c.channels
  pub low : byte b 3 ≡ c.locations % 256
  pub high : byte b 4 ≡ c.locations / 256
  pub names : byte b 5 ≡ c.names
  pub from : ℕ
  pub pins : SourcesAt d from (byte b 6)
  pub spare : byte b 7 ≡ 0
  pub source : (j : ℕ) → j < byte b 6 → byte b (head_size + j) ≡ byte d (from + j)
  pub unused : (j : ℕ) → byte b 6 ≤ j → j < most_pins → byte b (head_size + j) ≡ 0

module _ (d : List ℕ) where
  pub sources_stand : LaidOut d → SourcesAt d (sources_from (entity_of d)) (pins_of (entity_of d))
  unfolding sources_from pins_of
  sources_stand o = of (told d)
    where
      of : {e : Entity} → Told d e → SourcesAt d (sources_from e) (pins_of e)
      of (laid.unknown n) = absurd (n o)
      of (laid.input k l) = input k
      of (laid.output k l) = output k
      of (laid.mixer k q l) = mixer k
      of (laid.selector k q l) = selector k
      of (laid.feature k q l) = feature k

  -- offset and number by the kind alone
  abbrev offset_by : ℕ → ℕ
  offset_by n = pick (eqb n 2) 0 (pick (eqb n 3) 7 (pick (eqb n 6) 4 5))

  abbrev pins_by : ℕ → ℕ
  pins_by n = pick (eqb n 2) 0 (pick (eqb n 3) 1 (pick (eqb n 6) 1 (byte d 4)))

  by_kind : {k p : ℕ} → SourcesAt d k p → (offset_by (byte d 2) ≡ k) × (pins_by (byte d 2) ≡ p)
  by_kind (input e) = (ap offset_by e, ap pins_by e)
  by_kind (output e) = (ap offset_by e, ap pins_by e)
  by_kind (mixer e) = (ap offset_by e, ap pins_by e)
  by_kind (selector e) = (ap offset_by e, ap pins_by e)
  by_kind (feature e) = (ap offset_by e, ap pins_by e)

  pub sources_one : {k p i q : ℕ} → SourcesAt d k p → SourcesAt d i q → (k ≡ i) × (p ≡ q)
  sources_one a b = (sym (by_kind a).0 ∙ (by_kind b).0, sym (by_kind a).1 ∙ (by_kind b).1)

pub source_at : (ed : Edition) (d : List ℕ) (c : Cluster) (j : ℕ) → j < most_pins → byte (record_for ed d c) (head_size + j) ≡ byte (sources ed d) j
unfolding record_for
source_at ed d c j h =
    get_or-append-add (front_of (own_id d) (ed.kind d) (length (sources ed d)) c) (pad 0 most_pins (sources ed d)) j 0 ∙ pad_at 0 most_pins (sources ed d) j h

module _ (d : List ℕ) (c : Cluster) (laid : LaidOut d) where
  -- THE LAW, where d has its layout (rule 9)
  pub bytes_told : RecordBytes d c (record_in d c)
  unfolding record_for
  bytes_told = record {
    laid = laid;
    long = let e = pad_length 0 most_pins (sources audio d) in omega arith;
    id = refl;
    kind = kind_told d laid;
    one_of_five = kind_range d laid;
    channels = refl;
    low = refl;
    high = refl;
    names = refl;
    from = sources_from (entity_of d);
    pins = subst (SourcesAt d (sources_from (entity_of d))) (sym (ids_length d)) (sources_stand d laid);
    spare = refl;
    source = λ j h. let n = ids_length d in let m = pins_few d in source_at audio d c j (omega arith) ∙ id_at d j (omega arith);
    unused = λ j h l. source_at audio d c j l ∙ get_or-eq_default (sources audio d) 0 h;
  }
