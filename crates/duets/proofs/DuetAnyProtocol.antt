-- The duet box does not read the protocol byte, proved: a plug-in goes by the reader's answer and sheet; and the
-- stretch by the entities of the run, which are the same at the same place.
--   duet_any_protocol  ==  THE THEOREM
use Prim.Native.Nat.{ℕ}
use mathlib.Core.Path.{◌≡◌, refl, sym, ap, ◌∙◌, subst}
use mathlib.Core.List.{List}
use mathlib.Core.Logic.{⊎_elim}
use native.Mathlib.Omega.{arith}
use lib.Dec.{eqb}
use lib.ListN.{length, set}
use Rattle.ground.specs.Pick.{decided, reads_eq}
use Rattle.ground.specs.Lists.{reads_any}
use Rattle.graph.specs.Members.{◌∈◌}
use Rattle.edition.specs.Edition.{own_id}
use Rattle.edition.specs.Audio.{audio}
use Rattle.entities.specs.Run.{run_in}
use Rattle.cutting.specs.Rules1to9.{Opened}
use Rattle.records.specs.Sheet.{whole_sheet}
use Rattle.topology.specs.declared.Reading.{Reading}
use Rattle.topology.specs.Reading.{reading_of}
use Rattle.reader.specs.Configuration.{run_of, place_of_run, Configuration}
use Rattle.demands.specs.AnyProtocol.{protocol_place}
use Rattle.demands.proofs.Demand1.{demand_1}
use Rattle.demands.proofs.AnyProtocol.{alike, any_protocol}
use Rattle.sides.specs.declared.Side.{Side}
use Rattle.duet.specs.declared.Duet.{Duet}
use Rattle.admission.specs.Plugging.{Plugging, plug_of, duet_after}
use Rattle.admission.specs.Plugging.Plugging.{refused, let_in}
use Rattle.std.specs.Prelude.{Err}
use Rattle.extent.specs.Stretch.{entity_place, known, located_in, bytes_at}
use Rattle.duets.specs.Steps.{seen_plug}
use Rattle.duets.specs.DuetAnyProtocol.{DuetAnyProtocol}
use Rattle.duets.proofs.Stretches.{located_in_lem, stretch_shown}

module _ (s : List ℕ) (o : Opened s) (x : ℕ) where
  abbrev s' : List ℕ
  s' = set s (protocol_place o) x

  same_answer : (room : ℕ) → reading_of s' room ≡ reading_of s room
  same_answer room = any_protocol.answer s o x room

  -- a plug-in
  module _ (b : Duet) (k : Side) (d : List ℕ) where
    same_plug : plug_of b k s' (length d) ≡ plug_of b k s (length d)
    unfolding plug_of
    same_plug = rw (same_answer (length d)) refl

    same_seen : (p : Plugging) → seen_plug s' d p ≡ seen_plug s d p
    same_seen (refused n q) = refl
    same_seen (let_in r) = rw (any_protocol.sheet s o x d) refl

  -- the stretch where the reader refuses
  refused_alike : (id : ℕ) → ((reading_of s whole_sheet).number ≡ 0 → ⊥)
      → (located_in s' id ≡ located_in s id) × (bytes_at s' (located_in s' id) ≡ bytes_at s (located_in s id))
  refused_alike id n =
      let r : Reading = reading_of s whole_sheet in
      let q = same_answer whole_sheet in
      let e : located_in s id ≡ Err (record { number = r.number; place = r.place }) =
      (stretch_shown s).by_the_reader id whole_sheet (omega arith) n
      in
      let f : located_in s' id ≡ Err (record { number = r.number; place = r.place }) =
      (stretch_shown s').by_the_reader id whole_sheet (omega arith) (λ z. n (rw q at z)) ∙ rw q refl
      in
      (f ∙ sym e, ap (bytes_at s') f ∙ sym (ap (bytes_at s) e))

  -- .. and where it accepts
  module _ (c : Configuration s) (id : ℕ) where
    abbrev Borne : Type 0
    Borne = (d : List ℕ) × (d ∈ run_of c.kept) × (own_id d ≡ id)

    same_place : located_in s' id ≡ located_in s id
    same_place =
        let a = alike s o x c in
        located_in_lem s' a.other id
        ∙ ap (λ (p : ℕ). known (entity_place (run_in audio p (run_of a.other.kept)) id)) a.place
        ∙ ap (λ (ds : List (List ℕ)). known (entity_place (run_in audio (place_of_run c.kept) ds) id)) a.run
        ∙ sym (located_in_lem s c id)

    borne : Borne → bytes_at s' (located_in s' id) ≡ bytes_at s (located_in s id)
    borne (d, m, e) =
        let a = alike s o x c in
        let m' : d ∈ run_of a.other.kept = subst (λ (ds : List (List ℕ)). d ∈ ds) (sym a.run) m in
        subst (λ (i : ℕ). bytes_at s' (located_in s' i) ≡ bytes_at s (located_in s i)) e
        (((stretch_shown s').shown a.other d m').1 ∙ sym ((stretch_shown s).shown c d m).1)

    unborne : (Borne → ⊥) → bytes_at s' (located_in s' id) ≡ bytes_at s (located_in s id)
    unborne n =
        let e : located_in s id ≡ Err (record { number = 64; place = 0 }) = (stretch_shown s).unknown c id (λ d m q. n (d, m, q)) in
        ap (bytes_at s') (same_place ∙ e) ∙ sym (ap (bytes_at s) e)

    same_bytes : bytes_at s' (located_in s' id) ≡ bytes_at s (located_in s id)
    same_bytes =
        ⊎_elim
        (λ y. borne (y.one, y.among, y.has))
        (λ n. unborne (λ (y : Borne). n (record { one = y.0; among = y.1; has = y.2 })))
        (decided _
        (reads_any (λ d. eqb (own_id d) id) (λ d. own_id d ≡ id) (λ d. reads_eq (own_id d) id) (run_of c.kept)))

  stretched : (id : ℕ)
      → (located_in s' id ≡ located_in s id) × (bytes_at s' (located_in s' id) ≡ bytes_at s (located_in s id))
  stretched id =
      ⊎_elim
      (λ e. let c = ((demand_1.reader_accepts s whole_sheet).0 e).0 in (same_place c id, same_bytes c id))
      (refused_alike id)
      (decided (eqb (reading_of s whole_sheet).number 0) (reads_eq (reading_of s whole_sheet).number 0))

-- THE THEOREM
pub duet_any_protocol : DuetAnyProtocol
duet_any_protocol = record {
  plugs = λ s o x b k d. (
    ap (seen_plug (set s (protocol_place o) x) d) (same_plug s o x b k d)
        ∙ same_seen s o x b k d (plug_of b k s (length d)),
    ap (duet_after b k) (same_plug s o x b k d),
  );
  located = λ s o x id. (stretched s o x id).0;
  stretch = λ s o x id. (stretched s o x id).1;
}
