-- The stretch, proved: where the reader accepts, the first entity that bears an ID is the only one, and its place is its descriptor's.
--   stretch_shown  ==  THE THEOREM
use Prim.Native.Nat.{ℕ, ◌≤◌, ◌<◌}
use mathlib.Core.Path.{◌≡◌, refl, sym, ap, ◌∙◌, subst}
use mathlib.Core.List.{List, []}
use mathlib.Core.Logic.{⊎_elim}
use native.Mathlib.Omega.{arith}
use lib.Dec.{eqb}
use lib.ListN.{length, get_or}
use borrow.Author.Tests.{eq-eqb, ne_eqb}
use Rattle.ground.specs.declared.Refusal.{Refusal}
use Rattle.ground.specs.Pick.{no, decided, reads_eq}
use Rattle.ground.specs.Lists.{member_at, member_index}
use Rattle.ground.specs.Places.{finding, first_some, first_none}
use Rattle.ground.specs.Places as places
use Rattle.ground.specs.Refuse.{none, refuse}
use Rattle.ground.specs.Told.{told_ok, told_err}
use Rattle.std.specs.Prelude.{Result, Ok, Err, Option, Some, None}
use Rattle.graph.specs.Members.{◌∈◌}
use Rattle.edition.specs.Edition.{own_id}
use Rattle.edition.specs.Audio.{audio}
use Rattle.entities.specs.declared.Run.{Run}
use Rattle.entities.specs.Run.{held, place_at}
use Rattle.entities.specs.Represents.{Represents}
use Rattle.cutting.specs.declared.Survey.{Survey}
use Rattle.cutting.specs.Survey.{survey_of}
use Rattle.ids.specs.Breach.{bears}
use Rattle.ids.specs.OwnIds.{own_ids}
use Rattle.topology.specs.declared.Finding.{Finding}
use Rattle.topology.specs.declared.Reading.{Reading}
use Rattle.topology.specs.Reading.{judged_then, room_judged, verdict_of, finding_with, found_in, finding_of, refused_reading, reading_of}
use Rattle.topology.specs.Verdict.{verdict_refused, verdict_room, verdict_whole}
use Rattle.reader.specs.Configuration.{run_of, place_of_run, Configuration}
use Rattle.reader.proofs.Surveyed.{entities_of, survey_kept, run_cut, represented}
use Rattle.reader.proofs.Exactly.{accepted_exactly, refused_exactly}
use Rattle.reader.proofs.NeverSixteen.{never_sixteen}
use Rattle.reader.proofs.Shows.{number_told}
use Rattle.extent.specs.Stretch.{entity_place, known, located_by, located_in, refusal_of, bytes_at}
use Rattle.records.specs.Sheet.{whole_sheet}
use Rattle.duets.specs.Stretches.{StretchShown}

module _ (s : List ℕ) where
  -- what the rules 1 to 15 refuse
  abbrev v : Refusal
  v = judged_then s none

  abbrev At_reader : ℕ → Result ℕ Refusal
  At_reader room = Err (record { number = (reading_of s room).number; place = (reading_of s room).place })

  -- the two answers of the reader, searched for an ID
  located_refused : (x : ℕ) → (v.number ≡ 0 → ⊥) → located_in s x ≡ Err v
  unfolding finding_of located_by
  located_refused x n = ap (λ (f : Result Finding Refusal). located_by f x) (told_err v (found_in s) n)

  located_kept : (x : ℕ) → v.number ≡ 0 → located_in s x ≡ known (entity_place (survey_of s).run x)
  unfolding finding_of located_by finding_with
  located_kept x z = ap (λ (f : Result Finding Refusal). located_by f x) (told_ok v (found_in s) z)

  roomy : (room : ℕ) → whole_sheet ≤ room → v.number ≡ 0 → (verdict_of s room).number ≡ 0
  roomy room h z = ap (λ (r : Refusal). r.number) (verdict_whole s room h) ∙ z

  refused_by : (x room : ℕ) → (v.number ≡ 0 → ⊥) → ((reading_of s room).number ≡ 0 → ⊥) → located_in s x ≡ At_reader room
  unfolding reading_of refused_reading
  refused_by x room broken n =
      located_refused x broken
      ∙ ap Err (verdict_refused s room broken)
      ∙ sym (ap (λ (r : Reading). Err (record { number = r.number; place = r.place })) (no _ _ (ne_eqb _ _ (λ z. n (number_told s room ∙ z)))))

  judged_so : (x room : ℕ) → whole_sheet ≤ room → ((reading_of s room).number ≡ 0 → ⊥) → located_in s x ≡ At_reader room
  judged_so x room h n = refused_by x room (λ z. n (number_told s room ∙ roomy room h z)) n

  -- behind the rules 1 to 15 only 16 is left
  sixteen_left : (b : Option ℕ) → ((refuse 16 b none).number ≡ 0 → ⊥) → ((refuse 16 b none).number ≡ 16 → ⊥) → ⊥
  unfolding refuse
  sixteen_left None n f = n refl
  sixteen_left (Some q) n f = f refl

  but_sixteen : (x room : ℕ) → ((reading_of s room).number ≡ 0 → ⊥) → ((reading_of s room).number ≡ 16 → ⊥) → located_in s x ≡ At_reader room
  unfolding room_judged
  but_sixteen x room n f =
      ⊎_elim
      (λ (z : v.number ≡ 0).
      let e : (reading_of s room).number ≡ (room_judged (survey_of s) room none).number = number_told s room ∙ ap (λ (r : Refusal). r.number) (verdict_room s room z) in
      absurd (sixteen_left _ (λ q. n (e ∙ q)) (λ q. f (e ∙ q))))
      (λ (m : v.number ≡ 0 → ⊥). refused_by x room m n)
      (decided (eqb v.number 0) (reads_eq v.number 0))

  known_64 : (p : Option ℕ) → (refusal_of (known p)).number ≡ 16 → ⊥
  known_64 None e = omega arith
  known_64 (Some q) e = omega arith

  no_sixteen : (x : ℕ) → (refusal_of (located_in s x)).number ≡ 16 → ⊥
  no_sixteen x e =
      ⊎_elim
      (λ (z : v.number ≡ 0). known_64 (entity_place (survey_of s).run x) (sym (ap (λ (y : Result ℕ Refusal). (refusal_of y).number) (located_kept x z)) ∙ e))
      (λ (m : v.number ≡ 0 → ⊥).
      let number : v.number ≡ 16 = sym (ap (λ (y : Result ℕ Refusal). (refusal_of y).number) (located_refused x m)) ∙ e in
      let whole : verdict_of s whole_sheet ≡ record { number = 16; place = v.place } =
      verdict_whole s whole_sheet (omega arith) ∙ ap (λ (n : ℕ). record { number = n; place = v.place }) number in
      never_sixteen s v.place ((refused_exactly s whole_sheet 16 v.place (λ z. omega arith)).0 whole))
      (decided (eqb v.number 0) (reads_eq v.number 0))

  module _ (t : Configuration s) where
    abbrev ds : List (List ℕ)
    ds = run_of t.kept

    abbrev run : Run
    run = entities_of t.kept

    r : Represents audio s (place_of_run t.kept) ds run
    r = represented s t.kept

    kept : v.number ≡ 0
    kept = ap (λ (y : Refusal). y.number) (sym (verdict_whole s whole_sheet (omega arith))) ∙ (accepted_exactly s whole_sheet).1 (t, (let l = t.kept.rule8.1 in omega arith))

    pub located_in_lem : (x : ℕ) → located_in s x ≡ known (entity_place run x)
    located_in_lem x = located_kept x kept ∙ ap (λ (w : Survey). known (entity_place w.run x)) (survey_kept s t.kept)

    none_bears : (x : ℕ) → ((d : List ℕ) → d ∈ ds → own_id d ≡ x → ⊥) → entity_place run x ≡ None
    unfolding entity_place
    none_bears x h =
        first_none (bears run x) (λ i. Some (place_at run i)) None (held run)
        (λ j l. let m : j < length ds = (let c = r.counted in omega arith) in ne_eqb _ _ (λ e. h (get_or ds j []) (member_at [] ds j m) (sym (r.id j m) ∙ e)))

    bears_first : (i : ℕ) → i < length ds → entity_place run (own_id (get_or ds i [])) ≡ Some (place_at run i)
    unfolding entity_place
    bears_first i l =
        first_some (bears run (own_id (get_or ds i []))) (λ j. Some (place_at run j)) None (held run) i
        (record {
          inside = let c = r.counted in omega arith;
          passes = eq-eqb _ _ (r.id i l);
          none_before = λ j m. let q : j < length ds = omega arith in ne_eqb _ _ (λ e. let w : j ≡ i = own_ids ds t.connected.rule10 j i q l (sym (r.id j q) ∙ e) in omega arith);
        })

    stands : (i : ℕ) → i < length ds → (refusal_of (located_in s (own_id (get_or ds i []))) ≡ none) × (bytes_at s (located_in s (own_id (get_or ds i []))) ≡ get_or ds i [])
    stands i l =
        let e : located_in s (own_id (get_or ds i [])) ≡ Ok (place_at run i) = located_in_lem (own_id (get_or ds i [])) ∙ ap known (bears_first i l) in
        (ap refusal_of e, ap (bytes_at s) e ∙ r.bytes i l)

    some_bytes : (x : ℕ) → (refusal_of (located_in s x)).number ≡ 0 → bytes_at s (located_in s x) ≡ [] → ⊥
    unfolding entity_place
    some_bytes x z e =
        go (finding (bears run x) (λ i. Some (place_at run i)) None (held run))
        (sym (ap (λ (y : Result ℕ Refusal). (refusal_of y).number) (located_in_lem x)) ∙ z)
        (sym (ap (bytes_at s) (located_in_lem x)) ∙ e)
      where
        go : {y : Option ℕ} → places.Finding (bears run x) (λ i. Some (place_at run i)) None (held run) y
            → (refusal_of (known y)).number ≡ 0 → bytes_at s (known y) ≡ [] → ⊥
        go (places.nothing k) f g = omega arith
        go (places.first {i} k) f g =
            let l : i < length ds = (let c = r.counted in let m = k.inside in omega arith) in
            let w = (run_cut s t.kept (get_or ds i []) (member_at [] ds i l)).long in
            let v : length (get_or ds i []) ≡ 0 = ap length (sym (r.bytes i l) ∙ g) in
            omega arith

  apart : (x : ℕ) → (refusal_of (located_in s x)).number ≡ 0 → bytes_at s (located_in s x) ≡ [] → ⊥
  apart x z =
      ⊎_elim
      (λ (k : v.number ≡ 0).
      some_bytes ((accepted_exactly s whole_sheet).0 (roomy whole_sheet (omega arith) k)).0 x z)
      (λ (n : v.number ≡ 0 → ⊥). absurd (n (sym (ap (λ (y : Result ℕ Refusal). (refusal_of y).number) (located_refused x n)) ∙ z)))
      (decided (eqb v.number 0) (reads_eq v.number 0))

  empties : (y : Result ℕ Refusal) → ((refusal_of y).number ≡ 0 → ⊥) → bytes_at s y ≡ []
  empties (Err r) h = refl
  empties (Ok p) h = absurd (h refl)

-- THE THEOREM
pub stretch_shown : (s : List ℕ) → StretchShown s
stretch_shown s = record {
  shown = λ t d m.
      let i = member_index [] m in
      subst (λ (e : List ℕ). (refusal_of (located_in s (own_id e)) ≡ none) × (bytes_at s (located_in s (own_id e)) ≡ e)) i.2 (stands s t i.0 i.1);
  unknown = λ t x h. located_in_lem s t x ∙ ap known (none_bears s t x h);
  by_the_reader = judged_so s;
  but_16 = but_sixteen s;
  never_16 = no_sixteen s;
  empty = λ x h. empties s (located_in s x) h;
  told_apart = apart s;
}
