-- What the answer and the sheet of the 3.0 edition show of a configuration, and that what keeps the rules is one.
--   answer_number      ==  number and place in the answer are those of the refusal
--   third_demand       ==  THE THEOREM, field by field of ThirdDemand
use Prim.Native.Nat.{ℕ, ◌+◌, ◌*◌, ◌≤◌, ◌<◌}
use mathlib.Core.Path.{◌≡◌, refl, sym, ap, ◌∙◌, subst}
use mathlib.Core.Bool.{Bool, true, false}
use mathlib.Core.List.{List, [], ◌++◌}
use mathlib.Core.Logic.{◌↔◌}
use lib.ListN.{length, get_or, take, drop, get_or-eq_default}
use lib.Seq.{get_or-take, get_or-drop}
use lib.Dec.{eqb}
use native.Mathlib.Omega.{arith}
use borrow.Author.Tests.{eq-eqb, ne_eqb, eqb-true, eqb-false}
use Rattle.ground.specs.declared.Refusal.{Refusal}
use Rattle.ground.specs.Pick.{yes, no}
use Rattle.ground.specs.Numbers.{byte}
use Rattle.ground.specs.Lists.{member_at}
use Rattle.graph.specs.Members.{◌∈◌}
use Rattle.layout.specs.FormatLaws.{stretch_length}
use Rattle.layout.specs.Layout.{no_cluster}
use Rattle.layout3.specs.declared.Entity.{Entity}
use Rattle.layout3.specs.Layouts.{LaidOut}
use Rattle.layout3.specs.Facts.{facts_of}
use Rattle.layout3.specs.LayoutLaws.{Told, told, unknown, input, output, mixer, selector, feature, clock, pins_few, sources_within}
use Rattle.scan.specs.PieceLaws.{cut_one}
use Rattle.buffer.specs.Clusters.{two_bytes}
use Rattle.buffer.specs.BufferLaws.{buffer_pieces}
use Rattle.edition.specs.Edition.{own_id, sources}
use Rattle.edition3.specs.Third.{said_by, third}
use Rattle.entities.specs.declared.Run.{Run}
use Rattle.entities.specs.Run.{run_in}
use Rattle.entities.specs.Represents.{Represents}
use Rattle.cutting.specs.Context.{opened_one, run_one}
use Rattle.clusters.specs.Rule13.{Connected}
use Rattle.clusters.proofs.TopologyLemmas.{clusters_one}
use Rattle.clusters3.specs.Shown.{shown_cluster}
use Rattle.clusters3.specs.Rule13Laws.{third_shown}
use Rattle.clusters3.specs.InBuffer.{cluster_in_buffer}
use Rattle.records.specs.Records.{record_size, record_for, shown_in}
use Rattle.records.specs.Bytes.{source_at}
use Rattle.records.specs.Sheet.{records_for, Rule16, whole_sheet, shown_same, record_long, record_at}
use Rattle.third.specs.declared.SheetAnswer.{SheetAnswer}
use Rattle.third.specs.Judgement.{clusters_shown, third_verdict, sheet_refused, sheet_taken, third_answer, third_sheet}
use Rattle.reader3.specs.ThirdConfiguration.{run_in3, place_in3, clusters_in, ThirdConfiguration}
use Rattle.reader3.specs.ThirdRefusals.{RefusedThird}
use Rattle.reader3.specs.ThirdRecord.{ShownKind, ThirdSourcesAt, ThirdRecord}
use Rattle.reader3.specs.ThirdRecord as shown
use Rattle.reader3.specs.PlainConfiguration.{PlainConfiguration}
use Rattle.reader3.specs.BothEditions.{third_run, third_cluster, third_buffer, RefusedSheet, PlainAlike, ThirdDemand}
use Rattle.reader3.proofs.KeptRun.{entities_third, run_kept, represented}
use Rattle.reader3.proofs.ThirdExactly.{third_accepted, third_refused}
use Rattle.reader3.proofs.PlainSources.{clock_kind, laid_plainly, plainly_laid, links_plainly, unknown_plainly}
use Rattle.reader3.proofs.InPlainWords.{plainly, rule13_plainly, broken_plainly, third_plain, plain_exactly}

-- the answer's number and place are the verdict's
module _ (s b : List ℕ) (room : ℕ) where
  answer_refused : ((third_verdict s b room).number ≡ 0 → ⊥) → third_answer s b room ≡ sheet_refused (third_verdict s b room)
  unfolding third_answer
  answer_refused n = no _ _ (ne_eqb _ _ n)

  answer_taken : (third_verdict s b room).number ≡ 0 → third_answer s b room ≡ sheet_taken s
  unfolding third_answer
  answer_taken e = yes _ _ (eq-eqb _ _ e)

  pub answer_number : (third_answer s b room).number ≡ (third_verdict s b room).number
  unfolding sheet_refused
  answer_number = go (eqb (third_verdict s b room).number 0) refl
    where
      go : (c : Bool) → eqb (third_verdict s b room).number 0 ≡ c → (third_answer s b room).number ≡ (third_verdict s b room).number
      go true q = let e = eqb-true _ _ q in ap (λ (x : SheetAnswer). x.number) (answer_taken e) ∙ sym e
      go false q = ap (λ (x : SheetAnswer). x.number) (answer_refused (eqb-false _ _ q))

  verdict_nonzero : ((third_answer s b room).number ≡ 0 → ⊥) → (third_verdict s b room).number ≡ 0 → ⊥
  verdict_nonzero n e = n (answer_number ∙ e)

  answer_place : ((third_answer s b room).number ≡ 0 → ⊥) → (third_answer s b room).place ≡ (third_verdict s b room).place
  unfolding sheet_refused
  answer_place n = ap (λ (x : SheetAnswer). x.place) (answer_refused (verdict_nonzero n))

  both : ((third_answer s b room).number ≡ 0 → ⊥) → third_verdict s b room ≡ record { number = (third_answer s b room).number; place = (third_answer s b room).place }
  both n = rw (answer_number, answer_place n) refl

  refused_both : (n p : ℕ) → (n ≡ 0 → ⊥) → (((third_answer s b room).number ≡ n) × ((third_answer s b room).place ≡ p)) ↔ RefusedThird s b room n p
  refused_both n p z = (to, of)
    where
      to : ((third_answer s b room).number ≡ n) × ((third_answer s b room).place ≡ p) → RefusedThird s b room n p
      to (e, f) = (third_refused s b room n p z).0 (both (λ q. z (sym e ∙ q)) ∙ ap (λ (i : ℕ). record { number = i; place = (third_answer s b room).place }) e ∙ ap (λ (i : ℕ). record { number = n; place = i }) f)

      of : RefusedThird s b room n p → ((third_answer s b room).number ≡ n) × ((third_answer s b room).place ≡ p)
      of r =
          let v = (third_refused s b room n p z).1 r in
          let m : (third_answer s b room).number ≡ n = answer_number ∙ ap (λ (x : Refusal). x.number) v in
          (m, answer_place (λ q. z (sym m ∙ q)) ∙ ap (λ (x : Refusal). x.place) v)

module _ (s b d : List ℕ) (n : (third_answer s b (length d)).number ≡ 0 → ⊥) where
  refuses : RefusedSheet s b d
  unfolding third_sheet sheet_refused
  refuses = record {
    row = (refused_both s b (length d) (third_answer s b (length d)).number (third_answer s b (length d)).place n).0 (refl, refl);
    no_entities = ap (λ (x : SheetAnswer). x.entities) (answer_refused s b (length d) (verdict_nonzero s b (length d) n));
    sheet = no _ _ (ne_eqb _ _ (verdict_nonzero s b (length d) n));
  }

-- what keeps the rules is one
module _ (s b : List ℕ) (t u : ThirdConfiguration s b) where
  one_cutting : t.kept.opened.descriptors ≡ u.kept.opened.descriptors
  one_cutting = opened_one s t.kept.opened u.kept.opened

  one_buffer : third_buffer t ≡ third_buffer u
  one_buffer = cut_one two_bytes b _ _ t.kept.rule51.tiles u.kept.rule51.tiles

  one_descriptors : third_run t ≡ third_run u
  one_descriptors = run_one s t.kept.opened u.kept.opened t.kept.rule5 u.kept.rule5 t.kept.rule6 u.kept.rule6

  -- of one buffer, so that both are of one edition
  one_clusters : (d : List ℕ) → d ∈ third_run t → third_cluster t (own_id d) ≡ third_cluster u (own_id d)
  one_clusters =
      subst (λ (ks : List (List ℕ)). (c : Connected (third ks) (third_run u)) (d : List ℕ) → d ∈ third_run t → third_cluster t (own_id d) ≡ c.cluster (own_id d)) one_buffer
      (clusters_one one_descriptors t.connected)
      u.connected

-- the record, byte by byte, of a descriptor that has its layout
kind_shown : (d : List ℕ) → LaidOut d → ShownKind (byte d 2) (said_by d).kind
unfolding facts_of
kind_shown d o = of (told d)
  where
    at : {n k : ℕ} → byte d 2 ≡ n → ShownKind n k → ShownKind (byte d 2) k
    at {k = k} e x = subst (λ (n : ℕ). ShownKind n k) (sym e) x

    of : {e : Entity} → Told d e → ShownKind (byte d 2) (facts_of e).kind
    of (unknown n) = absurd (n o)
    of (input l k i) = at k shown.input
    of (output l k i) = at k shown.output
    of (mixer l k q i) = at k shown.mixer
    of (selector l k q i) = at k shown.selector
    of (feature l k i) = at k shown.feature
    of (clock l k i) = at k shown.clock

-- its source IDs, where its kind has them
sources_stand : (d : List ℕ) → LaidOut d → ThirdSourcesAt d (said_by d).first (said_by d).pins
unfolding facts_of
sources_stand d o = of (told d)
  where
    of : {e : Entity} → Told d e → ThirdSourcesAt d (facts_of e).first (facts_of e).pins
    of (unknown n) = absurd (n o)
    of (input l k i) = shown.input k
    of (output l k i) = shown.output k
    of (mixer l k q i) = shown.mixer k
    of (selector l k q i) = shown.selector k
    of (feature l k i) = shown.feature k
    of (clock l k i) = shown.clock k

module _ (ks : List (List ℕ)) (d c : List ℕ) (o : LaidOut d) where
  ids_long : length (sources (third ks) d) ≡ (said_by d).pins
  ids_long = stretch_length d (said_by d).first (said_by d).pins (sources_within d)

  id_at : (j : ℕ) → j < (said_by d).pins → byte (sources (third ks) d) j ≡ byte d ((said_by d).first + j)
  id_at j h = get_or-take (said_by d).pins (drop (said_by d).first d) j 0 h ∙ get_or-drop (said_by d).first d j 0

  bytes_told : ThirdRecord d c (record_for (third ks) d (shown_cluster c))
  unfolding record_for
  bytes_told = record {
    long = record_long (third ks) d (shown_cluster c);
    id = refl;
    kind = kind_shown d o;
    channels = refl;
    no_bitmap = (refl, refl);
    no_name = refl;
    from = (said_by d).first;
    pins = subst (ThirdSourcesAt d (said_by d).first) (sym ids_long) (sources_stand d o);
    spare = refl;
    source = λ j h. let n = ids_long in let m = pins_few d in source_at (third ks) d (shown_cluster c) j (omega arith) ∙ id_at j (omega arith);
    unused = λ j h l. source_at (third ks) d (shown_cluster c) j l ∙ get_or-eq_default (sources (third ks) d) 0 h;
  }

module _ (s b : List ℕ) (t : ThirdConfiguration s b) where
  laid : (i : ℕ) → i < length (third_run t) → LaidOut (get_or (third_run t) i [])
  laid i l = t.kept.rule9 (get_or (third_run t) i []) (member_at [] (third_run t) i l)

  accepted_for : (room : ℕ) → Rule16 (third_run t) room → (third_verdict s b room).number ≡ 0
  accepted_for room h = (third_accepted s b room).1 (t, h)

  answer_shows : (room : ℕ) → Rule16 (third_run t) room → third_answer s b room ≡ record { number = 0; place = 0; entities = length (third_run t) }
  unfolding run_in
  answer_shows room h = answer_taken s b room (accepted_for room h) ∙ ap (λ (r : Run). record { number = 0; place = 0; entities = r.count }) (run_kept s b t.kept)

  clusters_on : (i : ℕ) → i < length (third_run t)
      → get_or (clusters_shown s b (entities_third t.kept)) i no_cluster ≡ shown_cluster (third_cluster t (own_id (get_or (third_run t) i [])))
  clusters_on =
      subst (λ (ks : List (List ℕ)). Represents (third ks) s (place_in3 t.kept) (third_run t) (entities_third t.kept) → (c : Connected (third ks) (third_run t)) (i : ℕ) → i < length (third_run t)
      → get_or (clusters_shown s b (entities_third t.kept)) i no_cluster ≡ shown_cluster (c.cluster (own_id (get_or (third_run t) i []))))
      (buffer_pieces b t.kept.rule51)
      (λ r. third_shown r t.kept.rule51)
      (represented s b t.kept) t.connected

  sheet_shows : (d : List ℕ) → Rule16 (third_run t) (length d)
      → third_sheet s b d ≡ records_for (third (third_buffer t)) (third_run t) (λ x. shown_cluster (third_cluster t x)) ++ drop (length (third_run t) * record_size) d
  unfolding third_sheet
  sheet_shows d h =
      yes _ _ (eq-eqb _ _ (accepted_for (length d) h))
      ∙ ap (λ (r : Run). shown_in s r (clusters_shown s b r) d) (run_kept s b t.kept)
      ∙ shown_same (represented s b t.kept) (clusters_shown s b (entities_third t.kept)) (λ x. shown_cluster (third_cluster t x)) clusters_on d h

  record_shows : (d : List ℕ) → Rule16 (third_run t) (length d) → (i : ℕ) → i < length (third_run t)
      → take record_size (drop (i * record_size) (third_sheet s b d))
      ≡ record_for (third (third_buffer t)) (get_or (third_run t) i []) (shown_cluster (third_cluster t (own_id (get_or (third_run t) i []))))
  record_shows d h i l =
      ap (λ (x : List ℕ). take record_size (drop (i * record_size) x)) (sheet_shows d h)
      ∙ record_at (third (third_buffer t)) (third_run t) (λ x. shown_cluster (third_cluster t x)) i l (drop (length (third_run t) * record_size) d)

  record_bytes : (d : List ℕ) → Rule16 (third_run t) (length d) → (i : ℕ) → i < length (third_run t)
      → ThirdRecord (get_or (third_run t) i []) (third_cluster t (own_id (get_or (third_run t) i []))) (take record_size (drop (i * record_size) (third_sheet s b d)))
  record_bytes d h i l = rw (record_shows d h i l) (bytes_told (third_buffer t) (get_or (third_run t) i []) (third_cluster t (own_id (get_or (third_run t) i []))) (laid i l))

  room_enough : (room : ℕ) → whole_sheet ≤ room → Rule16 (third_run t) room
  room_enough room h = let m = t.kept.rule8.1 in omega arith

module _ (s b d : List ℕ) (h : whole_sheet ≤ length d) where
  accepted : ((third_answer s b (length d)).number ≡ 0) ↔ ThirdConfiguration s b
  accepted = (
    λ e. ((third_accepted s b (length d)).0 (sym (answer_number s b (length d)) ∙ e)).0,
    λ t. answer_number s b (length d) ∙ accepted_for s b t (length d) (room_enough s b t (length d) h),
  )

  accepted_plainly : ((third_answer s b (length d)).number ≡ 0) ↔ PlainConfiguration s b
  accepted_plainly = (λ e. (plain_exactly s b).0 (accepted.0 e), λ t. accepted.1 ((plain_exactly s b).1 t))

module _ (s b : List ℕ) (t : ThirdConfiguration s b) (p : PlainConfiguration s b) where
  one_plainly : PlainAlike t p
  unfolding third_plain
  one_plainly = let u = third_plain p in record {
    cutting = one_cutting s b t u;
    buffer = one_buffer s b t u;
    descriptors = one_descriptors s b t u;
    clusters = one_clusters s b t u;
  }

pub third_demand : (s b : List ℕ) → ThirdDemand s b
third_demand s b = record {
  accepted = accepted s b;
  accepted_plainly = accepted_plainly s b;
  refused = refused_both s b;
  refuses = refuses s b;
  one_cutting = one_cutting s b;
  one_buffer = one_buffer s b;
  one_descriptors = one_descriptors s b;
  one_clusters = one_clusters s b;
  one_plainly = one_plainly s b;
  from_buffer = λ t d m n. cluster_in_buffer (third_buffer t) (third_run t) t.connected t.rule52 d m (t.kept.rule9 d m) (λ e. n (clock_kind d (t.kept.rule9 d m) e));
  plainly = λ t. plainly (third_buffer t) (third_run t) t.kept.rule51.ids t.kept.rule9 t.connected t.clocks t.rule52;
  laid_plainly = λ ks d. (laid_plainly d, plainly_laid d);
  links_plainly = λ k. links_plainly (clusters_in k) (run_in3 k) k.rule9;
  unknown_plainly = λ k d m. unknown_plainly (clusters_in k) d (k.rule9 d m);
  rule13_plainly = λ k. rule13_plainly (clusters_in k) (run_in3 k) k.rule51.ids k.rule9;
  broken_plainly = λ k. broken_plainly (clusters_in k) (run_in3 k) k.rule51.ids k.rule9;
  answer_shows = answer_shows s b;
  sheet_shows = sheet_shows s b;
  record_shows = record_shows s b;
  record_bytes = record_bytes s b;
}
