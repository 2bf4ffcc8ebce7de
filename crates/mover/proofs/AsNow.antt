-- The sheet that the reader wrote before, moved, is the one that it writes now.
use Prim.Native.Nat.{ℕ, zero, suc, ◌*◌, ◌≤◌, ◌<◌}
use mathlib.Core.Path.{◌≡◌, refl, sym, ap, ◌∙◌}
use mathlib.Core.List.Memᴰ
use mathlib.Core.List.{List, [], ◌∷◌, ◌++◌, map, flatten, append_assoc}
use native.Mathlib.Omega.{arith}
use native.Mathlib.Nat.{le_of_suc-le-suc}
use lib.ListN.{length, get_or, replicate, length-map, length-take}
use Rattle.ground.specs.Lists.{pad, pad_length, pad_more}
use Rattle.graph.specs.Members.{◌∈◌}
use Rattle.layout.specs.declared.Cluster.{Cluster}
use Rattle.edition.specs.Edition.{own_id, sources}
use Rattle.edition.specs.Audio.{audio}
use Rattle.records.specs.Records.{front_of, record_for, record_in}
use Rattle.records.specs.Sheet.{records_for, records_of}
use Rattle.legal.specs.declared.Form.TheVariants.{New}
use Rattle.legal.specs.Forms.{old_size, record_size_of}
use Rattle.legal.specs.Sheet.{count_by, id_of, id_by, SheetBy}
use Rattle.legal.specs.SheetLaws.{record_id}
use Rattle.mover.specs.Moving.JudgedMove.{moved}
use Rattle.mover.specs.Moving.{other_of, more_bytes, as_new, record_to, moved_to, move_number}
use Rattle.mover.specs.Laid.{Each, joined_long, record_in_lem, records_joined}
use Rattle.mover.proofs.MovingLemmas.{judged_move}
use Rattle.mover.specs.Before.{old_pins, old_record_in, old_records_of, OldRun}
use Rattle.mover.specs.MovedBack.{Lent, AsNow}
use Rattle.mover.proofs.Trips.{given_moved}

record_now : (d : List ℕ) (c : Cluster) → audio.pins d ≤ old_pins → as_new (old_record_in d c) ≡ record_in d c
unfolding record_for
record_now d c h =
    let l : length (sources audio d) ≤ old_pins = simp length-take (omega arith) in
    append_assoc (front_of (own_id d) (audio.kind d) (length (sources audio d)) c) (pad 0 old_pins (sources audio d)) (replicate more_bytes 0)
    ∙ ap (λ (x : List ℕ). front_of (own_id d) (audio.kind d) (length (sources audio d)) c ++ x) (pad_more 0 old_pins (sources audio d) more_bytes l)

module _ (cluster : ℕ → Cluster) where
  abbrev before : List ℕ → List ℕ
  before d = old_record_in d (cluster (own_id d))

  each : (ds : List (List ℕ)) → Each old_size (map before ds)
  each ds a m =
      let b = Memᴰ.of_map before ds m in
      let e = pad_length 0 old_pins (sources audio b.0) in
      sym (ap length b.2) ∙ omega arith

  records_now : (ds : List (List ℕ)) → ((d : List ℕ) → d ∈ ds → audio.pins d ≤ old_pins) → flatten (map as_new (map before ds)) ≡ records_of ds cluster
  unfolding flatten records_for
  records_now [] h = refl
  records_now (d ∷ ds) h =
      ap (λ (x : List ℕ). x ++ flatten (map as_new (map before ds))) (record_now d (cluster (own_id d)) (h d (Memᴰ.head refl)))
      ∙ ap (λ (x : List ℕ). record_in d (cluster (own_id d)) ++ x) (records_now ds (λ b m. h b (Memᴰ.tail m)))

  module _ (ds : List (List ℕ)) (run : OldRun ds) where
    moved_now : moved_to New (old_records_of ds cluster) ≡ records_of ds cluster
    unfolding moved_to record_size_of other_of record_to
    moved_now = ap (λ (rs : List (List ℕ)). flatten (map as_new rs)) (records_joined old_size (omega arith) (map before ds) (each ds)) ∙ records_now ds run.few

    long : length (old_records_of ds cluster) ≡ length ds * old_size
    long = joined_long old_size (map before ds) (each ds) ∙ ap (λ (n : ℕ). n * old_size) (length-map ds before)

    count : count_by old_size (old_records_of ds cluster) ≡ length ds
    count = let l = long in omega arith

    id : (i : ℕ) → i < length ds → id_by old_size (old_records_of ds cluster) i ≡ own_id (get_or ds i [])
    id i h =
        let c = count in
        let l = length-map ds before in
        sym (record_id old_size (old_records_of ds cluster) i (omega arith) (omega arith))
        ∙ ap id_of (record_in_lem old_size (map before ds) (each ds) i (omega arith) ∙ at_index ds i h)
      where
        at_index : (l : List (List ℕ)) (j : ℕ) → j < length l → get_or (map before l) j [] ≡ before (get_or l j [])
        at_index [] j m = absurd (omega arith)
        at_index (d ∷ l) zero m = refl
        at_index (d ∷ l) (suc j) m = at_index l j (le_of_suc-le-suc m)

    sheet_before : SheetBy old_size (old_records_of ds cluster)
    sheet_before =
        let l = long in
        let c = count in
        let n = run.short in
        record {
          short = omega arith;
          whole = omega arith;
          own = record {
            named = λ i h e. run.own.named i (omega arith) (sym (id i (omega arith)) ∙ e);
            once = λ i j h m e. run.own.once i j (omega arith) (omega arith) (sym (id i (omega arith)) ∙ e ∙ id j (omega arith));
          };
        }

    pub as_now : (d : List ℕ) → Lent New (old_records_of ds cluster) d → AsNow ds cluster d
    unfolding record_size_of other_of
    as_now d l =
        let e : move_number New (old_records_of ds cluster) (length d) ≡ 0 = judged_move New (old_records_of ds cluster) (length d) (moved sheet_before (λ h. h) l) in
        record { accepted = e; same = given_moved New (old_records_of ds cluster) d e ∙ moved_now }
