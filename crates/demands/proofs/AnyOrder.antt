-- Document 02, No. 10, proved: order really doesn't matter. The number by the rows, which are alike (`rows_alike`); the sheet's records one by one, each by
-- its descriptor and the cluster on its ID; the tables by the controls that stand; the answers by the same controls (`run-same`, of crate order).
use Prim.Native.Nat.{ℕ, ◌*◌}
use mathlib.Core.Path.{◌≡◌, refl, sym, ap, ◌∙◌}
use mathlib.Core.List.Memᴰ
use mathlib.Core.List.{List, ◌∷◌, ◌++◌, flatten, append_assoc}
use lib.ListN.{length, drop}
use Rattle.ground.specs.Lists.{flatten_append}
use Rattle.graph.specs.Members.{along}
use Rattle.layout.specs.declared.Cluster.{Cluster}
use Rattle.ground.specs.Numbers.{byte}
use Rattle.sound.specs.Fresh.{fresh_sound}
use Rattle.sound.specs.Meaning.{Sound}
use Rattle.groups.specs.Rules5and6.{Rule5, Rule6}
use Rattle.cutting.specs.Rules1to9.{Opened}
use Rattle.records.specs.Records.{record_size}
use Rattle.records.specs.Sheet.{Rule16}
use Rattle.topology.specs.declared.Reading.{Reading}
use Rattle.topology.specs.Reading.{verdict_of, reading_of, sheet_of}
use Rattle.reader.specs.Configuration.{run_of, Configuration}
use Rattle.reader.specs.Refusals.{table_of_rows}
use Rattle.reader.proofs.Exactly.{answers, accepted_exactly}
use Rattle.reader.proofs.Shows.{number_told, answer_shows, sheet_shows, controls_stand, controls_counted}
use Rattle.reader.proofs.Tables.{reader_table}
use Rattle.request.specs.declared.State.{State}
use Rattle.request.specs.declared.Answer.{Answer}
use Rattle.deed.specs.Reply.{laid}
use Rattle.request.specs.Outcome.{answer_of}
use Rattle.plug.specs.Plugged.{state_of}
use Rattle.runs.specs.Runs.{Step, after, Wired}
use Rattle.runs.specs.Runs.Step.{load, request}
use Rattle.runs.proofs.Alone.{run_sound}
use Rattle.order.specs.Permuted.{Permuted, AgreeOn}
use Rattle.order.specs.Same.{SameControls, SameState}
use Rattle.order.specs.Blind.{records_each}
use Rattle.order.proofs.Permutations.{permuted_back, permuted_length}
use Rattle.order.proofs.Rows.{alike_number}
use Rattle.order.proofs.Rules.{agree_one, agree_back, records_flat, records_long, records_counted, blind_rules}
use Rattle.order.proofs.Steps.{number_same, bytes_same, run_same}
use Rattle.demands.specs.AnyOrder.{Shuffled, SameSheets, SameAnswers, SameReading, reordered, AnyOrder}
use Rattle.demands.proofs.Shuffled.{runs_shuffled, control_same, rows_alike}

same_verdict : (s s' : List ℕ) (room : ℕ) → Shuffled s s' → (reading_of s room).number ≡ (reading_of s' room).number
same_verdict s s' room h =
    number_told s room
    ∙ alike_number (table_of_rows s room) (table_of_rows s' room) (verdict_of s room) (verdict_of s' room) (rows_alike h room) (answers s room) (answers s' room)
    ∙ sym (number_told s' room)

-- the same number and bytes, as the entry points tell them
answers_same : (st st' : State) → SameState st st' → Sound st.table → Sound st'.table → SameAnswers st st'
unfolding answer_of
answers_same st st' same a b = record {
  load = λ k range w r r' x y. (
    ap (λ (z : Answer). z.number) x ∙ number_same st st' same a b (load k range w) ∙ sym (ap (λ (z : Answer). z.number) y),
    ap (λ (z : Answer). z.written) x ∙ ap length (bytes_same st st' same a b (load k range w)) ∙ sym (ap (λ (z : Answer). z.written) y),
  );
  request = λ setup d c r r' e e' x y. (
    ap (λ (z : Answer). z.number) x.result ∙ number_same st st' same a b (request setup d (length c)) ∙ sym (ap (λ (z : Answer). z.number) y.result),
    ap (λ (z : Answer). z.written) x.result ∙ ap length (bytes_same st st' same a b (request setup d (length c))) ∙ sym (ap (λ (z : Answer). z.written) y.result),
    x.lent ∙ ap (λ (z : List ℕ). laid z c) (bytes_same st st' same a b (request setup d (length c))) ∙ sym y.lent,
  );
}

-- both are accepted
module _ (s s' : List ℕ) (h : Shuffled s s') (t : Configuration s) (t' : Configuration s') where
  abbrev run : List (List ℕ)
  run = run_of t.kept

  abbrev run' : List (List ℕ)
  run' = run_of t'.kept

  abbrev cluster : ℕ → Cluster
  cluster = t.connected.cluster

  abbrev cluster' : ℕ → Cluster
  cluster' = t'.connected.cluster

  permuted : Permuted run run'
  permuted = runs_shuffled h t.kept t'.kept

  agree : AgreeOn run cluster cluster'
  agree = agree_one run run' permuted t.connected t'.connected

  agree' : AgreeOn run' cluster' cluster
  agree' = agree_back run run' permuted cluster cluster' agree

  module _ (d d' : List ℕ) (r : Rule16 run (length d)) (r' : Rule16 run' (length d')) where
    abbrev one : Reading
    one = reading_of s (length d)

    abbrev other : Reading
    other = reading_of s' (length d')

    interface : one.control ≡ other.control
    interface =
        ap (λ (x : Reading). x.control) (answer_shows s t (length d) r)
        ∙ ap (λ (x : List ℕ). byte x 2) (control_same h t.kept t'.kept)
        ∙ sym (ap (λ (x : Reading). x.control) (answer_shows s' t' (length d') r'))

    entities : one.entities ≡ other.entities
    entities =
        ap (λ (x : Reading). x.entities) (answer_shows s t (length d) r) ∙ permuted_length permuted ∙ sym (ap (λ (x : Reading). x.entities) (answer_shows s' t' (length d') r'))

    controls : one.controls ≡ other.controls
    controls = ap (λ (x : Reading). x.controls) (answer_shows s t (length d) r) ∙ blind_rules.as_many run run' permuted cluster cluster' agree t.kept.rule9 t.connected.rule10 ∙ sym (ap (λ (x : Reading). x.controls) (answer_shows s' t' (length d') r'))

    table : SameControls one.table other.table
    table = record {
      count = sym (controls_counted s (length d)) ∙ controls ∙ controls_counted s' (length d');
      each = λ x. (
        λ m. (controls_stand s' t' (length d') r' x).1 (blind_rules.controls x run run' permuted cluster cluster' agree ((controls_stand s t (length d) r x).0 m)),
        λ m. (controls_stand s t (length d) r x).1 (blind_rules.controls x run' run (permuted_back permuted) cluster' cluster agree' ((controls_stand s' t' (length d') r' x).0 m)),
      );
    }

    sheets : SameSheets s s' d d'
    sheets =
        let n = records_counted run cluster in
        record {
          records = records_each run cluster;
          records' = records_each run' cluster';
          counted = n ∙ sym (ap (λ (x : Reading). x.entities) (answer_shows s t (length d) r));
          long = records_long run cluster;
          permuted = blind_rules.records run run' permuted cluster cluster' agree;
          sheet = shows s t d r n;
          sheet' = shows s' t' d' r' (n ∙ permuted_length permuted);
        }
      where
        shows : (z : List ℕ) (c : Configuration z) (l : List ℕ) → Rule16 (run_of c.kept) (length l) → {k : ℕ} → k ≡ length (run_of c.kept)
            → sheet_of z l ≡ flatten (records_each (run_of c.kept) c.connected.cluster) ++ drop (k * record_size) l
        shows z c l q {k} e =
            sheet_shows z c l q
            ∙ ap (λ (x : List ℕ). x ++ drop (length (run_of c.kept) * record_size) l) (records_flat (run_of c.kept) c.connected.cluster)
            ∙ ap (λ (m : ℕ). flatten (records_each (run_of c.kept) c.connected.cluster) ++ drop (m * record_size) l) (sym e)

    same_state : SameState (state_of one) (state_of other)
    same_state = record { interface = interface; controls = table }

    same_run : (steps : List Step) → Wired steps → SameState (after (state_of one) steps) (after (state_of other) steps)
    same_run steps w =
        run_same steps w (state_of one) (state_of other) same_state (fresh_sound one.table (reader_table s (length d))) (fresh_sound other.table (reader_table s' (length d')))

    reading : SameReading s s' d d'
    reading = record {
      interface = interface;
      entities = entities;
      controls = controls;
      sheets = sheets;
      table = table;
      answers = λ steps w.
          answers_same (after (state_of one) steps) (after (state_of other) steps) (same_run steps w)
          (run_sound (state_of one) steps w (fresh_sound one.table (reader_table s (length d))))
          (run_sound (state_of other) steps w (fresh_sound other.table (reader_table s' (length d'))));
      tables = λ steps w. (same_run steps w).controls;
    }

-- a configuration that keeps the rules 1 to 6, and its run in another order
module _ (s : List ℕ) (o : Opened s) (h : Rule5 o.tail) (r : Rule6 h.header h.others) where
  abbrev behind : List (List ℕ)
  behind = r.later ++ r.after

  abbrev up_to : List (List ℕ) → List (List ℕ)
  up_to ds = o.before ++ (o.control ∷ h.header ∷ ds)

  parts : o.descriptors ≡ up_to r.run ++ behind
  parts =
      o.split
      ∙ ap (λ (x : List (List ℕ)). o.before ++ o.control ∷ x) (h.stands ∙ ap (λ (x : List (List ℕ)). h.header ∷ x) r.split)
      ∙ sym (append_assoc o.before (o.control ∷ h.header ∷ r.run) behind)

  reorders : (es : List (List ℕ)) → Permuted r.run es → Shuffled s (reordered o h r es)
  reorders es p = record {
    before = o.before;
    control = o.control;
    header = h.header;
    run = r.run;
    run' = es;
    behind = flatten behind;
    bytes = sym o.rule3.whole ∙ ap flatten parts ∙ flatten_append (up_to r.run) behind;
    bytes' = refl;
    cut = λ d m. o.rule3.each d (along (sym parts) (Memᴰ.append_left behind m));
    is_control = o.is_control;
    class = r.class;
    permuted = p;
  }

-- THE THEOREM
same_number : (s s' d d' : List ℕ) → Shuffled s s' → length d ≡ length d' → (reading_of s (length d)).number ≡ (reading_of s' (length d')).number
same_number s s' d d' h l = same_verdict s s' (length d) h ∙ ap (λ (n : ℕ). (reading_of s' n).number) l

same_reading : (s s' d d' : List ℕ) → Shuffled s s' → length d ≡ length d' → (reading_of s (length d)).number ≡ 0 → SameReading s s' d d'
same_reading s s' d d' h l e =
    let t = (accepted_exactly s (length d)).0 (sym (number_told s (length d)) ∙ e) in
    let t' = (accepted_exactly s' (length d')).0 (sym (number_told s' (length d')) ∙ sym (same_number s s' d d' h l) ∙ e) in
    reading s s' h t.0 t'.0 d d' t.1 t'.1

pub any_order : AnyOrder
any_order = record { same_number = same_number; same_reading = same_reading; every_order = reorders }
