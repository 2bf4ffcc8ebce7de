-- A microphone read for a side: each way out of the code. The draft z has 1,024 bytes, as many of them are lent as the sheet d has, and y is what it
-- holds then.
--   away       ==  the reader's refusals and 62
--   settled    ==  an acceptance
--   draft_holds, sheet_holds  ==  the records fit in the draft and in the sheet
use Prim.Native.Nat.{ℕ, ◌*◌, ◌≤◌, min}
use mathlib.Core.Path.{◌≡◌, sym, ap, ◌∙◌}
use mathlib.Core.List.{List, ◌++◌}
use native.Mathlib.Omega.{arith}
use lib.ListN.{length, take, drop}
use lib.Seq.{length-take-le}
use borrow.Author.Tests.{eq-eqb, ne_eqb}
use Rattle.std.specs.declared.result.Result.TheVariants.{Ok, Err}
use Rattle.ground.specs.declared.Refusal.{Refusal}
use Rattle.ground.specs.Pick.{yes, no}
use Rattle.records.specs.Records.{record_size}
use Rattle.records.specs.Sheet.{whole_sheet}
use Rattle.topology.specs.declared.Reading.{Reading}
use Rattle.topology.specs.Reading.{reading_of, sheet_of}
use Rattle.request.specs.declared.State.{State}
use Rattle.plug.specs.declared.Plugged.{Plugged}
use Rattle.plug.specs.Plugged.{state_of}
use Rattle.sides.specs.Sides.{admission_by}
use Rattle.admission.specs.declared.Admission.{Admission}
use Rattle.admission.specs.Plugging.{admitted_by, sheet_after}
use Rattle.admission.specs.PluggingLaws.{Judged, judged}
use Rattle.admission.specs.Admission.{Admits}
use Rattle.admission.specs.Drafts.{Drafted}
use Rattle.admission.proofs.Drafted.{draft_reading, records_inside, records_held, records_copied}

module _ (met : ℕ) (s z d : List ℕ) (long : length z ≡ whole_sheet) (q : Plugged) (y : List ℕ)
    (p : Drafted s (min (length d) whole_sheet) z q y) (x : Refusal) (f : x ≡ admission_by q.reading.number q.reading.place q.reading.controls met) where
  abbrev R : Reading
  R = reading_of s (length d)

  abbrev m : ℕ
  m = min (length d) whole_sheet

  same : reading_of s m ≡ R
  same = draft_reading s (length d)

  reads : q.reading ≡ R
  reads = p.reading ∙ same

  told : Judged R (admitted_by met R) x
  told = rw (f, reads) (judged met R)

  abbrev come : Admission
  come = record { entities = q.reading.entities; controls = q.reading.controls; state = q.state }

  by : x ≡ admission_by R.number R.place R.controls met
  by = f ∙ ap (λ (t : Reading). admission_by t.number t.place t.controls met) reads

  pub away : (x.number ≡ 0 → ⊥) → Admits met s d (Err x) d
  away n = record {
    result = ap Err by ∙ sym (no _ _ (ne_eqb _ 0 (λ z. n (ap (λ (t : Refusal). t.number) by ∙ z))));
    sheet = sym (ap (sheet_after s d) (told.refuses n));
  }

  module _ (e : x.number ≡ 0) where
    front : length (take m z) ≡ m
    front = length-take-le m z (omega arith)

    entities : q.reading.entities ≡ (reading_of s (length (take m z))).entities
    entities = ap (λ (t : Reading). t.entities) p.reading ∙ ap (λ (n : ℕ). (reading_of s n).entities) (sym front)

    accepted : (reading_of s (length (take m z))).number ≡ 0
    accepted = ap (λ (n : ℕ). (reading_of s n).number) front ∙ ap (λ (t : Reading). t.number) same ∙ (told.accepts e).0

    pub sheet_holds : q.reading.entities * record_size ≤ length d
    sheet_holds = rw entities (let h = records_inside s (length (take m z)) accepted in let l = front in omega arith)

    pub draft_holds : q.reading.entities * record_size ≤ length y
    draft_holds = rw (entities, p.draft) (records_held s (take m z) (drop m z) accepted)

    answered : come ≡ record { entities = R.entities; controls = R.controls; state = state_of R }
    answered =
        ap (λ (t : Reading). record { entities = t.entities; controls = t.controls; state = q.state }) reads
        ∙ ap (λ (t : State). record { entities = R.entities; controls = R.controls; state = t }) (p.state ∙ ap state_of same)

    pub settled : (a : List ℕ) → a ≡ take (q.reading.entities * record_size) y ++ drop (q.reading.entities * record_size) d
        → Admits met s d (Ok come) a
    settled a h = record { result = ap Ok answered ∙ sym (yes _ _ (eq-eqb _ 0 (sym (ap (λ (t : Refusal). t.number) by) ∙ e))); sheet = h ∙ copied ∙ sym (ap (sheet_after s d) (told.accepts e).1) }
      where
        copied : take (q.reading.entities * record_size) y ++ drop (q.reading.entities * record_size) d ≡ sheet_of s d
        copied =
            ap (λ (t : List ℕ). take (q.reading.entities * record_size) t ++ drop (q.reading.entities * record_size) d) p.draft
            ∙ ap (λ (n : ℕ). take (n * record_size) (sheet_of s (take m z) ++ drop m z) ++ drop (n * record_size) d) entities
            ∙ records_copied s (take m z) (drop m z) d (let l = front in omega arith) accepted
