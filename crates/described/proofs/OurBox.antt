-- Document 02, No. 9, proved.
use Prim.Native.Nat.{ℕ}
use mathlib.Core.Path.{◌≡◌, refl, sym, ap, ◌∙◌}
use mathlib.Core.List.{List, ◌++◌}
use lib.ListN.{length, take, drop}
use lib.Seq.{take_at, drop_at}
use borrow.Author.Tests.{eq-eqb, ne_eqb}
use Rattle.ground.specs.declared.Refusal.{Refusal}
use Rattle.ground.specs.Pick.{yes, no}
use Rattle.ground.specs.Rows.{answers_kept, answers_broken}
use Rattle.fields.specs.Listed.{Listed}
use Rattle.laying.specs.LayingLaws.{long_printed}
use Rattle.writing.specs.declared.Wrote.{Wrote}
use Rattle.writing.specs.Writing.{written_of, writer_verdict, writer_rows, Writes}
use Rattle.writing.specs.AnswerLaws.{writes_one}
use Rattle.described.specs.OurBox.{OurBox}
use Rattle.described.proofs.Refused.{verdict_answers, numbered}
use Rattle.described.proofs.AsReader.{as_reader}
use Rattle.described.proofs.Trips.{read_back_same, written_same, had_all}

module _ (ls : List Listed) (cs before after : List ℕ) (r : Wrote) (w : Writes ls cs before after r) where
  number : r.number ≡ (writer_verdict ls cs (length before)).number
  number = ap (λ (x : Refusal). x.number) w.refused

  untouched : (r.number ≡ 0 → ⊥) → (after ≡ before) × (r.written ≡ 0)
  untouched n = let t = ne_eqb _ 0 (λ e. n (number ∙ e)) in (w.lent ∙ no _ _ t, w.written ∙ no _ _ t)

  stays : r.number ≡ 0 → (take r.written after ≡ written_of ls cs) × (drop r.written after ≡ drop r.written before)
  stays z =
      let t = eq-eqb _ 0 (sym number ∙ z) in
      let b = written_of ls cs in
      let n : length b ≡ r.written = sym (w.written ∙ yes _ _ t) in
      let a : after ≡ b ++ drop (length b) before = w.lent ∙ yes _ _ t in (
        ap (take r.written) a ∙ take_at b (drop (length b) before) r.written n,
        ap (drop r.written) a ∙ drop_at b (drop (length b) before) r.written n ∙ ap (λ (k : ℕ). drop k before) n,
      )

pub our_box : OurBox
our_box = record {
  refused = λ ls cs m n p z. answers_broken (writer_rows ls cs m) (writer_verdict ls cs m) (numbered ls cs m) (verdict_answers ls cs m) n p z;
  accepted = λ ls cs m. answers_kept (writer_rows ls cs m) (writer_verdict ls cs m) (numbered ls cs m) (verdict_answers ls cs m);
  as_reader = as_reader;
  withdrawn = λ i n s h. record { kind = refl; pins = h; long = long_printed i n s; pad = refl };
  untouched = untouched;
  stays = stays;
  one_result = writes_one;
  read_back = read_back_same;
  written_again = written_same;
  had = had_all;
}
