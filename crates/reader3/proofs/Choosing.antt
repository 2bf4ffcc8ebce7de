-- The edition is chosen by the protocol byte of the AudioControl interface that stands behind the rules 1 to 4; where there is none, both answer the same.
--   protocol_told    ==  the byte that the reader looks at is that interface's
--   choice           ==  THE THEOREM, field by field of Choice
use Prim.Native.Nat.{ℕ, ◌≤◌}
use mathlib.Core.Path.{◌≡◌, refl, sym, ap, ◌∙◌}
use mathlib.Core.Bool.{Bool, true, false}
use mathlib.Core.List.{List, ◌∷◌, ◌++◌, flatten}
use mathlib.Core.Logic.{inl, inr, ◌↔◌}
use native.Mathlib.Omega.{arith}
use lib.Dec.{eqb}
use lib.ListN.{length, drop}
use lib.Seq.{drop_at}
use borrow.Author.Tests.{eq-eqb, ne_eqb, eqb-true, eqb-false}
use Rattle.ground.specs.declared.Refusal.{Refusal}
use Rattle.ground.specs.Pick.{yes, no}
use Rattle.ground.specs.Numbers.{byte}
use Rattle.std.specs.Prelude.{Option, Some, None}
use Rattle.ground.specs.Lists.{total, part, reads_any, flatten_append, length_flatten, of_split}
use Rattle.ground.specs.Refuse.{none, place_or}
use Rattle.ground.specs.Rows.{end, answers_kept}
use Rattle.scan.specs.Cutting.{Descriptor, end_at, rest}
use Rattle.scan.specs.CuttingLaws.{starts_end, starts_part}
use Rattle.search.specs.declared.Want.TheVariants as want
use Rattle.search.specs.Want.{Audio, is_audio, reads_audio, wants, found_from}
use Rattle.search.specs.Found.{found_none}
use Rattle.interfaces.specs.Reading.{interfaces_judged}
use Rattle.interfaces.specs.Judged.{interfaces_chain}
use Rattle.groups.specs.Reading.{frame_from, frame_of, judged}
use Rattle.groups.specs.Third.{third_judged}
use Rattle.cutting.specs.Rules1to9.{Opened, opening_rows}
use Rattle.cutting.specs.Survey.{verdict_then}
use Rattle.cutting.specs.Context.{cut_told, frame_told}
use Rattle.cutting.specs.Exact.{opening_answers, opening_numbered, four_kept}
use Rattle.records.specs.Sheet.{whole_sheet}
use Rattle.topology.specs.declared.Reading.{Reading}
use Rattle.topology.specs.Reading.{judged_then, verdict_of, refused_reading, reading_of, sheet_of}
use Rattle.third.specs.Judgement.{third_then, third_verdict, sheet_refused, third_answer, third_sheet}
use Rattle.protocol.specs.Protocol.{version3, protocol_of, sheet_reading, either_reading, either_sheet}
use Rattle.reader3.specs.BothEditions.{EitherConfiguration, EitherPlainly, Choice}
use Rattle.reader3.proofs.InPlainWords.{plain_third, third_plain}
use Rattle.reader3.proofs.ThirdShows.{third_demand}
use Rattle.reader.proofs.Exactly.{accepted_exactly}
use Rattle.reader.proofs.Shows.{number_told}
use Rattle.reader.proofs.Plainly.{plain_configuration, configuration_plain}

module _ (s b : List ℕ) where
  chosen : eqb (protocol_of s) version3 ≡ true → (d : List ℕ) → (either_reading s b (length d) ≡ sheet_reading (third_answer s b (length d))) × (either_sheet s b d ≡ third_sheet s b d)
  unfolding either_reading either_sheet
  chosen e d = (yes _ _ e, yes _ _ e)

  left : eqb (protocol_of s) version3 ≡ false → (d : List ℕ) → (either_reading s b (length d) ≡ reading_of s (length d)) × (either_sheet s b d ≡ sheet_of s d)
  unfolding either_reading either_sheet
  left e d = (no _ _ e, no _ _ e)

  -- where the rules 1 to 4 are not kept both refuse, by the same number at the same place
  module _ (n : Opened s → ⊥) (d : List ℕ) where
    stopped : (interfaces_judged s none).number ≡ 0 → ⊥
    stopped e =
        n (four_kept s (λ o. end) ((answers_kept (opening_rows s (λ o. end)) (interfaces_judged s none) (opening_numbered s (λ o. end) (λ o. tt)) (opening_answers s (λ o. end) none (λ o. refl))).0 e)).0

    first_verdict : verdict_of s (length d) ≡ interfaces_judged s none
    unfolding verdict_of judged_then verdict_then judged
    first_verdict = (interfaces_chain s).stays stopped _

    third_verdict_lem : third_verdict s b (length d) ≡ interfaces_judged s none
    unfolding third_verdict third_then third_judged
    third_verdict_lem = (interfaces_chain s).stays stopped _

    first_stops : (reading_of s (length d) ≡ refused_reading (interfaces_judged s none)) × (sheet_of s d ≡ d)
    unfolding reading_of sheet_of
    first_stops =
        let m : eqb (verdict_of s (length d)).number 0 ≡ false = ne_eqb _ _ (λ q. stopped (sym (ap (λ (r : Refusal). r.number) first_verdict) ∙ q)) in
        (no _ _ m ∙ ap refused_reading first_verdict, no _ _ m)

    third_stops : (sheet_reading (third_answer s b (length d)) ≡ refused_reading (interfaces_judged s none)) × (third_sheet s b d ≡ d)
    unfolding third_answer third_sheet sheet_reading sheet_refused refused_reading
    third_stops =
        let m : eqb (third_verdict s b (length d)).number 0 ≡ false = ne_eqb _ _ (λ q. stopped (sym (ap (λ (r : Refusal). r.number) third_verdict_lem) ∙ q)) in
        (ap sheet_reading (no _ _ m ∙ ap sheet_refused third_verdict_lem), no _ _ m)

    alike : (sheet_reading (third_answer s b (length d)) ≡ reading_of s (length d)) × (third_sheet s b d ≡ sheet_of s d)
    alike = (third_stops.0 ∙ sym first_stops.0, third_stops.1 ∙ sym first_stops.1)

    unopened : (either_reading s b (length d) ≡ reading_of s (length d)) × (either_sheet s b d ≡ sheet_of s d)
    unopened = go (eqb (protocol_of s) version3) refl
      where
        go : (c : Bool) → eqb (protocol_of s) version3 ≡ c → (either_reading s b (length d) ≡ reading_of s (length d)) × (either_sheet s b d ≡ sheet_of s d)
        go true e = ((chosen e d).0 ∙ alike.0, (chosen e d).1 ∙ alike.1)
        go false e = left e d

-- the AudioControl interface that the reader finds is the one behind the rules 1 to 4
module _ (s : List ℕ) (o : Opened s) where
  stands : drop (total o.before) s ≡ o.control ++ flatten o.tail
  unfolding flatten
  stands =
      ap (drop (total o.before)) (sym o.rule3.whole ∙ ap flatten o.split ∙ flatten_append o.before (o.control ∷ o.tail))
      ∙ drop_at (flatten o.before) (o.control ++ flatten o.tail) (total o.before) (length_flatten o.before)

  one_piece : Descriptor o.control
  one_piece = o.rule3.each o.control (rw o.split (of_split o.before o.control o.tail))

  control_is : part s (total o.before) (end_at s (total o.before)) ≡ o.control
  control_is =
      ap (part s (total o.before)) (starts_end s (total o.before) o.control (flatten o.tail) stands one_piece)
      ∙ starts_part s (total o.before) o.control (flatten o.tail) stands one_piece

  pub protocol_told : protocol_of s ≡ byte o.control 7
  unfolding frame_of frame_from place_or wants protocol_of
  protocol_told = go (found_from s 0 (want.Audio 1)) refl (frame_told s o).control_at
    where
      go : (r : Option ℕ) → found_from s 0 (want.Audio 1) ≡ r → place_or (found_from s 0 (want.Audio 1)) (length s) ≡ total o.before → protocol_of s ≡ byte o.control 7
      go None e c =
          absurd ((reads_any (is_audio 1) (Audio 1) (reads_audio 1) (rest s 0)).denies (found_none (want.Audio 1) s 0 e) (rw (cut_told s o) o.rule4.control))
      go (Some q) e c =
          let z : q ≡ total o.before = sym (ap (λ (r : Option ℕ). place_or r (length s)) e) ∙ c in
          ap (λ (r : Option ℕ). elim r [ None ↦ 0 | Some p ↦ byte (part s p (end_at s p)) 7 ]) e
          ∙ ap (λ (p : ℕ). byte (part s p (end_at s p)) 7) z
          ∙ ap (λ (d : List ℕ). byte d 7) control_is

-- a configuration of either edition is one in plain words, and the other way round: the protocol byte is one
module _ (s b : List ℕ) where
  same_byte : (o q : Opened s) → byte o.control 7 ≡ byte q.control 7
  same_byte o q = sym (protocol_told s o) ∙ protocol_told s q

  plain_either : EitherConfiguration s b → EitherPlainly s b
  plain_either (inl (t, q)) = let p = plain_third t in inl (p, same_byte p.opened t.kept.opened ∙ q)
  plain_either (inr (t, n)) = let p = plain_configuration t in inr (p, λ q. n (same_byte t.kept.opened p.opened ∙ q))

  either_plain : EitherPlainly s b → EitherConfiguration s b
  either_plain (inl (p, q)) = let t = third_plain p in inl (t, same_byte t.kept.opened p.opened ∙ q)
  either_plain (inr (p, n)) = let t = configuration_plain p in inr (t, λ q. n (same_byte p.opened t.kept.opened ∙ q))

-- demand 3 of both editions together
module _ (s b d : List ℕ) (h : whole_sheet ≤ length d) where
  by_third : eqb (protocol_of s) version3 ≡ true → ((either_reading s b (length d)).number ≡ 0) ↔ EitherConfiguration s b
  unfolding sheet_reading
  by_third e =
      let n : (either_reading s b (length d)).number ≡ (third_answer s b (length d)).number = ap (λ (r : Reading). r.number) (chosen s b e d).0 in
      (λ z. let t = ((third_demand s b).accepted d h).0 (sym n ∙ z) in inl (t, sym (protocol_told s t.kept.opened) ∙ eqb-true _ _ e), of n)
    where
      of : (either_reading s b (length d)).number ≡ (third_answer s b (length d)).number → EitherConfiguration s b → (either_reading s b (length d)).number ≡ 0
      of n (inl (t, q)) = n ∙ ((third_demand s b).accepted d h).1 t
      of n (inr (t, q)) = absurd (q (sym (protocol_told s t.kept.opened) ∙ eqb-true _ _ e))

  by_first : eqb (protocol_of s) version3 ≡ false → ((either_reading s b (length d)).number ≡ 0) ↔ EitherConfiguration s b
  by_first e =
      let n : (either_reading s b (length d)).number ≡ (verdict_of s (length d)).number = ap (λ (r : Reading). r.number) (left s b e d).0 ∙ number_told s (length d) in
      (λ z. let t = ((accepted_exactly s (length d)).0 (sym n ∙ z)).0 in inr (t, λ q. eqb-false _ _ e (protocol_told s t.kept.opened ∙ q)), of n)
    where
      of : (either_reading s b (length d)).number ≡ (verdict_of s (length d)).number → EitherConfiguration s b → (either_reading s b (length d)).number ≡ 0
      of n (inl (t, q)) = absurd (eqb-false _ _ e (protocol_told s t.kept.opened ∙ q))
      of n (inr (t, q)) = n ∙ (accepted_exactly s (length d)).1 (t, let m = t.kept.rule8.1 in omega arith)

  either_accepted : ((either_reading s b (length d)).number ≡ 0) ↔ EitherConfiguration s b
  either_accepted = go (eqb (protocol_of s) version3) refl
    where
      go : (c : Bool) → eqb (protocol_of s) version3 ≡ c → ((either_reading s b (length d)).number ≡ 0) ↔ EitherConfiguration s b
      go true e = by_third e
      go false e = by_first e

  either_plainly : ((either_reading s b (length d)).number ≡ 0) ↔ EitherPlainly s b
  either_plainly = (λ e. plain_either s b (either_accepted.0 e), λ p. either_accepted.1 (either_plain s b p))

pub choice : (s b : List ℕ) → Choice s b
choice s b = record {
  third_read = λ o e. chosen s b (eq-eqb _ _ (protocol_told s o ∙ e));
  others_read = λ o n. left s b (ne_eqb _ _ (λ q. n (sym (protocol_told s o) ∙ q)));
  alike = λ n d. alike s b n d;
  unopened = λ n d. unopened s b n d;
  either_accepted = either_accepted s b;
  either_plainly = either_plainly s b;
}
