-- Laws of what stands beside it in specs.
--   verdict_kept     ==  nothing is refused exactly where the nine rules are kept
--   verdict_refused  ==  number n is given at place p exactly where that is the refusal that document 01 gives
--   cutting_answers  ==  the verdict, with whatever is judged behind the nine, is put together by their rows; cutting_numbered: none is number 0
--   nine_kept, all_nine  ==  the ten rows, 1 to 9 and 17, kept are the nine rules kept, and the other way
use Rattle.std.specs.Prelude.{ℕ, ◌+◌, ◌≡◌, Bool, List, [], ◌↔◌, length, Option, Some, None}
use Rattle.std.proofs.Math.Path.{refl}
use Rattle.std.proofs.Common.{ap, inl, ⊎_elim, arith}
use Rattle.ground.specs.declared.Refusal.{Refusal}
use Rattle.ground.specs.Pick.{Reads, within, reads_within}
use Rattle.ground.specs.First.{Sound, Breaks, first_from, first_nowhere, first_at, sound_each}
use Rattle.ground.specs.Refuse.{none, kept_nowhere, kept_at_lem}
use Rattle.ground.specs.Rows.{Rows, end, AllKept, FirstBroken, Numbered, Answers, all_none, answers_kept, answers_broken}
use Rattle.layout.specs.Withdrawn.{Printed, is_printed, reads_printed, is_wrong}
use Rattle.layout.proofs.WithdrawnLemmas.{printed_unlaid, reads_wrong, layout_or}
use Rattle.edition.specs.Audio.{audio}
use Rattle.entities.specs.Run.{most_entities}
use Rattle.collection.specs.Rule7.{Rule7}
use Rattle.groups.specs.Rules5and6.{Rule5, listed_of, Rule6}
use Rattle.groups.specs.Reading.{frame_of, breach5, breach6, breach7, group_judged, judged}
use Rattle.cutting.specs.Rules1to9.{Rule8, WrongLayout, Recognised, NoneWithdrawn, laid_out, Opened, header_place, Kept, group_rows, cutting_rows}
use Rattle.cutting.specs.Survey.{breach8, breach9, breach17, run_judged, verdict_then, verdict}
use Rattle.cutting.specs.Context.{header_place_lem, rule5_reads, rule6_reads, rule7_reads, run_is, run_first}
use Rattle.cutting.specs.Exact.{opening_answers, opening_numbered, four_kept, all_four}

-- Each rule's breach, both ways, one file of laws a rule; here they are put in a row.
module _ (s : List ℕ) where
  module _ (o : Opened s) where
    keeps5 : (breach5 s (frame_of s) ≡ None) ↔ Rule5 o.tail
    unfolding breach5
    keeps5 = kept_nowhere (frame_of s).header (rule5_reads s o)

    breaks5 : (p : ℕ) → (breach5 s (frame_of s) ≡ Some p) ↔ ((p ≡ header_place o) × (Rule5 o.tail → ⊥))
    unfolding breach5
    breaks5 p = rw (← (header_place_lem s o)) (kept_at_lem (frame_of s).header p (rule5_reads s o))

    module _ (h : Rule5 o.tail) where
      keeps6 : (breach6 s (frame_of s) ≡ None) ↔ Rule6 h.header h.others
      unfolding breach6
      keeps6 = kept_nowhere (frame_of s).header (rule6_reads s o h)

      breaks6 : (p : ℕ) → (breach6 s (frame_of s) ≡ Some p) ↔ ((p ≡ header_place o) × (Rule6 h.header h.others → ⊥))
      unfolding breach6
      breaks6 p = rw (← (header_place_lem s o)) (kept_at_lem (frame_of s).header p (rule6_reads s o h))

      keeps7 : (breach7 s (frame_of s) ≡ None) ↔ Rule7 o.descriptors (listed_of h.header)
      unfolding breach7
      keeps7 = kept_nowhere (frame_of s).header (rule7_reads s o h)

      breaks7 : (p : ℕ) → (breach7 s (frame_of s) ≡ Some p) ↔ ((p ≡ header_place o) × (Rule7 o.descriptors (listed_of h.header) → ⊥))
      unfolding breach7
      breaks7 p = rw (← (header_place_lem s o)) (kept_at_lem (frame_of s).header p (rule7_reads s o h))

      module _ (t : Rule6 h.header h.others) where
        reads_rule8 : Reads (within 1 (length t.run) most_entities) (Rule8 t.run)
        reads_rule8 = reads_within 1 (length t.run) most_entities

        keeps8 : (breach8 s (frame_of s) ≡ None) ↔ Rule8 t.run
        unfolding breach8
        keeps8 = rw (run_is s o h t) (kept_nowhere (frame_of s).header reads_rule8)

        breaks8 : (p : ℕ) → (breach8 s (frame_of s) ≡ Some p) ↔ ((p ≡ header_place o) × (Rule8 t.run → ⊥))
        unfolding breach8
        breaks8 p = rw (run_is s o h t, ← (header_place_lem s o)) (kept_at_lem (frame_of s).header p reads_rule8)

        -- the first of the run's descriptors that a test holds of
        abbrev first_of : (List ℕ → Bool) → Option ℕ
        first_of p = first_from (λ b d. p d) (header_place o + length h.header) [] t.run

        breach9_is : breach9 s (frame_of s) ≡ first_of is_wrong
        unfolding breach9
        breach9_is = run_first s o h t is_wrong

        keeps9 : (breach9 s (frame_of s) ≡ None) ↔ Recognised audio t.run
        keeps9 = rw breach9_is (
          λ e d m. layout_or d ((sound_each (WrongLayout audio) t.run).0 (first.0 e) d m),
          λ k. first.1 ((sound_each (WrongLayout audio) t.run).1 (λ d m n. ⊎_elim n.0 n.1 (k d m))),
        )
          where
            first : (first_of is_wrong ≡ None) ↔ Sound (λ b d. WrongLayout audio d) t.run
            first = first_nowhere (λ b d. is_wrong d) (λ b d. WrongLayout audio d) (λ b d. reads_wrong d) (header_place o + length h.header) t.run

        breaks9 : (p : ℕ) → (breach9 s (frame_of s) ≡ Some p) ↔ Breaks (λ b d. WrongLayout audio d) (header_place o + length h.header) t.run p
        breaks9 p = rw breach9_is (first_at (λ b d. is_wrong d) (λ b d. WrongLayout audio d) (λ b d. reads_wrong d) (header_place o + length h.header) t.run p)

        breach17_is : breach17 s (frame_of s) ≡ first_of is_printed
        unfolding breach17
        breach17_is = run_first s o h t is_printed

        keeps17 : (breach17 s (frame_of s) ≡ None) ↔ NoneWithdrawn audio t.run
        keeps17 = rw breach17_is (λ e. each.0 (first.0 e), λ k. first.1 (each.1 k))
          where
            first : (first_of is_printed ≡ None) ↔ Sound (λ b d. Printed d) t.run
            first = first_nowhere (λ b d. is_printed d) (λ b d. Printed d) (λ b d. reads_printed d) (header_place o + length h.header) t.run

            each : Sound (λ b d. Printed d) t.run ↔ NoneWithdrawn audio t.run
            each = sound_each Printed t.run

        breaks17 : (p : ℕ) → (breach17 s (frame_of s) ≡ Some p) ↔ Breaks (λ b d. Printed d) (header_place o + length h.header) t.run p
        breaks17 p = rw breach17_is (first_at (λ b d. is_printed d) (λ b d. Printed d) (λ b d. reads_printed d) (header_place o + length h.header) t.run p)

  -- each row by what decides it
  module _ (behind : Kept s → Rows) (r : Refusal) (h : (k : Kept s) → Answers (behind k) r) where
    group_answers : (o : Opened s) → Answers (group_rows o behind) (group_judged s (frame_of s) (run_judged s (frame_of s) r))
    unfolding group_judged run_judged
    group_answers o = (
      breach5 s (frame_of s),
      _,
      refl,
      record { kept = keeps5 o; broken = breaks5 o },
      λ e. (
        breach6 s (frame_of s),
        _,
        refl,
        record { kept = keeps6 o e; broken = breaks6 o e },
        λ t. (
          breach7 s (frame_of s),
          _,
          refl,
          record { kept = keeps7 o e; broken = breaks7 o e },
          λ c. (
            breach8 s (frame_of s),
            _,
            refl,
            record { kept = keeps8 o e t; broken = breaks8 o e t },
            λ m. (
              breach9 s (frame_of s),
              _,
              refl,
              record { kept = keeps9 o e t; broken = breaks9 o e t },
              λ l. (
                breach17 s (frame_of s),
                r,
                refl,
                record { kept = keeps17 o e t; broken = breaks17 o e t },
                λ w. h (record { opened = o; rule5 = e; rule6 = t; rule7 = c; rule8 = m; rule9 = laid_out audio t.run l w }),
              ),
            ),
          ),
        ),
      ),
    )

    pub cutting_answers : Answers (cutting_rows s behind) (verdict_then s r)
    unfolding verdict_then judged
    cutting_answers = (opening_answers s) (λ o. group_rows o behind) _ group_answers

  pub cutting_numbered : (behind : Kept s → Rows) → ((k : Kept s) → Numbered (behind k)) → Numbered (cutting_rows s behind)
  cutting_numbered behind h =
      (opening_numbered s) (λ o. group_rows o behind)
      (λ o. (λ e. omega arith, λ d. (λ e. omega arith, λ t. (λ e. omega arith, λ k. (λ e. omega arith, λ m. (λ e. omega arith, λ l. (λ e. omega arith, λ w. h (record { opened = o; rule5 = d; rule6 = t; rule7 = k; rule8 = m; rule9 = laid_out audio t.run l w }))))))))

  pub nine_kept : (behind : Kept s → Rows) → AllKept (cutting_rows s behind) → (k : Kept s) × AllKept (behind k)
  nine_kept behind x = of ((four_kept s) (λ o. group_rows o behind) x)
    where
      of : (o : Opened s) × AllKept (group_rows o behind) → (k : Kept s) × AllKept (behind k)
      of (o, (e, (t, (k, (m, (l, (w, y))))))) = (record { opened = o; rule5 = e; rule6 = t; rule7 = k; rule8 = m; rule9 = laid_out audio t.run l w }, y)

  pub all_nine : (behind : Kept s → Rows) (k : Kept s) → AllKept (behind k) → AllKept (cutting_rows s behind)
  all_nine behind k x =
      let l : Recognised audio k.rule6.run = λ d m. inl (k.rule9 d m) in
      let w : NoneWithdrawn audio k.rule6.run = λ d m y. printed_unlaid d y (k.rule9 d m) in
      (all_four s) (λ o. group_rows o behind) k.opened (k.rule5, (k.rule6, (k.rule7, (k.rule8, (l, (w, x))))))

  answers : Answers (cutting_rows s (λ k. end)) (verdict s)
  unfolding verdict
  answers = cutting_answers (λ k. end) none (λ k. refl)

  pub verdict_kept : (verdict s ≡ none) ↔ Kept s
  verdict_kept = (
    λ e. (nine_kept (λ k. end) ((answers_kept (cutting_rows s (λ k. end)) (verdict s) (cutting_numbered (λ k. end) (λ k. tt)) answers).0 (ap (λ (x : Refusal). x.number) e))).0,
    λ k. all_none (cutting_rows s (λ k. end)) (verdict s) answers (all_nine (λ k. end) k tt),
  )

  pub verdict_refused : (n p : ℕ) → (n ≡ 0 → ⊥) → (verdict s ≡ record { number = n; place = p }) ↔ FirstBroken (cutting_rows s (λ k. end)) n p
  verdict_refused = answers_broken (cutting_rows s (λ k. end)) (verdict s) (cutting_numbered (λ k. end) (λ k. tt)) answers
