-- Laws of what stands beside it in specs.
--   unlaid_judged    ==  the refusals 9 and 17, told apart only where some descriptor has none of the layouts
use Rattle.std.specs.Prelude.{ℕ, ◌≡◌, Bool, ◌↔◌, List, Option, Some, None}
use Rattle.std.proofs.Math.Path.{refl}
use Rattle.std.proofs.Math.Logic.{⊎_elim}
use Rattle.ground.specs.First.{Sound, Breaks, first_nowhere, first_at}
use Rattle.ground.specs.Refuse.{none, refuse}
use Rattle.scan.specs.Cutting.{rest}
use Rattle.scan.specs.Search.{searched}
use Rattle.layout.specs.Layout.{LaidOut, entity_of, is_unknown}
use Rattle.layout.proofs.LayoutLemmas.{reads_unknown}
use Rattle.layout.specs.Withdrawn.{Printed, is_printed, reads_printed, is_wrong}
use Rattle.layout.proofs.WithdrawnLemmas.{printed_unlaid, reads_wrong, layout_or}
use Rattle.cutting.specs.Survey.{unlaid_refused}

-- what has none of the layouts is wrong or printed
module _ (s : List ℕ) (p : ℕ) where
  abbrev first : (List ℕ → Bool) → Option ℕ
  first t = searched (λ b d. t d) s p

  abbrev unlaid : List ℕ → Bool
  unlaid d = is_unknown (entity_of d)

  sound_unlaid : (first unlaid ≡ None) ↔ Sound (λ b d. LaidOut d → ⊥) (rest s p)
  unfolding searched
  sound_unlaid = first_nowhere (λ b d. unlaid d) (λ b d. LaidOut d → ⊥) (λ b d. reads_unknown d) p (rest s p)

  sound_wrong : (first is_wrong ≡ None) ↔ Sound (λ b d. (LaidOut d → ⊥) × (Printed d → ⊥)) (rest s p)
  unfolding searched
  sound_wrong = first_nowhere (λ b d. is_wrong d) (λ b d. (LaidOut d → ⊥) × (Printed d → ⊥)) (λ b d. reads_wrong d) p (rest s p)

  sound_printed : (first is_printed ≡ None) ↔ Sound (λ b d. Printed d) (rest s p)
  unfolding searched
  sound_printed = first_nowhere (λ b d. is_printed d) (λ b d. Printed d) (λ b d. reads_printed d) p (rest s p)

  none_unlaid : first unlaid ≡ None → (first is_wrong ≡ None) × (first is_printed ≡ None)
  unfolding Sound
  none_unlaid e =
      let h = sound_unlaid.0 e in
      (sound_wrong.1 (λ x d y q w. h x d y q w.0), sound_printed.1 (λ x d y q w. h x d y q (printed_unlaid d w)))

  first_printed : (q : ℕ) → Sound (λ b d. (LaidOut d → ⊥) × (Printed d → ⊥)) (rest s p) → Breaks (λ b d. LaidOut d → ⊥) p (rest s p) q
      → Breaks (λ b d. Printed d) p (rest s p) q
  unfolding Sound
  first_printed q h k = record {
    before = k.before;
    offender = k.offender;
    after = k.after;
    split = k.split;
    wrong = ⊎_elim (λ l. absurd (k.wrong l)) (λ w. w) (layout_or k.offender (h k.before k.offender k.after k.split));
    place = k.place;
    none_before = λ x d y e w. k.none_before x d y e (printed_unlaid d w);
  }

  only_printed : (q : ℕ) → first unlaid ≡ Some q → first is_wrong ≡ None → first is_printed ≡ Some q
  unfolding searched
  only_printed q e f =
      (first_at (λ b d. is_printed d) (λ b d. Printed d) (λ b d. reads_printed d) p (rest s p) q).1
      (first_printed q (sound_wrong.0 f) ((first_at (λ b d. unlaid d) (λ b d. LaidOut d → ⊥) (λ b d. reads_unknown d) p (rest s p) q).0 e))

  pub unlaid_judged : unlaid_refused s p (first unlaid) ≡ refuse 9 (first is_wrong) (refuse 17 (first is_printed) none)
  unfolding unlaid_refused refuse
  unlaid_judged = go (first unlaid) refl (first is_wrong) refl
    where
      go : (u : Option ℕ) → first unlaid ≡ u → (w : Option ℕ) → first is_wrong ≡ w → unlaid_refused s p u ≡ refuse 9 (first is_wrong) (refuse 17 (first is_printed) none)
      go None e w f = let n = none_unlaid e in rw (n.0, n.1) refl
      go (Some q) e (Some r) f = rw f refl
      go (Some q) e None f = rw (f, only_printed q e f) refl
