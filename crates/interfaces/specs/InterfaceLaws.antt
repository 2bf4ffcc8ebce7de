-- Rule 4 and what the reader computes for it, both ways.
--   reads_wrong   ==  the test of an interface descriptor decides the four parts of refusal 4
--   rule4_kept    ==  breach4 is nowhere exactly where rule 4 is kept
--   rule4_broken  ==  .. and at p exactly where p is refusal 4's place
--   nine          ==  where rule 4 is kept, an interface descriptor is 9 long
use Rattle.std.specs.Prelude.{ℕ, ◌≡◌, List, ◌∷◌, ◌++◌, ◌⊎◌, ◌↔◌, length, eqb, Option, Some, None}
use Rattle.std.proofs.Math.Path.{refl}
use Rattle.std.proofs.Common.{sym, ◌∙◌, inl, inr, ⊎_elim, arith}
use Rattle.ground.specs.Pick.{Reads, reads_same, reads_eq, reads_and, reads_or, reads_not, decided}
use Rattle.ground.specs.Numbers.{byte}
use Rattle.ground.specs.Lists.{any, SomeOf, reads_any}
use Rattle.ground.specs.First.{Sound, Breaks, first_nowhere, first_at}
use Rattle.ground.specs.Refuse.{kept_at, kept_nowhere, kept_at_lem}
use Rattle.scan.specs.Cutting.{rest}
use Rattle.scan.specs.Search.{searched}
use Rattle.search.specs.Want.{Interface, Audio, Setting, is_audio, reads_interface, reads_audio, reads_setting}
use Rattle.interfaces.specs.Rule4.{WrongInterface, not_nine, repeats, second_control, other_setting, Rule4, Broken4, wrong, missing}
use Rattle.interfaces.specs.Reading.{wrong_interface, breach4}

-- the four parts of refusal 4, as one statement
abbrev Parts : List (List ℕ) → List ℕ → Type 0
Parts b i = Interface i × ((length i ≡ 9 → ⊥) ⊎ (SomeOf (Setting (byte i 2) (byte i 3)) b ⊎ (Audio 1 i × (SomeOf (Audio 1) b ⊎ (byte i 3 ≡ 0 → ⊥)))))

reads_parts : (b : List (List ℕ)) (i : List ℕ) → Reads (wrong_interface b i) (Parts b i)
unfolding wrong_interface
reads_parts b i =
    reads_and _ _ (reads_interface i)
    (reads_or _ _ (reads_not _ (reads_eq (length i) 9))
    (reads_or _ _ (reads_any _ _ (reads_setting (byte i 2) (byte i 3)) b)
    (reads_and _ _ (reads_audio 1 i) (reads_or _ _ (reads_any _ _ (reads_audio 1) b) (reads_not _ (reads_eq (byte i 3) 0))))))

wrong_of : (b : List (List ℕ)) (i : List ℕ) → Parts b i → WrongInterface b i
wrong_of b i (h, inl n) = not_nine h n
wrong_of b i (h, inr (inl r)) = repeats h r
wrong_of b i (h, inr (inr (a, inl c))) = second_control a c
wrong_of b i (h, inr (inr (a, inr n))) = other_setting a n

parts_of : (b : List (List ℕ)) (i : List ℕ) → WrongInterface b i → Parts b i
parts_of b i (not_nine h n) = (h, inl n)
parts_of b i (repeats h r) = (h, inr (inl r))
parts_of b i (second_control a c) = (a.0, inr (inr (a, inl c)))
parts_of b i (other_setting a n) = (a.0, inr (inr (a, inr n)))

pub reads_wrong : (b : List (List ℕ)) (i : List ℕ) → Reads (wrong_interface b i) (WrongInterface b i)
reads_wrong b i = reads_same (reads_parts b i) (wrong_of b i) (parts_of b i)

module _ (s : List ℕ) where
  nowhere : searched wrong_interface s 0 ≡ None ↔ Sound WrongInterface (rest s 0)
  unfolding searched
  nowhere = first_nowhere wrong_interface WrongInterface reads_wrong 0 (rest s 0)

  at : (p : ℕ) → searched wrong_interface s 0 ≡ Some p ↔ Breaks WrongInterface 0 (rest s 0) p
  unfolding searched
  at p = first_at wrong_interface WrongInterface reads_wrong 0 (rest s 0) p

  control : Reads (any (is_audio 1) (rest s 0)) (SomeOf (Audio 1) (rest s 0))
  control = reads_any (is_audio 1) (Audio 1) (reads_audio 1) (rest s 0)

  after_none : searched wrong_interface s 0 ≡ None → breach4 s ≡ kept_at (any (is_audio 1) (rest s 0)) (length s)
  unfolding breach4
  after_none e = rw (breach4, e) refl

  after_at : (p : ℕ) → searched wrong_interface s 0 ≡ Some p → breach4 s ≡ Some p
  unfolding breach4
  after_at p e = rw (breach4, e) refl

  pub rule4_kept : breach4 s ≡ None ↔ Rule4 (rest s 0)
  rule4_kept = (λ e. of (searched wrong_interface s 0) refl e, λ k. after_none (nowhere.1 k.right) ∙ (kept_nowhere (length s) control).1 k.control)
    where
      of : (r : Option ℕ) → searched wrong_interface s 0 ≡ r → breach4 s ≡ None → Rule4 (rest s 0)
      of None h e = record { right = nowhere.0 h; control = (kept_nowhere (length s) control).0 (sym (after_none h) ∙ e) }
      of (Some p) h e = let q : Some p ≡ None = sym (after_at p h) ∙ e in let z : ◌≡◌ {A = ℕ} 0 1 = cc in absurd (omega arith)

  pub rule4_broken : (p : ℕ) → breach4 s ≡ Some p ↔ Broken4 s (rest s 0) p
  rule4_broken p = (λ e. of (searched wrong_interface s 0) refl e, to)
    where
      of : (r : Option ℕ) → searched wrong_interface s 0 ≡ r → breach4 s ≡ Some p → Broken4 s (rest s 0) p
      of None h e = let k = (kept_at_lem (length s) p control).0 (sym (after_none h) ∙ e) in missing (nowhere.0 h) k.1 k.0
      of (Some q) h e = let j : Some q ≡ Some p = sym (after_at q h) ∙ e in let z : q ≡ p = cc in wrong ((at p).0 (h ∙ j))

      to : Broken4 s (rest s 0) p → breach4 s ≡ Some p
      to (wrong b) = after_at p ((at p).1 b)
      to (missing k n e) = after_none (nowhere.1 k) ∙ (kept_at_lem (length s) p control).1 (e, n)

pub nine : (s : List ℕ) → Rule4 (rest s 0) → (b : List (List ℕ)) (i : List ℕ) (a : List (List ℕ)) → rest s 0 ≡ b ++ i ∷ a → Interface i → length i ≡ 9
unfolding Sound
nine s k b i a e h = ⊎_elim (λ n. n) (λ n. absurd (k.right b i a e (not_nine h n))) (decided (eqb (length i) 9) (reads_eq (length i) 9))
