-- Where the AudioControl group's parts stand, and rule 5 on them, both ways.
--   Framed s before control tail ==  the AudioControl interface control stands behind the descriptors before, in front of tail,
--                                    and the frame is where that is
--   framed        ==  where rule 4 is kept, so it is
--   header_told, header_room  ==  the first descriptor behind that interface is what stands where the header should; where it ends
--   reads_rule5   ==  for every form of headers: the test of what stands there decides rule 5
use Rattle.std.specs.Prelude.{ℕ, ◌+◌, ◌-◌, ◌≤◌, ◌≡◌, Bool, Option, Some, None}
use Rattle.std.proofs.Math.Path.{refl, sym, ap}
use Rattle.std.proofs.Common.{◌∙◌}
use Rattle.std.proofs.Math.Bool.{true}
use mathlib.Core.List.{List, [], ◌∷◌, ◌++◌, nil≢cons, head-eq_of_cons-eq, tail-eq_of_cons-eq}
use Rattle.std.proofs.Math.ListN.{length}
use Rattle.std.proofs.Math.Seq.{append_snoc}
use native.Mathlib.Omega.{arith}
use Rattle.ground.specs.Pick.{Reads, reads_same, shows, true≠false}
use Rattle.ground.specs.Lists.{part, part_none, part_length, total, total_append, any, SomeOf, reads_any}
use Rattle.ground.specs.Refuse.{place_or}
use Rattle.scan.specs.Cutting.{end_at, rest}
use Rattle.scan.specs.CuttingLaws.{rest_none, rest_more, end_off}
use Rattle.search.specs.Want.{Audio, is_audio, reads_audio, wants, found_from}
use Rattle.search.specs.Found.{found, found_none, rest_split}
use Rattle.search.specs.declared.Want.TheVariants as want
use Rattle.interfaces.specs.Rule4.{Rule4}
use Rattle.interfaces.specs.InterfaceLaws.{nine}
use Rattle.groups.specs.Rules5and6.{HeaderForm, Rule5By}
use Rattle.groups.specs.Reading.{frame_of, frame_from, header_of}

pub record Framed (s : List ℕ) (before : List (List ℕ)) (control : List ℕ) (tail : List (List ℕ)) : Type 0 where
  pub whole : rest s 0 ≡ before ++ control ∷ tail
  pub is_control : Audio 1 control
  pub none_before : SomeOf (Audio 1) before → ⊥
  pub control_at : (frame_of s).control ≡ total before
  pub header_at : (frame_of s).header ≡ total before + 9
  pub behind : rest s (frame_of s).header ≡ tail

control_place : (s : List ℕ) → (frame_of s).control ≡ place_or (found_from s 0 (want.Audio 1)) (length s)
unfolding frame_of frame_from
control_place s = refl

header_place_lem : (s : List ℕ) → (frame_of s).header ≡ (frame_of s).control + 9
unfolding frame_of frame_from
header_place_lem s = refl

total_snoc : (b : List (List ℕ)) (d : List ℕ) → total (b ++ d ∷ []) ≡ total b + (length d + 0)
unfolding total
total_snoc b d = total_append b (d ∷ [])

module _ (s : List ℕ) (k : Rule4 (rest s 0)) where
  control_found : (q : ℕ) × (found_from s 0 (want.Audio 1) ≡ Some q)
  unfolding wants
  control_found = go (found_from s 0 (want.Audio 1)) refl
    where
      stands : any (is_audio 1) (rest s 0) ≡ true
      stands = shows (reads_any (is_audio 1) (Audio 1) (reads_audio 1) (rest s 0)) k.control

      go : (r : Option ℕ) → found_from s 0 (want.Audio 1) ≡ r → (q : ℕ) × (found_from s 0 (want.Audio 1) ≡ Some q)
      go None e = absurd (true≠false (sym stands ∙ found_none (want.Audio 1) s 0 e))
      go (Some q) e = (q, e)

  pub framed : (before : List (List ℕ)) × (control : List ℕ) × (tail : List (List ℕ)) × Framed s before control tail
  unfolding wants place_or
  framed = go control_found.0 control_found.1
    where
      go : (q : ℕ) → found_from s 0 (want.Audio 1) ≡ Some q
          → (before : List (List ℕ)) × (control : List ℕ) × (tail : List (List ℕ)) × Framed s before control tail
      go q e =
          let f = found (want.Audio 1) s 0 q (omega arith) e in
          let c = (reads_audio 1 f.wanted).says f.meets in
          let n : length f.wanted ≡ 9 = nine s k f.passed f.wanted f.behind f.whole c.0 in
          let p = f.place in
          let a : (frame_of s).control ≡ q = control_place s ∙ ap (λ (r : Option ℕ). place_or r (length s)) e in
          let b : (frame_of s).header ≡ (frame_of s).control + 9 = header_place_lem s in
          let t : total (f.passed ++ f.wanted ∷ []) ≡ total f.passed + (length f.wanted + 0) = total_snoc f.passed f.wanted in
          let h : (frame_of s).header ≡ 0 + total (f.passed ++ f.wanted ∷ []) = omega arith in (
            f.passed,
            f.wanted,
            f.behind,
            record {
              whole = f.whole;
              is_control = c;
              none_before = λ x. (reads_any (is_audio 1) (Audio 1) (reads_audio 1) f.passed).denies f.none_passed x;
              control_at = omega arith;
              header_at = omega arith;
              behind = ap (rest s) h ∙ rest_split s 0 (omega arith) (f.passed ++ f.wanted ∷ []) f.behind (f.whole ∙ sym (append_snoc f.passed f.wanted f.behind));
            },
          )

-- the header is what stands where it should, or nothing of the group stands there
module _ (s : List ℕ) (tail : List (List ℕ)) (e : rest s (frame_of s).header ≡ tail) where
  header_first : (end_at s (frame_of s).header ≡ (frame_of s).header → ⊥) → tail ≡ header_of s (frame_of s) ∷ rest s (frame_of s).run
  unfolding frame_of frame_from
  header_first n = sym e ∙ rest_more s (frame_of s).header n

  none_empty : (h : List ℕ) (others : List (List ℕ)) → tail ≡ h ∷ others → end_at s (frame_of s).header ≡ (frame_of s).header → ⊥
  none_empty h others q z = nil≢cons (sym (rest_none s (frame_of s).header z) ∙ e ∙ q)

  header_none : end_at s (frame_of s).header ≡ (frame_of s).header → header_of s (frame_of s) ≡ []
  unfolding frame_of frame_from
  header_none z = ap (part s (frame_of s).header) z ∙ part_none s (frame_of s).header

  pub header_told : (h : List ℕ) (others : List (List ℕ)) → tail ≡ h ∷ others → (h ≡ header_of s (frame_of s)) × (others ≡ rest s (frame_of s).run)
  header_told h others q = let g = sym q ∙ header_first (none_empty h others q) in (head-eq_of_cons-eq g, tail-eq_of_cons-eq g)

  pub header_room : (h : List ℕ) (others : List (List ℕ)) → tail ≡ h ∷ others
      → ((frame_of s).run ≡ (frame_of s).header + length h) × ((frame_of s).run ≤ length s)
  unfolding frame_of frame_from
  header_room h others q =
      let o = end_off s (frame_of s).header (none_empty h others q) in
      let l : length h ≡ (frame_of s).run - (frame_of s).header = ap length (header_told h others q).0 ∙ part_length s (frame_of s).header (frame_of s).run o.1 in
      (omega arith, o.1)

  pub reads_rule5 : (f : HeaderForm) (b : Bool) → Reads b (f.Right (header_of s (frame_of s))) → Reads b (Rule5By f tail)
  reads_rule5 f b r =
      reads_same r of
      (λ k. rw (header_told k.header k.others k.stands).0 at k.right)
    where
      of : f.Right (header_of s (frame_of s)) → Rule5By f tail
      of k =
          record {
            header = header_of s (frame_of s);
            others = rest s (frame_of s).run;
            stands = header_first (λ z. let l : length (header_of s (frame_of s)) ≡ 0 = ap length (header_none z) in let i = f.some (header_of s (frame_of s)) k in omega arith);
            right = k;
          }
