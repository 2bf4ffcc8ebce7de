-- What the rules that are kept so far say of the places that the reader works with: the parts that the rules speak of are the parts
-- that the reader finds.
--   cut_told      ==  the cutting is what stands from the first byte on
--   frame_told    ==  the AudioControl interface stands where the reader finds it: it is one
--   header_place_lem  ==  so does the header's place
--   rule5_reads, rule6_reads, rule7_reads  ==  the reader's tests decide the rules 5, 6 and 7
--   control_nine, control_byte  ==  the AudioControl interface is nine bytes long, and they stand where the reader finds it
--   header_is, others_are, run_place, run_is  ==  the header, what stands behind it, the run's place and the run
--   run_first     ==  what a search along the run finds is found among its descriptors
--   run_stands    ==  from the run's place on the configuration's bytes are those of the run, then those of the descriptors behind it
--   run_cut       ==  each of the run is one of the cutting's descriptors
--   opened_one, run_one  ==  what keeps the rules is one: the cutting, by the cutting theorem; the run, whatever the form of headers
use Rattle.std.specs.Prelude.{ℕ, ◌+◌, ◌≤◌, ◌<◌, ◌≡◌, Bool, not, ◌&&◌, take, drop, eqb}
use Rattle.std.proofs.Math.Path.{refl, sym, ap}
use Rattle.std.proofs.Common.{◌∙◌}
use mathlib.Core.List.Memᴰ
use mathlib.Core.List.{List, [], ◌∷◌, ◌++◌, flatten, Memᴰ, head-eq_of_cons-eq, tail-eq_of_cons-eq}
use Rattle.std.proofs.Math.ListN.{length, get_or-append}
use Rattle.std.proofs.Math.Seq.{get_or-append-add, drop-append_seam}
use native.Mathlib.Omega.{arith}
use Rattle.ground.specs.Pick.{Reads}
use Rattle.ground.specs.Numbers.{byte, word}
use Rattle.ground.specs.Lists.{total, total_append, length_flatten, flatten_append, stop_at, front_one}
use Rattle.ground.specs.First.{Sound, first_from}
use Rattle.scan.specs.Cutting.{Descriptor, rest}
use Rattle.scan.specs.CuttingLaws.{cutting_rest, cutting_one}
use Rattle.scan.specs.Search.{searched}
use Rattle.search.specs.Want.{Audio}
use Rattle.interfaces.specs.Rule4.{second_control}
use Rattle.interfaces.specs.InterfaceLaws.{nine}
use Rattle.collection.specs.Rule7.{Rule7}
use Rattle.collection.specs.Reading.{collects}
use Rattle.collection.specs.CollectionLaws.{reads_rule7}
use Rattle.groups.specs.Rules5and6.{HeaderForm, Rule5By, Rule5, listed_of, Rule6By, audio_form}
use Rattle.groups.specs.Reading.{frame_of, frame_from, header_of, is_header, strays_from}
use Rattle.groups.specs.Opening.{reads_header}
use Rattle.groups.specs.FrameLaws.{Framed, framed, header_told, header_room, reads_rule5}
use Rattle.groups.specs.TotalLaws.{reads_rule6, rule6_run}
use Rattle.cutting.specs.Rules1to9.{Opened, header_place}
use Rattle.cutting.specs.Survey.{run_found}

module _ (s : List ℕ) (o : Opened s) where
  pub cut_told : rest s 0 ≡ o.descriptors
  cut_told = cutting_rest s o.descriptors o.rule3

  none_before : (before : List (List ℕ)) (control : List ℕ) (tail : List (List ℕ)) → o.descriptors ≡ before ++ control ∷ tail → Audio 1 control
      → (d : List ℕ) → Memᴰ d before → Audio 1 d → ⊥
  unfolding Sound
  none_before before control tail e c d m a = o.rule4.right before control tail e (second_control c (record { one = d; among = m; has = a }))

  pub frame_told : Framed s o.before o.control o.tail
  frame_told = go (framed s (rw cut_told o.rule4))
    where
      go : (before : List (List ℕ)) × (control : List ℕ) × (tail : List (List ℕ)) × Framed s before control tail
          → Framed s o.before o.control o.tail
      go (before, control, tail, f) =
          let e : before ++ control ∷ tail ≡ o.before ++ o.control ∷ o.tail = sym f.whole ∙ cut_told ∙ o.split in
          let one = front_one (λ d. Audio 1 d → ⊥) before (control ∷ tail) o.before (o.control ∷ o.tail) e
          (λ d m a. f.none_before (record { one = d; among = m; has = a }))
          (none_before o.before o.control o.tail o.split o.is_control)
          (stop_at (λ n. n f.is_control)) (stop_at (λ n. n o.is_control)) in
          rw (← one.0, ← (head-eq_of_cons-eq one.1), ← (tail-eq_of_cons-eq one.1)) f

  pub control_nine : length o.control ≡ 9
  control_nine = nine s (rw cut_told o.rule4) o.before o.control o.tail (cut_told ∙ o.split) o.is_control.0

  pub control_byte : (i : ℕ) → i < 9 → byte s ((frame_of s).control + i) ≡ byte o.control i
  unfolding flatten
  control_byte i l =
      let n = control_nine in
      ap (λ (j : ℕ). byte s (j + i)) (frame_told.control_at ∙ sym (length_flatten o.before))
      ∙ ap (λ (x : List ℕ). byte x (length (flatten o.before) + i)) (sym o.rule3.whole ∙ ap flatten o.split ∙ flatten_append o.before (o.control ∷ o.tail))
      ∙ get_or-append-add (flatten o.before) (o.control ++ flatten o.tail) i 0
      ∙ get_or-append o.control (flatten o.tail) 0 i (omega arith)

  pub header_place_lem : (frame_of s).header ≡ header_place o
  header_place_lem = frame_told.header_at

  pub rule5_reads : Reads (is_header (header_of s (frame_of s))) (Rule5 o.tail)
  rule5_reads = reads_rule5 s o.tail frame_told.behind audio_form _ (reads_header (header_of s (frame_of s)))

  -- of a header of any form
  module _ {form : HeaderForm} (h : Rule5By form o.tail) where
    pub header_is : h.header ≡ header_of s (frame_of s)
    header_is = (header_told s o.tail frame_told.behind h.header h.others h.stands).0

    pub others_are : h.others ≡ rest s (frame_of s).run
    others_are = (header_told s o.tail frame_told.behind h.header h.others h.stands).1

    -- the whole length, part by part
    lengths : length s ≡ total o.before + (length o.control + (length h.header + total h.others))
    unfolding total
    lengths =
        ap length (sym o.rule3.whole) ∙ length_flatten o.descriptors ∙ ap total (o.split ∙ ap (λ (x : List (List ℕ)). o.before ++ o.control ∷ x) h.stands) ∙ total_append o.before (o.control ∷ h.header ∷ h.others)

    room : ((frame_of s).run ≡ (frame_of s).header + length h.header) × ((frame_of s).run ≤ length s)
    room = header_room s o.tail frame_told.behind h.header h.others h.stands

    pub run_place : (frame_of s).run ≡ header_place o + length h.header
    run_place = room.0 ∙ ap (λ (i : ℕ). i + length h.header) header_place_lem

    full : (frame_of s).run + total (rest s (frame_of s).run) ≡ length s
    full =
        let n = control_nine in
        let l = lengths in
        let r = run_place in
        let t : total h.others ≡ total (rest s (frame_of s).run) = ap total others_are in
        omega arith

    pub rule6_reads : Reads (eqb ((frame_of s).header + word (header_of s (frame_of s)) form.told) (frame_of s).end && not (strays_from s (frame_of s).end)) (Rule6By form h.header h.others)
    unfolding frame_of frame_from
    rule6_reads = rw (others_are, ← header_is) (reads_rule6 form s h.header (frame_of s).header (frame_of s).run room.0 room.1 full)

    pub rule7_reads : Reads (collects s (listed_of (header_of s (frame_of s)))) (Rule7 o.descriptors (listed_of h.header))
    rule7_reads = rw (← cut_told, header_is) (reads_rule7 s (listed_of (header_of s (frame_of s))))

    pub run_is : (t : Rule6By form h.header h.others) → run_found s (frame_of s) ≡ t.run
    unfolding run_found frame_of frame_from
    run_is t = rule6_run form s h.header (frame_of s).header (frame_of s).run room.0 room.1 full h.others others_are t

    -- the run, where it keeps rule 6
    module _ (t : Rule6By form h.header h.others) where
      pub run_first : (p : List ℕ → Bool) → searched (λ b d. p d) (take (frame_of s).end s) (frame_of s).run ≡ first_from (λ b d. p d) (header_place o + length h.header) [] t.run
      unfolding searched run_found
      run_first p = ap (first_from (λ b d. p d) (frame_of s).run []) (run_is t) ∙ ap (λ (i : ℕ). first_from (λ b d. p d) i [] t.run) run_place

      front : List (List ℕ)
      front = o.before ++ (o.control ∷ h.header ∷ [])

      parts : o.descriptors ≡ o.before ++ (o.control ∷ (h.header ∷ (t.run ++ (t.later ++ t.after))))
      parts = o.split ∙ ap (λ (x : List (List ℕ)). o.before ++ o.control ∷ x) (h.stands ∙ ap (λ (x : List (List ℕ)). h.header ∷ x) t.split)

      front_flat : flatten (o.before ++ (o.control ∷ (h.header ∷ (t.run ++ (t.later ++ t.after))))) ≡ flatten front ++ (flatten t.run ++ flatten (t.later ++ t.after))
      unfolding front
      front_flat =
          sym (ap flatten (append_two o.before o.control h.header (t.run ++ (t.later ++ t.after))))
          ∙ flatten_append (o.before ++ (o.control ∷ h.header ∷ [])) (t.run ++ (t.later ++ t.after))
          ∙ ap (λ (x : List ℕ). flatten (o.before ++ (o.control ∷ h.header ∷ [])) ++ x) (flatten_append t.run (t.later ++ t.after))
        where
          append_two : (x : List (List ℕ)) (a b : List ℕ) (y : List (List ℕ)) → (x ++ (a ∷ b ∷ [])) ++ y ≡ x ++ (a ∷ (b ∷ y))
          append_two [] a b y = refl
          append_two (c ∷ x) a b y = ap (λ (l : List (List ℕ)). c ∷ l) (append_two x a b y)

      front_length : length (flatten front) ≡ header_place o + length h.header
      unfolding front total
      front_length =
          let n = control_nine in
          let q : total (o.before ++ (o.control ∷ h.header ∷ [])) ≡ total o.before + (length o.control + (length h.header + 0)) = total_append o.before (o.control ∷ h.header ∷ []) in
          length_flatten (o.before ++ (o.control ∷ h.header ∷ [])) ∙ omega arith

      pub run_stands : drop (header_place o + length h.header) s ≡ flatten t.run ++ flatten (t.later ++ t.after)
      run_stands =
          ap (λ (i : ℕ). drop i s) (sym front_length)
          ∙ ap (drop (length (flatten front))) (sym o.rule3.whole ∙ ap flatten parts ∙ front_flat)
          ∙ drop-append_seam (flatten front) (flatten t.run ++ flatten (t.later ++ t.after))

      pub run_cut : (d : List ℕ) → Memᴰ d t.run → Descriptor d
      run_cut d m =
          o.rule3.each d (rw parts (Memᴰ.append_right o.before (Memᴰ.tail (Memᴰ.tail (Memᴰ.append_left (t.later ++ t.after) m)))))

-- what keeps the rules is one, whatever the form of headers
module _ (s : List ℕ) (o u : Opened s) where
  pub opened_one : o.descriptors ≡ u.descriptors
  opened_one = cutting_one s o.descriptors u.descriptors o.rule3 u.rule3

  pub run_one : {form : HeaderForm} (h : Rule5By form o.tail) (k : Rule5By form u.tail) (t : Rule6By form h.header h.others) (v : Rule6By form k.header k.others)
      → t.run ≡ v.run
  run_one h k t v = sym (run_is s o h t) ∙ run_is s u k v
