-- The list laid out, one descriptor behind another: what the loop knows, and its ways out.
--   reads_wrong_in   ==  wrong_in decides that rule 9 is broken
--   listed_count, listed_at  ==  how many descriptors a list has, and the one at an index
--   Laying ds out at i  ==  the loop has laid the first i descriptors, up to place at of the buffer out, and none of them is wrong
--   laying_start, laying_over  ==  its start and its end
--   too_long, wrong_here, laying_on  ==  a turn: the next descriptor passes 255 bytes or has none, has a wrong layout, or is laid behind the others
--   laid_long        ==  the buffer stays as long as it was
--   turn_room, turn_fits  ==  where it is laid, it ends inside the buffer, which has 8,160 bytes
use Rattle.std.specs.Prelude.{ℕ, suc, ◌+◌, ◌-◌, ◌*◌, ◌≤◌, ◌<◌, Bool, ◌||◌, get_or, Some, None}
use Rattle.std.proofs.Math.Path.{◌≡◌, refl, sym, ap}
use Rattle.std.proofs.Common.{◌∙◌, inr, ⊎_elim, add-one, take-suc}
use Rattle.std.proofs.Math.Bool.{true, false}
use mathlib.Core.List.{List, [], ◌∷◌, ◌++◌, flatten, append_assoc, append-nil}
use native.Mathlib.Omega.{arith}
use Rattle.std.proofs.Math.ListN.{length, take, drop, length-append, get_or-map}
use Rattle.std.proofs.lemmas.List.{length-map}
use Rattle.std.proofs.Math.Seq.{take_at, drop_at, take_all, length-take-le}
use Rattle.std.proofs.Math.Dec.{ltb}
use Rattle.ground.specs.Pick.{pick, Reads, shows, refutes, reads_same, reads_or, reads_lt, reads_and, reads_le}
use Rattle.ground.specs.Lists.{part, pad, pad_length, pad_at, total, total_one, flatten_append}
use Rattle.ground.specs.Places.{Come, come_none, come_over, come_here, come_more}
use Rattle.layout.specs.Withdrawn.{layout_number, is_wrong, is_printed}
use Rattle.layout.proofs.WithdrawnLemmas.{reads_wrong}
use Rattle.layout.specs.Layout.{entity_of}
use Rattle.fields.specs.Listed.{wrong, written_as, listed_with, blank_item}
use Rattle.laying.specs.Paste.{pasted, pasted_length}
use Rattle.laying.specs.Laying.{most_long, fits_at, laid_size, laid_in, Lay}
use Rattle.writing.specs.declared.EntityList.{EntityList}
use Rattle.writing.specs.Writing.{most_run, list_of, descriptors_of, WrongIn, wrong_in, breach9, LaidRun}

pub reads_wrong_in : (d : List ℕ) → Reads (wrong_in d) (WrongIn d)
unfolding wrong_in
reads_wrong_in d = reads_or _ _ (reads_wrong d) (reads_lt most_long (length d))

empty_wrong : wrong_in [] ≡ true
unfolding wrong_in is_wrong layout_number entity_of is_printed
empty_wrong = refl

pub listed_count : (v : List ℕ) (l : EntityList) → length (descriptors_of (list_of v l)) ≡ l.count
listed_count v l = length-map (list_of v l) written_as ∙ length-map (pad blank_item l.count l.items) (listed_with v) ∙ pad_length blank_item l.count l.items

pub listed_at : (v : List ℕ) (l : EntityList) (i : ℕ) → i < l.count → get_or (descriptors_of (list_of v l)) i [] ≡ written_as (listed_with v (get_or l.items i blank_item))
listed_at v l i h =
    get_or-map written_as (list_of v l) i wrong
    ∙ ap written_as (get_or-map (listed_with v) (pad blank_item l.count l.items) i blank_item ∙ ap (listed_with v) (pad_at blank_item l.count l.items i h))

-- what was pasted stands at its place, behind what stood in front
module _ (at : ℕ) (d out : List ℕ) (h : at + length d ≤ length out) where
  pasted_front : take (at + length d) (pasted at d out) ≡ take at out ++ d
  unfolding pasted
  pasted_front =
      let n : length (take at out) ≡ at = length-take-le at out (omega arith) in
      let m = length-append (take at out) d in
      take_at (take at out ++ d) (drop (at + length d) out) (at + length d) (omega arith)

  pasted_part : take (at + length d - at) (drop at (pasted at d out)) ≡ d
  unfolding pasted
  pasted_part =
      let n : length (take at out) ≡ at = length-take-le at out (omega arith) in
      let k : at + length d - at ≡ length d = omega arith in
      rw (append_assoc (take at out) d (drop (at + length d) out), drop_at (take at out) (d ++ drop (at + length d) out) at n, k) (take_at d (drop (at + length d) out) (length d) refl)

pub record Laying (ds : List (List ℕ)) (out : List ℕ) (at i : ℕ) : Type 0 where
  pub come : Come (λ j. wrong_in (get_or ds j [])) (λ j. Some j) None (length ds) i
  pub place : at ≡ total (take i ds)
  pub small : at ≤ i * 255
  pub front : take at out ≡ flatten (take i ds)
  pub long : length out ≡ most_run

module _ (v : List ℕ) (l : EntityList) (few : l.count ≤ 32) where
  abbrev ds : List (List ℕ)
  ds = descriptors_of (list_of v l)

  pub laying_start : (out : List ℕ) → length out ≡ most_run → Laying ds out 0 0
  unfolding total flatten
  laying_start out h = record { come = come_none (λ j. wrong_in (get_or ds j [])) (λ j. Some j) None (length ds); place = refl; small = omega arith; front = refl; long = h }

  module _ (out : List ℕ) (at i : ℕ) (g : Laying ds out at i) where
    pub laying_over : l.count ≤ i → LaidRun ds out None at
    unfolding breach9
    laying_over h =
        let n = listed_count v l in
        let low = g.come.low in
        let small = g.small in
        let long = g.long in
        let all : take i ds ≡ ds = take_all i ds (omega arith) in
        record { first = come_over (λ j. wrong_in (get_or ds j [])) (λ j. Some j) None (length ds) i g.come (omega arith); bytes = λ e. let z : at - 0 ≡ at = omega arith in ap (λ (k : ℕ). take k out) z ∙ g.front ∙ ap flatten all; room = omega arith; long = long }

    module _ (h : i < l.count) where
      abbrev d : List ℕ
      d = written_as (listed_with v (get_or l.items i blank_item))

      here : get_or ds i [] ≡ d
      here = listed_at v l i h

      wrong_at : (after : List ℕ) → length after ≡ most_run → wrong_in d ≡ true → LaidRun ds after (Some i) 0
      unfolding breach9
      wrong_at after n w =
          let m = listed_count v l in
          record {
            first = come_here (λ j. wrong_in (get_or ds j [])) (λ j. Some j) None (length ds) i g.come (omega arith) (wrong_in d) (ap wrong_in (sym here)) w;
            bytes = λ e. let z : ◌≡◌ {A = ℕ} 0 1 = cc in absurd (omega arith);
            room = omega arith;
            long = n;
          }

      module _ (after : List ℕ) (size : ℕ) (t : Lay d at out after size) where
        -- a descriptor of at most 255 bytes has room
        reads_fits : Reads (fits_at d at (length out)) (length d ≤ 255)
        unfolding fits_at
        reads_fits =
            reads_same (reads_and _ _ (reads_le (length d) 255) (reads_le (at + length d) (length out))) (λ x. x.0)
            (λ x. let s = g.small in let n = g.long in (x, omega arith))

        empty : (x : List ℕ) → 0 ≡ length x → x ≡ []
        empty [] e = refl
        empty (a ∷ x) e = absurd (omega arith)

        after_long : length after ≡ most_run
        unfolding laid_in
        after_long = go (fits_at d at (length out)) reads_fits t.lent
          where
            go : (b : Bool) → Reads b (length d ≤ 255) → after ≡ pick b (pasted at d out) out → length after ≡ most_run
            go false r e = ap length e ∙ g.long
            go true r e =
                let s = g.small in
                let n = g.long in
                let k = r.says refl in
                ap length e ∙ pasted_length at d out (omega arith) ∙ n

        pub laid_long : length after ≡ length out
        laid_long = after_long ∙ sym g.long

        pub too_long : size ≡ 0 → LaidRun ds after (Some i) 0
        unfolding laid_size
        too_long z = wrong_at after after_long (go (fits_at d at (length out)) reads_fits (sym z ∙ t.size))
          where
            go : (b : Bool) → Reads b (length d ≤ 255) → 0 ≡ pick b (length d) 0 → wrong_in d ≡ true
            go true r e = ap wrong_in (empty d e) ∙ empty_wrong
            go false r e = shows (reads_wrong_in d) (inr (let k = r.denies refl in omega arith))

        module _ (z : size ≡ 0 → ⊥) where
          told : (size ≡ length d) × (length d ≤ 255) × (after ≡ pasted at d out)
          unfolding laid_size laid_in
          told = go (fits_at d at (length out)) reads_fits t.size t.lent
            where
              go : (b : Bool) → Reads b (length d ≤ 255) → size ≡ pick b (length d) 0 → after ≡ pick b (pasted at d out) out
                  → (size ≡ length d) × (length d ≤ 255) × (after ≡ pasted at d out)
              go true r e f = (e, r.says refl, f)
              go false r e f = absurd (z e)

          room : at + length d ≤ length out
          room = let s = g.small in let n = g.long in let k = told.1 in omega arith

          pub turn_room : at + size ≤ length after
          turn_room = let n = laid_long in let k = told.0 in let r = room in omega arith

          pub turn_fits : at + size ≤ most_run
          turn_fits = let n = after_long in let r = turn_room in omega arith

          same : part after at (at + size) ≡ d
          same = rw (told.0, told.2) (pasted_part at d out room)

          module _ (b : Bool) (w : b ≡ is_wrong (part after at (at + size))) where
            pub wrong_here : b ≡ true → LaidRun ds after (Some i) 0
            unfolding wrong_in
            wrong_here e = wrong_at after after_long (ap (λ (x : Bool). x || ltb most_long (length d)) (sym (ap is_wrong same) ∙ sym w ∙ e))

            pub laying_on : b ≡ false → Laying ds after (at + size) (i + 1)
            unfolding total flatten wrong_in
            laying_on e =
                let m = listed_count v l in
                let k : length d ≤ 255 = told.1 in
                let q : size ≡ length d = told.0 in
                let s = g.small in
                let p = g.place in
                let right : wrong_in d ≡ false = refutes (reads_or _ _ (reads_wrong d) (reads_lt most_long (length d))) (⊎_elim ((reads_wrong d).denies (sym (ap is_wrong same) ∙ sym w ∙ e)) (λ x. omega arith)) in
                let one : total (take (suc i) ds) ≡ total (take i ds) + length (get_or ds i []) = total_one ds i (omega arith) in
                let dl : length (get_or ds i []) ≡ length d = ap length here in
                let pl : at + size ≡ total (take (i + 1) ds) = rw (add-one i) (let z : at + size ≡ total (take (suc i) ds) = omega arith in z) in
                let fr : take (at + size) after ≡ flatten (take (i + 1) ds) =
                ap (λ (x : ℕ). take (at + x) after) q ∙ ap (take (at + length d)) told.2 ∙ pasted_front at d out room ∙ ap (λ (x : List ℕ). x ++ d) g.front
                ∙ sym (rw (add-one i) (ap flatten (take-suc ds i [] (omega arith)) ∙ flatten_append (take i ds) (get_or ds i [] ∷ []) ∙ ap (λ (x : List ℕ). flatten (take i ds) ++ (x ++ [])) here ∙ ap (λ (x : List ℕ). flatten (take i ds) ++ x) (append-nil d))) in
                record {
                  come = come_more (λ j. wrong_in (get_or ds j [])) (λ j. Some j) None (length ds) i g.come (omega arith) (wrong_in d) (ap wrong_in (sym here)) right;
                  place = pl;
                  small = omega arith;
                  front = fr;
                  long = after_long;
                }
