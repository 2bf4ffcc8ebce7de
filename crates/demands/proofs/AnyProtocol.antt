-- Document 02, No. 12, of what stays with 1.0, proved: the protocol byte of the AudioControl interface is not read. With another byte there the cutting has
-- another AudioControl interface descriptor and else the same descriptors (`Twins`), so the group behind it, its run and all places are the same; the rules
-- 4, 7 and 14, which alone look at interface descriptors, are kept and broken alike. So the first row that is broken is the same, at the same place, and
-- what is accepted is the same configuration but for that descriptor.
--   any_protocol    ==  the proof of the statement
--   other_protocol  ==  .. and of its case, in Cases
use Prim.Native.Nat.{ℕ, ◌+◌, ◌<◌}
use mathlib.Core.Path.{◌≡◌, refl, sym, ap, ◌∙◌, subst}
use mathlib.Core.Logic.{◌⊎◌, inl, inr, ⊎_elim}
use mathlib.Core.List.{List, [], ◌∷◌, ◌++◌, flatten, append_assoc}
use lib.ListN.{length, set, length-set}
use lib.Seq.{set-append_left, get_or-set_other}
use lib.Dec.{eqb}
use native.Mathlib.Omega.{arith}
use native.Mathlib.Nat.{zero-add, suc-add}
use Rattle.std.specs.Prelude.{Some, None}
use Rattle.ground.specs.declared.Refusal.{Refusal}
use Rattle.ground.specs.Pick.{decided, reads_eq}
use Rattle.ground.specs.Numbers.{byte}
use Rattle.ground.specs.Lists.{split_of, of_split, flatten_append, length_flatten}
use Rattle.ground.specs.Refuse.{place_or}
use Rattle.ground.specs.First.{Sound, first_from}
use Rattle.ground.specs.Rows.{FirstBroken}
use Rattle.graph.specs.Members.{◌∈◌}
use Rattle.scan.specs.Search.{searched}
use Rattle.scan.specs.Cutting.{end_by, rest_from_by, rest_by, Cutting, Rule3, Misfit}
use Rattle.scan.specs.CuttingLaws.{cutting_one}
use Rattle.scan.proofs.CuttingLemmas.{cutting_exists, cutting_misfit}
use Rattle.search.specs.Want.{Audio, is_interface, is_audio, wants, found_from}
use Rattle.opening.specs.Rules1and2.{Rule1, Rule2}
use Rattle.interfaces.specs.Rule4.{second_control, Rule4, Broken4, wrong, missing}
use Rattle.groups.specs.Reading.{frame_from, frame_of}
use Rattle.cutting.specs.Rules1to9.{Opening, Opened, opened, Kept, group_rows}
use Rattle.cutting.specs.Context.{frame_told, control_nine}
use Rattle.controls.specs.Growth.{table_of}
use Rattle.records.specs.Sheet.{whole_sheet, Rule16}
use Rattle.topology.specs.Reading.{verdict_of, refused_reading, reading_of, sheet_of}
use Rattle.reader.specs.Configuration.{run_of, place_of_run, Configuration}
use Rattle.reader.specs.Refusals.{kept_rows, Refused}
use Rattle.reader.proofs.Exactly.{refused_exactly}
use Rattle.reader.proofs.Shows.{number_told, answer_shows, sheet_shows, run, controls}
use Rattle.demands.specs.Cases.{case_a, lent, OtherProtocol}
use Rattle.demands.specs.AnyProtocol.{protocol_place, AnyProtocol}
use Rattle.demands.proofs.Demand1.{refusing, refused_answer, demand_1}
use Rattle.demands.proofs.TurnedAway.{case_a_lem}
use Rattle.demands.proofs.Twins.{Like, control, like_back, like_byte, like_long, Twins, more, twins_self, twins_append, twins_back, twins_total, twins_in, twins_same, twins_at, audio_to, rule4_to, rule7_to, rule14_to, breaks14_to}

-- one row, from the one table to the other
on : {A B K L : Type 0} {F : K → Type 0} {G : L → Type 0} → (A → B) → (f : K → L) → ((k : K) → F k → G (f k)) → A ⊎ ((k : K) × F k) → B ⊎ ((k : L) × G k)
on g f h (inl x) = inl (g x)
on g f h (inr (k, x)) = inr (f k, h k x)

-- the bytes s' are cut into es, and begin with the same four bytes as s
module _ (s s' : List ℕ) (es : List (List ℕ)) (whole : flatten es ≡ s') (begin : (i : ℕ) → i < 4 → byte s i ≡ byte s' i) where
  -- the AudioControl interface is the one that differs
  record Reopened (o : Opened s) : Type 0 where
    control' : List ℕ
    like : Like o.control control'
    split : es ≡ o.before ++ control' ∷ o.tail

  module _ (o : Opened s) (t : Twins o.descriptors es) where
    none_before : (d : List ℕ) → d ∈ o.before → Audio 1 d → ⊥
    unfolding Sound
    none_before d m a = o.rule4.right o.before o.control o.tail o.split (second_control o.is_control (record { one = d; among = m; has = a }))

    none_behind : (d : List ℕ) → d ∈ o.tail → Audio 1 d → ⊥
    unfolding Sound
    none_behind d m a =
        let c = split_of m in
        o.rule4.right (o.before ++ o.control ∷ c.0) d c.1
        (o.split ∙ ap (λ (x : List (List ℕ)). o.before ++ o.control ∷ x) c.2 ∙ sym (append_assoc o.before (o.control ∷ c.0) (d ∷ c.1)))
        (second_control a (record { one = o.control; among = of_split o.before o.control c.0; has = o.is_control }))

    reopened : Reopened o
    reopened =
        let h = twins_at o.before (subst (Twins es) o.split (twins_back t)) in
        record {
          control' = h.one;
          like = like_back h.like;
          split =
              h.split
              ∙ ap (λ (x : List (List ℕ)). x ++ h.one ∷ h.after) (twins_same h.front none_before)
              ∙ ap (λ (x : List (List ℕ)). o.before ++ h.one ∷ x) (twins_same h.rest none_behind);
        }

    length_same : length s ≡ length s'
    length_same =
        sym (ap length o.rule3.whole) ∙ length_flatten o.descriptors ∙ twins_total t ∙ sym (length_flatten es) ∙ ap length whole

    rule1_to : Rule1 s'
    rule1_to = let e = length_same in let r = o.rule1 in let a = r.0 in let b = r.1 in (omega arith, omega arith)

    rule2_to : Rule2 s'
    rule2_to =
        let e = length_same in
        let a = begin 0 (omega arith) in
        let b = begin 1 (omega arith) in
        let c = begin 2 (omega arith) in
        let d = begin 3 (omega arith) in
        let x = o.rule2.0 in
        let y = o.rule2.1.0 in
        let z = o.rule2.1.1 in
        (omega arith, (omega arith, omega arith))

    cutting_to : Cutting s' es
    cutting_to = record {
      whole = whole;
      each = λ d m.
          let h = twins_in t m in
          let p = o.rule3.each h.0 h.1 in
          let a = p.long in
          let b = like_long h.2 in
          record { long = omega arith; own = sym (like_byte h.2 0 (omega arith)) ∙ p.own ∙ b };
    }

    abbrev opening_to : Opening es
    opening_to = record {
      rule4 = rule4_to t o.rule4;
      before = o.before;
      control = reopened.control';
      tail = o.tail;
      split = reopened.split;
      is_control = audio_to 1 (like_back reopened.like) o.is_control;
    }

    abbrev opened_to : Opened s'
    opened_to = opened rule1_to rule2_to (es, cutting_to) opening_to

    -- the rows from 5 on, with the same places
    group_broken : (room n p : ℕ) → FirstBroken (group_rows o (λ k. kept_rows k room)) n p → FirstBroken (group_rows opened_to (λ k. kept_rows k room)) n p
    group_broken room n p =
        on (λ x. x) (λ h. h) (λ h.
        on (λ x. x) (λ r. r) (λ r.
        on (λ x. (x.0, (x.1.0, λ k. x.1.1 (rule7_to (twins_back t) k)))) (rule7_to t) (λ c.
        on (λ x. x) (λ m. m) (λ m.
        on (λ x. x) (λ l. l) (λ l.
        on (λ x. x) (λ w. w) (λ w.
        on (λ x. x) (λ a. a) (λ a.
        on (λ x. x) (λ b. b) (λ b.
        on (λ x. x) (λ e. e) (λ e.
        on (λ x. x) (λ f. f) (λ f.
        on (λ x. (x.0, breaks14_to t x.1)) (rule14_to t) (λ g.
        on (λ x. x) (λ i. i) (λ i.
        on (λ x. x) (λ j. j) (λ j x. x)))))))))))))

  module _ (o : Opened s) (t : Twins o.descriptors es) where
    -- there is one cutting
    twins_of : (c : Rule3 s) → Twins c.0 es
    twins_of c = subst (λ (ds : List (List ℕ)). Twins ds es) (cutting_one s o.descriptors c.0 o.rule3 c.1) t

    no_misfit : (p : ℕ) → Misfit s p → ⊥
    no_misfit p m =
        let q : Some p ≡ None = sym ((cutting_misfit s p).1 m) ∙ (cutting_exists s).1 (o.descriptors, o.rule3) in
        let z : ◌≡◌ {A = ℕ} 0 1 = cc in
        omega arith

    no_broken : (ds : List (List ℕ)) (p : ℕ) → Rule4 ds → Broken4 s ds p → ⊥
    unfolding Sound
    no_broken ds p r (wrong b) = r.right b.before b.offender b.after b.split b.wrong
    no_broken ds p r (missing a n e) = n r.control

    right_of : (c : Rule3 s) → Rule4 c.0
    right_of c = subst Rule4 (cutting_one s o.descriptors c.0 o.rule3 c.1) o.rule4

    refused_to : (room n p : ℕ) → Refused s room n p → Refused s' room n p
    refused_to room n p =
        on (λ x. absurd (x.1.1 o.rule1)) (λ a. rule1_to o t) (λ a.
        on (λ x. absurd (x.1.1 o.rule2)) (λ b. rule2_to o t) (λ b.
        on (λ x. absurd (no_misfit p x.1)) (λ c. (es, cutting_to o t)) (λ c.
        on (λ x. absurd (no_broken c.0 p (right_of c) x.1)) (λ q. opening_to (opened a b c q) (twins_of c)) (λ q.
        group_broken (opened a b c q) (twins_of c) room n p))))

  abbrev kept_to : (k : Kept s) → Twins k.opened.descriptors es → Kept s'
  kept_to k t = record {
    opened = opened_to k.opened t;
    rule5 = k.rule5;
    rule6 = k.rule6;
    rule7 = rule7_to t k.rule7;
    rule8 = k.rule8;
    rule9 = k.rule9;
  }

  abbrev configured : (c : Configuration s) → Twins c.kept.opened.descriptors es → Configuration s'
  configured c t = record { kept = kept_to c.kept t; connected = c.connected; rule14 = rule14_to t c.rule14; rule15 = c.rule15 }

  module _ (o : Opened s) (t : Twins o.descriptors es) where
    -- the bytes are accepted: as the same configuration but for the AudioControl interface's descriptor
    module _ (c : Configuration s) where
      abbrev other : Twins c.kept.opened.descriptors es
      other = twins_of o t (c.kept.opened.descriptors, c.kept.opened.rule3)

      answer_taken : (room : ℕ) → Rule16 (run_of c.kept) room → reading_of s' room ≡ reading_of s room
      answer_taken room r =
          answer_shows s' (configured c other) room r
          ∙ ap
          (λ (n : ℕ). record { number = 0; place = 0; control = n; entities = length (run s c); controls = length (controls s c); table = table_of (controls s c) })
          (sym (like_byte (reopened c.kept.opened other).like 2 (omega arith)))
          ∙ sym (answer_shows s c room r)

      sheet_taken : (d : List ℕ) → Rule16 (run_of c.kept) (length d) → sheet_of s' d ≡ sheet_of s d
      sheet_taken d r = sheet_shows s' (configured c other) d r ∙ sym (sheet_shows s c d r)

    -- the bytes are refused: by the same row, at the same place
    module _ (room : ℕ) (n : (reading_of s room).number ≡ 0 → ⊥) where
      same_verdict : verdict_of s' room ≡ verdict_of s room
      same_verdict =
          let v = verdict_of s room in
          (refused_exactly s' room v.number v.place (refusing s room n)).1
          (refused_to o t room v.number v.place ((refused_exactly s room v.number v.place (refusing s room n)).0 refl))

      refused_too : (reading_of s' room).number ≡ 0 → ⊥
      refused_too e = refusing s room n (sym (ap (λ (r : Refusal). r.number) same_verdict) ∙ sym (number_told s' room) ∙ e)

      answer_refused : reading_of s' room ≡ reading_of s room
      answer_refused = refused_answer s' room refused_too ∙ ap refused_reading same_verdict ∙ sym (refused_answer s room n)

    either : {P : Type 0} (room : ℕ) → ((c : Configuration s) → Rule16 (run_of c.kept) room → P) → (((reading_of s room).number ≡ 0 → ⊥) → P) → P
    either room f g =
        ⊎_elim
        (λ e. let c = (demand_1.reader_accepts s room).0 e in f c.0 c.1)
        g
        (decided (eqb (reading_of s room).number 0) (reads_eq (reading_of s room).number 0))

    same_answer : (room : ℕ) → reading_of s' room ≡ reading_of s room
    same_answer room = either room (λ c r. answer_taken c room r) (answer_refused room)

    same_sheet : (d : List ℕ) → sheet_of s' d ≡ sheet_of s d
    same_sheet d =
        either (length d) (λ c r. sheet_taken c d r)
        (λ n. (demand_1.reader_refuses s' d (refused_too (length d) n)).sheet ∙ sym (demand_1.reader_refuses s d n).sheet)

set_behind : (a b : List ℕ) (i x : ℕ) → set (a ++ b) (length a + i) x ≡ a ++ set b i x
set_behind [] b i x = ap (λ (k : ℕ). set b k x) (zero-add i)
set_behind (y ∷ a) b i x = ap (λ (k : ℕ). set (y ∷ (a ++ b)) k x) (suc-add (length a) i) ∙ ap (λ (l : List ℕ). y ∷ l) (set_behind a b i x)

-- another byte at offset 7 of the AudioControl interface
module _ (s : List ℕ) (o : Opened s) (x : ℕ) where
  abbrev changed : List ℕ
  changed = set o.control 7 x

  abbrev descriptors : List (List ℕ)
  descriptors = o.before ++ changed ∷ o.tail

  kept_byte : (i : ℕ) → i < 7 → byte o.control i ≡ byte changed i
  kept_byte i n = sym (get_or-set_other o.control 7 i x 0 (λ e. omega arith))

  twins : Twins o.descriptors descriptors
  twins =
      let a = o.is_control in
      let b : Audio 1 changed = (sym (kept_byte 1 (omega arith)) ∙ a.0, (sym (kept_byte 5 (omega arith)) ∙ a.1.0, sym (kept_byte 6 (omega arith)) ∙ a.1.1)) in
      subst (λ (ds : List (List ℕ)). Twins ds descriptors) (sym o.split)
      (twins_append (twins_self o.before) (more (control a b (sym (length-set o.control 7 x)) kept_byte) (twins_self o.tail)))

  whole : flatten descriptors ≡ set s (protocol_place o) x
  unfolding flatten
  whole =
      let n = control_nine s o in
      flatten_append o.before (changed ∷ o.tail)
      ∙ ap (λ (l : List ℕ). flatten o.before ++ l) (sym (set-append_left o.control (flatten o.tail) 7 x (omega arith)))
      ∙ sym (set_behind (flatten o.before) (o.control ++ flatten o.tail) 7 x)
      ∙ ap (λ (k : ℕ). set (flatten o.before ++ (o.control ++ flatten o.tail)) (k + 7) x) (length_flatten o.before)
      ∙ ap (λ (l : List ℕ). set l (protocol_place o) x) (sym (flatten_append o.before (o.control ∷ o.tail)) ∙ ap flatten (sym o.split) ∙ o.rule3.whole)

  begin : (i : ℕ) → i < 4 → byte s i ≡ byte (set s (protocol_place o) x) i
  begin i n = sym (get_or-set_other s (protocol_place o) i x 0 (λ e. omega arith))

-- what is accepted with another byte there: the same run at the same place
pub record Alike (s s' : List ℕ) (c : Configuration s) : Type 0 where
  pub other : Configuration s'
  pub run : run_of other.kept ≡ run_of c.kept
  pub place : place_of_run other.kept ≡ place_of_run c.kept

pub alike : (s : List ℕ) (o : Opened s) (x : ℕ) (c : Configuration s) → Alike s (set s (protocol_place o) x) c
alike s o x c =
    let p = c.kept.opened in
    let t = twins_of s _ _ (whole s o x) (begin s o x) o (twins s o x) (p.descriptors, p.rule3) in
    record { other = configured s _ _ (whole s o x) (begin s o x) c t; run = refl; place = refl }

pub any_protocol : AnyProtocol
any_protocol = record {
  answer = λ s o x room. same_answer s _ _ (whole s o x) (begin s o x) o (twins s o x) room;
  sheet = λ s o x d. same_sheet s _ _ (whole s o x) (begin s o x) o (twins s o x) d;
}

-- case A, whose AudioControl interface stands at place 9
control_at_9 : (frame_of case_a).control ≡ 9
unfolding case_a frame_of frame_from place_or found_from searched wants is_audio is_interface first_from rest_by rest_from_by end_by
control_at_9 = refl

pub other_protocol : OtherProtocol
other_protocol =
    let o = case_a_lem.kept.opened in
    let p : protocol_place o ≡ 16 = ap (λ (n : ℕ). n + 7) (sym (frame_told case_a o).control_at ∙ control_at_9) in
    record {
      answer = ap (λ (n : ℕ). reading_of (set case_a n 0x30) whole_sheet) (sym p) ∙ any_protocol.answer case_a o 0x30 whole_sheet;
      sheet = ap (λ (n : ℕ). sheet_of (set case_a n 0x30) lent) (sym p) ∙ any_protocol.sheet case_a o 0x30 lent;
    }
