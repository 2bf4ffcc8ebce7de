-- Two cuttings that differ in the order of some descriptors of type 24 behind the header: what the rules 4 to 7 and 14 say of the one they say of the
-- other. All of these speak of interface descriptors, of what is a member, and of the run by its length.
--   Reordering     ==  a front, which ends in the AudioControl interface's descriptor and the one behind it, and two orders of the descriptors that
--                      follow it, all of type 24; reordering_back: the other way
--   front_of re, whole_of re x  ==  that front; the front, the descriptors in the one order, then x
--   whole_split    ==  where the AudioControl interface stands in it
--   Side, side     ==  an element of two lists in a row stands in the one or in the other
--   front_part     ==  a front of a list's longest front of P: the rest of that front
--   rule4_as, opening_as, rule5_as, rule6_as, rule7_as, rule14_as  ==  rule by rule, from the one order to the other
--   control_one    ==  the AudioControl interface of a cutting that keeps rule 4 is the front's
--   run_front, runs_permuted  ==  the run begins with these descriptors; so the two runs are permutations of each other
use Prim.Native.Nat.{ℕ, ◌+◌}
use mathlib.Core.Path.{◌≡◌, refl, sym, ap, ◌∙◌, subst}
use mathlib.Core.Logic.{⊎_elim}
use mathlib.Core.List.Memᴰ
use mathlib.Core.List.Permᴰ
use mathlib.Core.List.{List, [], ◌∷◌, ◌++◌, append_assoc, nil≢cons, head-eq_of_cons-eq, tail-eq_of_cons-eq}
use lib.ListN.{length}
use native.Mathlib.Omega.{arith}
use Rattle.ground.specs.Numbers.{byte, word}
use Rattle.ground.specs.Lists.{SomeOf, of_split, Stops, stop_end, stop_at, front_one, total, total_append}
use Rattle.ground.specs.First.{Sound}
use Rattle.graph.specs.Members.{◌∈◌, along}
use Rattle.search.specs.Want.{Interface, Class, Audio}
use Rattle.layout.specs.declared.Cluster.{Cluster}
use Rattle.interfaces.specs.Rule4.{WrongInterface, not_nine, repeats, second_control, other_setting, Rule4}
use Rattle.collection.specs.Rule7.{Rule7}
use Rattle.groups.specs.Rules5and6.{Header, Rule5, GroupEnds, last, next, Rule6}
use Rattle.cutting.specs.Rules1to9.{Opening}
use Rattle.streaming.specs.Rule14.{Described, StreamKept, no_endpoints, endpoints, Group, Rule14}
use Rattle.order.specs.Permuted.{Permuted, AgreeOn}
use Rattle.order.proofs.Permutations.{permuted_back, permuted_in, permuted_total}
use Rattle.order.proofs.Rules.{blind_rules}

module _ {A : Type 0} where
  pub data Side (p q x : List A) (d : A) (y : List A) : Type 0 where
    left : (z : List A) → p ≡ x ++ d ∷ z → y ≡ z ++ q → Side p q x d y
    right : (z : List A) → x ≡ p ++ z → q ≡ z ++ d ∷ y → Side p q x d y

  pub side : (p q x : List A) (d : A) (y : List A) → p ++ q ≡ x ++ d ∷ y → Side p q x d y
  side [] q x d y e = right x refl e
  side (a ∷ p) q [] d y e = left p (ap (λ (b : A). b ∷ p) (head-eq_of_cons-eq e)) (sym (tail-eq_of_cons-eq e))
  side (a ∷ p) q (b ∷ x) d y e = go (side p q x d y (tail-eq_of_cons-eq e))
    where
      same : a ≡ b
      same = head-eq_of_cons-eq e

      go : Side p q x d y → Side (a ∷ p) q (b ∷ x) d y
      go (left z f g) = left z (ap (λ (c : A). c ∷ p) same ∙ ap (λ (l : List A). b ∷ l) f) g
      go (right z f g) = right z (ap (λ (c : A). c ∷ x) (sym same) ∙ ap (λ (l : List A). a ∷ l) f) g

  -- a front of P, in a list whose longest front of P is x
  pub front_part : (P : A → Type 0) (x y z w : List A) → x ++ y ≡ z ++ w → ((a : A) → a ∈ z → P a) → Stops P y → (r : List A) × (x ≡ z ++ r) × (w ≡ r ++ y)
  front_part P x y [] w e h k = (x, refl, sym e)
  front_part P [] y (a ∷ z) w e h k = absurd (go k e)
    where
      go : {l : List A} → Stops P l → l ≡ a ∷ (z ++ w) → ⊥
      go stop_end q = nil≢cons q
      go (stop_at n) q = n (rw (head-eq_of_cons-eq q) (h a (Memᴰ.head refl)))
  front_part P (b ∷ x) y (a ∷ z) w e h k =
      let r = front_part P x y z w (tail-eq_of_cons-eq e) (λ c i. h c (Memᴰ.tail i)) k in
      (r.0, ap (λ (c : A). c ∷ x) (head-eq_of_cons-eq e) ∙ ap (λ (l : List A). a ∷ l) r.1, r.2)

-- what is of one type is of no other
no_both : (d : List ℕ) → Interface d → Class d → ⊥
no_both d i c = omega arith

interface_of : {x : List (List ℕ)} {d : List ℕ} → WrongInterface x d → Interface d
interface_of (not_nine i n) = i
interface_of (repeats i k) = i
interface_of (second_control a k) = a.0
interface_of (other_setting a n) = a.0

some_in : {P : List ℕ → Type 0} {x y : List (List ℕ)} → ((d : List ℕ) → d ∈ x → d ∈ y) → SomeOf P x → SomeOf P y
some_in h k = record { one = k.one; among = h k.one k.among; has = k.has }

wrong_in : {x y : List (List ℕ)} {d : List ℕ} → ((b : List ℕ) → b ∈ x → b ∈ y) → WrongInterface x d → WrongInterface y d
wrong_in h (not_nine i n) = not_nine i n
wrong_in h (repeats i k) = repeats i (some_in h k)
wrong_in h (second_control a k) = second_control a (some_in h k)
wrong_in h (other_setting a n) = other_setting a n

ends_stops : {after : List (List ℕ)} → GroupEnds after → Stops Class after
ends_stops last = stop_end
ends_stops (next {i = d} i) = stop_at (no_both d i)

group_stops : (later after : List (List ℕ)) → ((d : List ℕ) → d ∈ later → Class d → ⊥) → GroupEnds after → Stops Class (later ++ after)
group_stops [] after n e = ends_stops e
group_stops (d ∷ later) after n e = stop_at (n d (Memᴰ.head refl))

-- two orders of descriptors of type 24, behind a front that ends in an AudioControl interface's and one more
pub record Reordering : Type 0 where
  pub before : List (List ℕ)
  pub control : List ℕ
  pub header : List ℕ
  pub one : List (List ℕ)
  pub other : List (List ℕ)
  pub is_control : Audio 1 control
  pub class : (d : List ℕ) → d ∈ one → Class d
  pub permuted : Permuted one other

abbrev pub reordering_back : Reordering → Reordering
reordering_back re = record {
  before = re.before;
  control = re.control;
  header = re.header;
  one = re.other;
  other = re.one;
  is_control = re.is_control;
  class = λ d m. re.class d (permuted_in (permuted_back re.permuted) m);
  permuted = permuted_back re.permuted;
}

abbrev pub front_of : Reordering → List (List ℕ)
front_of re = re.before ++ (re.control ∷ re.header ∷ [])

abbrev pub whole_of : Reordering → List (List ℕ) → List (List ℕ)
whole_of re x = front_of re ++ (re.one ++ x)

module _ (re : Reordering) (x : List (List ℕ)) where
  abbrev before : List (List ℕ)
  before = re.before

  abbrev control : List ℕ
  control = re.control

  abbrev header : List ℕ
  header = re.header

  abbrev ds : List (List ℕ)
  ds = re.one

  abbrev es : List (List ℕ)
  es = re.other

  abbrev front : List (List ℕ)
  front = front_of re

  abbrev whole : List (List ℕ)
  whole = whole_of re x

  abbrev moved : List (List ℕ)
  moved = whole_of (reordering_back re) x

  pub whole_split : whole ≡ before ++ control ∷ (header ∷ (ds ++ x))
  whole_split = append_assoc before (control ∷ header ∷ []) (ds ++ x)

  moved_split : moved ≡ before ++ control ∷ (header ∷ (es ++ x))
  moved_split = append_assoc before (control ∷ header ∷ []) (es ++ x)

  pub control_one : (cs b : List (List ℕ)) (c : List ℕ) (tail : List (List ℕ)) → cs ≡ whole → Rule4 cs → cs ≡ b ++ c ∷ tail → Audio 1 c
      → (b ≡ before) × (c ≡ control) × (tail ≡ header ∷ (ds ++ x))
  unfolding Sound
  control_one cs b c tail e r f a =
      let g : cs ≡ before ++ control ∷ (header ∷ (ds ++ x)) = e ∙ whole_split in
      let one = front_one (λ d. Audio 1 d → ⊥) b (c ∷ tail) before (control ∷ (header ∷ (ds ++ x))) (sym f ∙ g)
      (λ d m h. r.right b c tail f (second_control a (record { one = d; among = m; has = h })))
      (λ d m h. r.right before control (header ∷ (ds ++ x)) g (second_control re.is_control (record { one = d; among = m; has = h })))
      (stop_at (λ n. n a)) (stop_at (λ n. n re.is_control)) in
      (one.0, head-eq_of_cons-eq one.1, tail-eq_of_cons-eq one.1)

  -- what stands behind the moved ones stands behind the front and these
  whole_at : (w : List (List ℕ)) (d : List ℕ) (y : List (List ℕ)) → x ≡ w ++ d ∷ y → whole ≡ whole_of re w ++ d ∷ y
  whole_at w d y e =
      ap (λ (l : List (List ℕ)). front ++ (ds ++ l)) e
      ∙ sym (ap (λ (l : List (List ℕ)). front ++ l) (append_assoc ds w (d ∷ y)))
      ∙ sym (append_assoc front (ds ++ w) (d ∷ y))

  class_too : (d : List ℕ) → d ∈ es → Class d
  class_too = (reordering_back re).class

  whole_in : (w : List (List ℕ)) (d : List ℕ) → d ∈ whole_of (reordering_back re) w → d ∈ whole_of re w
  whole_in w d m = permuted_in (Permᴰ.append_left front (Permᴰ.append_right w (permuted_back re.permuted))) m

  -- an interface descriptor is none of the moved ones: it stands ahead of them or beyond
  data Stands (b : List (List ℕ)) (d : List ℕ) (y : List (List ℕ)) : Type 0 where
    ahead : (z : List (List ℕ)) → front ≡ b ++ d ∷ z → y ≡ z ++ (es ++ x) → Stands b d y
    beyond : (w : List (List ℕ)) → b ≡ whole_of (reordering_back re) w → x ≡ w ++ d ∷ y → Stands b d y

  stands : (b : List (List ℕ)) (d : List ℕ) (y : List (List ℕ)) → moved ≡ b ++ d ∷ y → Interface d → Stands b d y
  stands b d y e i = go (side front (es ++ x) b d y e)
    where
      inner : (z : List (List ℕ)) → b ≡ front ++ z → Side es x z d y → Stands b d y
      inner z f (left w g h) = absurd (no_both d i (class_too d (along (sym g) (of_split z d w))))
      inner z f (right w g h) = beyond w (f ∙ ap (λ (l : List (List ℕ)). front ++ l) g) h

      go : Side front (es ++ x) b d y → Stands b d y
      go (left z f g) = ahead z f g
      go (right z f g) = inner z f (side es x z d y g)

  pub rule4_as : Rule4 whole → Rule4 moved
  unfolding Sound
  rule4_as r = record {
    right = λ b d y e w. right_too b d y (stands b d y e (interface_of w)) w;
    control = record { one = control; among = along (sym moved_split) (of_split before control (header ∷ (es ++ x))); has = re.is_control };
  }
    where
      right_too : (b : List (List ℕ)) (d : List ℕ) (y : List (List ℕ)) → Stands b d y → WrongInterface b d → ⊥
      right_too b d y (ahead z f g) w = r.right b d (z ++ (ds ++ x)) (ap (λ (l : List (List ℕ)). l ++ (ds ++ x)) f ∙ append_assoc b (d ∷ z) (ds ++ x)) w
      right_too b d y (beyond v f g) w = r.right (whole_of re v) d y (whole_at v d y g) (wrong_in (λ c m. whole_in v c (along f m)) w)

  pub opening_as : Opening whole → Opening moved
  opening_as o = record { rule4 = rule4_as o.rule4; before = before; control = control; tail = header ∷ (es ++ x); split = moved_split; is_control = re.is_control }

  pub rule5_as : (t u : List (List ℕ)) → t ≡ header ∷ (ds ++ x) → u ≡ header ∷ (es ++ x) → Rule5 t → Rule5 u
  rule5_as t u e f r = record { header = header; others = es ++ x; stands = f; right = subst Header (sym (head-eq_of_cons-eq (sym e ∙ r.stands))) r.right }

  -- the run begins with these
  pub run_front : (h : List ℕ) (others : List (List ℕ)) → others ≡ ds ++ x → (r : Rule6 h others)
      → (rest : List (List ℕ)) × (r.run ≡ ds ++ rest) × (x ≡ rest ++ (r.later ++ r.after))
  run_front h others e r = front_part Class r.run (r.later ++ r.after) ds x (sym r.split ∙ e) re.class (group_stops r.later r.after r.no_class r.ends)

  pub rule6_as : (h k : List ℕ) (others tail : List (List ℕ)) → h ≡ k → others ≡ ds ++ x → tail ≡ es ++ x → Rule6 h others → Rule6 k tail
  rule6_as h k others tail q e f r =
      let a = run_front h others e r in
      record {
        run = es ++ a.0;
        later = r.later;
        after = r.after;
        split = f ∙ ap (λ (l : List (List ℕ)). es ++ l) a.2 ∙ sym (append_assoc es a.0 (r.later ++ r.after));
        class = λ d m. ⊎_elim (class_too d) (λ i. r.class d (along (sym a.1) (Memᴰ.append_right ds i))) (Memᴰ.append_cases es m);
        no_class = r.no_class;
        in_group = r.in_group;
        ends = r.ends;
        length_told =
            let t = permuted_total re.permuted in
            let m = total_append ds a.0 in
            let n = total_append es a.0 in
            let o = ap total a.1 in
            let w = r.length_told in
            subst (λ (z : List ℕ). word z 5 ≡ length z + total (es ++ a.0)) q (omega arith);
      }

  pub rule7_as : (l : List ℕ) → Rule7 whole l → Rule7 moved l
  rule7_as l r = record {
    distinct = r.distinct;
    known = λ k m. some_in (λ d i. permuted_in (Permᴰ.append_left (front) (Permᴰ.append_right x re.permuted)) i) (r.known k m);
    all_listed = λ d m. r.all_listed d (whole_in x d m);
  }

  -- a streaming group stands in both, with the same descriptors in it
  module _ (b : List (List ℕ)) (i : List ℕ) (ms : List (List ℕ)) (g : Group moved b i ms) (a : Audio 2 i) where
    abbrev Found : Type 0
    Found = (ahead : List (List ℕ)) × Group whole ahead i ms

    abbrev behind : List (List ℕ)
    behind = control ∷ (header ∷ (ds ++ x))

    not_control : control ≡ i → ⊥
    not_control e = let m = re.is_control.1.1 in let n = a.1.1 in let o : byte control 6 ≡ byte i 6 = ap (λ (d : List ℕ). byte d 6) e in omega arith

    ends_as : (v : List (List ℕ)) → GroupEnds (v ++ control ∷ (header ∷ (es ++ x))) → GroupEnds (v ++ behind)
    ends_as [] e = next re.is_control.0
    ends_as (d ∷ v) (next h) = next h

    -- before the AudioControl group
    in_front : (w : List (List ℕ)) → before ≡ b ++ i ∷ w → Side ms g.after w control (header ∷ (es ++ x)) → Found
    in_front w f (left v h k) = absurd (g.inside control (along (sym h) (of_split w control v)) re.is_control.0)
    in_front w f (right v h k) = (
      b,
      record {
        after = v ++ behind;
        split =
            whole_split
            ∙ ap (λ (l : List (List ℕ)). l ++ behind) f
            ∙ append_assoc b (i ∷ w) behind
            ∙ ap (λ (l : List (List ℕ)). b ++ i ∷ (l ++ behind)) h
            ∙ ap (λ (l : List (List ℕ)). b ++ i ∷ l) (append_assoc ms v behind);
        inside = g.inside;
        ends = ends_as v (subst GroupEnds k g.ends);
      },
    )

    not_last : Class header → (z w : List (List ℕ)) → control ∷ header ∷ [] ≡ w ++ i ∷ z → ⊥
    not_last c z [] e = not_control (head-eq_of_cons-eq e)
    not_last c z (y ∷ []) e = no_both i a.0 (subst Class (head-eq_of_cons-eq (tail-eq_of_cons-eq e)) c)
    not_last c z (y ∷ u ∷ []) e = nil≢cons (tail-eq_of_cons-eq (tail-eq_of_cons-eq e))
    not_last c z (y ∷ u ∷ v ∷ w) e = nil≢cons (tail-eq_of_cons-eq (tail-eq_of_cons-eq e))

    group_as : Class header → Found
    group_as c = go (stands b i (ms ++ g.after) g.split a.0)
      where
        first : (z : List (List ℕ)) → ms ++ g.after ≡ z ++ (es ++ x) → Side before (control ∷ header ∷ []) b i z → Found
        first z h (left w f k) =
            in_front w f (side ms g.after w control (header ∷ (es ++ x)) (h ∙ ap (λ (l : List (List ℕ)). l ++ (es ++ x)) k ∙ append_assoc w (control ∷ header ∷ []) (es ++ x)))
        first z h (right w f k) = absurd (not_last c z w k)

        go : Stands b i (ms ++ g.after) → Found
        go (ahead z f h) = first z h (side before (control ∷ header ∷ []) b i z f)
        go (beyond w f k) = (whole_of re w, record { after = g.after; split = whole_at w i (ms ++ g.after) k; inside = g.inside; ends = g.ends })

  pub rule14_as : Class header → (run other : List (List ℕ)) → Permuted run other → (c e : ℕ → Cluster) → AgreeOn run c e
      → Rule14 run c whole → Rule14 other e moved
  rule14_as h run other q c e agree r b i ms g a = let k = group_as b i ms g a h in stream_as (r k.0 i ms k.1 a)
    where
      described_as : {g f : List ℕ} → Described run c g f → Described other e g f
      described_as d = record {
        general = d.general;
        terminal = d.terminal;
        among = blind_rules.terminals d.terminal run other q c e agree d.among;
        borne = d.borne;
        streaming = d.streaming;
        format = d.format;
        type_one = d.type_one;
      }

      stream_as : {ms : List (List ℕ)} → StreamKept run c i ms → StreamKept other e i ms
      stream_as (no_endpoints z n) = no_endpoints z n
      stream_as (endpoints z d) = endpoints z (described_as d)

pub runs_permuted : (re : Reordering) (x : List (List ℕ)) (h k : List ℕ) (others tail : List (List ℕ)) → others ≡ re.one ++ x → tail ≡ re.other ++ x
    → (r : Rule6 h others) (q : Rule6 k tail) → Permuted r.run q.run
runs_permuted re x h k others tail e f r q =
    let a = run_front re x h others e r in
    let b = run_front (reordering_back re) x k tail f q in
    let same = front_one Class a.0 (r.later ++ r.after) b.0 (q.later ++ q.after) (sym a.2 ∙ b.2)
    (λ d m. r.class d (along (sym a.1) (Memᴰ.append_right re.one m)))
    (λ d m. q.class d (along (sym b.1) (Memᴰ.append_right re.other m)))
    (group_stops r.later r.after r.no_class r.ends) (group_stops q.later q.after q.no_class q.ends) in
    subst (λ (l : List (List ℕ)). Permuted l q.run) (sym a.1)
    (subst (λ (l : List (List ℕ)). Permuted (re.one ++ a.0) l) (ap (λ (l : List (List ℕ)). re.other ++ l) same.0 ∙ sym b.1) (Permᴰ.append_right a.0 re.permuted))
