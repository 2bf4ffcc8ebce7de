-- Rule 6 and the test of it, both ways: the run is the longest stretch of type 24 descriptors behind the header, and the group's
-- other descriptors behind it have no type 24 among them.
--   type_of      ==  the byte behind a descriptor's place is its type
--   reads_rule6  ==  for every form of headers: the test of rule 6 decides it
--   rule6_run    ==  the run that the rule speaks of is what stands from where it begins up to the run's end
use Rattle.std.specs.Prelude.{ℕ, ◌+◌, ◌-◌, ◌≤◌, ◌≡◌, true, false, not, ◌&&◌, ◌⊎◌, length, take, drop, eqb, Option, Some, None}
use Rattle.std.proofs.Math.Path.{refl, ap}
use Rattle.std.proofs.Common.{sym, ◌∙◌, inl, inr, ⊎_elim, get_or-take, get_or-drop, arith}
use mathlib.Core.List.{List, [], ◌∷◌, ◌++◌, append-nil, cons≢nil, nil≢cons, head-eq_of_cons-eq, Memᴰ}
use Rattle.ground.specs.Pick.{Reads, reads_same, reads_and, reads_or, reads_not, reads_eq, decided, true≠false}
use Rattle.ground.specs.Numbers.{byte, word}
use Rattle.ground.specs.Lists.{part, total, total_append, any, reads_any, Stops, stop_end, stop_at, front_one}
use Rattle.ground.specs.Refuse.{place_or}
use Rattle.scan.specs.Cutting.{end_at, rest}
use Rattle.scan.specs.CuttingLaws.{rest_none, rest_more, end_off}
use Rattle.search.specs.Want.{Interface, Class, is_class, reads_interface, reads_class, wants, found_from}
use Rattle.search.specs.Found.{Found, found, found_none, rest_split, rest_front}
use Rattle.search.specs.declared.Want.TheVariants as want
use Rattle.groups.specs.Rules5and6.{GroupEnds, last, next, HeaderForm, Rule6By}
use Rattle.groups.specs.Reading.{run_end, strays_from}

-- neither of type 24 nor an interface descriptor: the group's other descriptors
abbrev Plain : List ℕ → Type 0
Plain d = (Class d → ⊥) × (Interface d → ⊥)

all_class : (ds : List (List ℕ)) → any (wants want.NotClass) ds ≡ false → (d : List ℕ) → Memᴰ d ds → Class d
unfolding wants
all_class ds e d m = ⊎_elim (λ c. c) (λ n. absurd ((reads_any (λ d. not (is_class d)) (λ d. Class d → ⊥) (λ d. reads_not _ (reads_class d)) ds).denies e (record { one = d; among = m; has = n }))) (decided (is_class d) (reads_class d))

not_class : (d : List ℕ) → wants want.NotClass d ≡ true → Class d → ⊥
unfolding wants
not_class d e = (reads_not _ (reads_class d)).says e

reads_plain : (d : List ℕ) → Reads (wants want.ClassOrInterface d) (Class d ⊎ Interface d)
unfolding wants
reads_plain d = reads_or _ _ (reads_class d) (reads_interface d)

all_plain : (ds : List (List ℕ)) → any (wants want.ClassOrInterface) ds ≡ false → (d : List ℕ) → Memᴰ d ds → Plain d
all_plain ds e d m =
    let no = (reads_any (wants want.ClassOrInterface) (λ d. Class d ⊎ Interface d) reads_plain ds).denies e in
    (λ c. no (record { one = d; among = m; has = inl c }), λ i. no (record { one = d; among = m; has = inr i }))

no_both : (d : List ℕ) → Class d → Interface d → ⊥
no_both d c i = omega arith

-- the run, as the search finds it
record Run (s : List ℕ) (from : ℕ) : Type 0 where
  run : List (List ℕ)
  beyond : List (List ℕ)
  split : rest s from ≡ run ++ beyond
  class : (d : List ℕ) → Memᴰ d run → Class d
  stops : Stops Class beyond
  end : run_end s from ≡ from + total run
  here : rest s (run_end s from) ≡ beyond

module _ (s : List ℕ) (from : ℕ) (inside : from ≤ length s) (full : from + total (rest s from) ≡ length s) where
  run_found : Run s from
  unfolding run_end place_or
  run_found = go (found_from s from want.NotClass) refl
    where
      end_of : (r : Option ℕ) → found_from s from want.NotClass ≡ r → run_end s from ≡ place_or r (length s)
      end_of r e = ap (λ (x : Option ℕ). place_or x (length s)) e

      go : (r : Option ℕ) → found_from s from want.NotClass ≡ r → Run s from
      go None e =
          record {
            run = rest s from;
            beyond = [];
            split = sym (append-nil (rest s from));
            class = all_class (rest s from) (found_none want.NotClass s from e);
            stops = stop_end;
            end = end_of None e ∙ sym full;
            here = ap (rest s) (end_of None e ∙ sym full) ∙ rest_split s from inside (rest s from) [] (sym (append-nil (rest s from)));
          }
      go (Some q) e =
          let f = found want.NotClass s from q inside e in
          record {
            run = f.passed;
            beyond = f.wanted ∷ f.behind;
            split = f.whole;
            class = all_class f.passed f.none_passed;
            stops = stop_at (not_class f.wanted f.meets);
            end = end_of (Some q) e ∙ f.place;
            here = ap (rest s) (end_of (Some q) e) ∙ f.here;
          }

pub type_of : (s : List ℕ) (q : ℕ) (d : List ℕ) (ds : List (List ℕ)) → rest s q ≡ d ∷ ds → byte s (q + 1) ≡ byte d 1
type_of s q d ds e = go (decided (eqb (end_at s q) q) (reads_eq (end_at s q) q))
  where
    go : (end_at s q ≡ q) ⊎ (end_at s q ≡ q → ⊥) → byte s (q + 1) ≡ byte d 1
    go (inl z) = absurd (nil≢cons (sym (rest_none s q z) ∙ e))
    go (inr n) =
        let o = end_off s q n in
        let same : part s q (end_at s q) ≡ d = head-eq_of_cons-eq (sym (rest_more s q n) ∙ e) in
        sym (get_or-take (end_at s q - q) (drop q s) 1 0 (omega arith) ∙ get_or-drop q s 1 0) ∙ ap (λ (x : List ℕ). byte x 1) same

-- what stands behind the run in the group: no stray of type 24 exactly where it parts into plain descriptors and the next group
record Parted (beyond : List (List ℕ)) : Type 0 where
  later : List (List ℕ)
  after : List (List ℕ)
  split : beyond ≡ later ++ after
  plain : (d : List ℕ) → Memᴰ d later → Plain d
  ends : GroupEnds after

ends_stop : {ds : List (List ℕ)} → GroupEnds ds → Stops Plain ds
ends_stop last = stop_end
ends_stop (next i) = stop_at (λ p. p.1 i)

reads_strays : (s : List ℕ) (e : ℕ) → e ≤ length s → Reads (not (strays_from s e)) (Parted (rest s e))
unfolding strays_from
reads_strays s e inside = go (found_from s e want.ClassOrInterface) refl
  where
    stray : (q : ℕ) → found_from s e want.ClassOrInterface ≡ Some q → strays_from s e ≡ eqb (byte s (q + 1)) 0x24
    stray q h = rw (strays_from, h) refl

    none : found_from s e want.ClassOrInterface ≡ None → strays_from s e ≡ false
    none h = rw (strays_from, h) refl

    at : (q : ℕ) → found_from s e want.ClassOrInterface ≡ Some q → Reads (not (eqb (byte s (q + 1)) 0x24)) (Parted (rest s e))
    at q h = reads_same (reads_not _ (reads_eq (byte s (q + 1)) 0x24)) of to
      where
        f : Found want.ClassOrInterface s e q
        f = found want.ClassOrInterface s e q inside h

        type : byte s (q + 1) ≡ byte f.wanted 1
        type = type_of s q f.wanted f.behind f.here

        of : (byte s (q + 1) ≡ 0x24 → ⊥) → Parted (rest s e)
        of n =
            record {
              later = f.passed;
              after = f.wanted ∷ f.behind;
              split = f.whole;
              plain = all_plain f.passed f.none_passed;
              ends = next (⊎_elim (λ c. absurd (n (type ∙ c))) (λ i. i) ((reads_plain f.wanted).says f.meets));
            }

        to : Parted (rest s e) → byte s (q + 1) ≡ 0x24 → ⊥
        to p c =
            let d : Stops Plain (f.wanted ∷ f.behind) = stop_at (λ x. x.0 (sym type ∙ c)) in
            let one = front_one Plain f.passed (f.wanted ∷ f.behind) p.later p.after (sym f.whole ∙ p.split) (all_plain f.passed f.none_passed) p.plain d (ends_stop p.ends) in
            opens p.ends one.1
          where
            opens : {ds : List (List ℕ)} → GroupEnds ds → f.wanted ∷ f.behind ≡ ds → ⊥
            opens last z = cons≢nil z
            opens (next i) z = no_both f.wanted (sym type ∙ c) (rw (sym (head-eq_of_cons-eq z)) at i)

    go : (r : Option ℕ) → found_from s e want.ClassOrInterface ≡ r → Reads (not (strays_from s e)) (Parted (rest s e))
    go None h =
        rw (none h) (record {
          says = λ t. record { later = rest s e; after = []; split = sym (append-nil (rest s e)); plain = all_plain (rest s e) (found_none want.ClassOrInterface s e h); ends = last };
          denies = λ t. absurd (true≠false t);
        })
    go (Some q) h = rw (stray q h) (at q h)

later_stops : (later after : List (List ℕ)) → ((d : List ℕ) → Memᴰ d later → Plain d) → GroupEnds after → Stops Class (later ++ after)
later_stops [] after h last = stop_end
later_stops [] after h (next {i = i} k) = stop_at (λ c. no_both i c k)
later_stops (d ∷ later) after h k = stop_at (h d (Memᴰ.head refl)).0

-- f is the form of headers, header the header's place, h the header, from where the run begins
module _ (f : HeaderForm) (s h : List ℕ) (header from : ℕ) (e : from ≡ header + length h) (inside : from ≤ length s) (full : from + total (rest s from) ≡ length s) where
  r : Run s from
  r = run_found s from inside full

  end_inside : run_end s from ≤ length s
  end_inside =
      let a = r.end in
      let b : total (rest s from) ≡ total r.run + total r.beyond = ap total r.split ∙ total_append r.run r.beyond in
      omega arith

  rule6_of : (header + word h f.told ≡ run_end s from) × Parted (rest s (run_end s from)) → Rule6By f h (rest s from)
  rule6_of t =
      let p = t.1 in
      let a = r.end in
      let w = t.0 in
      record {
        run = r.run;
        later = p.later;
        after = p.after;
        split = r.split ∙ ap (λ (x : List (List ℕ)). r.run ++ x) (sym r.here ∙ p.split);
        class = r.class;
        no_class = λ d m. (p.plain d m).0;
        in_group = λ d m. (p.plain d m).1;
        ends = p.ends;
        length_told = omega arith;
      }

  plain_of : (k : Rule6By f h (rest s from)) (d : List ℕ) → Memᴰ d k.later → Plain d
  plain_of k d m = (k.no_class d m, k.in_group d m)

  run_one : (k : Rule6By f h (rest s from)) → (r.run ≡ k.run) × (r.beyond ≡ k.later ++ k.after)
  run_one k = front_one Class r.run r.beyond k.run (k.later ++ k.after) (sym r.split ∙ k.split) r.class k.class r.stops (later_stops k.later k.after (plain_of k) k.ends)

  rule6_to : (k : Rule6By f h (rest s from)) → (header + word h f.told ≡ run_end s from) × Parted (rest s (run_end s from))
  rule6_to k =
      let one = run_one k in
      let t : total r.run ≡ total k.run = ap total one.0 in
      let a = r.end in
      let w = k.length_told in
      (omega arith, record { later = k.later; after = k.after; split = r.here ∙ one.1; plain = plain_of k; ends = k.ends })

  pub reads_rule6 : Reads (eqb (header + word h f.told) (run_end s from) && not (strays_from s (run_end s from))) (Rule6By f h (rest s from))
  reads_rule6 = reads_same (reads_and _ _ (reads_eq (header + word h f.told) (run_end s from)) (reads_strays s (run_end s from) end_inside)) rule6_of rule6_to

  -- the run's end is where the rule's run ends, and what stands up to there is that run
  end_of : (k : Rule6By f h (rest s from)) → run_end s from ≡ from + total k.run
  end_of k = r.end ∙ ap (λ (x : List (List ℕ)). from + total x) (run_one k).0

  run_of : (k : Rule6By f h (rest s from)) → rest (take (run_end s from) s) from ≡ k.run
  run_of k = ap (λ (i : ℕ). rest (take i s) from) (end_of k) ∙ rest_front s from inside k.run (k.later ++ k.after) k.split

  pub rule6_run : (others : List (List ℕ)) → others ≡ rest s from → (k : Rule6By f h others) → rest (take (run_end s from) s) from ≡ k.run
  rule6_run others q = rw q run_of
