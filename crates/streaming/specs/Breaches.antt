-- Rule 14 and what the reader answers, both ways, where an ID is borne by one Terminal at most, as rule 10 has it.
--   WrongStream b i       ==  i, behind b in the cutting ds, opens a streaming group that breaks the rule
--   rule14_kept           ==  the reader answers nowhere exactly where each streaming group keeps the rule
--   rule14_broken         ==  it answers a place exactly where that is the first offender's
use Rattle.std.specs.Prelude.{ℕ, suc, ◌+◌, ◌<◌, ◌≡◌, refl, Bool, true, false, not, ◌↔◌, get_or, drop, eqb, Some, None}
use Rattle.std.proofs.Common.{sym, ◌∙◌, ⊎_elim, arith}
use Rattle.std.proofs.Math.Path.{ap}
use mathlib.Core.List.{List, [], ◌∷◌, ◌++◌, append_assoc, head-eq_of_cons-eq, tail-eq_of_cons-eq}
use Rattle.std.proofs.Math.ListN.{length, length-append}
use Rattle.ground.specs.Pick.{pick, Reads, decided, reads_eq, reads_and, reads_not, reads_contrary, reads_same}
use Rattle.ground.specs.Numbers.{byte}
use Rattle.ground.specs.Lists.{SomeOf}
use Rattle.ground.specs.First.{Sound, Breaks, first_nowhere, first_at}
use Rattle.layout.specs.declared.Cluster.{Cluster}
use Rattle.scan.specs.Cutting.{Cutting, rest}
use Rattle.scan.specs.CuttingLaws.{cutting_rest}
use Rattle.scan.specs.Search.{searched}
use Rattle.search.specs.Want.{Class, Audio, reads_audio}
use Rattle.terminals.specs.Terminals.{Terminal, bearer_in, OneEach}
use Rattle.terminals.specs.Said.{AreAll}
use Rattle.streaming.specs.Rule14.{Described, StreamKept, no_endpoints, endpoints, Group, Rule14, Breaks14}
use Rattle.streaming.specs.Tests.{described_by, holds_class, broken, wrong_stream, first_broken, breach14}
use Rattle.streaming.specs.Laws.{behind_next}
use Rattle.streaming.specs.Sentences.{reads_described}
use Rattle.streaming.specs.Members.{members_of, after_of, members_split, members_inside, after_ends, members_one, class_inside, reads_held}

module _ (run : List (List ℕ)) (cluster : ℕ → Cluster) (i : List ℕ) where
  -- "directly after the interface": the two descriptors are the group's own, since neither opens the next
  described_kept : (tail : List (List ℕ)) → (byte i 4 ≡ 0 → ⊥) → Described run cluster (get_or tail 0 []) (get_or tail 1 [])
      → StreamKept run cluster i (members_of tail)
  unfolding members_of
  described_kept [] n k = let l = k.general.0 in absurd (omega arith)
  described_kept (g ∷ []) n k = let l = k.format.0 in absurd (omega arith)
  described_kept (g ∷ f ∷ ds) n k = rw (class_inside g k.general.1.0, class_inside f k.format.1.0) (endpoints n k)

  kept_described : {ms : List (List ℕ)} → (after : List (List ℕ)) → (byte i 4 ≡ 0 → ⊥) → StreamKept run cluster i ms
      → Described run cluster (get_or (ms ++ after) 0 []) (get_or (ms ++ after) 1 [])
  kept_described after n (no_endpoints e h) = absurd (n e)
  kept_described after n (endpoints m k) = k

  kept_silent : {ms : List (List ℕ)} → byte i 4 ≡ 0 → StreamKept run cluster i ms → SomeOf Class ms → ⊥
  kept_silent e (no_endpoints z h) s = h s.one s.among s.has
  kept_silent e (endpoints n k) s = n e

  reads_kept : (ts : List Terminal) → AreAll run cluster ts → OneEach ts → (tail : List (List ℕ))
      → Reads (not (pick (eqb (byte i 4) 0) (holds_class tail) (not (described_by (bearer_in ts) (get_or tail 0 []) (get_or tail 1 []))))) (StreamKept run cluster i (members_of tail))
  reads_kept ts all one tail = go (eqb (byte i 4) 0) (reads_eq (byte i 4) 0)
    where
      twice : (b : Bool) → {P : Type 0} → Reads b P → Reads (not (not b)) P
      twice true r = r
      twice false r = r

      go : (b : Bool) → Reads b (byte i 4 ≡ 0)
          → Reads (not (pick b (holds_class tail) (not (described_by (bearer_in ts) (get_or tail 0 []) (get_or tail 1 []))))) (StreamKept run cluster i (members_of tail))
      go true r =
          reads_same (reads_not _ (reads_held tail))
          (λ h. no_endpoints (r.says refl) (λ d m k. h (record { one = d; among = m; has = k })))
          (kept_silent (r.says refl))
      go false r =
          reads_same (twice _ (reads_described ts all one (get_or tail 0 []) (get_or tail 1 [])))
          (described_kept tail (r.denies refl))
          (λ k. rw (members_split tail) (kept_described (after_of tail) (r.denies refl) k))

-- a group that opens before another stands whole among what is before it, but for its others
cut_earlier : (x before : List (List ℕ)) (j i : List ℕ) (r t : List (List ℕ)) → x ++ j ∷ r ≡ before ++ i ∷ t → length x < length before
    → (y : List (List ℕ)) × (before ≡ x ++ j ∷ y)
cut_earlier [] [] j i r t e l = absurd (omega arith)
cut_earlier [] (d ∷ b) j i r t e l = (b, ap (λ (h : List ℕ). h ∷ b) (sym (head-eq_of_cons-eq e)))
cut_earlier (a ∷ x) [] j i r t e l = absurd (omega arith)
cut_earlier (a ∷ x) (d ∷ b) j i r t e l =
    let k = cut_earlier x b j i r t (tail-eq_of_cons-eq e) (omega arith) in
    (k.0, ap (λ (h : List (List ℕ)). d ∷ h) k.1 ∙ ap (λ (h : List ℕ). h ∷ (x ++ j ∷ k.0)) (sym (head-eq_of_cons-eq e)))

module _ (run : List (List ℕ)) (cluster : ℕ → Cluster) (ts : List Terminal) (all : AreAll run cluster ts) (one : OneEach ts) (ds : List (List ℕ)) where
  -- what follows a descriptor that stands behind b
  abbrev tail_of : List (List ℕ) → List (List ℕ)
  tail_of b = drop (suc (length b)) ds

  abbrev pub WrongStream : List (List ℕ) → List ℕ → Type 0
  WrongStream b i = Audio 2 i × (StreamKept run cluster i (members_of (tail_of b)) → ⊥)

  reads_wrong : (b : List (List ℕ)) (i : List ℕ) → Reads (wrong_stream (bearer_in ts) ds b i) (WrongStream b i)
  unfolding wrong_stream broken
  reads_wrong b i = reads_and _ _ (reads_audio 2 i) (reads_contrary _ (reads_kept run cluster i ts all one (tail_of b)))

  tail_is : (b : List (List ℕ)) (i : List ℕ) (y : List (List ℕ)) → ds ≡ b ++ i ∷ y → tail_of b ≡ y
  tail_is b i y e = ap (drop (suc (length b))) e ∙ behind_next b i y

  group_of : (b : List (List ℕ)) (i : List ℕ) (y : List (List ℕ)) → ds ≡ b ++ i ∷ y → Group ds b i (members_of (tail_of b))
  group_of b i y e = record {
    after = after_of (tail_of b);
    split = e ∙ ap (λ (t : List (List ℕ)). b ++ i ∷ t) (sym (tail_is b i y e) ∙ members_split (tail_of b));
    inside = members_inside (tail_of b);
    ends = after_ends (tail_of b);
  }

  members_are : {b : List (List ℕ)} {i : List ℕ} {ms : List (List ℕ)} → Group ds b i ms → members_of (tail_of b) ≡ ms
  members_are {b} {i} {ms} g = ap members_of (tail_is b i (ms ++ g.after) g.split) ∙ members_one ms g.inside g.ends

  -- a streaming group that is not broken keeps the rule
  kept_by : {b : List (List ℕ)} {i : List ℕ} {ms : List (List ℕ)} → Group ds b i ms → Audio 2 i → (WrongStream b i → ⊥) → StreamKept run cluster i ms
  kept_by {b} {i} {ms} g a n =
      ⊎_elim (λ (k : StreamKept run cluster i (members_of (tail_of b))). rw (members_are g) at k) (λ k. absurd (n (a, k)))
      (decided _ (reads_kept run cluster i ts all one (tail_of b)))

  rule_sound : Rule14 run cluster ds ↔ Sound WrongStream ds
  unfolding Sound
  rule_sound = (
    λ h x i y e w. w.1 (h x i (members_of (tail_of x)) (group_of x i y e) w.0),
    λ h b i ms g a. kept_by g a (h b i (ms ++ g.after) g.split),
  )

  breaks_first : (p : ℕ) → Breaks14 run cluster ds p ↔ Breaks WrongStream 0 ds p
  unfolding Sound
  breaks_first p = (of, to)
    where
      of : Breaks14 run cluster ds p → Breaks WrongStream 0 ds p
      of k = record {
        before = k.before;
        offender = k.interface;
        after = k.members ++ k.group.after;
        split = k.group.split;
        wrong = (k.streaming, λ h. k.broken (rw (members_are k.group) at h));
        place = let q = k.place in omega arith;
        none_before = λ x j y e w.
            let l : length k.before ≡ length x + length (j ∷ y) = ap length e ∙ length-append x (j ∷ y) in
            let s : ds ≡ x ++ j ∷ (y ++ k.interface ∷ (k.members ++ k.group.after)) = k.group.split ∙ ap (λ (b : List (List ℕ)). b ++ k.interface ∷ (k.members ++ k.group.after)) e ∙ append_assoc x (j ∷ y) _ in
            w.1 (k.kept_before x j (members_of (tail_of x)) (group_of x j _ s) (omega arith) w.0);
      }

      to : Breaks WrongStream 0 ds p → Breaks14 run cluster ds p
      to k = record {
        before = k.before;
        interface = k.offender;
        members = members_of (tail_of k.before);
        group = group_of k.before k.offender k.after k.split;
        streaming = k.wrong.0;
        broken = k.wrong.1;
        place = let q = k.place in omega arith;
        kept_before = λ x j ms g l a.
            let c = cut_earlier x k.before j k.offender (ms ++ g.after) k.after (sym g.split ∙ k.split) l in
            kept_by g a (k.none_before x j c.0 c.1);
      }

-- THE LAWS, over the cutting
module _ (run : List (List ℕ)) (cluster : ℕ → Cluster) (ts : List Terminal) (all : AreAll run cluster ts) (one : OneEach ts) (s : List ℕ) where
  standing_kept : (breach14 ts s ≡ None) ↔ Rule14 run cluster (rest s 0)
  unfolding breach14 first_broken searched
  standing_kept =
      let r = first_nowhere (wrong_stream (bearer_in ts) (rest s 0)) (WrongStream run cluster ts all one (rest s 0)) (reads_wrong run cluster ts all one (rest s 0)) 0 (rest s 0) in
      let q = rule_sound run cluster ts all one (rest s 0) in
      (λ e. q.1 (r.0 e), λ h. r.1 (q.0 h))

  standing_broken : (p : ℕ) → (breach14 ts s ≡ Some p) ↔ Breaks14 run cluster (rest s 0) p
  unfolding breach14 first_broken searched
  standing_broken p =
      let r = first_at (wrong_stream (bearer_in ts) (rest s 0)) (WrongStream run cluster ts all one (rest s 0)) (reads_wrong run cluster ts all one (rest s 0)) 0 (rest s 0) p in
      let q = breaks_first run cluster ts all one (rest s 0) p in
      (λ e. q.1 (r.0 e), λ h. r.1 (q.0 h))

  module _ (ds : List (List ℕ)) (cut : Cutting s ds) where
    pub rule14_kept : (breach14 ts s ≡ None) ↔ Rule14 run cluster ds
    rule14_kept = rw (← (cutting_rest s ds cut)) standing_kept

    pub rule14_broken : (p : ℕ) → (breach14 ts s ≡ Some p) ↔ Breaks14 run cluster ds p
    rule14_broken p = rw (← (cutting_rest s ds cut)) (standing_broken p)
