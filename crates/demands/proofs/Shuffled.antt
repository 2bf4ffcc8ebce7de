-- Two configurations that differ only in the order of the descriptors of the run: row by row the rule is kept by the one exactly where it is by the
-- other. The rules 1 and 2 ask for the length and for bytes before the run; a cutting of the one is a cutting of the other; the rest is said of
-- cuttings (crate order, `rule4-as` and the others), of runs that are permutations of each other (`blind-rules`) and of the clusters that connect
-- them, which are the same on each ID (`agree-one`).
--   shuffled_back    ==  the two, the other way
--   runs_shuffled, control_same  ==  of two configurations that keep the rules 1 to 9: their runs are permutations of each other, and the AudioControl
--                        interface is the same
--   rows_alike       ==  THE LAW: the papers' tables of refusals of the two are alike
use Prim.Native.Nat.{ℕ, ◌+◌, ◌*◌, ◌≤◌, ◌<◌}
use mathlib.Core.Path.{◌≡◌, refl, sym, ap, ◌∙◌, subst}
use mathlib.Core.Logic.{⊎_elim}
use mathlib.Core.List.Memᴰ
use mathlib.Core.List.Permᴰ
use mathlib.Core.List.{List, [], ◌∷◌, ◌++◌, flatten, append_assoc, append_cancel_left, head-eq_of_cons-eq, tail-eq_of_cons-eq}
use lib.ListN.{length, drop, get_or, length-append, get_or-append}
use lib.Seq.{get_or-take, get_or-drop}
use native.Mathlib.Omega.{arith}
use Rattle.ground.specs.Numbers.{byte}
use Rattle.ground.specs.Lists.{total, total_append, length_flatten, flatten_append}
use Rattle.graph.specs.Members.{along}
use Rattle.scan.specs.Cutting.{Cutting, Rule3, rest}
use Rattle.scan.specs.CuttingLaws.{rest_of, cutting_rest, cutting_one}
use Rattle.search.specs.Want.{Class}
use Rattle.layout.specs.declared.Cluster.{Cluster}
use Rattle.edition.specs.Audio.{audio}
use Rattle.opening.specs.Rules1and2.{Rule1, Rule2}
use Rattle.collection.specs.Rule7.{Rule7}
use Rattle.groups.specs.Rules5and6.{Header, Rule5, listed_of, Rule6}
use Rattle.cutting.specs.Rules1to9.{laid_out, Opening, Opened, opened, Kept, group_rows}
use Rattle.clusters.specs.Rule13.{Connected}
use Rattle.clusters.specs.Topology.{connected_parts}
use Rattle.streaming.specs.Rule14.{Rule14}
use Rattle.reader.specs.Configuration.{run_of, Streams}
use Rattle.reader.specs.Refusals.{run_rows, kept_rows, table_of_rows}
use Rattle.records.specs.Records.{record_size}
use Rattle.reader.proofs.Surveyed.{represented}
use Rattle.order.specs.Permuted.{Permuted, AgreeOn}
use Rattle.order.specs.Same.{AlikeRows}
use Rattle.order.proofs.Permutations.{permuted_back, permuted_in, permuted_length, permuted_total}
use Rattle.order.proofs.Rules.{agree_one, agree_back, blind_rules}
use Rattle.order.proofs.Middle.{Reordering, front_of, whole_of, control_one, opening_as, rule5_as, rule6_as, rule7_as, rule14_as, runs_permuted}
use Rattle.demands.specs.AnyOrder.{Shuffled}

abbrev pub shuffled_back : {s s' : List ℕ} → Shuffled s s' → Shuffled s' s
shuffled_back h = record {
  before = h.before;
  control = h.control;
  header = h.header;
  run = h.run';
  run' = h.run;
  behind = h.behind;
  bytes = h.bytes';
  bytes' = h.bytes;
  cut = λ d m. h.cut d (permuted_in (Permᴰ.append_left h.before (Permᴰ.cons refl (Permᴰ.cons refl (permuted_back h.permuted)))) m);
  is_control = h.is_control;
  class = λ d m. h.class d (permuted_in (permuted_back h.permuted) m);
  permuted = permuted_back h.permuted;
}

-- the two orders of the run's descriptors
abbrev reordering : {s s' : List ℕ} → Shuffled s s' → Reordering
reordering h = record {
  before = h.before;
  control = h.control;
  header = h.header;
  one = h.run;
  other = h.run';
  is_control = h.is_control;
  class = h.class;
  permuted = h.permuted;
}

-- the bytes of the one, part by part
module _ {s s' : List ℕ} (h : Shuffled s s') where
  abbrev ahead : List (List ℕ)
  ahead = front_of (reordering h)

  abbrev whole : List (List ℕ) → List (List ℕ)
  whole x = whole_of (reordering h) x

  listed : List (List ℕ)
  listed = h.before ++ (h.control ∷ h.header ∷ h.run)

  listed_whole : (x : List (List ℕ)) → listed ++ x ≡ whole x
  unfolding listed
  listed_whole x = ap (λ (l : List (List ℕ)). l ++ x) (sym (append_assoc h.before (h.control ∷ h.header ∷ []) h.run)) ∙ append_assoc ahead h.run x

  flat : s ≡ flatten ahead ++ (flatten h.run ++ h.behind)
  flat =
      h.bytes
      ∙ ap (λ (l : List (List ℕ)). flatten l ++ h.behind) (sym (append_assoc h.before (h.control ∷ h.header ∷ []) h.run))
      ∙ ap (λ (l : List ℕ). l ++ h.behind) (flatten_append ahead h.run)
      ∙ append_assoc (flatten ahead) (flatten h.run) h.behind

  ahead_long : 4 ≤ length (flatten ahead)
  unfolding total
  ahead_long =
      let a = (h.cut h.control (Memᴰ.append_right h.before (Memᴰ.head refl))).long in
      let b = (h.cut h.header (Memᴰ.append_right h.before (Memᴰ.tail (Memᴰ.head refl)))).long in
      let l = length_flatten ahead in
      let t : total ahead ≡ total h.before + (length h.control + (length h.header + 0)) = total_append h.before (h.control ∷ h.header ∷ []) in
      omega arith

  byte_ahead : (i : ℕ) → i < 4 → byte s i ≡ byte (flatten ahead) i
  byte_ahead i l = let a = ahead_long in ap (λ (x : List ℕ). byte x i) flat ∙ get_or-append (flatten ahead) (flatten h.run ++ h.behind) 0 i (omega arith)

  length_is : length s ≡ length (flatten ahead) + (total h.run + length h.behind)
  length_is =
      ap length flat
      ∙ length-append (flatten ahead) (flatten h.run ++ h.behind)
      ∙ ap (λ (n : ℕ). length (flatten ahead) + n) (length-append (flatten h.run) h.behind ∙ ap (λ (n : ℕ). n + length h.behind) (length_flatten h.run))

  -- a cutting of the bytes goes through the run's descriptors
  cut_of : (cs : List (List ℕ)) → Cutting s cs → (x : List (List ℕ)) × (cs ≡ whole x) × Cutting h.behind x
  unfolding listed
  cut_of cs c = (x, is ∙ listed_whole x, record { whole = append_cancel_left (flatten listed) (flatten x) h.behind (sym (flatten_append listed x) ∙ ap flatten (sym is) ∙ c.whole ∙ h.bytes); each = λ d m. c.each d (along (sym is) (Memᴰ.append_right listed m)) })
    where
      x : List (List ℕ)
      x = rest s (0 + total listed)

      is : cs ≡ listed ++ x
      is = sym (cutting_rest s cs c) ∙ rest_of s 0 listed h.behind h.bytes h.cut

  cut_to : (x : List (List ℕ)) → Cutting h.behind x → Cutting s (whole x)
  unfolding listed
  cut_to x c = record {
    whole = ap flatten (sym (listed_whole x)) ∙ flatten_append listed x ∙ ap (λ (l : List ℕ). flatten listed ++ l) c.whole ∙ sym h.bytes;
    each = λ d m. ⊎_elim (h.cut d) (c.each d) (Memᴰ.append_cases listed (along (sym (listed_whole x)) m));
  }

module _ {s s' : List ℕ} (h : Shuffled s s') where
  pub length_same : length s ≡ length s'
  length_same = let t = permuted_total h.permuted in let a = length_is h in let b = length_is (shuffled_back h) in omega arith

  byte_same : (i : ℕ) → i < 4 → byte s i ≡ byte s' i
  byte_same i l = byte_ahead h i l ∙ sym (byte_ahead (shuffled_back h) i l)

  rule1_as : Rule1 s → Rule1 s'
  rule1_as r = let e = length_same in let a = r.0 in let b = r.1 in (omega arith, omega arith)

  rule2_as : Rule2 s → Rule2 s'
  rule2_as r =
      let e = length_same in
      let a = byte_same 0 (omega arith) in
      let b = byte_same 1 (omega arith) in
      let c = byte_same 2 (omega arith) in
      let d = byte_same 3 (omega arith) in
      let x = r.0 in
      let y = r.1.0 in
      let z = r.1.1 in
      (omega arith, (omega arith, omega arith))

  rule3_as : Rule3 s → Rule3 s'
  rule3_as (cs, c) = let k = cut_of h cs c in (whole (shuffled_back h) k.0, cut_to (shuffled_back h) k.0 k.2)

  -- two cuttings, of the one and of the other
  record Parted (cs es : List (List ℕ)) : Type 0 where
    tail : List (List ℕ)
    left : cs ≡ whole h tail
    right : es ≡ whole (shuffled_back h) tail

  parted : (cs es : List (List ℕ)) → Cutting s cs → Cutting s' es → Parted cs es
  parted cs es c e =
      let a = cut_of h cs c in
      let b = cut_of (shuffled_back h) es e in
      record { tail = a.0; left = a.1; right = b.1 ∙ ap (whole (shuffled_back h)) (cutting_one h.behind b.0 a.0 b.2 a.2) }

  opening_to : (cs es : List (List ℕ)) → Parted cs es → Opening cs → Opening es
  opening_to cs es p o =
      subst Opening (sym p.right)
      (opening_as (reordering h) p.tail (subst Opening p.left o))

header_class : (x : List ℕ) → Header x → Class x
header_class x r = sym (get_or-take 4 (drop 1 x) 0 0 (omega arith) ∙ get_or-drop 1 x 0 0) ∙ ap (λ (y : List ℕ). get_or y 0 0) r.opening

-- the AudioControl group of the one and of the other, where the rules 1 to 4 are kept
module _ {s s' : List ℕ} (h : Shuffled s s') (o : Opened s) (o' : Opened s') where
  abbrev both : Parted h o.descriptors o'.descriptors
  both = parted h o.descriptors o'.descriptors o.rule3 o'.rule3

  x : List (List ℕ)
  x = both.tail

  mine : (o.before ≡ h.before) × (o.control ≡ h.control) × (o.tail ≡ h.header ∷ (h.run ++ x))
  unfolding x
  mine = control_one (reordering h) both.tail o.descriptors o.before o.control o.tail both.left o.rule4 o.split o.is_control

  theirs : (o'.before ≡ h.before) × (o'.control ≡ h.control) × (o'.tail ≡ h.header ∷ (h.run' ++ x))
  unfolding x
  theirs = control_one (reordering (shuffled_back h)) both.tail o'.descriptors o'.before o'.control o'.tail both.right o'.rule4 o'.split o'.is_control

  rule5_to : Rule5 o.tail → Rule5 o'.tail
  rule5_to = rule5_as (reordering h) x o.tail o'.tail mine.2 theirs.2

  module _ (e : Rule5 o.tail) (e' : Rule5 o'.tail) where
    header_mine : h.header ≡ e.header
    header_mine = head-eq_of_cons-eq (sym mine.2 ∙ e.stands)

    header_theirs : h.header ≡ e'.header
    header_theirs = head-eq_of_cons-eq (sym theirs.2 ∙ e'.stands)

    others_mine : e.others ≡ h.run ++ x
    others_mine = tail-eq_of_cons-eq (sym e.stands ∙ mine.2)

    others_theirs : e'.others ≡ h.run' ++ x
    others_theirs = tail-eq_of_cons-eq (sym e'.stands ∙ theirs.2)

    rule6_to : Rule6 e.header e.others → Rule6 e'.header e'.others
    rule6_to =
        rule6_as (reordering h) x
        e.header e'.header e.others e'.others (sym header_mine ∙ header_theirs) others_mine others_theirs

    rule7_to : Rule7 o.descriptors (listed_of e.header) → Rule7 o'.descriptors (listed_of e'.header)
    unfolding x
    rule7_to r =
        subst (λ (cs : List (List ℕ)). Rule7 cs (listed_of e'.header)) (sym both.right)
        (rule7_as (reordering h) both.tail (listed_of e'.header)
        (subst (λ (cs : List (List ℕ)). Rule7 cs (listed_of e'.header)) both.left (subst (λ (y : List ℕ). Rule7 o.descriptors (listed_of y)) (sym header_mine ∙ header_theirs) r)))

    runs : (t : Rule6 e.header e.others) (t' : Rule6 e'.header e'.others) → Permuted t.run t'.run
    runs t t' =
        runs_permuted (reordering h) x
        e.header e'.header e.others e'.others others_mine others_theirs t t'

module _ {s s' : List ℕ} (h : Shuffled s s') (k : Kept s) (k' : Kept s') where
  pub runs_shuffled : Permuted (run_of k) (run_of k')
  runs_shuffled = runs h k.opened k'.opened k.rule5 k'.rule5 k.rule6 k'.rule6

  pub control_same : k.opened.control ≡ k'.opened.control
  control_same = (mine h k.opened k'.opened).1 ∙ sym (theirs h k.opened k'.opened).1

  streams_to : (c e : ℕ → Cluster) → AgreeOn (run_of k) c e → Streams k c → Streams k' e
  streams_to c e agree r =
      let p = parted h k.opened.descriptors k'.opened.descriptors k.opened.rule3 k'.opened.rule3 in
      let l : Class h.header = subst Class (sym (header_mine h k.opened k'.opened k.rule5 k'.rule5)) (header_class k.rule5.header k.rule5.right) in
      subst (Rule14 (run_of k') e) (sym p.right)
      (rule14_as (reordering h) p.tail l (run_of k) (run_of k') runs_shuffled c e agree
      (subst (Rule14 (run_of k) c) p.left r))

module _ {s s' : List ℕ} (h : Shuffled s s') (room : ℕ) where
  abbrev back : Shuffled s' s
  back = shuffled_back h

  run_alike : (k : Kept s) (k' : Kept s') (c : Connected audio (run_of k)) (c' : Connected audio (run_of k'))
      → AlikeRows (run_rows k c.cluster room) (run_rows k' c'.cluster room)
  run_alike k k' c c' =
      let p = runs_shuffled h k k' in
      let a = agree_one (run_of k) (run_of k') p c c' in
      let b = agree_back (run_of k) (run_of k') p c.cluster c'.cluster a in (
        refl,
        (streams_to h k k' c.cluster c'.cluster a, streams_to back k' k c'.cluster c.cluster b),
        λ x x'. (
          refl,
          (blind_rules.few (run_of k) (run_of k') p c.cluster c'.cluster a, blind_rules.few (run_of k') (run_of k) (permuted_back p) c'.cluster c.cluster b),
          λ y y'. (
            refl,
            (subst (λ (n : ℕ). n * record_size ≤ room) (permuted_length p), subst (λ (n : ℕ). n * record_size ≤ room) (sym (permuted_length p))),
            λ z z'. tt,
          ),
        ),
      )

  kept_alike : (k : Kept s) (k' : Kept s') → AlikeRows (kept_rows k room) (kept_rows k' room)
  kept_alike k k' =
      let p = runs_shuffled h k k' in
      let q = permuted_back p in (
        refl,
        (blind_rules.ids (run_of k) (run_of k') p, blind_rules.ids (run_of k') (run_of k) q),
        λ a a'. (
          refl,
          (blind_rules.sources (run_of k) (run_of k') p, blind_rules.sources (run_of k') (run_of k) q),
          λ b b'. (
            refl,
            (blind_rules.ranks (run_of k) (run_of k') p, blind_rules.ranks (run_of k') (run_of k) q),
            λ c c'. (
              refl,
              (blind_rules.clusters (run_of k) (run_of k') p, blind_rules.clusters (run_of k') (run_of k) q),
              λ e e'. run_alike k k' ((connected_parts (represented s k) a b).1 (c, e)) ((connected_parts (represented s' k') a' b').1 (c', e')),
            ),
          ),
        ),
      )

  group_alike : (o : Opened s) (o' : Opened s') → AlikeRows (group_rows o (λ k. kept_rows k room)) (group_rows o' (λ k. kept_rows k room))
  group_alike o o' = (
    refl,
    (rule5_to h o o', rule5_to back o' o),
    λ e e'. (
      refl,
      (rule6_to h o o' e e', rule6_to back o' o e' e),
      λ t t'.
          let p = runs h o o' e e' t t' in
          let q = permuted_back p in (
            refl,
            (rule7_to h o o' e e', rule7_to back o' o e' e),
            λ c c'. (
              refl,
              (blind_rules.counted t.run t'.run p, blind_rules.counted t'.run t.run q),
              λ m m'. (
                refl,
                (blind_rules.recognised t.run t'.run p, blind_rules.recognised t'.run t.run q),
                λ l l'. (
                  refl,
                  (blind_rules.withdrawn t.run t'.run p, blind_rules.withdrawn t'.run t.run q),
                  λ w w'. kept_alike (record { opened = o; rule5 = e; rule6 = t; rule7 = c; rule8 = m; rule9 = laid_out audio t.run l w }) (record { opened = o'; rule5 = e'; rule6 = t'; rule7 = c'; rule8 = m'; rule9 = laid_out audio t'.run l' w' }),
                ),
              ),
            ),
          ),
    ),
  )

  pub rows_alike : AlikeRows (table_of_rows s room) (table_of_rows s' room)
  rows_alike = (
    refl,
    (rule1_as h, rule1_as back),
    λ a a'. (
      refl,
      (rule2_as h, rule2_as back),
      λ b b'. (
        refl,
        (rule3_as h, rule3_as back),
        λ c c'. (
          refl,
          (opening_to h c.0 c'.0 (parted h c.0 c'.0 c.1 c'.1), opening_to back c'.0 c.0 (parted back c'.0 c.0 c'.1 c.1)),
          λ o o'. group_alike (opened a b c o) (opened a' b' c' o'),
        ),
      ),
    ),
  )
