-- Rules 11 and 52 of the 3.0 edition, and what the reader computes from its array: they are one, number and place, for every run that stands for
-- descriptors by that edition.
--   lesser_nowhere   ==  the lesser of two places is nowhere exactly where both are
--   lesser_first     ==  where places rise, the lesser of two first places is the first place of either
--   reads_wrong_clock  ==  the test at an index decides that a Terminal's clock ID is no Clock Source's
--   clocks_nowhere   ==  breach_clock is nowhere exactly where the clocks are named
--   rule11_third_nowhere, rule11_third_at  ==  breach11_third is nowhere exactly where rule 11 is kept, and at q exactly where q is the place of the
--                        first descriptor that has a wrong source ID or a wrong clock ID; both where rule 10 is kept, the second where no
--                        descriptor is empty, so that places rise
--   reads_cluster_of ==  the search of a buffer for an ID decides that none of its cluster descriptors bears it
--   reads_unknown_cluster  ==  the test at an index decides that the entity names a cluster by an unknown ID
--   rule52_nowhere, rule52_at  ==  breach52 is nowhere exactly where rule 52 is kept, and at q exactly where q is the place of the first
--                        descriptor whose cluster ID is unknown
use Rattle.std.specs.Prelude.{ℕ, ◌≤◌, ◌<◌, ◌≡◌, refl, Bool, true, false, not, ◌||◌, ◌⊎◌, ◌↔◌, List, [], ltb, length, get_or, Option, Some, None}
use Rattle.std.proofs.Math.Path.{sym}
use Rattle.std.proofs.Common.{ap, ◌∙◌, arith, lt-ltb, le-ltb}
use Rattle.std.proofs.Math.Logic.{⊎_elim}
use Rattle.ground.specs.Pick.{pick, yes, no, Reads, reads_true, reads_eq, reads_lt, reads_and, reads_or, reads_not, reads_same, decided, true≠false}
use Rattle.ground.specs.Lists.{any, member_at, member_index}
use Rattle.ground.specs.First.{Breaks, first_nowhere, sound_each}
use Rattle.ground.specs.Places.{first_in, FirstAt, Finding, nothing, first, finding, first_none, first_some, reads_somewhere, breach_nowhere, breach_at}
use Rattle.graph.specs.Members.{◌∈◌}
use Rattle.edition.specs.Edition.{own_id}
use Rattle.buffer.specs.Clusters.{cluster_id}
use Rattle.buffer.specs.Reading.{pieces, bearing, found_cluster}
use Rattle.edition3.specs.Third.{said_by, third, UnknownCluster, Rule52, WrongClock}
use Rattle.entities.specs.declared.Run.{Run}
use Rattle.entities.specs.Run.{held, id_at, kind_at, place_at, sources_at}
use Rattle.entities.specs.Represents.{Represents}
use Rattle.entities.specs.RepresentsLaws.{sound_each_of, breaks_each_of, places_rise}
use Rattle.ids.specs.Rule10.{Rule10}
use Rattle.ids.specs.Rule10Laws.{inside}
use Rattle.sources.specs.Breach.{wrong_source, breach11}
use Rattle.sources.specs.Rule11Laws.{reads_sources, rule11_nowhere}
use Rattle.links3.specs.Links.{said_at, is_clock_at, clock_below, wrong_clock_by, breach_clock, lesser, breach11_third, is_nowhere, unknown_by, breach52}
use Rattle.links3.specs.Rules.{ClocksNamed, WrongLinks, Rule11Third, rule11_third_parts}

pub lesser_nowhere : (a b : Option ℕ) → (lesser a b ≡ None) ↔ ((a ≡ None) × (b ≡ None))
unfolding lesser
lesser_nowhere None b = (λ e. (refl, e), λ h. h.1)
lesser_nowhere (Some p) None = (λ e. (e, refl), λ h. h.0)
lesser_nowhere (Some p) (Some q) = (λ e. absurd (some (ltb q p) e), λ h. let z : ◌≡◌ {A = ℕ} 0 1 = let y = h.0 in cc in absurd (omega arith))
  where
    some : (c : Bool) → pick c (Some q) (Some p) ≡ None → ⊥
    some true e = let z : ◌≡◌ {A = ℕ} 0 1 = cc in omega arith
    some false e = let z : ◌≡◌ {A = ℕ} 0 1 = cc in omega arith

module _ (n : ℕ) (place : ℕ → ℕ) (rise : (i j : ℕ) → i < j → j < n → place i < place j) (t u : ℕ → Bool) where
  abbrev found : ℕ → Option ℕ
  found i = Some (place i)

  abbrev either : ℕ → Bool
  either i = t i || u i

  left : (i : ℕ) → t i ≡ true → either i ≡ true
  left i e = ap (λ (b : Bool). b || u i) e

  right : (i : ℕ) → u i ≡ true → either i ≡ true
  right i e = go (t i)
    where
      go : (b : Bool) → b || u i ≡ true
      go true = refl
      go false = e

  neither : (i : ℕ) → t i ≡ false → u i ≡ false → either i ≡ false
  neither i e f = ap (λ (b : Bool). b || u i) e ∙ f

  here : (i : ℕ) → FirstAt either n i → Some (place i) ≡ first_in either found None 0 n
  here i f = sym (first_some either found None n i f)

  pub lesser_first : lesser (first_in t found None 0 n) (first_in u found None 0 n) ≡ first_in either found None 0 n
  unfolding lesser
  lesser_first = go (finding t found None n) (finding u found None n)
    where
      go : {a b : Option ℕ} → Finding t found None n a → Finding u found None n b → lesser a b ≡ first_in either found None 0 n
      go (nothing h) (nothing k) = sym (first_none either found None n (λ i l. neither i (h i l) (k i l)))
      go (nothing h) (first {i = j} g) =
          here j (record { inside = g.inside; passes = right j g.passes; none_before = λ i l. let m = g.inside in neither i (h i (omega arith)) (g.none_before i l) })
      go (first {i} f) (nothing k) =
          here i (record { inside = f.inside; passes = left i f.passes; none_before = λ j l. let m = f.inside in neither j (f.none_before j l) (k j (omega arith)) })
      go (first {i} f) (first {i = j} g) = ⊎_elim second one (decided (ltb j i) (reads_lt j i))
        where
          second : j < i → pick (ltb (place j) (place i)) (Some (place j)) (Some (place i)) ≡ first_in either found None 0 n
          second l =
              yes _ _ (lt-ltb (place j) (place i) (rise j i l f.inside))
              ∙ here j (record { inside = g.inside; passes = right j g.passes; none_before = λ m h. neither m (f.none_before m (omega arith)) (g.none_before m h) })

          one : (j < i → ⊥) → pick (ltb (place j) (place i)) (Some (place j)) (Some (place i)) ≡ first_in either found None 0 n
          one l =
              no _ _ (le-ltb (place j) (place i) low)
              ∙ here i (record { inside = f.inside; passes = left i f.passes; none_before = λ m h. neither m (f.none_before m h) (g.none_before m (omega arith)) })
            where
              low : place i ≤ place j
              low =
                  ⊎_elim
                  (λ (m : i < j). let r = rise i j m g.inside in omega arith)
                  (λ (m : i < j → ⊥). let e : i ≡ j = omega arith in rw e (omega arith))
                  (decided (ltb i j) (reads_lt i j))

reads_nowhere : (r : Option ℕ) → Reads (is_nowhere r) (r ≡ None)
unfolding is_nowhere
reads_nowhere None = record { says = λ e. refl; denies = λ e. absurd (true≠false e) }
reads_nowhere (Some p) = record { says = λ e. absurd (true≠false (sym e)); denies = λ e h. let z : ◌≡◌ {A = ℕ} 0 1 = cc in omega arith }

pub reads_cluster_of : (b : List ℕ) (x : ℕ) → Reads (is_nowhere (found_cluster b x)) ((c : List ℕ) → c ∈ pieces b → cluster_id c ≡ x → ⊥)
unfolding found_cluster
reads_cluster_of b x =
    let f = first_nowhere (λ o c. bearing x c) (λ o c. cluster_id c ≡ x) (λ o c. reads_eq (cluster_id c) x) 0 (pieces b) in
    let g = sound_each (λ c. cluster_id c ≡ x) (pieces b) in
    reads_same (reads_nowhere _) (λ e. g.0 (f.0 e)) (λ h. f.1 (g.1 h))

-- the tests at an index
module _ (s : List ℕ) (run : Run) where
  abbrev wrong_clock : ℕ → Bool
  wrong_clock i = wrong_clock_by (clock_below run (held run)) (said_at s run i)

  abbrev wrong_links : ℕ → Bool
  wrong_links i = any (wrong_source run) (sources_at s run i) || wrong_clock i

  abbrev unknown_at : List ℕ → ℕ → Bool
  unknown_at b i = unknown_by b (said_at s run i)

-- what rule 11 says of a clock ID that is wrong
abbrev NoClock : List (List ℕ) → ℕ → Type 0
NoClock ds x = (e : List ℕ) → e ∈ ds → own_id e ≡ x → (said_by e).kind ≡ 0x0B → ⊥

module _ (ks : List (List ℕ)) {s : List ℕ} {p : ℕ} {ds : List (List ℕ)} {run : Run} (k : Represents (third ks) s p ds run) where
  reads_clock_of : (x : ℕ) → Reads (not (clock_below run (held run) x)) (NoClock ds x)
  reads_clock_of x = reads_same (reads_not _ (reads_somewhere (is_clock_at run x) ClockAt (held run) at)) to of
    where
      ClockAt : ℕ → Type 0
      ClockAt i = (id_at run i ≡ x) × (kind_at run i ≡ 0x0B)

      at : (i : ℕ) → i < held run → Reads (is_clock_at run x i) (ClockAt i)
      at i l = reads_and _ _ (reads_eq (id_at run i) x) (reads_eq (kind_at run i) 0x0B)

      to : ((i : ℕ) × (i < held run) × ClockAt i → ⊥) → NoClock ds x
      to f e m q z =
          let j = member_index [] m in
          f (j.0, rw k.counted j.1, (k.id j.0 j.1 ∙ ap own_id j.2 ∙ q, k.kind j.0 j.1 ∙ ap (λ (d : List ℕ). (said_by d).kind) j.2 ∙ z))

      of : NoClock ds x → (i : ℕ) × (i < held run) × ClockAt i → ⊥
      of f (i, l, q) =
          let n = inside k l in
          f (get_or ds i []) (member_at [] ds i n) (sym (k.id i n) ∙ q.0) (sym (k.kind i n) ∙ q.1)

  pub reads_wrong_clock : (i : ℕ) → i < held run → Reads (wrong_clock s run i) (WrongClock ds (get_or ds i []))
  unfolding wrong_clock_by
  reads_wrong_clock i l = rw (k.bytes i (inside k l)) (reads_and _ _ (reads_true _) (reads_clock_of (said_by (get_or ds i [])).clock))

  pub clocks_nowhere : (breach_clock s run ≡ None) ↔ ClocksNamed ds
  unfolding breach_clock
  clocks_nowhere =
      let b = breach_nowhere (held run) (place_at run) (λ i. WrongClock ds (get_or ds i [])) (wrong_clock s run) reads_wrong_clock in
      let c = sound_each_of k (WrongClock ds) in
      (λ e. c.0 (b.0 e), λ r. b.1 (c.1 r))

  module _ (kept : Rule10 ds) where
    pub rule11_third_nowhere : (breach11_third s run ≡ None) ↔ Rule11Third ks ds
    unfolding breach11_third
    rule11_third_nowhere =
        let a = lesser_nowhere (breach11 s run) (breach_clock s run) in
        let b = rule11_nowhere k kept in
        let d = rule11_third_parts ks ds in
        (λ e. d.1 (b.0 (a.0 e).0, clocks_nowhere.0 (a.0 e).1), λ r. a.1 (b.1 (d.0 r).0, clocks_nowhere.1 (d.0 r).1))

    wrong_at : (i : ℕ) → i < held run → Reads (wrong_links s run i) (WrongLinks ks ds (get_or ds i []))
    wrong_at i l = reads_or _ _ (reads_sources k kept i l) (reads_wrong_clock i l)

    module _ (some : (d : List ℕ) → d ∈ ds → 0 < length d) where
      first_either : breach11_third s run ≡ first_in (wrong_links s run) (λ i. Some (place_at run i)) None 0 (held run)
      unfolding breach11_third breach11 breach_clock
      first_either = lesser_first (held run) (place_at run) (places_rise k some) (λ i. any (wrong_source run) (sources_at s run i)) (wrong_clock s run)

      pub rule11_third_at : (q : ℕ) → (breach11_third s run ≡ Some q) ↔ Breaks (λ b d. WrongLinks ks ds d) p ds q
      rule11_third_at q =
          let b = breach_at (held run) (place_at run) (λ i. WrongLinks ks ds (get_or ds i [])) (wrong_links s run) wrong_at q in
          let c = breaks_each_of k (WrongLinks ks ds) q in
          (λ e. c.0 (b.0 (sym first_either ∙ e)), λ r. first_either ∙ b.1 (c.1 r))

  module _ (b : List ℕ) (e : pieces b ≡ ks) where
    pub reads_unknown_cluster : (i : ℕ) → i < held run → Reads (unknown_at s run b i) (UnknownCluster ks (get_or ds i []))
    unfolding unknown_by
    reads_unknown_cluster i l = rw (k.bytes i (inside k l), ← e) (reads_and _ _ (reads_true _) (reads_cluster_of b (said_by (get_or ds i [])).cluster))

    pub rule52_nowhere : (breach52 s b run ≡ None) ↔ Rule52 ks ds
    unfolding breach52
    rule52_nowhere =
        let a = breach_nowhere (held run) (place_at run) (λ i. UnknownCluster ks (get_or ds i [])) (unknown_at s run b) reads_unknown_cluster in
        let c = sound_each_of k (UnknownCluster ks) in
        (λ h. c.0 (a.0 h), λ r. a.1 (c.1 r))

    pub rule52_at : (q : ℕ) → (breach52 s b run ≡ Some q) ↔ Breaks (λ o d. UnknownCluster ks d) p ds q
    unfolding breach52
    rule52_at q =
        let a = breach_at (held run) (place_at run) (λ i. UnknownCluster ks (get_or ds i [])) (unknown_at s run b) reads_unknown_cluster q in
        let c = breaks_each_of k (UnknownCluster ks) q in
        (λ h. c.0 (a.0 h), λ r. a.1 (c.1 r))
