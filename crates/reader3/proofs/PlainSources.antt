-- The rules 9, 11 and 52 of the 3.0 edition, and what is said plainly of the bytes, are one.
--   clock_kind        ==  what is shown as 0B is a Clock Source of 001; clock_shown: and the other way round
--   laid_plainly, plainly_laid  ==  a layout of 001, and the kind's length and pins
--   each_plainly, plainly_each  ==  what holds of each source ID, and of those that stand where the kind has them
--   named_plainly, plainly_named  ==  a source ID that is not wrong, and one that is named, where IDs are distinct
--   clocked_plainly, plainly_clocked  ==  a clock ID that is not wrong, and one that names a Clock Source
--   links_plainly     ==  so rule 11, of one descriptor
--   unknown_plainly   ==  a cluster ID that is unknown, where its kind has it
use Prim.Native.Nat.{ℕ, ◌<◌}
use mathlib.Core.Path.{◌≡◌, refl, sym, ap, ◌∙◌, subst}
use mathlib.Core.Bool.{true, false, ◌&&◌}
use mathlib.Core.List.Memᴰ
use mathlib.Core.List.{List}
use mathlib.Core.Logic.{◌⊎◌, inl, inr, ⊎_elim, ◌↔◌}
use lib.ListN.{length, take, drop}
use lib.Dec.{eqb}
use native.Mathlib.Omega.{arith}
use Rattle.ground.specs.Pick.{decided, reads_eq, reads_and, true≠false}
use Rattle.ground.specs.Numbers.{byte}
use Rattle.ground.specs.Lists.{SomeOf, reads_any}
use Rattle.graph.specs.Members.{◌∈◌}
use Rattle.layout.specs.FormatLaws.{one_at}
use Rattle.layout3.specs.declared.Entity.{Entity}
use Rattle.layout3.specs.Layouts.{LaidOut}
use Rattle.layout3.specs.Facts.{facts_of}
use Rattle.layout3.specs.Layout.{entity_of, is_unknown}
use Rattle.layout3.specs.LayoutLaws.{Told, told, unknown, input, output, mixer, selector, feature, clock, reads_unknown, laid_decided, kind_input, kind_output, kind_mixer, kind_selector, kind_feature, kind_clock, input_right, output_right, mixer_right, selector_right, feature_right, clock_right}
use Rattle.edition.specs.Edition.{own_id}
use Rattle.buffer.specs.Clusters.{cluster_id}
use Rattle.edition3.specs.Third.{said_by, third, UnknownCluster, WrongClock}
use Rattle.links3.specs.Rules.{WrongLinks}
use Rattle.ids.specs.Rule10.{Rule10}
use Rattle.ids.specs.OwnIds.{own_one}
use Rattle.sources.specs.Rule11.{WrongSource, zero_source, no_output}
use Rattle.sources.specs.Rule11 as source
use Rattle.reader3.specs.Plainly.{LaidPlainly, EachSource, SourceNamed, ClockNamed, ClockedPlainly, UnknownPlainly}
use Rattle.reader3.specs.Plainly as plain

-- what is shown as 0B is a Clock Source of 001
pub clock_kind : (d : List ℕ) → LaidOut d → (said_by d).kind ≡ 0x0B → byte d 2 ≡ 0x0B
unfolding facts_of
clock_kind d o = of (told d)
  where
    of : {e : Entity} → Told d e → (facts_of e).kind ≡ 0x0B → byte d 2 ≡ 0x0B
    of (unknown n) e = absurd (n o)
    of (input l k i) e = absurd (omega arith)
    of (output l k i) e = absurd (omega arith)
    of (mixer l k q i) e = absurd (omega arith)
    of (selector l k q i) e = absurd (omega arith)
    of (feature l k i) e = absurd (omega arith)
    of (clock l k i) e = k

clock_shown : (d : List ℕ) → LaidOut d → byte d 2 ≡ 0x0B → (said_by d).kind ≡ 0x0B
unfolding facts_of
clock_shown d o = of (told d)
  where
    of : {e : Entity} → Told d e → byte d 2 ≡ 0x0B → (facts_of e).kind ≡ 0x0B
    of (unknown n) e = absurd (n o)
    of (input l k i) e = absurd (omega arith)
    of (output l k i) e = absurd (omega arith)
    of (mixer l k q i) e = absurd (omega arith)
    of (selector l k q i) e = absurd (omega arith)
    of (feature l k i) e = absurd (omega arith)
    of (clock l k i) e = refl

-- a layout of 001, and the kind's length and pins
pub laid_plainly : (d : List ℕ) → LaidOut d → LaidPlainly d
laid_plainly d o = of (told d)
  where
    of : {e : Entity} → Told d e → LaidPlainly d
    of (unknown n) = absurd (n o)
    of (input l k i) = plain.input k i
    of (output l k i) = plain.output k i
    of (mixer l k p i) = plain.mixer k p i
    of (selector l k p i) = plain.selector k p i
    of (feature l k i) = plain.feature k i
    of (clock l k i) = plain.clock k i

known_laid : (d : List ℕ) {x : Entity} → entity_of d ≡ x → is_unknown x ≡ false → LaidOut d
known_laid d e f = ⊎_elim (λ o. o) (λ n. absurd ((reads_unknown d).denies (ap is_unknown e ∙ f) n)) (laid_decided d)

pub plainly_laid : (d : List ℕ) → LaidPlainly d → LaidOut d
unfolding is_unknown
plainly_laid d (plain.input k i) = known_laid d (kind_input d k ∙ input_right d i) refl
plainly_laid d (plain.output k i) = known_laid d (kind_output d k ∙ output_right d i) refl
plainly_laid d (plain.mixer k p i) = known_laid d (kind_mixer d k ∙ mixer_right d p i) refl
plainly_laid d (plain.selector k p i) = known_laid d (kind_selector d k ∙ selector_right d p i) refl
plainly_laid d (plain.feature k i) = known_laid d (kind_feature d k ∙ feature_right d i) refl
plainly_laid d (plain.clock k i) = known_laid d (kind_clock d k ∙ clock_right d i) refl

-- the source IDs of a descriptor, where its kind has them
module _ (P : ℕ → Type 0) (d : List ℕ) (o : LaidOut d) where
  abbrev ids : Entity → List ℕ
  ids x = take (facts_of x).pins (drop (facts_of x).first d)

  one_source : (k : ℕ) → k < length d → ((x : ℕ) → x ∈ take 1 (drop k d) → P x) → P (byte d k)
  one_source k l h = h (byte d k) (subst (λ (r : List ℕ). byte d k ∈ r) (one_at d k l) (Memᴰ.head refl))

  source_one : (k : ℕ) → k < length d → P (byte d k) → (x : ℕ) → x ∈ take 1 (drop k d) → P x
  source_one k l h x m =
      ⊎_elim (λ e. subst P (sym e) h) (λ n. absurd (Memᴰ.not-nil n))
      (Memᴰ.cases_cons (subst (λ (r : List ℕ). x ∈ r) (sym (one_at d k l)) m))

  pub each_plainly : ((x : ℕ) → x ∈ ids (entity_of d) → P x) → EachSource P d
  unfolding facts_of
  each_plainly = of (told d)
    where
      of : {e : Entity} → Told d e → ((x : ℕ) → x ∈ ids e → P x) → EachSource P d
      of (unknown n) h = absurd (n o)
      of (input l k i) h = record {
        output = λ q. absurd (omega arith);
        mixer = λ q. absurd (omega arith);
        selector = λ q. absurd (omega arith);
        feature = λ q. absurd (omega arith);
      }
      of (output l k i) h = record {
        output = λ q. one_source 7 (omega arith) h;
        mixer = λ q. absurd (omega arith);
        selector = λ q. absurd (omega arith);
        feature = λ q. absurd (omega arith);
      }
      of (mixer l k p i) h = record {
        output = λ q. absurd (omega arith);
        mixer = λ q. h;
        selector = λ q. absurd (omega arith);
        feature = λ q. absurd (omega arith);
      }
      of (selector l k p i) h = record {
        output = λ q. absurd (omega arith);
        mixer = λ q. absurd (omega arith);
        selector = λ q. h;
        feature = λ q. absurd (omega arith);
      }
      of (feature l k i) h = record {
        output = λ q. absurd (omega arith);
        mixer = λ q. absurd (omega arith);
        selector = λ q. absurd (omega arith);
        feature = λ q. one_source 4 (omega arith) h;
      }
      of (clock l k i) h = record {
        output = λ q. absurd (omega arith);
        mixer = λ q. absurd (omega arith);
        selector = λ q. absurd (omega arith);
        feature = λ q. absurd (omega arith);
      }

  pub plainly_each : EachSource P d → (x : ℕ) → x ∈ ids (entity_of d) → P x
  unfolding facts_of
  plainly_each h = of (told d)
    where
      of : {e : Entity} → Told d e → (x : ℕ) → x ∈ ids e → P x
      of (unknown n) = absurd (n o)
      of (input l k i) = λ x m. absurd (Memᴰ.not-nil m)
      of (output l k i) = source_one 7 (omega arith) (h.output k)
      of (mixer l k p i) = h.mixer k
      of (selector l k p i) = h.selector k
      of (feature l k i) = source_one 4 (omega arith) (h.feature k)
      of (clock l k i) = λ x m. absurd (Memᴰ.not-nil m)

-- who has no output is an Output Terminal or a Clock Source
no_feed : (d : List ℕ) → LaidOut d → (said_by d).feeds ≡ false → (byte d 2 ≡ 3) ⊎ (byte d 2 ≡ 0x0B)
unfolding facts_of
no_feed d o = of (told d)
  where
    of : {e : Entity} → Told d e → (facts_of e).feeds ≡ false → (byte d 2 ≡ 3) ⊎ (byte d 2 ≡ 0x0B)
    of (unknown n) f = absurd (n o)
    of (input l k i) f = absurd (true≠false f)
    of (output l k i) f = inl k
    of (mixer l k p i) f = absurd (true≠false f)
    of (selector l k p i) f = absurd (true≠false f)
    of (feature l k i) f = absurd (true≠false f)
    of (clock l k i) f = inr k

feeds_not : (d : List ℕ) → LaidOut d → (byte d 2 ≡ 3) ⊎ (byte d 2 ≡ 0x0B) → (said_by d).feeds ≡ false
unfolding facts_of
feeds_not d o = of (told d)
  where
    no : {n : ℕ} → byte d 2 ≡ n → (n ≡ 3 → ⊥) → (n ≡ 0x0B → ⊥) → (byte d 2 ≡ 3) ⊎ (byte d 2 ≡ 0x0B) → ⊥
    no k a b = ⊎_elim (λ e. a (sym k ∙ e)) (λ e. b (sym k ∙ e))

    of : {e : Entity} → Told d e → (byte d 2 ≡ 3) ⊎ (byte d 2 ≡ 0x0B) → (facts_of e).feeds ≡ false
    of (unknown n) f = absurd (n o)
    of (input l k i) f = absurd (no k (λ e. omega arith) (λ e. omega arith) f)
    of (output l k i) f = refl
    of (mixer l k p i) f = absurd (no k (λ e. omega arith) (λ e. omega arith) f)
    of (selector l k p i) f = absurd (no k (λ e. omega arith) (λ e. omega arith) f)
    of (feature l k i) f = absurd (no k (λ e. omega arith) (λ e. omega arith) f)
    of (clock l k i) f = refl

-- rule 11, of one source ID
module _ (ks ds : List (List ℕ)) (laid : (e : List ℕ) → e ∈ ds → LaidOut e) (x : ℕ) where
  pub named_plainly : SomeOf (λ e. own_id e ≡ x) ds → (WrongSource (third ks) ds x → ⊥) → SourceNamed ds x
  named_plainly b n = (
    λ z. n (zero_source z),
    record { one = b.one; among = b.among; has = (b.has, λ k. fed (inl k), λ k. fed (inr k)) },
  )
    where
      fed : (byte b.one 2 ≡ 3) ⊎ (byte b.one 2 ≡ 0x0B) → ⊥
      fed k = n (no_output b.one b.among b.has (feeds_not b.one (laid b.one b.among) k))

  pub plainly_named : Rule10 ds → SourceNamed ds x → WrongSource (third ks) ds x → ⊥
  plainly_named r (n, b) (zero_source z) = n z
  plainly_named r (n, b) (source.unknown f) = f b.one b.among b.has.0
  plainly_named r (n, b) (no_output d m q f) =
      let same : d ≡ b.one = own_one ds r d b.one m b.among (q ∙ sym b.has.0) in
      ⊎_elim b.has.1 b.has.2 (no_feed b.one (laid b.one b.among) (ap (λ (e : List ℕ). (said_by e).feeds) (sym same) ∙ f))

-- clocks, of a run whose descriptors have their layouts
module _ (ds : List (List ℕ)) (laid : (e : List ℕ) → e ∈ ds → LaidOut e) (d : List ℕ) (o : LaidOut d) where
  -- there is such a Clock Source, where not none is
  named : (x : ℕ) → (((e : List ℕ) → e ∈ ds → own_id e ≡ x → (said_by e).kind ≡ 0x0B → ⊥) → ⊥) → ClockNamed ds x
  named x n =
      ⊎_elim (λ h. h) (λ none. absurd (n (λ e m q z. none (record { one = e; among = m; has = (q, clock_kind e (laid e m) z) }))))
      (decided _ (reads_any (λ e. eqb (own_id e) x && eqb (byte e 2) 0x0B) (λ e. (own_id e ≡ x) × (byte e 2 ≡ 0x0B)) (λ e. reads_and _ _ (reads_eq (own_id e) x) (reads_eq (byte e 2) 0x0B)) ds))

  unnamed : (x : ℕ) → ClockNamed ds x → ((e : List ℕ) → e ∈ ds → own_id e ≡ x → (said_by e).kind ≡ 0x0B → ⊥) → ⊥
  unnamed x h n = n h.one h.among h.has.0 (clock_shown h.one (laid h.one h.among) h.has.1)

  pub clocked_plainly : (WrongClock ds d → ⊥) → ClockedPlainly ds d
  unfolding facts_of
  clocked_plainly = go (told d)
    where
      go : {x : Entity} → Told d x → (((facts_of x).clocked ≡ true) × ((e : List ℕ) → e ∈ ds → own_id e ≡ (facts_of x).clock → (said_by e).kind ≡ 0x0B → ⊥) → ⊥) → ClockedPlainly ds d
      go (unknown n) w = absurd (n o)
      go (input l k i) w = record { input = λ q. named (byte d 7) (λ n. w (refl, n)); output = λ q. absurd (omega arith) }
      go (output l k i) w = record { input = λ q. absurd (omega arith); output = λ q. named (byte d 8) (λ n. w (refl, n)) }
      go (mixer l k p i) w = record { input = λ q. absurd (omega arith); output = λ q. absurd (omega arith) }
      go (selector l k p i) w = record { input = λ q. absurd (omega arith); output = λ q. absurd (omega arith) }
      go (feature l k i) w = record { input = λ q. absurd (omega arith); output = λ q. absurd (omega arith) }
      go (clock l k i) w = record { input = λ q. absurd (omega arith); output = λ q. absurd (omega arith) }

  pub plainly_clocked : ClockedPlainly ds d → WrongClock ds d → ⊥
  unfolding facts_of
  plainly_clocked h = go (told d)
    where
      go : {x : Entity} → Told d x → ((facts_of x).clocked ≡ true) × ((e : List ℕ) → e ∈ ds → own_id e ≡ (facts_of x).clock → (said_by e).kind ≡ 0x0B → ⊥) → ⊥
      go (unknown n) w = n o
      go (input l k i) w = unnamed (byte d 7) (h.input k) w.1
      go (output l k i) w = unnamed (byte d 8) (h.output k) w.1
      go (mixer l k p i) w = true≠false (sym w.0)
      go (selector l k p i) w = true≠false (sym w.0)
      go (feature l k i) w = true≠false (sym w.0)
      go (clock l k i) w = true≠false (sym w.0)

-- rule 11, of one descriptor of such a run
module _ (ks ds : List (List ℕ)) (laid : (e : List ℕ) → e ∈ ds → LaidOut e) where
  bears : (x : ℕ) → (WrongSource (third ks) ds x → ⊥) → SomeOf (λ e. own_id e ≡ x) ds
  bears x n =
      ⊎_elim (λ h. h) (λ none. absurd (n (source.unknown (λ e m q. none (record { one = e; among = m; has = q })))))
      (decided _ (reads_any (λ e. eqb (own_id e) x) (λ e. own_id e ≡ x) (λ e. reads_eq (own_id e) x) ds))

  pub links_plainly : Rule10 ds → (d : List ℕ) → d ∈ ds → (WrongLinks ks ds d → ⊥) ↔ (EachSource (SourceNamed ds) d × ClockedPlainly ds d)
  links_plainly r d m = (
    λ n. (
      each_plainly (SourceNamed ds) d (laid d m) (λ x i.
          let right : WrongSource (third ks) ds x → ⊥ = λ w. n (inl (record { one = x; among = i; has = w })) in
          named_plainly ks ds laid x (bears x right) right),
      clocked_plainly ds laid d (laid d m) (λ w. n (inr w)),
    ),
    λ h. ⊎_elim
        (λ w. plainly_named ks ds laid w.one r (plainly_each (SourceNamed ds) d (laid d m) h.0 w.one w.among) w.has)
        (plainly_clocked ds laid d (laid d m) h.1),
  )

-- refusal 52, of one descriptor
module _ (ks : List (List ℕ)) (d : List ℕ) (o : LaidOut d) where
  abbrev unborne : Entity → Type 0
  unborne x = ((facts_of x).declares ≡ true) × ((k : List ℕ) → k ∈ ks → cluster_id k ≡ (facts_of x).cluster → ⊥)

  pub unknown_plainly : UnknownCluster ks d ↔ UnknownPlainly ks d
  unfolding facts_of
  unknown_plainly = (to (told d), of (told d))
    where
      to : {x : Entity} → Told d x → unborne x → UnknownPlainly ks d
      to (unknown n) w = absurd (n o)
      to (input l k i) w = inl (k, w.1)
      to (output l k i) w = absurd (true≠false (sym w.0))
      to (mixer l k p i) w = inr (k, w.1)
      to (selector l k p i) w = absurd (true≠false (sym w.0))
      to (feature l k i) w = absurd (true≠false (sym w.0))
      to (clock l k i) w = absurd (true≠false (sym w.0))

      other : {n : ℕ} → byte d 2 ≡ n → (n ≡ 2 → ⊥) → (n ≡ 5 → ⊥) → UnknownPlainly ks d → ⊥
      other k a b = ⊎_elim (λ w. a (sym k ∙ w.0)) (λ w. b (sym k ∙ w.0))

      of : {x : Entity} → Told d x → UnknownPlainly ks d → unborne x
      of (unknown n) w = absurd (n o)
      of (input l k i) (inl w) = (refl, w.1)
      of (input l k i) (inr w) = let q = w.0 in absurd (omega arith)
      of (output l k i) w = absurd (other k (λ e. omega arith) (λ e. omega arith) w)
      of (mixer l k p i) (inl w) = let q = w.0 in absurd (omega arith)
      of (mixer l k p i) (inr w) = (refl, w.1)
      of (selector l k p i) w = absurd (other k (λ e. omega arith) (λ e. omega arith) w)
      of (feature l k i) w = absurd (other k (λ e. omega arith) (λ e. omega arith) w)
      of (clock l k i) w = absurd (other k (λ e. omega arith) (λ e. omega arith) w)
