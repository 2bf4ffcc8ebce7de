-- Two cuttings that differ in AudioControl interface descriptors alone, and in these behind byte 6: what the rules 4, 7 and 14 say of the one they say of
-- the other, with the same places. All of these read at most the first seven bytes of an AudioControl interface.
--   Like d e        ==  the two are the same, or two AudioControl interface descriptors of one length, with the same first seven bytes
--   Twins ds es     ==  descriptor by descriptor they are so; twins_self, twins_append, twins_back: a list and itself, two and two more, the other way
--   twins_in, twins_at  ==  what stands in the one has its like in the other, and what stands around it
--   twins_same      ==  where there is no AudioControl interface they are the same
--   rule4_to, rule7_to, rule14_to, breaks14_to  ==  THE LAWS, from the one to the other
use Prim.Native.Nat.{ℕ, ◌+◌, ◌<◌}
use mathlib.Core.Path.{◌≡◌, refl, sym, ap, ◌∙◌, subst}
use mathlib.Core.Logic.{◌⊎◌, inl, inr}
use mathlib.Core.List.Memᴰ
use mathlib.Core.List.{List, [], ◌∷◌, ◌++◌}
use lib.ListN.{length}
use native.Mathlib.Omega.{arith}
use Rattle.ground.specs.Numbers.{byte}
use Rattle.ground.specs.Lists.{SomeOf, total}
use Rattle.ground.specs.First.{Sound}
use Rattle.graph.specs.Members.{◌∈◌}
use Rattle.search.specs.Want.{Audio, Member}
use Rattle.layout.specs.declared.Cluster.{Cluster}
use Rattle.interfaces.specs.Rule4.{WrongInterface, not_nine, repeats, second_control, other_setting, Rule4}
use Rattle.collection.specs.Rule7.{Rule7}
use Rattle.groups.specs.Rules5and6.{GroupEnds, last, next}
use Rattle.streaming.specs.Rule14.{Group, Rule14, Breaks14}

pub data Like (d : List ℕ) : List ℕ → Type 0 where
  same : Like d d
  control : {e : List ℕ} → Audio 1 d → Audio 1 e → length d ≡ length e → ((i : ℕ) → i < 7 → byte d i ≡ byte e i) → Like d e

pub like_back : {d e : List ℕ} → Like d e → Like e d
like_back same = same
like_back (control a b l h) = control b a (sym l) (λ i n. sym (h i n))

pub like_byte : {d e : List ℕ} → Like d e → (i : ℕ) → i < 7 → byte d i ≡ byte e i
like_byte same i n = refl
like_byte (control a b l h) i n = h i n

pub like_long : {d e : List ℕ} → Like d e → length d ≡ length e
like_long same = refl
like_long (control a b l h) = l

like_same : {d e : List ℕ} → Like d e → (Audio 1 e → ⊥) → d ≡ e
like_same same n = refl
like_same (control a b l h) n = absurd (n b)

pub data Twins : List (List ℕ) → List (List ℕ) → Type 0 where
  none : Twins [] []
  more : {d e : List ℕ} {ds es : List (List ℕ)} → Like d e → Twins ds es → Twins (d ∷ ds) (e ∷ es)

pub twins_self : (ds : List (List ℕ)) → Twins ds ds
twins_self [] = none
twins_self (d ∷ ds) = more same (twins_self ds)

pub twins_append : {x y z w : List (List ℕ)} → Twins x y → Twins z w → Twins (x ++ z) (y ++ w)
twins_append none t = t
twins_append (more l u) t = more l (twins_append u t)

pub twins_back : {ds es : List (List ℕ)} → Twins ds es → Twins es ds
twins_back none = none
twins_back (more l t) = more (like_back l) (twins_back t)

pub twins_total : {ds es : List (List ℕ)} → Twins ds es → total ds ≡ total es
unfolding total
twins_total none = refl
twins_total (more l t) = let a = like_long l in let b = twins_total t in omega arith

twins_count : {ds es : List (List ℕ)} → Twins ds es → length ds ≡ length es
twins_count none = refl
twins_count (more l t) = let b = twins_count t in omega arith

pub twins_in : {ds es : List (List ℕ)} {e : List ℕ} → Twins ds es → e ∈ es → (d : List ℕ) × (d ∈ ds) × Like d e
twins_in none m = absurd (Memᴰ.not-nil m)
twins_in (more {d} l t) (Memᴰ.head q) = (d, Memᴰ.head refl, subst (Like d) (sym q) l)
twins_in (more l t) (Memᴰ.tail m) = let r = twins_in t m in (r.0, Memᴰ.tail r.1, r.2)

pub twins_same : {ds es : List (List ℕ)} → Twins ds es → ((e : List ℕ) → e ∈ es → Audio 1 e → ⊥) → ds ≡ es
twins_same none n = refl
twins_same (more {d} {e} {ds} {es} l t) n =
    ap (λ (x : List ℕ). x ∷ ds) (like_same l (n e (Memᴰ.head refl)))
    ∙ ap (λ (x : List (List ℕ)). e ∷ x) (twins_same t (λ c m. n c (Memᴰ.tail m)))

-- where e stands in the other, behind y and in front of z
pub record Beside (ds y : List (List ℕ)) (e : List ℕ) (z : List (List ℕ)) : Type 0 where
  pub before : List (List ℕ)
  pub one : List ℕ
  pub after : List (List ℕ)
  pub split : ds ≡ before ++ one ∷ after
  pub front : Twins before y
  pub like : Like one e
  pub rest : Twins after z

pub twins_at : {ds : List (List ℕ)} (y : List (List ℕ)) {e : List ℕ} {z : List (List ℕ)} → Twins ds (y ++ e ∷ z) → Beside ds y e z
twins_at [] (more {d} {ds = ds} l t) = record { before = []; one = d; after = ds; split = refl; front = none; like = l; rest = t }
twins_at (a ∷ y) (more {d} l t) =
    let r = twins_at y t in
    record {
      before = d ∷ r.before;
      one = r.one;
      after = r.after;
      split = ap (λ (x : List (List ℕ)). d ∷ x) r.split;
      front = more l r.front;
      like = r.like;
      rest = r.rest;
    }

twins_parts : {ds : List (List ℕ)} (y : List (List ℕ)) {z : List (List ℕ)} → Twins ds (y ++ z)
    → (a : List (List ℕ)) × (b : List (List ℕ)) × (ds ≡ a ++ b) × Twins a y × Twins b z
twins_parts {ds} [] t = ([], ds, refl, none, t)
twins_parts (e ∷ y) (more {d} l t) =
    let r = twins_parts y t in (d ∷ r.0, r.1, ap (λ (x : List (List ℕ)). d ∷ x) r.2, more l r.3, r.4)

pub audio_to : (k : ℕ) {d e : List ℕ} → Like d e → Audio k e → Audio k d
audio_to k l a = (like_byte l 1 (omega arith) ∙ a.0, (like_byte l 5 (omega arith) ∙ a.1.0, like_byte l 6 (omega arith) ∙ a.1.1))

streams_to : {d e : List ℕ} → Like d e → Audio 2 e ⊎ Audio 3 e → Audio 2 d ⊎ Audio 3 d
streams_to l (inl a) = inl (audio_to 2 l a)
streams_to l (inr a) = inr (audio_to 3 l a)

member_to : (k : ℕ) {d e : List ℕ} → Like d e → Member k e → Member k d
member_to k l m = (streams_to l m.0, like_byte l 2 (omega arith) ∙ m.1)

some_to : {P Q : List ℕ → Type 0} {ds es : List (List ℕ)} → ((d e : List ℕ) → Like d e → P e → Q d) → Twins ds es → SomeOf P es → SomeOf Q ds
some_to f t h = let r = twins_in t h.among in record { one = r.0; among = r.1; has = f r.0 h.one r.2 h.has }

wrong_to : {x y : List (List ℕ)} {d e : List ℕ} → Twins x y → Like d e → WrongInterface y e → WrongInterface x d
wrong_to t l (not_nine i n) = not_nine (like_byte l 1 (omega arith) ∙ i) (λ q. n (sym (like_long l) ∙ q))
wrong_to t l (repeats i s) =
    repeats (like_byte l 1 (omega arith) ∙ i)
    (some_to
    (λ c b m h. (
      like_byte m 1 (omega arith) ∙ h.0,
      (like_byte m 2 (omega arith) ∙ h.1.0 ∙ sym (like_byte l 2 (omega arith)), like_byte m 3 (omega arith) ∙ h.1.1 ∙ sym (like_byte l 3 (omega arith))),
    ))
    t s)
wrong_to t l (second_control a s) = second_control (audio_to 1 l a) (some_to (λ c b m. audio_to 1 m) t s)
wrong_to t l (other_setting a n) = other_setting (audio_to 1 l a) (λ q. n (sym (like_byte l 3 (omega arith)) ∙ q))

module _ {ds es : List (List ℕ)} (t : Twins ds es) where
  pub rule4_to : Rule4 ds → Rule4 es
  unfolding Sound
  rule4_to r = record {
    right = λ y e z q w.
        let h = twins_at y (subst (Twins ds) q t) in
        r.right h.before h.one h.after h.split (wrong_to h.front h.like w);
    control = some_to (λ c b m. audio_to 1 m) (twins_back t) r.control;
  }

  pub rule7_to : {l : List ℕ} → Rule7 ds l → Rule7 es l
  rule7_to {l} r = record {
    distinct = r.distinct;
    known = λ k m. some_to (λ c b q. member_to k q) (twins_back t) (r.known k m);
    all_listed = λ e m a.
        let h = twins_in t m in
        subst (λ (n : ℕ). n ∈ l) (like_byte h.2 2 (omega arith)) (r.all_listed h.0 h.1 (streams_to h.2 a));
  }

  ends_to : {x y : List (List ℕ)} → Twins x y → GroupEnds y → GroupEnds x
  ends_to none last = last
  ends_to (more l u) (next i) = next (like_byte l 1 (omega arith) ∙ i)

  -- a streaming group stands in both, with the same descriptors in it
  pub group_to : {y : List (List ℕ)} {i : List ℕ} {ms : List (List ℕ)} → Group es y i ms → Audio 2 i → (x : List (List ℕ)) × Twins x y × Group ds x i ms
  group_to {y} {i} {ms} g a =
      let h = twins_at y (subst (Twins ds) g.split t) in
      let p = twins_parts ms h.rest in
      let same_i : h.one ≡ i = like_same h.like (λ c. let u = a.1.1 in let v = c.1.1 in omega arith) in
      let same_ms : p.0 ≡ ms = twins_same p.3 (λ e m c. g.inside e m c.0) in (
        h.before,
        h.front,
        record {
          after = p.1;
          split =
              h.split
              ∙ ap (λ (x : List (List ℕ)). h.before ++ h.one ∷ x) p.2
              ∙ ap (λ (c : List ℕ). h.before ++ c ∷ (p.0 ++ p.1)) same_i
              ∙ ap (λ (x : List (List ℕ)). h.before ++ i ∷ (x ++ p.1)) same_ms;
          inside = g.inside;
          ends = ends_to p.4 g.ends;
        },
      )

  pub rule14_to : {run : List (List ℕ)} {c : ℕ → Cluster} → Rule14 run c ds → Rule14 run c es
  rule14_to r y i ms g a = let h = group_to g a in r h.0 i ms h.2 a

pub breaks14_to : {ds es : List (List ℕ)} → Twins ds es → {run : List (List ℕ)} {c : ℕ → Cluster} {p : ℕ} → Breaks14 run c ds p → Breaks14 run c es p
breaks14_to t b =
    let h = group_to (twins_back t) b.group b.streaming in
    record {
      before = h.0;
      interface = b.interface;
      members = b.members;
      group = h.2;
      streaming = b.streaming;
      broken = b.broken;
      place = b.place ∙ sym (twins_total h.1);
      kept_before = λ x j ms g l a.
          let k = group_to t g a in
          let m = twins_count k.1 in
          let n = twins_count h.1 in
          b.kept_before k.0 j ms k.2 (omega arith) a;
    }
