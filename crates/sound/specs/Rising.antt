-- Refusal 30's "a control twice", asked in one pass: where in each unit a later index has a higher channel or the same and a
-- higher selector, no control stands twice. Where that is not so, each control is looked for among all earlier ones.
--   key_of c            ==  unit, channel and selector as one number; Keyed c k: k is that, of bytes
--   same_key, key_same ==  controls have one key exactly where they are the same
--   key_among keys n k  ==  k is one of the first n keys
--   Passed t n         ==  30 has nothing against the first n controls by themselves, and none of them stands twice
--   passed_many        ==  "over 128 controls"
--   passed_start, passed_on, passed_unsound, passed_twin, passed_over  ==  a loop's start, its turns and its end
--   TopsAbove t tops n  ==  .. and tops has for each unit a number above the keys of its controls among them
--   rising_alone       ==  a control whose key is not below its unit's top stands at no earlier index: where keys rise, none stands twice
--   rising_start, rising_few, rising_inside, rising_unsound, rising_on, rising_over  ==  the loop that asks while keys rise
--   KeysKept t keys n  ==  .. and keys has their keys
--   kept_start, kept_inside, kept_unsound, kept_twin, kept_on, kept_over  ==  the loop that looks among all earlier ones
use Rattle.std.specs.Prelude.{ℕ, ◌+◌, ◌*◌, ◌<◌, ◌≤◌, ◌≡◌, refl, List, Bool, true, false, not, eqb, length, get_or, set, replicate}
use Rattle.std.proofs.Common.{sym, ap, ◌∙◌, ⊎_elim, arith, eq-or-lt_of_le, length-set, get_or-set_same, get_or-set_other}
use Rattle.std.proofs.lemmas.Bool.{lt-leb, not-true, not-false}
use Rattle.ground.specs.Pick.{Reads, shows, refutes, decided, reads_eq}
use Rattle.ground.specs.Places.{somewhere, reads_somewhere}
use Rattle.table.specs.declared.Control.{Control}
use Rattle.table.specs.declared.Table.{Table}
use Rattle.table.specs.Controls.{most_controls, at}
use Rattle.table.specs.Same.{Same}
use Rattle.single.specs.Tests.{sound_control}
use Rattle.single.specs.Meaning.{sound_control_lem}
use Rattle.sound.specs.Sound.{sound_of}
use Rattle.sound.specs.Meaning.{Sound, sound_reads}

unfoldable pub key_of : Control → ℕ
key_of c = c.unit * 65536 + c.channel * 256 + c.selector

pub record Keyed (c : Control) (k : ℕ) : Type 0 where
  pub is : k ≡ key_of c
  pub small : k < 16777216
  pub channel : c.channel < 256
  pub selector : c.selector < 256

pub same_key : (a b : Control) → Same a b → key_of a ≡ key_of b
unfolding key_of
same_key a b h = rw (h.unit, h.channel, h.selector)

module _ (u v x y m n : ℕ) (h : x < 256) (i : y < 256) (j : m < 256) (k : n < 256) (e : u * 65536 + x * 256 + m ≡ v * 65536 + y * 256 + n) where
  key_unit : u ≡ v
  key_unit = omega arith

  key_channel : x ≡ y
  key_channel = let q = key_unit in omega arith

  key_selector : m ≡ n
  key_selector = let q = key_unit in let r = key_channel in omega arith

pub key_same : (a b : Control) (j k : ℕ) → Keyed a j → Keyed b k → j ≡ k → Same a b
unfolding key_of
key_same a b j k g h e =
    let q : a.unit * 65536 + a.channel * 256 + a.selector ≡ b.unit * 65536 + b.channel * 256 + b.selector = sym g.is ∙ e ∙ h.is in
    record {
      unit = key_unit a.unit b.unit a.channel b.channel a.selector b.selector g.channel h.channel g.selector h.selector q;
      channel = key_channel a.unit b.unit a.channel b.channel a.selector b.selector g.channel h.channel g.selector h.selector q;
      selector = key_selector a.unit b.unit a.channel b.channel a.selector b.selector g.channel h.channel g.selector h.selector q;
    }

unfoldable pub key_among : List ℕ → ℕ → ℕ → Bool
key_among keys n k = somewhere (λ j. eqb (get_or keys j 0) k) n

among_reads : (keys : List ℕ) (n k : ℕ) → Reads (key_among keys n k) ((j : ℕ) × (j < n) × (get_or keys j 0 ≡ k))
unfolding key_among
among_reads keys n k = reads_somewhere (λ j. eqb (get_or keys j 0) k) (λ j. get_or keys j 0 ≡ k) n (λ j l. reads_eq (get_or keys j 0) k)

-- what both loops know
pub record Passed (t : Table) (n : ℕ) : Type 0 where
  pub few : t.count ≤ most_controls
  pub low : n ≤ t.count
  pub once : (p q : ℕ) → p < q → q < n → Same (at t p) (at t q) → ⊥
  pub each : (p : ℕ) → p < n → sound_control (at t p) ≡ true

pub passed_many : (t : Table) → most_controls < t.count → false ≡ sound_of t
unfolding sound_of
passed_many t h = simp (lt-leb _ _ h)

pub passed_start : (t : Table) → t.count ≤ most_controls → Passed t 0
passed_start t h = record { few = h; low = omega arith; once = λ p q l m. absurd (omega arith); each = λ p l. absurd (omega arith) }

module _ (t : Table) (n : ℕ) (g : Passed t n) where
  pub passed_over : t.count ≤ n → true ≡ sound_of t
  passed_over h =
      let l = g.low in
      let e : n ≡ t.count = omega arith in
      let all : Passed t t.count = rw e at g in
      sym (shows (sound_reads t) (record { few = g.few; once = all.once; each = λ p i. (sound_control_lem (at t p)).says (all.each p i) }))

  module _ (l : n < t.count) where
    pub passed_twin : (p : ℕ) → p < n → Same (at t p) (at t n) → false ≡ sound_of t
    passed_twin p i s = sym (refutes (sound_reads t) (λ (h : Sound t). h.once p n i l s))

    module _ (b : Bool) (e : b ≡ sound_control (at t n)) where
      pub passed_unsound : not b ≡ true → false ≡ sound_of t
      passed_unsound h = sym (refutes (sound_reads t) (λ (k : Sound t). (sound_control_lem (at t n)).denies (sym e ∙ not-true b h) (k.each n l)))

      pub passed_on : not b ≡ false → ((p : ℕ) → p < n → Same (at t p) (at t n) → ⊥) → Passed t (n + 1)
      passed_on h alone = record {
        few = g.few;
        low = omega arith;
        once = λ p q i j. one p q i (let z : q ≤ n = omega arith in z);
        each = λ p i. right p (let z : p ≤ n = omega arith in z);
      }
        where
          one : (p q : ℕ) → p < q → q ≤ n → Same (at t p) (at t q) → ⊥
          one p q i j s = ⊎_elim (λ (z : q ≡ n). alone p (omega arith) (rw z at s)) (λ (z : q < n). g.once p q i z s) (eq-or-lt_of_le j)

          right : (p : ℕ) → p ≤ n → sound_control (at t p) ≡ true
          right p i = ⊎_elim (λ (z : p ≡ n). ap (λ (x : ℕ). sound_control (at t x)) z ∙ sym e ∙ not-false b h) (λ (z : p < n). g.each p z) (eq-or-lt_of_le i)

-- while keys rise
pub record TopsAbove (t : Table) (tops : List ℕ) (n : ℕ) : Type 0 where
  pub passed : Passed t n
  pub long : length tops ≡ 256
  pub under : (p : ℕ) → p < n → key_of (at t p) < get_or tops (at t p).unit 0

pub rising_start : (t : Table) → t.count ≤ most_controls → TopsAbove t (replicate 256 0) 0
rising_start t h = record { passed = passed_start t h; long = refl; under = λ p l. absurd (omega arith) }

module _ (t : Table) (tops : List ℕ) (n : ℕ) (g : TopsAbove t tops n) where
  pub rising_few : t.count ≤ most_controls
  rising_few = g.passed.few

  pub rising_over : t.count ≤ n → true ≡ sound_of t
  rising_over = passed_over t n g.passed

  module _ (l : n < t.count) where
    pub rising_inside : n < most_controls
    rising_inside = let f = rising_few in omega arith

    module _ (b : Bool) (e : b ≡ sound_control (at t n)) where
      pub rising_unsound : not b ≡ true → false ≡ sound_of t
      rising_unsound = passed_unsound t n g.passed l b e

      module _ (ok : not b ≡ false) (u : ℕ) (w : (u ≡ (at t n).unit) × (u < 256)) (k : ℕ) (d : Keyed (at t n) k) (h : get_or tops u 0 ≤ k) where
        -- a key of the unit is below its top
        lower : (p : ℕ) → p < n → (at t p).unit ≡ u → key_of (at t p) < k
        lower p i q = let a : key_of (at t p) < get_or tops u 0 = rw q at (g.under p i) in omega arith

        pub rising_alone : (p : ℕ) → p < n → Same (at t p) (at t n) → ⊥
        rising_alone p i s =
            let a = lower p i (s.unit ∙ sym w.0) in
            let q = same_key (at t p) (at t n) s in
            let r = d.is in
            omega arith

        here : (x : ℕ) → x ≡ u → get_or (set tops u (k + 1)) x 0 ≡ k + 1
        here x q = rw q (get_or-set_same tops u (k + 1) 0 (let a = g.long in let b = w.1 in omega arith))

        below : (p : ℕ) → p ≤ n → key_of (at t p) < get_or (set tops u (k + 1)) (at t p).unit 0
        below p i =
            ⊎_elim
            (λ (z : p ≡ n).
            let a = here (at t p).unit (ap (λ (x : ℕ). (at t x).unit) z ∙ sym w.0) in
            let r = d.is in
            let y = ap (λ (x : ℕ). key_of (at t x)) z in
            omega arith)
            (λ (z : p < n).
            ⊎_elim
            (λ (q : (at t p).unit ≡ u). let a = here (at t p).unit q in let r = lower p z q in omega arith)
            (λ (q : (at t p).unit ≡ u → ⊥). let a = get_or-set_other tops u (at t p).unit (k + 1) 0 q in let r = g.under p z in omega arith)
            (decided (eqb (at t p).unit u) (reads_eq (at t p).unit u)))
            (eq-or-lt_of_le i)

        pub rising_on : TopsAbove t (set tops u (k + 1)) (n + 1)
        rising_on = record {
          passed = passed_on t n g.passed l b e ok rising_alone;
          long = length-set tops u (k + 1) ∙ g.long;
          under = λ p i. below p (omega arith);
        }

-- in any order
pub record KeysKept (t : Table) (keys : List ℕ) (n : ℕ) : Type 0 where
  pub passed : Passed t n
  pub long : length keys ≡ most_controls
  pub keyed : (p : ℕ) → p < n → Keyed (at t p) (get_or keys p 0)

pub kept_start : (t : Table) → t.count ≤ most_controls → KeysKept t (replicate most_controls 0) 0
kept_start t h = record { passed = passed_start t h; long = refl; keyed = λ p l. absurd (omega arith) }

module _ (t : Table) (keys : List ℕ) (n : ℕ) (g : KeysKept t keys n) where
  pub kept_over : t.count ≤ n → true ≡ sound_of t
  kept_over = passed_over t n g.passed

  module _ (l : n < t.count) where
    pub kept_inside : n < most_controls
    kept_inside = let f = g.passed.few in omega arith

    module _ (b : Bool) (e : b ≡ sound_control (at t n)) where
      pub kept_unsound : not b ≡ true → false ≡ sound_of t
      kept_unsound = passed_unsound t n g.passed l b e

      module _ (ok : not b ≡ false) (k : ℕ) (d : Keyed (at t n) k) (a : Bool) (f : a ≡ key_among keys n k) where
        pub kept_twin : a ≡ true → false ≡ sound_of t
        kept_twin h =
            let j = (among_reads keys n k).says (sym f ∙ h) in
            passed_twin t n g.passed l j.0 j.1 (key_same (at t j.0) (at t n) (get_or keys j.0 0) k (g.keyed j.0 j.1) d j.2)

        pub kept_on : a ≡ false → KeysKept t (set keys n k) (n + 1)
        kept_on h = record {
          passed = passed_on t n g.passed l b e ok alone;
          long = length-set keys n k ∙ g.long;
          keyed = λ p i. have p (let z : p ≤ n = omega arith in z);
        }
          where
            alone : (p : ℕ) → p < n → Same (at t p) (at t n) → ⊥
            alone p i s = (among_reads keys n k).denies (sym f ∙ h) (p, i, (g.keyed p i).is ∙ same_key (at t p) (at t n) s ∙ sym d.is)

            have : (p : ℕ) → p ≤ n → Keyed (at t p) (get_or (set keys n k) p 0)
            have p i =
                ⊎_elim
                (λ (z : p ≡ n). rw (z, get_or-set_same keys n k 0 (let q = g.long in let r = kept_inside in omega arith)) d)
                (λ (z : p < n). rw (get_or-set_other keys n p k 0 (λ q. omega arith)) (g.keyed p z))
                (eq-or-lt_of_le i)
