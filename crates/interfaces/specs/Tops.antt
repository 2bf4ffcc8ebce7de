-- What the one pass of rule 4 over the descriptors keeps, and that it is enough: whether an interface descriptor repeats an earlier
-- pair of number and alternate setting is searched for only where its setting is below its number's top.
--   control_before s at  ==  the place of the first AudioControl interface that stands before place at; L if there is none
--   Tops s at tops      ==  for each interface number the top: no interface descriptor before place at bears that number and a setting
--                           at the top or above it
--   topped tops n a     ==  the tops behind an interface descriptor of number n and alternate setting a
--   Repeats, After, Looked  ==  what the test of one descriptor answers, and the tops that it leaves
--   control_none, control_first, control_later, control_all  ==  the AudioControl interface before the first byte; the next turn's two
--                           cases; before the end
--   control_seen        ==  one stands before exactly where the place is not L
--   control_inside      ==  the place is not past the end
--   tops_none, tops_new, tops_more  ==  the tops at the first byte; what stands at the top or above it is new; the next turn
use Rattle.std.specs.Prelude.{ℕ, ◌+◌, ◌≤◌, ◌<◌, ◌≡◌, Bool, List, eqb, set, replicate, Option, Some, None}
use Rattle.std.proofs.Math.Path.{refl, sym, ap}
use Rattle.std.proofs.Common.{◌∙◌, ⊎_elim, length-set, get_or-set_same, get_or-set_other}
use Rattle.std.proofs.Math.Bool.{true, false, or-false}
use native.Mathlib.Omega.{arith}
use Rattle.std.proofs.Math.Dec.{ltb}
use Rattle.std.proofs.Math.ListN.{length, get_or}
use borrow.Author.Tests.{lt-ltb, le-ltb, ltb-true, ltb-false}
use Rattle.ground.specs.Pick.{pick, yes, no, decided, reads_eq, refutes}
use Rattle.ground.specs.Numbers.{byte}
use Rattle.ground.specs.Lists.{part}
use Rattle.ground.specs.First.{is_before}
use Rattle.ground.specs.Refuse.{place_or}
use Rattle.scan.specs.Cutting.{end_at}
use Rattle.scan.specs.CuttingLaws.{end_off}
use Rattle.scan.specs.Search.{Passed}
use Rattle.search.specs.Want.{is_interface, is_audio, is_setting, reads_interface, reads_setting, wants, found_from}
use Rattle.search.specs.Found.{found_any, found_room}
use Rattle.search.specs.declared.Want.TheVariants as want
use Rattle.interfaces.specs.Reading.{wrong_at, control_at}
use Rattle.search.specs.Before.{stands_before, before_none, before_more, before_all, before_here}

unfoldable pub control_before : List ℕ → ℕ → ℕ
control_before s at = pick (stands_before s at (want.Audio 1)) (control_at s) (length s)

pub record Tops (s : List ℕ) (at : ℕ) (tops : List ℕ) : Type 0 where
  pub long : length tops ≡ 256
  pub above : (n a : ℕ) → get_or tops n 0 ≤ a → stands_before s at (want.Setting n a) ≡ false

unfoldable pub topped : List ℕ → ℕ → ℕ → List ℕ
topped tops n a = pick (ltb a (get_or tops n 0)) tops (set tops n (a + 1))

pub record Repeats (s : List ℕ) (at : ℕ) (i tops tops' : List ℕ) (r : Bool) : Type 0 where
  pub small : byte i 2 < 256
  pub told : r ≡ stands_before s at (want.Setting (byte i 2) (byte i 3))
  pub left : tops' ≡ topped tops (byte i 2) (byte i 3)

pub data After (i tops tops' : List ℕ) : Type 0 where
  other : is_interface i ≡ false → tops' ≡ tops → After i tops tops'
  interface : byte i 2 < 256 → tops' ≡ topped tops (byte i 2) (byte i 3) → After i tops tops'

pub record Looked (s : List ℕ) (at : ℕ) (i tops tops' : List ℕ) (r : Bool) : Type 0 where
  pub told : r ≡ wrong_at s at i
  pub after : r ≡ false → After i tops tops'

-- the AudioControl interface
module _ (s : List ℕ) where
  pub control_none : length s ≡ control_before s 0
  unfolding control_before
  control_none = sym (no _ _ (before_none (want.Audio 1) s))

  pub control_seen : (at control : ℕ) → control ≡ control_before s at → ltb control (length s) ≡ stands_before s at (want.Audio 1)
  unfolding control_before is_before place_or
  control_seen at control e = go (found_from s 0 (want.Audio 1)) refl
    where
      go : (r : Option ℕ) → found_from s 0 (want.Audio 1) ≡ r → ltb control (length s) ≡ stands_before s at (want.Audio 1)
      go None q = let z : control ≡ length s = rw q at e in rw q (le-ltb control (length s) (omega arith))
      go (Some p) q = case (ltb p at) refl
        where
          case : (b : Bool) → ltb p at ≡ b → ltb control (length s) ≡ stands_before s at (want.Audio 1)
          case true l =
              let room = found_room (want.Audio 1) s 0 p q in
              let z : control ≡ p = rw (q, l) at e in
              rw (q, l) (lt-ltb control (length s) (omega arith))
          case false l = let z : control ≡ length s = rw (q, l) at e in rw (q, l) (le-ltb control (length s) (omega arith))

  pub control_inside : control_at s ≤ length s
  unfolding place_or
  control_inside = go (found_from s 0 (want.Audio 1)) refl
    where
      go : (r : Option ℕ) → found_from s 0 (want.Audio 1) ≡ r → place_or r (length s) ≤ length s
      go None e = omega arith
      go (Some q) e = let room = found_room (want.Audio 1) s 0 q e in omega arith

  module _ (t : List (List ℕ) → List ℕ → Bool) (at e : ℕ) (g : Passed t s 0 at) (f : e ≡ end_at s at) where
    pub control_all : (control : ℕ) → control ≡ control_before s at → e ≡ at → control ≡ control_at s
    unfolding control_before wants place_or
    control_all control k h = k ∙ go (found_from s 0 (want.Audio 1)) refl
      where
        go : (r : Option ℕ) → found_from s 0 (want.Audio 1) ≡ r → control_before s at ≡ control_at s
        go None q = rw (q, control_before) (same (is_before None at))
          where
            same : (b : Bool) → pick b (length s) (length s) ≡ length s
            same true = refl
            same false = refl
        go (Some p) q = yes _ _ (before_all (want.Audio 1) s t at e g f h ∙ found_any (want.Audio 1) s 0 p q)

    module _ (h : e ≡ at → ⊥) where
      pub control_later : (control : ℕ) → control ≡ control_before s at → is_audio 1 (part s at e) ≡ false → control ≡ control_before s e
      unfolding control_before wants
      control_later control k n = k ∙ ap (λ (b : Bool). pick b (control_at s) (length s)) same
        where
          same : stands_before s at (want.Audio 1) ≡ stands_before s e (want.Audio 1)
          same = rw (before_more (want.Audio 1) s t at e g f h, n) (sym (or-false (stands_before s at (want.Audio 1))))

      pub control_first : is_audio 1 (part s at e) ≡ true → stands_before s at (want.Audio 1) ≡ false → at ≡ control_before s e
      unfolding control_before wants is_before place_or
      control_first y n =
          let q = before_here (want.Audio 1) s t at e g f h n y in
          let o = end_off s at (λ q. h (f ∙ q)) in
          rw (q, lt-ltb at e (omega arith)) refl

-- the tops
pub tops_none : (s : List ℕ) → Tops s 0 (replicate 256 0)
tops_none s = record { long = refl; above = λ n a h. before_none (want.Setting n a) s }

module _ (s : List ℕ) (at : ℕ) (tops : List ℕ) (k : Tops s at tops) where
  pub tops_new : (n a : ℕ) → get_or tops n 0 ≤ a → false ≡ stands_before s at (want.Setting n a)
  tops_new n a h = sym (k.above n a h)

  -- behind a descriptor of number m and setting b, what is neither is as new as before
  abbrev StillNew : ℕ → ℕ → ℕ → Type 0
  StillNew e m b = (n a : ℕ) → (m ≡ n → b ≡ a → ⊥) → get_or tops n 0 ≤ a → stands_before s e (want.Setting n a) ≡ false

  by_top : (e m b : ℕ) → m < 256 → StillNew e m b → Tops s e (topped tops m b)
  unfolding topped
  by_top e m b small still = go (ltb b (get_or tops m 0)) refl
    where
      same_top : {n : ℕ} → m ≡ n → get_or tops m 0 ≡ get_or tops n 0
      same_top p = ap (λ (j : ℕ). get_or tops j 0) p

      go : (c : Bool) → ltb b (get_or tops m 0) ≡ c → Tops s e (pick c tops (set tops m (b + 1)))
      go true l =
          let o = ltb-true b (get_or tops m 0) l in
          record { long = k.long; above = λ n a h. still n a (λ p q. let z = same_top p in omega arith) h }
      go false l =
          let o = ltb-false b (get_or tops m 0) l in
          record {
            long = length-set tops m (b + 1) ∙ k.long;
            above = λ n a h. ⊎_elim (here n a h) (other n a h) (decided (eqb n m) (reads_eq n m));
          }
        where
          here : (n a : ℕ) → get_or (set tops m (b + 1)) n 0 ≤ a → n ≡ m → stands_before s e (want.Setting n a) ≡ false
          here n a h q =
              let z : get_or (set tops m (b + 1)) n 0 ≡ b + 1 = rw q (get_or-set_same tops m (b + 1) 0 (let w = k.long in omega arith)) in
              let y = same_top (sym q) in
              let o = ltb-false b (get_or tops m 0) l in
              still n a (λ p r. omega arith) (omega arith)

          other : (n a : ℕ) → get_or (set tops m (b + 1)) n 0 ≤ a → (n ≡ m → ⊥) → stands_before s e (want.Setting n a) ≡ false
          other n a h q =
              let z : get_or (set tops m (b + 1)) n 0 ≡ get_or tops n 0 = get_or-set_other tops m n (b + 1) 0 q in
              still n a (λ p r. q (sym p)) (omega arith)

  module _ (t : List (List ℕ) → List ℕ → Bool) (e : ℕ) (g : Passed t s 0 at) (f : e ≡ end_at s at) (h : e ≡ at → ⊥) where
    -- what was new before the descriptor is new behind it, unless the descriptor bears it
    still : (n a : ℕ) → get_or tops n 0 ≤ a → is_setting n a (part s at e) ≡ false → stands_before s e (want.Setting n a) ≡ false
    unfolding wants
    still n a l q = before_more (want.Setting n a) s t at e g f h ∙ rw (k.above n a l, q) refl

    -- a descriptor of another number or another setting
    not_other : (n a : ℕ) → (byte (part s at e) 2 ≡ n → byte (part s at e) 3 ≡ a → ⊥) → is_setting n a (part s at e) ≡ false
    not_other n a q = refutes (reads_setting n a (part s at e)) (λ p. q p.1.0 p.1.1)

    pub tops_more : (tops' : List ℕ) → After (part s at e) tops tops' → Tops s e tops'
    unfolding is_interface
    tops_more tops' (other n q) =
        rw q
        (record {
          long = k.long;
          above = λ m a l. still m a l (refutes (reads_setting m a (part s at e)) (λ p. (reads_interface (part s at e)).denies n p.0));
        })
    tops_more tops' (interface small q) =
        rw q (by_top e (byte (part s at e) 2) (byte (part s at e) 3) small (λ n a p l. still n a l (not_other n a p)))
