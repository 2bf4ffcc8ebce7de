-- Whose a request is, by its bytes.
--   reads_side  ==  the test that a setup is for a side decides that it is one, and that its byte 4 is the side's presented number
--   is_at       ==  a setup for which that test holds is addressed to the side; at_side: so is one of such bytes
use Prim.Native.Nat.{ℕ}
use mathlib.Core.Path.{◌≡◌, refl, sym, ap}
use mathlib.Core.Bool.{Bool, true, false}
use mathlib.Core.List.{List}
use mathlib.Core.Logic.{inl, inr}
use native.Mathlib.Omega.{arith}
use lib.Dec.{eqb}
use Rattle.ground.specs.Pick.{pick, Reads, shows, reads_same, reads_eq, true≠false}
use Rattle.ground.specs.Numbers.{byte}
use Rattle.setup.specs.declared.Asked.{Asked}
use Rattle.setup.specs.Setup.{WellAsked, asked_of}
use Rattle.setup.specs.Asking as asking
use Rattle.setup.proofs.AskingLemmas as asking_laws
use Rattle.setup.specs.Asking.{Asking}
use Rattle.sides.specs.declared.Side.{Side}
use Rattle.sides.specs.declared.Side.TheVariants.{Left, Right}
use Rattle.sides.specs.declared.Addressee.{Addressee}
use Rattle.sides.specs.declared.Addressee.TheVariants.{Nobody, At}
use Rattle.sides.specs.Sides.{addressee_by, addressee_of}
use Rattle.duets.specs.Steps.{presented_for, is_for}
use Rattle.duets.proofs.Sound.{same_side_lem}

reads_number : (n : ℕ) (k : Side) → Reads (is_for k (addressee_by n)) (n ≡ presented_for k)
unfolding addressee_by
reads_number n = go (eqb n 0) (reads_eq n 0) (eqb n 1) (reads_eq n 1)
  where
    go : (x : Bool) → Reads x (n ≡ 0) → (y : Bool) → Reads y (n ≡ 1) → (k : Side)
        → Reads (is_for k (pick x (At Left) (pick y (At Right) (Nobody 32)))) (n ≡ presented_for k)
    go true f y g Left = f
    go true f y g Right = record { says = λ e. absurd (true≠false (sym e)); denies = λ e h. let z = f.says refl in omega arith }
    go false f true g Left = f
    go false f true g Right = g
    go false f false g Left = f
    go false f false g Right = g

asked_side : (s : List ℕ) (k : Side) {v : Asked} → Asking s v → Reads (is_for k (addressee_of v)) (WellAsked s × (byte s 4 ≡ presented_for k))
asked_side s k (asking.none n) = record { says = λ e. absurd (true≠false (sym e)); denies = λ e h. n h.0 }
asked_side s k (asking.sets l a) = reads_same (reads_number (byte s 4) k) (λ e. ((l, inl a), e)) (λ h. h.1)
asked_side s k (asking.gets part l a c) = reads_same (reads_number (byte s 4) k) (λ e. ((l, inr a), e)) (λ h. h.1)

pub reads_side : (s : List ℕ) (k : Side) → Reads (is_for k (addressee_of (asked_of s))) (WellAsked s × (byte s 4 ≡ presented_for k))
reads_side s k = asked_side s k (asking_laws.asking s)

pub is_at : (k : Side) (a : Addressee) → is_for k a ≡ true → a ≡ At k
is_at k (Nobody n) e = absurd (true≠false (sym e))
is_at k (At j) e = ap At (same_side_lem k j e)

pub at_side : (s : List ℕ) (k : Side) → WellAsked s → byte s 4 ≡ presented_for k → addressee_of (asked_of s) ≡ At k
at_side s k w e = is_at k (addressee_of (asked_of s)) (shows (reads_side s k) (w, e))
