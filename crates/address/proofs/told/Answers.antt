-- The seats are passed from the lowest channel up; each index in them goes behind those before it.
use Prim.Native.Nat.{ℕ, suc, ◌+◌, ◌-◌, ◌≤◌, ◌<◌}
use Rattle.std.specs.Prelude.{Ok, Err}
use mathlib.Core.Path.{◌≡◌, refl, sym, ap, ◌∙◌}
use mathlib.Core.Bool.{Bool}
use mathlib.Core.List.{List, [], ◌∷◌, ◌++◌, append-nil}
use native.Mathlib.Numerals.{add-one}
use native.Mathlib.Omega.{arith}
use borrow.Author.Rules.{rules}
use borrow.Author.Tests.{lt-ltb, le-ltb}
use lib.ListN.{length, get_or, set, replicate, length-append}
use Rattle.ground.specs.Pick.{yes, no}
use Rattle.ground.specs.Lists.{pad, pad_blank, pad_set}
use Rattle.address.specs.Addressed.{most_addressed, indices_of}
use Rattle.address.specs.Sought.{missing_by, told_of}
use Rattle.address.specs.Seats.{seat_of, seated_in}
use Rattle.address.proofs.told.Invariants.{Taking}
use Rattle.address.proofs.told.Goals as goal
use Rattle.address.proofs.told.Goals.{then-seat-gt0, else-seat-gt0}

start : (seats : List ℕ) → Taking seats (replicate most_addressed 0) 0 0
unfolding seated_in
start seats = record { low = omega arith; few = omega arith; filled = pad_blank {A = ℕ} 0 most_addressed; counted = refl }

module _ (seats indices : List ℕ) (count c : ℕ) (g : Taking seats indices count c) (l : c < most_addressed) where
  abbrev front : List ℕ
  front = seated_in seats c

  abbrev here : ℕ
  here = get_or seats c 0 - 1

  skip : get_or seats c 0 ≤ 0 → (r : List ℕ) → r ≡ indices → (k : ℕ) → k ≡ count → Taking seats r k (c + 1)
  unfolding seated_in
  skip h r e k f =
      let i = g.few in
      record { low = omega arith; few = omega arith; filled = e ∙ g.filled ∙ ap (pad 0 most_addressed) (sym same); counted = f ∙ g.counted ∙ ap length (sym same) }
    where
      same : seated_in seats (c + 1) ≡ front
      same =
          let z : get_or seats c 0 ≡ 0 = omega arith in
          ap (seated_in seats) (add-one c) ∙ ap (λ (x : ℕ). front ++ indices_of (seat_of x)) z ∙ append-nil front

  more : 0 < get_or seats c 0 → (r : List ℕ) → r ≡ set indices count here → (k : ℕ) → k ≡ count + 1 → Taking seats r k (c + 1)
  unfolding seated_in
  more h r e k f =
      let i = g.few in
      let j = length-append front (here ∷ []) in
      let m = ap length longer in
      let o = g.counted in
      record {
        low = omega arith;
        few = omega arith;
        filled = e
            ∙ ap (λ (d : List ℕ). set d count here) g.filled
            ∙ ap (λ (d : ℕ). set (pad 0 most_addressed front) d here) g.counted
            ∙ pad_set 0 most_addressed front here
            ∙ ap (pad 0 most_addressed) (sym longer);
        counted = omega arith;
      }
    where
      longer : seated_in seats (c + 1) ≡ front ++ here ∷ []
      longer =
          let z : get_or seats c 0 ≡ suc here = omega arith in
          ap (seated_in seats) (add-one c) ∙ ap (λ (x : ℕ). front ++ indices_of (seat_of x)) z

module _ (seats indices : List ℕ) (count c : ℕ) (g : Taking seats indices count c) (h : most_addressed ≤ c) (owned : Bool) where
  all : c ≡ most_addressed
  all = let l = g.low in omega arith

  ends : count ≡ length (seated_in seats most_addressed)
  ends = g.counted ∙ ap (λ (m : ℕ). length (seated_in seats m)) all

  seats_full : indices ≡ pad 0 most_addressed (seated_in seats most_addressed)
  seats_full = g.filled ∙ ap (λ (m : ℕ). pad 0 most_addressed (seated_in seats m)) all

  none_there : count ≡ 0 → (n : ℕ) → n ≡ missing_by owned → Err n ≡ told_of owned (seated_in seats most_addressed)
  none_there z n e = ap Err e ∙ sym (no _ _ (le-ltb 0 (length (seated_in seats most_addressed)) (let k = ends in omega arith)))

  some_there : (count ≡ 0 → ⊥) → Ok (record { count = count; indices = indices }) ≡ told_of owned (seated_in seats most_addressed)
  some_there z = rw (ends, seats_full) (sym (yes _ _ (lt-ltb 0 (length (seated_in seats most_addressed)) (let k = ends in omega arith))))

ruleset laws = (start, skip, more, none_there, some_there, rules)

pub loop-seat-init : goal.loop-seat-init
loop-seat-init c = search laws

pub loop-seat-preserved : goal.loop-seat-preserved
loop-seat-preserved c = elim c.if-seat-gt0.branch [ then-seat-gt0 w ↦ search laws | else-seat-gt0 w ↦ search laws ]

pub returns-then-count-eq0 : goal.returns-then-count-eq0
returns-then-count-eq0 c = search laws

pub returns : goal.returns
returns c = search laws
