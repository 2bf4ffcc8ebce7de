-- whole_steps meets its contract. Throughout, reach is the step, doubled some number of times, and what is taken off room is a number of
-- steps. The way up ends where the rest is shorter than reach. On the way back it stays so: while the rest is not shorter than a step, reach
-- has been doubled, and its half is halved on until it fits, so that the rest is shorter than twice what is then taken off. Once it is
-- shorter than a step, what was taken off is the multiple that is wanted. Each doubling gives reach a binary digit, each halving takes one,
-- and it never has more than 17.
use Prim.Native.Nat.{ℕ, zero, suc, ◌+◌, ◌-◌, ◌*◌, ◌/◌, ◌^◌, ◌≤◌, ◌<◌, min}
use mathlib.Core.Path.{◌≡◌, refl, sym, ap, ◌∙◌, subst}
use native.Mathlib.Nat.{add-mul, one-mul, zero-mul, two-pow-succ, mul-le-mul_right, lt_of_not-le, pow-le-pow_right}
use native.Mathlib.Omega.{arith}
use lib.Ieee.{size}
use lib.Ieee.Digits.{size-lt, size_reaches, size-le}
use lib.Pow.{pow_pos}
use Rattle.setting.specs.Setting.{whole_steps}
use Rattle.setting.specs.Grid.{whole_steps_none, whole_steps_one}
use borrow.Author.Rules.{rules}
use Rattle.setting.proofs.whole_steps.Invariants.{Left, Back, Halving}
use Rattle.setting.proofs.whole_steps.Goals as goal

some_digit : (n : ℕ) → 0 < n → size n ≡ 0 → ⊥
some_digit n h e = let l : n < 2 ^ 0 = subst (λ (k : ℕ). n < 2 ^ k) e (size-lt n) in omega arith

digits_doubled : (n : ℕ) → 0 < n → size n < size (n * 2)
digits_doubled n h = go (size n) refl
  where
    go : (k : ℕ) → size n ≡ k → k < size (n * 2)
    go zero e = absurd (some_digit n h e)
    go (suc j) e =
        let l = size_reaches n j (omega arith) in
        let t = two-pow-succ j in
        let u = size-lt (n * 2) in
        lt_of_not-le (λ g. let p : 2 ^ size (n * 2) ≤ 2 ^ suc j = pow-le-pow_right (omega arith) g in omega arith)

digits_halved : (n m : ℕ) → 0 < n → m ≤ n / 2 → size m < size n
digits_halved n m h g = go (size n) refl
  where
    go : (k : ℕ) → size n ≡ k → size m < k
    go zero e = absurd (some_digit n h e)
    go (suc j) e =
        let l : n < 2 ^ suc j = subst (λ (k : ℕ). n < 2 ^ k) e (size-lt n) in
        let t = two-pow-succ j in
        let f = size-le m j (omega arith) in
        omega arith

twice : (k step : ℕ) → 2 ^ suc k * step ≡ 2 ^ k * step + 2 ^ k * step
twice k step = ap (λ (n : ℕ). n * step) (two-pow-succ k) ∙ add-mul (2 ^ k) (2 ^ k) step

no_step : (room step : ℕ) → step ≡ 0 → 0 ≡ whole_steps room step
no_step room step e = rw e (sym (whole_steps_none room))

module _ (room step : ℕ) (small : room < 65536) where
  start : (step ≡ 0 → ⊥) → Left room step step room
  start f = record {
    doubled = record { doublings = 0; is = sym (one-mul step); some = omega arith; short = λ h. omega arith };
    steps = 0;
    off = omega (arith, zero-mul step);
  }

  module _ (reach rest : ℕ) (l : Left room step reach rest) where
    taken : reach ≤ rest → (k : ℕ) → reach ≡ 2 ^ k * step → room ≡ rest - reach + (l.steps + 2 ^ k) * step
    taken h k e = let o = l.off in let a = add-mul l.steps (2 ^ k) step in omega arith

    up : reach ≤ rest → Left room step (reach * 2) (rest - reach)
    up h =
        let d = l.doubled in
        let o = l.off in
        let t = twice d.doublings step in
        record {
          doubled = record { doublings = suc d.doublings; is = omega (arith, d.is); some = omega (arith, d.some); short = λ g. omega arith };
          steps = l.steps + 2 ^ d.doublings;
          off = taken h d.doublings d.is;
        }

    up_digit : reach ≤ rest → 17 - size (reach * 2) < 17 - size reach
    up_digit h =
        let o = l.off in
        let g = digits_doubled reach l.doubled.some in
        let f = size-le reach 16 (omega arith) in
        omega arith

    turn : rest < reach → Back room step reach rest
    turn h = record { left = l; below = h }

    rest_within : rest ≤ room
    rest_within = omega (arith, l.off)

    over : rest < step → room - rest ≡ whole_steps room step
    over h = let o = l.off in sym (whole_steps_one l.steps room step (room - rest) (omega arith) (omega arith) (omega arith))

    module _ (h : step ≤ rest) (b : rest < reach) where
      half : (k : ℕ) → reach ≡ 2 ^ k * step → Halving room step (reach / 2) (reach / 2) rest
      half zero e = absurd (let o = one-mul step in omega arith)
      half (suc j) e =
          let t = twice j step in
          let p = mul-le-mul_right step (pow_pos j) in
          let o = one-mul step in
          let s = l.doubled.short (omega arith) in
          record {
            left = record {
              doubled = record { doublings = j; is = omega arith; some = omega arith; short = λ g. omega arith };
              steps = l.steps;
              off = l.off;
            };
            whole = h;
            below = omega arith;
            within = omega arith;
          }

      halve : Halving room step (reach / 2) (reach / 2) rest
      halve = half l.doubled.doublings l.doubled.is

      fewer : (m : ℕ) → m ≤ reach / 2 → min 17 (size m) < min 17 (size reach)
      fewer m g =
          let s = l.doubled.short (omega arith) in
          let f = size-le reach 17 (omega arith) in
          let d = digits_halved reach m l.doubled.some g in
          omega arith

  module _ (most reach rest : ℕ) (v : Halving room step most reach rest) where
    halve_on : rest < reach → Halving room step most (reach / 2) rest
    halve_on b =
        let n = halve reach rest v.left v.whole b in
        record { left = n.left; whole = n.whole; below = n.below; within = omega (arith, v.within) }

    halve_fewer : rest < reach → min 17 (size (reach / 2)) < min 17 (size reach)
    halve_fewer b = fewer reach rest v.left v.whole b (reach / 2) (omega arith)

    back : reach ≤ rest → Back room step reach (rest - reach)
    back h =
        let d = v.left.doubled in
        record {
          left = record { doubled = d; steps = v.left.steps + 2 ^ d.doublings; off = taken reach rest v.left h d.doublings d.is };
          below = omega (arith, v.below);
        }

    back_fewer : (before : ℕ) → Back room step before rest → most ≡ before / 2 → min 17 (size reach) < min 17 (size before)
    back_fewer before w e = fewer before rest w.left v.whole w.below reach (omega (arith, v.within))

ruleset laws = (no_step, start, up, up_digit, turn, rest_within, over, halve, halve_on, halve_fewer, back, back_fewer, rules)

pub returns-then-step-eq0 : goal.returns-then-step-eq0
returns-then-step-eq0 c = search laws

pub loop-reach-smaller : goal.loop-reach-smaller
loop-reach-smaller c = search laws

pub loop-reach-preserved : goal.loop-reach-preserved
loop-reach-preserved c = search laws

pub loop-reach-2-init : goal.loop-reach-2-init
loop-reach-2-init c = search laws

pub loop-reach-2-smaller : goal.loop-reach-2-smaller
loop-reach-2-smaller c = search laws

pub loop-reach-2-preserved : goal.loop-reach-2-preserved
loop-reach-2-preserved c = search laws

pub loop-rest-smaller : goal.loop-rest-smaller
loop-rest-smaller c = search laws

pub loop-rest-preserved : goal.loop-rest-preserved
loop-rest-preserved c = search laws

pub returns : goal.returns
returns c = search laws
