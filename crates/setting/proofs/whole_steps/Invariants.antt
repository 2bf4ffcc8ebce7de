use Prim.Native.Nat.{ℕ, ◌+◌, ◌-◌, ◌*◌, ◌^◌, ◌≤◌, ◌<◌, min}
use mathlib.Core.Path.{◌≡◌}
use lib.Ieee.{size}
use Rattle.setting.proofs.whole_steps.Given as goal

-- reach is the step, doubled; once doubled, it is at most twice room
pub record Doubled (room step reach : ℕ) : Type 0 where
  pub doublings : ℕ
  pub is : reach ≡ 2 ^ doublings * step
  pub some : 0 < reach
  pub short : step < reach → reach ≤ room + room

-- rest is what a number of steps leave of room
pub record Left (room step reach rest : ℕ) : Type 0 where
  pub doubled : Doubled room step reach
  pub steps : ℕ
  pub off : room ≡ rest + steps * step

-- on the way back, where a turn begins
pub record Back (room step reach rest : ℕ) : Type 0 where
  pub left : Left room step reach rest
  pub below : rest < reach

-- and within it, while reach is halved on from most
pub record Halving (room step most reach rest : ℕ) : Type 0 where
  pub left : Left room step reach rest
  pub whole : step ≤ rest
  pub below : rest < reach + reach
  pub within : reach ≤ most

abbrev pub invariant-loop-reach : goal.invariant-loop-reach
invariant-loop-reach l = Left l.room l.step l.reach l.rest

abbrev pub decreases-loop-reach : goal.decreases-loop-reach
decreases-loop-reach l = 17 - size l.reach

abbrev pub invariant-loop-reach-2 : goal.invariant-loop-reach-2
invariant-loop-reach-2 l = Halving l.room l.step l.initial.reach l.reach l.rest

abbrev pub decreases-loop-reach-2 : goal.decreases-loop-reach-2
decreases-loop-reach-2 l = min 17 (size l.reach)

abbrev pub invariant-loop-rest : goal.invariant-loop-rest
invariant-loop-rest l = Back l.room l.step l.reach l.rest

abbrev pub decreases-loop-rest : goal.decreases-loop-rest
decreases-loop-rest l = min 17 (size l.reach)
