-- Where the input is known to hold fewer bytes than an opening, or none, no round is gone through to its end.
use Rattle.std.proofs.Common.{◌≡◌, ◌≤◌, ◌-◌, ℕ, List, length, Some}
use Rattle.script.proofs.Steps.run.Given as goal

abbrev pub invariant-loop : goal.invariant-loop
invariant-loop g l =
    (left : List ℕ) → g.R.Read.remaining l.initial.input ≡ Some left → length left ≤ length l.opening - 1
    → (l.self ≡ l.initial.self) × (g.R.Read.remaining l.input ≡ Some left)
