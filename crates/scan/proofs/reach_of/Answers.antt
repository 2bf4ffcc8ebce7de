-- The loop stands where the descriptors that it has passed end; what they reach is what the rest reaches from there.
use borrow.Author.Rules.{rules}
use Prim.Native.Nat.{ℕ, ◌+◌, ◌-◌, ◌<◌}
use mathlib.Core.Path.{◌≡◌, refl, sym, ap, ◌∙◌}
use mathlib.Core.List.{List}
use native.Mathlib.Omega.{arith}
use native.Mathlib.Nat.{add-zero}
use lib.ListN.{length}
use Rattle.ground.specs.Lists.{total, part, part_length}
use Rattle.scan.specs.Cutting.{end_at, rest, reach, reach_by}
use Rattle.scan.specs.CuttingLaws.{end_off, rest_none, rest_more}
use Rattle.scan.proofs.reach_of.Invariants.{Passed}
use Rattle.scan.proofs.reach_of.Goals as goal

start : (s : List ℕ) (from : ℕ) → Passed s from from
start s from = record { same = refl }

stop : (s : List ℕ) (from at e : ℕ) → Passed s from at → e ≡ end_at s at → e ≡ at → at ≡ reach s from
unfolding reach_by total
stop s from at e g f h = sym (g.same ∙ ap (λ (l : List (List ℕ)). at + total l) (rest_none s at (sym f ∙ h)) ∙ add-zero at)

on : (s : List ℕ) (from at e : ℕ) → Passed s from at → e ≡ end_at s at → (e ≡ at → ⊥) → Passed s from e
unfolding reach_by total
on s from at e g f h =
    let o = end_off s at (λ q. h (f ∙ q)) in
    let l : length (part s at (end_at s at)) ≡ end_at s at - at = part_length s at (end_at s at) o.1 in
    record { same = g.same ∙ ap (λ (l : List (List ℕ)). at + total l) (rest_more s at (λ q. h (f ∙ q))) ∙ (let w : at + (length (part s at (end_at s at)) + total (rest s (end_at s at))) ≡ end_at s at + total (rest s (end_at s at)) = omega arith in w) ∙ ap (λ (i : ℕ). i + total (rest s i)) (sym f) }

falls : (s : List ℕ) (at e : ℕ) → e ≡ end_at s at → (e ≡ at → ⊥) → length s - e < length s - at
falls s at e f h = let o = end_off s at (λ q. h (f ∙ q)) in omega arith

ruleset laws = (start, stop, on, falls, rules)

pub returns-then-e-at : goal.returns-then-e-at
returns-then-e-at c = search laws

pub loop-at-smaller : goal.loop-at-smaller
loop-at-smaller c = search laws

pub loop-at-preserved : goal.loop-at-preserved
loop-at-preserved c = search laws
