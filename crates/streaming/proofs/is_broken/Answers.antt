-- No streaming group is never broken; byte 4 parts a group without endpoints from the others.
use borrow.Author.Rules.{rules}
use Prim.Native.Nat.{ℕ}
use mathlib.Core.Path.{◌≡◌, sym, ◌∙◌}
use mathlib.Core.Bool.{Bool, true, false, not}
use mathlib.Core.List.{List}
use borrow.Author.Tests.{eq-eqb, ne_eqb, not-true, not-false}
use Rattle.ground.specs.Numbers.{byte}
use Rattle.search.specs.Want.{is_audio}
use Rattle.groups.specs.Reading.{strays_from}
use Rattle.std.specs.Prelude.{Option}
use Rattle.terminals.specs.declared.Bearer.{Bearer}
use Rattle.streaming.specs.Tests.{described_at, broken_at}
use Rattle.streaming.proofs.is_broken.Goals as goal

module _ (find : ℕ → Option Bearer) (s i : List ℕ) (from : ℕ) (a : Bool) (e : a ≡ is_audio 2 i) where
  no_stream : not a ≡ true → false ≡ broken_at find s i from
  unfolding broken_at
  no_stream h = simp (sym e ∙ not-true a h)

  module _ (h : not a ≡ false) (x : ℕ) (k : x ≡ byte i 4) (r : Bool) where
    by_strays : x ≡ 0 → r ≡ strays_from s from → r ≡ broken_at find s i from
    unfolding broken_at
    by_strays l q = simp (sym e ∙ not-false a h, eq-eqb (byte i 4) 0 (sym k ∙ l), q)

    by_described : (x ≡ 0 → ⊥) → r ≡ described_at find s from → not r ≡ broken_at find s i from
    unfolding broken_at
    by_described l q = simp (sym e ∙ not-false a h, ne_eqb (byte i 4) 0 (λ z. l (k ∙ z)), q)

ruleset laws = (no_stream, by_strays, by_described, rules)

pub returns-then-not-is_audio : goal.returns-then-not-is_audio
returns-then-not-is_audio c = search laws

pub returns-then-byte_at-eq0 : goal.returns-then-byte_at-eq0
returns-then-byte_at-eq0 c = search laws

pub returns : goal.returns
returns c = search laws
