-- GENERAL, then the Terminal that bears the ID at its byte 3, then that Terminal's type, then FORMAT_TYPE.
use borrow.Author.Rules.{rules}
use Prim.Native.Nat.{ℕ}
use mathlib.Core.Path.{◌≡◌, refl, sym, ap, ◌∙◌}
use mathlib.Core.Bool.{Bool, true, false, not, ◌&&◌}
use mathlib.Core.List.{List}
use lib.Dec.{eqb}
use borrow.Author.Tests.{eq-eqb, ne_eqb, not-true, not-false}
use Rattle.ground.specs.Pick.{pick}
use Rattle.ground.specs.Numbers.{byte, word}
use Rattle.formats.specs.Tests.{is_general, format_right}
use Rattle.std.specs.Prelude.{Option, None, Some}
use Rattle.terminals.specs.declared.Bearer.{Bearer}
use Rattle.terminals.specs.Terminals.{terminal_number, channels_borne}
use Rattle.streaming.specs.Tests.{bearer_right, described_by}
use Rattle.streaming.proofs.described_by.Goals as goal

module _ (find : ℕ → Option Bearer) (g f : List ℕ) (a : Bool) (e : a ≡ is_general g) where
  no_general : not a ≡ true → false ≡ described_by find g f
  unfolding described_by
  no_general h = simp (sym e ∙ not-true a h)

  module _ (h : not a ≡ false) (id : ℕ) (k : id ≡ byte g 3) (l : Option Bearer) (m : l ≡ find id) where
    by_bearer : (x : Option Bearer) → l ≡ x → described_by find g f ≡ bearer_right x g f
    unfolding described_by
    by_bearer x q = rw (sym e ∙ not-false a h, ← k, ← m, q) refl

    no_terminal : l ≡ None → false ≡ described_by find g f
    unfolding bearer_right terminal_number
    no_terminal q = sym (by_bearer None q)

    module _ (b : Bearer) (q : l ≡ Some b) where
      by_kind : (t : Bool) → eqb b.kind 0x0101 ≡ t → described_by find g f ≡ (eqb (pick t 0 14) 0 && format_right (word g 5) b.channels f)
      unfolding bearer_right terminal_number channels_borne
      by_kind t n = by_bearer (Some b) q ∙ ap (λ (x : Bool). eqb (pick x 0 14) 0 && format_right (word g 5) b.channels f) n

      other_kind : (b.kind ≡ 0x0101 → ⊥) → false ≡ described_by find g f
      other_kind n = sym (by_kind false (ne_eqb b.kind 0x0101 n))

      by_format : b.kind ≡ 0x0101 → (tag : ℕ) → tag ≡ word g 5 → (r : Bool) → r ≡ format_right tag b.channels f → r ≡ described_by find g f
      by_format n tag o r p = p ∙ ap (λ (x : ℕ). format_right x b.channels f) o ∙ sym (by_kind true (eq-eqb b.kind 0x0101 n))

ruleset laws = (no_general, no_terminal, other_kind, by_format, rules)

pub returns-then-not-is_general : goal.returns-then-not-is_general
returns-then-not-is_general c = search laws

pub returns-in_default : goal.returns-in_default
returns-in_default c = search laws

pub returns-then-bearer-ne257 : goal.returns-then-bearer-ne257
returns-then-bearer-ne257 c = search laws

pub returns : goal.returns
returns c = search laws
