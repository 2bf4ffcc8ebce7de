-- One law for each answer of the search.
use borrow.Author.Rules.{rules}
use Prim.Native.Nat.{ℕ}
use mathlib.Core.Path.{◌≡◌, refl, sym, ap, ◌∙◌}
use mathlib.Core.List.{List}
use Rattle.std.specs.Prelude.{Option, Some, None}
use Rattle.ground.specs.Numbers.{byte}
use Rattle.ground.specs.Lists.{part}
use Rattle.scan.specs.Cutting.{end_at}
use Rattle.search.specs.Want.{found_from}
use Rattle.search.specs.declared.Want.TheVariants as want
use Rattle.protocol.specs.Protocol.{protocol_of}
use Rattle.protocol.proofs.protocol_of.Goals as goal

module _ (s : List ℕ) (r : Option ℕ) (f : r ≡ found_from s 0 (want.Audio 1)) where
  told : (p : ℕ) → r ≡ Some p → (d : List ℕ) → d ≡ part s p (end_at s p) → (b : ℕ) → b ≡ byte d 7 → b ≡ protocol_of s
  unfolding protocol_of
  told p h d e b g = rw (protocol_of, sym f ∙ h) (g ∙ ap (λ (x : List ℕ). byte x 7) e)

  no_control : r ≡ None → 0 ≡ protocol_of s
  unfolding protocol_of
  no_control h = rw (protocol_of, sym f ∙ h) refl

ruleset laws = (told, no_control, rules)

pub returns-in-Some : goal.returns-in-Some
returns-in-Some c = search laws

pub returns-in-None : goal.returns-in-None
returns-in-None c = search laws
