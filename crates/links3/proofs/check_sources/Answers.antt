-- The callees' answers, and the lesser of them.
use borrow.Author.Rules.{rules}
use Prim.Native.Nat.{ℕ}
use mathlib.Core.Path.{◌≡◌, ap, ◌∙◌}
use mathlib.Core.List.{List}
use Rattle.std.specs.Prelude.{Option}
use Rattle.entities.specs.declared.Run.{Run}
use Rattle.sources.specs.Breach.{breach11}
use Rattle.links3.specs.Links.{breach_clock, lesser, breach11_third}
use Rattle.links3.proofs.check_sources.Goals as goal

both : (s : List ℕ) (run : Run) (a : Option ℕ) → a ≡ breach11 s run → (b : Option ℕ) → b ≡ breach_clock s run → (r : Option ℕ) → r ≡ lesser a b → r ≡ breach11_third s run
unfolding breach11_third
both s run a e b f r g = g ∙ ap (λ (x : Option ℕ). lesser x b) e ∙ ap (lesser (breach11 s run)) f

ruleset laws = (both, rules)

pub returns : goal.returns
returns c = search laws
