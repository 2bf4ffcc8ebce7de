-- The answer is its three fields.
use borrow.Author.Rules.{rules}
use mathlib.Core.Path.{◌≡◌, refl}
use Rattle.ground.specs.declared.Refusal.{Refusal}
use Rattle.third.specs.Judgement.{sheet_refused}
use Rattle.third.proofs.refused.Goals as goal

made : (r : Refusal) → record { number = r.number; place = r.place; entities = 0 } ≡ sheet_refused r
unfolding sheet_refused
made r = refl

ruleset laws = (made, rules)

pub returns : goal.returns
returns c = search laws
