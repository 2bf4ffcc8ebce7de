use borrow.Author.Rules.{rules}
use Prim.Native.Nat.{ℕ}
use mathlib.Core.Path.{◌≡◌, refl}
use Rattle.upstream.specs.Listing.{refused_with}
use Rattle.upstream.proofs.refused.Goals as goal

made : (n p : ℕ) → record { number = n; place = p; routes = 0; written = 0 } ≡ refused_with n p
unfolding refused_with
made n p = refl

ruleset laws = (made, rules)

pub returns : goal.returns
returns c = search laws
