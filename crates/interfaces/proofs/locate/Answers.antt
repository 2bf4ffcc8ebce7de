-- Rule 4 is asked where rule 1 is kept: a configuration is not too long then.
use borrow.Author.Rules.{rules}
use Prim.Native.Nat.{ℕ, ◌≤◌}
use mathlib.Core.Path.{◌≡◌, sym, ◌∙◌}
use mathlib.Core.List.{List}
use native.Mathlib.Omega.{arith}
use lib.ListN.{length}
use Rattle.std.specs.Prelude.{Ok, Option}
use Rattle.ground.specs.Pick.{reads_within}
use Rattle.ground.specs.Refuse.{none, kept_nowhere, refuse}
use Rattle.ground.specs.Told.{told, kept_or, rule_kept}
use Rattle.opening.specs.Rules1and2.{most_bytes}
use Rattle.opening.specs.Reading.{breach1}
use Rattle.interfaces.specs.Reading.{interfaces_judged, location_of}
use Rattle.interfaces.proofs.locate.Goals as goal

few : (s : List ℕ) (a : Option ℕ) → a ≡ breach1 s → (u : Unit {0}) → Ok u ≡ kept_or (refuse 1 a none) → length s ≤ most_bytes
unfolding breach1
few s a e u h = ((kept_nowhere 0 (reads_within 9 (length s) most_bytes)).0 (sym e ∙ rule_kept 1 (λ z. omega arith) a u h)).1

pub returns-in_err-refuse_at : goal.returns-in_err-refuse_at
unfolding location_of told interfaces_judged refuse
returns-in_err-refuse_at c = search rules

pub returns-in_err-refuse_at-2 : goal.returns-in_err-refuse_at-2
unfolding location_of told interfaces_judged refuse
returns-in_err-refuse_at-2 c = search rules

pub returns-in_err-refuse_at-3 : goal.returns-in_err-refuse_at-3
unfolding location_of told interfaces_judged refuse
returns-in_err-refuse_at-3 c = search rules

pub check_interfaces-requires : goal.check_interfaces-requires
check_interfaces-requires c = search (few, rules)

pub returns : goal.returns
unfolding location_of told interfaces_judged refuse
returns c = search rules
