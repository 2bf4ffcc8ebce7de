-- The collection list is what stands behind the header's first eight bytes.
use borrow.Author.Rules.{rules}
use Prim.Native.Nat.{ℕ, ◌-◌}
use mathlib.Core.Path.{◌≡◌}
use mathlib.Core.List.{List}
use native.Mathlib.Omega.{arith}
use lib.ListN.{length, drop, length-drop}
use lib.Seq.{take_all}
use Rattle.ground.specs.Lists.{part}
use Rattle.ground.specs.Refuse.{refuse}
use Rattle.ground.specs.Told.{told}
use Rattle.groups.specs.Rules5and6.{listed_of}
use Rattle.groups.specs.Reading.{breach5, breach6, breach7, group_judged}
use Rattle.groups.proofs.judge_group.Goals as goal

listed : (h : List ℕ) → part h 8 (length h) ≡ listed_of h
listed h = take_all (length h - 8) (drop 8 h) (simp length-drop (omega arith))

ruleset laws = (listed, rules)

pub returns-in_err-refuse_unless : goal.returns-in_err-refuse_unless
unfolding group_judged breach5 refuse told
returns-in_err-refuse_unless c = search rules

pub returns-in_err-refuse_unless-2 : goal.returns-in_err-refuse_unless-2
unfolding group_judged breach5 breach6 refuse told
returns-in_err-refuse_unless-2 c = search rules

pub returns : goal.returns
unfolding group_judged breach5 breach6 breach7 refuse told
returns c = search laws
