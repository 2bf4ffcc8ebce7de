-- The next place of the path is filled, and one less may follow.
use borrow.Author.Rules.{rules}
use Prim.Native.Nat.{ℕ, suc, ◌-◌, ◌<◌}
use mathlib.Core.Path.{◌≡◌, ◌∙◌}
use native.Mathlib.Omega.{arith}
use lib.ListN.{set, length-set}
use lib.Seq.{take-suc-set}
use Rattle.upstream.specs.declared.Path.{Path}
use Rattle.upstream.specs.Telling.{most_depth, path_of, Standing, Further}
use Rattle.upstream.proofs.step.Goals as goal

module _ (p : Path) (g : Standing p) (h : 0 < p.left) where
  room : most_depth - p.left < most_depth
  room = let l = g.low in omega arith

  further : (x : ℕ) → Further p x (record { ids = set p.ids (most_depth - p.left) x; left = p.left - 1 })
  unfolding path_of
  further x =
      let l = g.low in
      let n = g.long in
      let q : most_depth - (p.left - 1) ≡ suc (most_depth - p.left) = omega arith in
      record {
        stands = record { low = omega arith; long = length-set p.ids (most_depth - p.left) x ∙ g.long };
        behind = rw q (take-suc-set p.ids (most_depth - p.left) x (omega arith));
        less = omega arith;
      }

ruleset laws = (room, further, rules)

pub returns : goal.returns
returns c = search laws
