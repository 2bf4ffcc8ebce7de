-- The route is put behind those told so far; it has as many IDs as the path.
use borrow.Author.Rules.{rules}
use Prim.Native.Nat.{ℕ, ◌+◌, ◌-◌, ◌^◌, ◌≤◌, ◌<◌}
use mathlib.Core.Path.{◌≡◌, sym, ap, ◌∙◌}
use mathlib.Core.List.{List, [], ◌∷◌, ◌++◌}
use native.Mathlib.Omega.{arith}
use lib.ListN.{length}
use lib.Seq.{length-take-le}
use borrow.Author.Tests.{le-ltb}
use Rattle.ground.specs.Pick.{no}
use Rattle.upstream.specs.declared.Path.{Path}
use Rattle.upstream.specs.declared.Tally.{Tally}
use Rattle.upstream.specs.Telling.{most_depth, most_routes, path_of, Ready, so_far, put_in, tell}
use Rattle.upstream.proofs.tell_route.Goals as goal

module _ (p : Path) (t : Tally) (g : Ready p t) where
  small : t.written + 33 < 2 ^ 64
  small = let a = g.few in let b = g.short in omega arith

  deep : p.left ≤ 32
  deep = g.stands.low

  one_more : (l k : List ℕ) → t.routes ≤ 256 → k ≡ put_in l t.written (path_of p ++ 0 ∷ [])
      → so_far (record { routes = t.routes + 1; written = t.written + (most_depth - p.left) + 1 }) k ≡ tell (path_of p) (so_far t l)
  unfolding tell so_far path_of
  one_more l k h e =
      let a = g.stands.low in
      let b = g.stands.long in
      let n : most_depth - p.left ≡ length (path_of p) = sym (length-take-le (most_depth - p.left) p.ids (omega arith)) in
      ap (λ (m : ℕ). so_far (record { routes = t.routes + 1; written = t.written + m + 1 }) k) n
      ∙ ap (λ (m : List ℕ). so_far (record { routes = t.routes + 1; written = t.written + length (path_of p) + 1 }) m) e
      ∙ sym (no _ _ (le-ltb most_routes t.routes h))

ruleset laws = (small, deep, one_more, rules)

pub returns : goal.returns
returns c = search laws
