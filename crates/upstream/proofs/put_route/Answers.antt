-- The IDs stand in the part that is copied over; 00 comes behind the last.
use borrow.Author.Rules.{rules}
use Prim.Native.Nat.{ℕ, ◌+◌, ◌-◌, ◌≤◌, ◌<◌}
use mathlib.Core.Path.{◌≡◌, sym, ap, ◌∙◌}
use mathlib.Core.List.{List, [], ◌∷◌, ◌++◌, append_assoc}
use native.Mathlib.Omega.{arith}
use lib.ListN.{length, set, take, drop, length-append}
use lib.Seq.{sets, drop-drop, length-take-le}
use borrow.Author.Tests.{lt-ltb, le-ltb}
use Rattle.std.proofs.lemmas.List.Edits.{sets-eq}
use Rattle.ground.specs.Pick.{yes, no}
use Rattle.upstream.specs.declared.Path.{Path}
use Rattle.upstream.specs.Telling.{most_depth, path_of, Standing, put_in}
use Rattle.upstream.specs.TellingLaws.{sets_both}
use Rattle.upstream.proofs.put_route.Goals as goal

module _ (l : List ℕ) (at : ℕ) (p : Path) (g : Standing p) where
  abbrev n : ℕ
  n = most_depth - p.left

  ids_long : length (take n p.ids) ≡ n
  ids_long = let a = g.low in let b = g.long in length-take-le n p.ids (omega arith)

  path_long : length (path_of p ++ 0 ∷ []) ≡ n + 1
  unfolding path_of
  path_long = length-append (path_of p) (0 ∷ []) ∙ ap (λ (m : ℕ). m + 1) ids_long

  no_room : length l < at + n + 1 → l ≡ put_in l at (path_of p ++ 0 ∷ [])
  unfolding put_in
  no_room h = sym (yes _ _ (lt-ltb (length l) (at + length (path_of p ++ 0 ∷ [])) (rw path_long (omega arith))))

  module _ (h : at + n + 1 ≤ length l) where
    copied : (x : List ℕ) → x ≡ take n p.ids → take at l ++ (x ++ drop (at + n - at) (drop at l)) ≡ sets l at (take n p.ids)
    copied x e =
        let q : at + n - at ≡ length (take n p.ids) = let k = ids_long in omega arith in
        let k = ids_long in
        ap (λ (y : List ℕ). take at l ++ (y ++ drop (at + n - at) (drop at l))) e
        ∙ ap (λ (m : ℕ). take at l ++ (take n p.ids ++ drop m (drop at l))) q
        ∙ ap (λ (y : List ℕ). take at l ++ (take n p.ids ++ y)) (drop-drop (length (take n p.ids)) at l)
        ∙ sym (append_assoc (take at l) (take n p.ids) (drop (at + length (take n p.ids)) l))
        ∙ sym (sets-eq (take n p.ids) l at (omega arith))

    put : (x : List ℕ) → x ≡ take n p.ids → set (take at l ++ (x ++ drop (at + n - at) (drop at l))) (at + n) 0 ≡ put_in l at (path_of p ++ 0 ∷ [])
    unfolding put_in path_of
    put x e =
        ap (λ (u : List ℕ). set u (at + n) 0) (copied x e)
        ∙ ap (λ (m : ℕ). set (sets l at (take n p.ids)) (at + m) 0) (sym ids_long)
        ∙ sym (sets_both l at (take n p.ids) (0 ∷ []))
        ∙ sym (no _ _ (le-ltb (length l) (at + length (path_of p ++ 0 ∷ [])) (rw path_long (omega arith))))

ruleset laws = (no_room, put, rules)

pub returns-then-list-at : goal.returns-then-list-at
returns-then-list-at c = search laws

pub returns : goal.returns
returns c = search laws
