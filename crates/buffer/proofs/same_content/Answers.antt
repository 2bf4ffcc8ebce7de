-- By its two ways out: the first four bytes differ, or what stands behind the ID decides.
use borrow.Author.Rules.{rules}
use Prim.Native.Nat.{ℕ, ◌-◌}
use mathlib.Core.Path.{◌≡◌, refl, sym, ap, ◌∙◌}
use mathlib.Core.Bool.{Bool, true, false, not, ◌&&◌}
use mathlib.Core.List.{List}
use native.Mathlib.Omega.{arith}
use lib.ListN.{length, take, drop, length-drop}
use lib.Seq.{take_all}
use borrow.Author.Tests.{not-true, not-false}
use Rattle.ground.specs.Pick.{shows, refutes, true≠false}
use Rattle.ground.specs.Lists.{part}
use Rattle.buffer.specs.Reading.{eq_bytes, reads_bytes, same_content}
use Rattle.buffer.proofs.same_content.Goals as goal

-- a comparison as a string answers as the test does
compared : (x y u v : List ℕ) (r : Bool) → x ≡ u → y ≡ v → (r ≡ true → x ≡ y) × (x ≡ y → r ≡ true) → r ≡ eq_bytes u v
compared x y u v r e f s = go r refl
  where
    go : (b : Bool) → r ≡ b → b ≡ eq_bytes u v
    go true q = sym (shows (reads_bytes u v) (sym e ∙ s.0 q ∙ f))
    go false q = sym (refutes (reads_bytes u v) (λ o. true≠false (sym (s.1 (e ∙ o ∙ sym f)) ∙ q)))

to_end : (a : List ℕ) → part a 6 (length a) ≡ drop 6 a
to_end a = take_all (length a - 6) (drop 6 a) (simp length-drop (omega arith))

module _ (a b x y : List ℕ) (r : Bool) (e : x ≡ part a 0 4) (f : y ≡ part b 0 4) (s : (r ≡ true → x ≡ y) × (x ≡ y → r ≡ true)) where
  front : r ≡ eq_bytes (take 4 a) (take 4 b)
  front = compared x y (take 4 a) (take 4 b) r e f s

  differs : not r ≡ true → false ≡ same_content a b
  unfolding same_content
  differs h = sym (ap (λ (z : Bool). z && eq_bytes (drop 6 a) (drop 6 b)) (sym front ∙ not-true r h))

  behind : not r ≡ false → (u v : List ℕ) (q : Bool) → u ≡ part a 6 (length a) → v ≡ part b 6 (length b) → (q ≡ true → u ≡ v) × (u ≡ v → q ≡ true) → q ≡ same_content a b
  unfolding same_content
  behind h u v q g i t =
      compared u v (drop 6 a) (drop 6 b) q (g ∙ to_end a) (i ∙ to_end b) t
      ∙ sym (ap (λ (z : Bool). z && eq_bytes (drop 6 a) (drop 6 b)) (sym front ∙ not-false r h))

ruleset laws = (differs, behind, rules)

pub returns-then-not-same : goal.returns-then-not-same
returns-then-not-same c = search laws

pub returns : goal.returns
returns c = search laws
