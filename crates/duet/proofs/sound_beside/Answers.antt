-- The counts first, then the other side's table.
use borrow.Author.Rules.{rules}
use Prim.Native.Nat.{ℕ, ◌+◌, ◌-◌, ◌≤◌, ◌<◌}
use lib.Dec.{leb}
use mathlib.Core.Path.{◌≡◌, sym, ap, ◌∙◌}
use mathlib.Core.Bool.{Bool, true, false, ◌&&◌}
use native.Mathlib.Omega.{arith}
use borrow.Author.Tests.{le-leb, lt-leb, leb-true, leb-false}
use Rattle.sides.specs.declared.Side.{Side}
use Rattle.sides.specs.Sides.{most_together}
use Rattle.duet.specs.declared.Socket.{Socket}
use Rattle.duet.specs.declared.Duet.{Duet}
use Rattle.duet.specs.Box.{other_side, socket_of, controls_on, sound_socket, sound_beside}
use Rattle.duet.proofs.sound_beside.Goals as goal
use Rattle.duet.proofs.sound_beside.Goals.{then-own-le-TOGETHER, else-own-le-TOGETHER}

none_over : (m : ℕ) (v : Bool) → most_together < m → v ≡ leb m most_together → v ≡ true → ⊥
none_over m v l p t = let q = leb-true m most_together (sym p ∙ t) in omega arith

module _ (b : Duet) (k : Side) (x : Socket) (e : x ≡ socket_of b k) (m : ℕ) (f : m ≡ controls_on x) where
  own : m ≡ controls_on (socket_of b k)
  own = f ∙ ap controls_on e

  passed : most_together < controls_on (socket_of b k) + controls_on (socket_of b (other_side k)) → false ≡ sound_beside b k
  unfolding sound_beside
  passed l = sym (ap (λ (c : Bool). c && sound_socket (socket_of b (other_side k))) (lt-leb _ _ l))

  too_many : most_together < m → (v : Bool) → v ≡ false → v ≡ sound_beside b k
  too_many l v t = t ∙ passed (let o = own in omega arith)

  module _ (l : m ≤ most_together) (j : Side) (g : j ≡ other_side k) (y : Socket) (h : y ≡ socket_of b j) (n : ℕ) (i : n ≡ controls_on y)
      (v : Bool) (p : v ≡ leb n (most_together - m)) where
    beside : y ≡ socket_of b (other_side k)
    beside = h ∙ ap (socket_of b) g

    counted : n ≡ controls_on (socket_of b (other_side k))
    counted = i ∙ ap controls_on beside

    too_many_beside : v ≡ false → v ≡ sound_beside b k
    too_many_beside t = t ∙ passed (let o = own in let c = counted in let q = leb-false n (most_together - m) (sym p ∙ t) in omega arith)

    few : v ≡ true → (r : Bool) → r ≡ sound_socket y → r ≡ sound_beside b k
    unfolding sound_beside
    few t r e =
        let o = own in
        let c = counted in
        let q = leb-true n (most_together - m) (sym p ∙ t) in
        let w : controls_on (socket_of b k) + controls_on (socket_of b (other_side k)) ≤ most_together = omega arith in
        e ∙ ap sound_socket beside ∙ sym (ap (λ (c : Bool). c && sound_socket (socket_of b (other_side k))) (le-leb _ _ w))

ruleset laws = (too_many, none_over, too_many_beside, few, rules)

pub returns-then-controls_on-own : goal.returns-then-controls_on-own
returns-then-controls_on-own c =
    elim c.if-own-le-TOGETHER.branch [
      | then-own-le-TOGETHER w ↦ search (w, laws)
      | else-own-le-TOGETHER w ↦ absurd (none_over _ _ w.if-own-le-TOGETHER.false w.value-is c.if-controls_on-own.true)
    ]

pub returns-else-controls_on-own : goal.returns-else-controls_on-own
returns-else-controls_on-own c = elim c.if-own-le-TOGETHER.branch [ then-own-le-TOGETHER w ↦ search (w, laws) | else-own-le-TOGETHER w ↦ search (w, laws) ]
