-- Laws of the box, once over the side.
--   sound_split   ==  30 has nothing against the box where it has nothing against the one side's table and nothing against the rest
--   kept_socket   ==  the box with a side's own socket is the box
--   own_socket    ==  what is put in a side's socket stands there
--   unsound_beside, sound_own, sound_empty  ==  the test of the box, from that of the rest
--   own_or_rest   ==  of a side that has a microphone, the test of its own table may be left to what is done there
use Rattle.std.specs.Prelude.{ℕ, ◌+◌, ◌≡◌, Bool, true, false, ◌&&◌, leb}
use Rattle.std.proofs.Math.Path.{refl}
use Rattle.std.proofs.Common.{sym, ap, ◌∙◌, add_comm}
use Rattle.ground.specs.Pick.{pick, yes, no}
use Rattle.sound.specs.Sound.{sound_of}
use Rattle.request.specs.Outcome.{Outcome}
use Rattle.request.specs.Outcome.Outcome.{refused}
use Rattle.sides.specs.declared.Side.{Side}
use Rattle.sides.specs.declared.Side.TheVariants.{Left, Right}
use Rattle.sides.specs.Sides.{most_together}
use Rattle.duet.specs.declared.Socket.{Socket}
use Rattle.duet.specs.declared.Duet.{Duet}
use Rattle.duet.specs.Box.{socket_of, with_socket, controls_on, sound_socket, sound_beside, sound_duet}

left_last : (x y z : Bool) → (x && (y && z)) ≡ (y && (x && z))
left_last true true z = refl
left_last true false z = refl
left_last false true z = refl
left_last false false z = refl

right_last : (x y z : Bool) → (x && (y && z)) ≡ (z && (x && y))
right_last true true true = refl
right_last true true false = refl
right_last true false true = refl
right_last true false false = refl
right_last false y true = refl
right_last false y false = refl

pub sound_split : (b : Duet) (k : Side) → sound_duet b ≡ (sound_socket (socket_of b k) && sound_beside b k)
unfolding sound_duet sound_beside
sound_split b Left = left_last (leb (controls_on b.left + controls_on b.right) most_together) (sound_socket b.left) (sound_socket b.right)
sound_split b Right =
    right_last (leb (controls_on b.left + controls_on b.right) most_together) (sound_socket b.left) (sound_socket b.right)
    ∙ ap (λ (n : ℕ). sound_socket b.right && (leb n most_together && sound_socket b.left)) (add_comm (controls_on b.left) (controls_on b.right))

pub kept_socket : (b : Duet) (k : Side) → with_socket b k (socket_of b k) ≡ b
kept_socket b Left = refl
kept_socket b Right = refl

pub own_socket : (b : Duet) (k : Side) (x : Socket) → socket_of (with_socket b k x) k ≡ x
own_socket b Left x = refl
own_socket b Right x = refl

module _ (b : Duet) (k : Side) where
  pub unsound_beside : sound_beside b k ≡ false → sound_duet b ≡ false
  unsound_beside e = sound_split b k ∙ ap (λ (x : Bool). sound_socket (socket_of b k) && x) e ∙ last (sound_socket (socket_of b k))
    where
      last : (x : Bool) → (x && false) ≡ false
      last true = refl
      last false = refl

  module _ (rest : sound_beside b k ≡ true) where
    pub sound_own : sound_duet b ≡ sound_socket (socket_of b k)
    sound_own = sound_split b k ∙ ap (λ (x : Bool). sound_socket (socket_of b k) && x) rest ∙ last (sound_socket (socket_of b k))
      where
        last : (x : Bool) → (x && true) ≡ x
        last true = refl
        last false = refl

    pub sound_empty : (socket_of b k).plugged ≡ false → sound_duet b ≡ true
    unfolding sound_socket
    sound_empty e = sound_own ∙ no _ _ e

    pub own_or_rest : (socket_of b k).plugged ≡ true → (o : Outcome) → (sound_of (socket_of b k).state.table ≡ false → o ≡ refused 30)
        → pick (sound_duet b) (pick (socket_of b k).plugged o (refused 63)) (refused 30) ≡ o
    unfolding sound_socket
    own_or_rest e o h = go (sound_of (socket_of b k).state.table) refl
      where
        known : sound_duet b ≡ sound_of (socket_of b k).state.table
        known = sound_own ∙ yes _ _ e

        go : (x : Bool) → sound_of (socket_of b k).state.table ≡ x → pick (sound_duet b) (pick (socket_of b k).plugged o (refused 63)) (refused 30) ≡ o
        go true s = yes _ _ (known ∙ s) ∙ yes _ _ e
        go false s = no _ _ (known ∙ s) ∙ sym (h s)
