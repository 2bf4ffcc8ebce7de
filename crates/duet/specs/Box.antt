-- The duet box (document 02, No. 11): "Two narrators, two microphones, one laptop." Two sides, each empty or with a microphone's state, which is the
-- request layer's.
--   other_side k      ==  the side that k is not
--   socket_of b k     ==  the socket of the side k of the box b
--   with_socket b k x ==  the box b with x for the socket of k, and the other as it was
--   empty_socket      ==  a socket with no microphone: its state is all zeros
--   empty_duet        ==  the box with no microphone
--   controls_on x     ==  how many controls the socket x has: none where no microphone is in it
--   together b       ==  how many both sides have
--   sound_socket x    ==  30 has nothing against the table of the socket x; an empty one has none
--   sound_beside b k  ==  .. against the rest of the box: the other side's table, and how many controls there are in all
--   sound_duet b      ==  30 has nothing against the box: "30 comes first wherever a state is given, for a table that is none or over 192 controls in all"
use Rattle.std.specs.Prelude.{ℕ, ◌+◌, Bool, true, false, ◌&&◌, leb}
use Rattle.ground.specs.Pick.{pick}
use Rattle.table.specs.Controls.{empty_table}
use Rattle.sound.specs.Sound.{sound_of}
use Rattle.sides.specs.declared.Side.{Side}
use Rattle.sides.specs.declared.Side.TheVariants.{Left, Right}
use Rattle.sides.specs.Sides.{most_together}
use Rattle.duet.specs.declared.Socket.{Socket}
use Rattle.duet.specs.declared.Duet.{Duet}

abbrev pub other_side : Side → Side
other_side Left = Right
other_side Right = Left

abbrev pub socket_of : Duet → Side → Socket
socket_of b Left = b.left
socket_of b Right = b.right

abbrev pub with_socket : Duet → Side → Socket → Duet
with_socket b Left x = record { left = x; right = b.right }
with_socket b Right x = record { left = b.left; right = x }

abbrev pub empty_socket : Socket
empty_socket = record { plugged = false; state = record { control = 0; table = empty_table } }

abbrev pub empty_duet : Duet
empty_duet = record { left = empty_socket; right = empty_socket }

unfoldable pub controls_on : Socket → ℕ
controls_on x = pick x.plugged x.state.table.count 0

abbrev pub together : Duet → ℕ
together b = controls_on b.left + controls_on b.right

unfoldable pub sound_socket : Socket → Bool
sound_socket x = pick x.plugged (sound_of x.state.table) true

unfoldable pub sound_duet : Duet → Bool
sound_duet b = leb (together b) most_together && (sound_socket b.left && sound_socket b.right)

unfoldable pub sound_beside : Duet → Side → Bool
sound_beside b k = leb (controls_on (socket_of b k) + controls_on (socket_of b (other_side k))) most_together && sound_socket (socket_of b (other_side k))
