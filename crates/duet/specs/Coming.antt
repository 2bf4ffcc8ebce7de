-- A microphone comes and goes: "30 comes first wherever a state is given"; "plugging in gives 61 if the side is taken"; "unplugging .. 63 for an empty
-- side"; "Unplugging a side gives its room back."
--   vacancy_of b k     ==  whether one may come to the side k of the box b: 30, 61, or how many controls it meets on the other
--   occupied b k st   ==  the box with a microphone there, whose state is st
--   refusal b n       ==  the answer of a refusal with no place
--   unplug_answer b k  ==  what an unplugging answers, the box after it among it
use Rattle.std.specs.Prelude.{ℕ, true, Result, Ok, Err}
use Rattle.ground.specs.Pick.{pick}
use Rattle.request.specs.declared.State.{State}
use Rattle.sides.specs.declared.Side.{Side}
use Rattle.duet.specs.declared.Duet.{Duet}
use Rattle.duet.specs.declared.Answer.{Answer}
use Rattle.duet.specs.Box.{other_side, socket_of, with_socket, empty_socket, controls_on, sound_duet}

unfoldable pub vacancy_of : Duet → Side → Result ℕ ℕ
vacancy_of b k =
    pick (sound_duet b)
    (pick (socket_of b k).plugged (Err 61) (Ok (controls_on (socket_of b (other_side k)))))
    (Err 30)

abbrev pub occupied : Duet → Side → State → Duet
occupied b k st = with_socket b k (record { plugged = true; state = st })

abbrev pub refusal : Duet → ℕ → Answer
refusal b n = record { number = n; written = 0; duet = b }

unfoldable pub unplug_answer : Duet → Side → Answer
unplug_answer b k =
    pick (sound_duet b)
    (pick (socket_of b k).plugged (record { number = 0; written = 0; duet = with_socket b k empty_socket }) (refusal b 63))
    (refusal b 30)
