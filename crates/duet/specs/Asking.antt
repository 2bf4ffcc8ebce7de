-- Loads and requests: "Presented interface 0 is the left AudioControl, 1 the right; the duet box puts in the microphone's own number and hands the
-- request down."
--   request_on b k s d room  ==  30, then the request at the socket of the side k
--   occupant_of b k  ==  the state on the side k; or 30, of the rest of the box, or 63
--   handed_to x s d room  ==  the request at the socket x: 63 where it is empty, else what the request layer answers
--   asked_on b a s d room ==  .. of the side that it is for
--   request_in b s d room ==  the whole request: 30, 31, 63 or 32, then the rest
--   load_in b k u ch s range w  ==  the whole load on the side k: 30, 63, then the rest
--   loaded_on x u ch s range w  ==  .. at the socket x
--   socket_after x o   ==  the socket x after the outcome o; box_after b k o: the box
--   answer_in b k o    ==  the answer of an outcome on the side k
--   answer_for b a o   ==  .. on the side that a request is for; nobody's leaves the box as it stood
--   answered_by b k r  ==  the answer of the request layer, r, on the side k
--   HandedDown b k s d h r a  ==  .. where the request is for the side k
--   AnsweredIn b s d h r a  ==  the answer r of a request with the reply h lent, and a, the reply at exit
use Rattle.std.specs.Prelude.{ℕ, ◌≡◌, List, length, Result, Ok, Err}
use Rattle.ground.specs.Pick.{pick}
use Rattle.setting.specs.declared.Range.{Range}
use Rattle.deed.specs.Reply.{laid}
use Rattle.setup.specs.Setup.{asked_of}
use Rattle.request.specs.declared.State.{State}
use Rattle.request.specs.declared.Answer as request
use Rattle.request.specs.Outcome.{Outcome, number_of, bytes_of, state_after}
use Rattle.request.specs.Outcome.Outcome.{refused}
use Rattle.request.specs.Load.{load_of}
use Rattle.request.specs.Request.{request_of}
use Rattle.sides.specs.declared.Side.{Side}
use Rattle.sides.specs.declared.Addressee.{Addressee}
use Rattle.sides.specs.declared.Addressee.TheVariants.{Nobody, At}
use Rattle.sides.specs.Sides.{addressee_of, own_setup}
use Rattle.duet.specs.declared.Socket.{Socket}
use Rattle.duet.specs.declared.Duet.{Duet}
use Rattle.duet.specs.declared.Answer.{Answer}
use Rattle.duet.specs.Box.{socket_of, with_socket, sound_beside, sound_duet}
use Rattle.duet.specs.Coming.{occupied}

unfoldable pub occupant_of : Duet → Side → Result State ℕ
occupant_of b k = pick (sound_beside b k) (pick (socket_of b k).plugged (Ok (socket_of b k).state) (Err 63)) (Err 30)

unfoldable pub handed_to : Socket → List ℕ → List ℕ → ℕ → Outcome
handed_to x s d room = pick x.plugged (request_of x.state (own_setup x.state.control s) d room) (refused 63)

abbrev pub asked_on : Duet → Addressee → List ℕ → List ℕ → ℕ → Outcome
asked_on b (Nobody n) s d room = refused n
asked_on b (At k) s d room = handed_to (socket_of b k) s d room

unfoldable pub request_in : Duet → List ℕ → List ℕ → ℕ → Outcome
request_in b s d room = pick (sound_duet b) (asked_on b (addressee_of (asked_of s)) s d room) (refused 30)

unfoldable pub loaded_on : Socket → ℕ → ℕ → ℕ → Range → ℕ → Outcome
loaded_on x u ch s range w = pick x.plugged (load_of x.state u ch s range w) (refused 63)

unfoldable pub load_in : Duet → Side → ℕ → ℕ → ℕ → Range → ℕ → Outcome
load_in b k u ch s range w = pick (sound_duet b) (loaded_on (socket_of b k) u ch s range w) (refused 30)

abbrev pub socket_after : Socket → Outcome → Socket
socket_after x o = record { plugged = x.plugged; state = state_after x.state o }

abbrev pub box_after : Duet → Side → Outcome → Duet
box_after b k o = with_socket b k (socket_after (socket_of b k) o)

unfoldable pub answer_in : Duet → Side → Outcome → Answer
answer_in b k o = record { number = number_of o; written = length (bytes_of o); duet = box_after b k o }

abbrev pub answer_for : Duet → Addressee → Outcome → Answer
answer_for b (Nobody n) o = record { number = number_of o; written = length (bytes_of o); duet = b }
answer_for b (At k) o = answer_in b k o

abbrev pub answered_by : Duet → Side → request.Answer → Answer
answered_by b k r = record { number = r.number; written = r.written; duet = occupied b k r.state }

abbrev pub request_on : Duet → Side → List ℕ → List ℕ → ℕ → Outcome
request_on b k s d room = pick (sound_duet b) (handed_to (socket_of b k) s d room) (refused 30)

pub record HandedDown (b : Duet) (k : Side) (s d h : List ℕ) (r : Answer) (a : List ℕ) : Type 0 where
  pub result : r ≡ answer_in b k (request_on b k s d (length h))
  pub lent : a ≡ laid (bytes_of (request_on b k s d (length h))) h

pub record AnsweredIn (b : Duet) (s d h : List ℕ) (r : Answer) (a : List ℕ) : Type 0 where
  pub result : r ≡ answer_for b (addressee_of (asked_of s)) (request_in b s d (length h))
  pub lent : a ≡ laid (bytes_of (request_in b s d (length h))) h
