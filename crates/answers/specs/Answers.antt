-- A Set and a Get of the controls that they address, in their order: rows 35 to 39, each of the whole list.
--   held_by c, size_in c     ==  what the control holds, and how many bytes its value has; sizes_of cs: those of all together
--   sent_to c d, rest_of c d ==  the number that is sent to the first of the controls, c; the data of those behind it
--   set_asks c d, set_to c d ==  what a Set asks of the control c, to which the front of the data d is sent, and c as it leaves it
--   get_asks part c         ==  what a Get of that part asks of it
--   all_take cs d           ==  each control takes the number that is sent to it
--   all_set cs d            ==  each control with what is stored for that number
--   block_of part cs        ==  the bytes of that part of each control, one after another, each at its size
--   wrong_size z n l        ==  37, of a Set: "wLength is not the control's size, or Set data is not that long"; misfits cs n d: of these controls
--   set_rows deny o u t z n l, get_rows deny o k u z room  ==  the rows in their order, from what each asks of all controls together: what deny
--                              makes of the number of the first that is given, and o where none is
--   set_number u t z n l, get_number k u z room  ==  .. as a number, if one is given
--   set_of cs n d           ==  36, 37, 38, or the controls as the Set leaves them; n is wLength
--   cut_to n part cs        ==  the bytes to be sent: "the first wLength bytes of the value, or all of it if wLength is larger"
--   get_of part cs n room   ==  35, 36, 39: "the reply buffer is shorter than the bytes to be sent", or those bytes; room is the reply's length
use Rattle.std.specs.Prelude.{ℕ, Option, None, Some, ◌+◌, List, [], ◌∷◌, ◌++◌, Bool, true, not, ◌&&◌, ◌||◌, eqb, ltb, length, take, drop}
use Rattle.ground.specs.Pick.{pick}
use Rattle.ground.specs.Lists.{any}
use Rattle.table.specs.declared.Control.{Control}
use Rattle.table.specs.declared.Sense.{Sense}
use Rattle.table.specs.Controls.{sense_of, size_of}
use Rattle.setup.specs.declared.Part.{Part}
use Rattle.deed.specs.Doing.{Doing}
use Rattle.deed.specs.Reply.{low_first}
use Rattle.deed.specs.Doing.Doing.{denied, given, changed}
use Rattle.answers.specs.declared.SetAsks.{SetAsks}
use Rattle.answers.specs.declared.GetAsks.{GetAsks}
use Rattle.answers.specs.Held.{lacking, part_of, unready, value_in, takes, stored_for, with_cur}

abbrev pub held_by : Control → Sense
held_by c = sense_of c.selector

abbrev pub size_in : Control → ℕ
size_in c = size_of (held_by c)

abbrev pub sent_to : Control → List ℕ → ℕ
sent_to c d = value_in (take (size_in c) d)

abbrev pub set_asks : Control → List ℕ → SetAsks
set_asks c d = record { unready = unready (held_by c) c; taken = takes (held_by c) c (sent_to c d); size = size_in c }

abbrev pub set_to : Control → List ℕ → Control
set_to c d = with_cur (stored_for (held_by c) c (sent_to c d)) c

abbrev pub get_asks : Part → Control → GetAsks
get_asks part c = record { lacking = lacking (held_by c) part; unready = unready (held_by c) c; size = size_in c }

unfoldable pub sizes_of : List Control → ℕ
sizes_of [] = 0
sizes_of (c ∷ cs) = size_in c + sizes_of cs

abbrev pub rest_of : Control → List ℕ → List ℕ
rest_of c d = drop (size_in c) d

unfoldable pub all_take : List Control → List ℕ → Bool
all_take [] d = true
all_take (c ∷ cs) d = takes (held_by c) c (sent_to c d) && all_take cs (rest_of c d)

unfoldable pub all_set : List Control → List ℕ → List Control
all_set [] d = []
all_set (c ∷ cs) d = set_to c d ∷ all_set cs (rest_of c d)

unfoldable pub block_of : Part → List Control → List ℕ
block_of part [] = []
block_of part (c ∷ cs) = low_first (size_in c) (part_of part c) ++ block_of part cs

abbrev pub wrong_size : ℕ → ℕ → ℕ → Bool
wrong_size z n l = not (eqb n z) || not (eqb l z)

abbrev pub misfits : List Control → ℕ → List ℕ → Bool
misfits cs n d = wrong_size (sizes_of cs) n (length d)

abbrev pub set_rows : {A : Type 0} → (ℕ → A) → A → Bool → Bool → ℕ → ℕ → ℕ → A
set_rows deny o u t z n l = pick u (deny 36) (pick (wrong_size z n l) (deny 37) (pick t o (deny 38)))

abbrev pub get_rows : {A : Type 0} → (ℕ → A) → A → Bool → Bool → ℕ → ℕ → A
get_rows deny o k u z room = pick k (deny 35) (pick u (deny 36) (pick (ltb room z) (deny 39) o))

unfoldable pub set_number : Bool → Bool → ℕ → ℕ → ℕ → Option ℕ
set_number u t z n l = set_rows Some None u t z n l

unfoldable pub get_number : Bool → Bool → ℕ → ℕ → Option ℕ
get_number k u z room = get_rows Some None k u z room

unfoldable pub set_of : List Control → ℕ → List ℕ → Doing
set_of cs n d = set_rows denied (changed (all_set cs d)) (any (λ c. unready (held_by c) c) cs) (all_take cs d) (sizes_of cs) n (length d)

abbrev pub cut_to : ℕ → Part → List Control → List ℕ
cut_to n part cs = take n (block_of part cs)

unfoldable pub get_of : Part → List Control → ℕ → ℕ → Doing
get_of part cs n room =
    get_rows denied (given (cut_to n part cs)) (any (λ c. lacking (held_by c) part) cs) (any (λ c. unready (held_by c) c) cs) (length (cut_to n part cs)) room
