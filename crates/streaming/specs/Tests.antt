-- What the reader computes for rule 14: each sentence's test, and the place of the first streaming group that breaks it.
--   bearer_right b g f    ==  the test of b, what bears the ID at GENERAL's byte 3: no number refuses it, and FORMAT_TYPE is right for its
--                            channels
--   described_by find g f ==  the test of Described, where find tells what bears an ID
--   described_at find s e ==  the same of the two descriptors of the bytes s from place e on
--   holds_class ds        ==  a type 24 descriptor stands among ds before the next interface descriptor
--   broken find i tail   ==  i, with the descriptors tail behind it, opens a streaming group that breaks the rule
--   broken_at find s i e  ==  the same, where the descriptors behind i are those of the bytes s from place e on
--   wrong_stream find ds b i ==  the same of i, which stands behind b in the cutting ds
--   first_broken find s   ==  nowhere, or the place of the first streaming group's interface descriptor that breaks the rule
--   breach14 ts s        ==  the same by the Terminals ts: an ID is borne by the first of them that has it
use Rattle.std.specs.Prelude.{ℕ, suc, Bool, false, not, ◌&&◌, ◌||◌, List, [], ◌∷◌, length, get_or, drop, eqb, Option}
use Rattle.ground.specs.Pick.{pick}
use Rattle.ground.specs.Numbers.{byte, word}
use Rattle.ground.specs.Lists.{part}
use Rattle.scan.specs.Cutting.{end_at, rest}
use Rattle.scan.specs.Search.{searched}
use Rattle.search.specs.Want.{is_interface, is_class, is_audio}
use Rattle.groups.specs.Reading.{strays_from}
use Rattle.formats.specs.Tests.{is_general, format_right}
use Rattle.terminals.specs.declared.Bearer.{Bearer}
use Rattle.terminals.specs.Terminals.{Terminal, bearer_in, terminal_number, channels_borne}

unfoldable pub bearer_right : Option Bearer → List ℕ → List ℕ → Bool
bearer_right b g f = eqb (terminal_number b) 0 && format_right (word g 5) (channels_borne b) f

unfoldable pub described_by : (ℕ → Option Bearer) → List ℕ → List ℕ → Bool
described_by find g f = is_general g && bearer_right (find (byte g 3)) g f

unfoldable pub described_at : (ℕ → Option Bearer) → List ℕ → ℕ → Bool
described_at find s from = described_by find (part s from (end_at s from)) (part s (end_at s from) (end_at s (end_at s from)))

unfoldable pub broken_at : (ℕ → Option Bearer) → List ℕ → List ℕ → ℕ → Bool
broken_at find s i from = is_audio 2 i && pick (eqb (byte i 4) 0) (strays_from s from) (not (described_at find s from))

unfoldable pub holds_class : List (List ℕ) → Bool
holds_class [] = false
holds_class (d ∷ ds) = is_class d || (not (is_interface d) && holds_class ds)

-- "directly after the interface": the first and the second of what follows it
unfoldable pub broken : (ℕ → Option Bearer) → List ℕ → List (List ℕ) → Bool
broken find i tail =
    is_audio 2 i && pick (eqb (byte i 4) 0) (holds_class tail) (not (described_by find (get_or tail 0 []) (get_or tail 1 [])))

unfoldable pub wrong_stream : (ℕ → Option Bearer) → List (List ℕ) → List (List ℕ) → List ℕ → Bool
wrong_stream find ds b i = broken find i (drop (suc (length b)) ds)

unfoldable pub first_broken : (ℕ → Option Bearer) → List ℕ → Option ℕ
first_broken find s = searched (wrong_stream find (rest s 0)) s 0

unfoldable pub breach14 : List Terminal → List ℕ → Option ℕ
breach14 ts s = first_broken (bearer_in ts) s
