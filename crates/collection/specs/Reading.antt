-- What the reader computes for rule 7: the test of the numbers that the header lists.
--   is_distinct l              ==  the test that the numbers l are distinct
--   all_known ds l             ==  the test that each of l is the number of a streaming or MIDI group of ds
--   unlisted l d              ==  the test that d is the interface descriptor of such a group, and its number is not among l
--   collects s l              ==  the test that the listed numbers l keep rule 7
use Rattle.std.specs.Prelude.{ℕ, Bool, true, not, ◌&&◌, ◌||◌, List, [], ◌∷◌, eqb}
use Rattle.ground.specs.Numbers.{byte}
use Rattle.ground.specs.Lists.{any}
use Rattle.scan.specs.Cutting.{rest}
use Rattle.search.specs.Want.{is_audio, is_member}

unfoldable pub is_distinct : List ℕ → Bool
is_distinct [] = true
is_distinct (k ∷ l) = not (any (eqb k) l) && is_distinct l

unfoldable pub all_known : List (List ℕ) → List ℕ → Bool
all_known ds [] = true
all_known ds (k ∷ l) = any (is_member k) ds && all_known ds l

unfoldable pub unlisted : List ℕ → List ℕ → Bool
unlisted listed d = (is_audio 2 d || is_audio 3 d) && not (any (eqb (byte d 2)) listed)

unfoldable pub collects : List ℕ → List ℕ → Bool
collects s listed = is_distinct listed && (all_known (rest s 0) listed && not (any (unlisted listed) (rest s 0)))
