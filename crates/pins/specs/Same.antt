-- Numbers that are one and the same: c, bitmap or first name index of what enters by the pins of a Selector (document 02, No. 5).
--   numbers_at numbers ids  ==  the numbers of these IDs, out of those of all IDs
--   one_number numbers x y  ==  the IDs x and y have one number
--   AllSame ns    ==  no two of the numbers ns differ: each is the first
--   all_same ns    ==  the test
--   reads_all_same    ==  it decides the statement
use Rattle.std.specs.Prelude.{ℕ, ◌≡◌, Bool, List, map, eqb, get_or}
use Rattle.ground.specs.Pick.{Reads, reads_eq}
use Rattle.graph.specs.Members.{◌∈◌, all, reads_all}

unfoldable pub numbers_at : List ℕ → List ℕ → List ℕ
numbers_at numbers ids = map (λ x. get_or numbers x 0) ids

abbrev pub one_number : List ℕ → ℕ → ℕ → Bool
one_number numbers x y = eqb (get_or numbers x 0) (get_or numbers y 0)

abbrev pub AllSame : List ℕ → Type 0
AllSame ns = (n : ℕ) → n ∈ ns → n ≡ get_or ns 0 0

unfoldable pub all_same : List ℕ → Bool
all_same ns = all (λ n. eqb n (get_or ns 0 0)) ns

pub reads_all_same : (ns : List ℕ) → Reads (all_same ns) (AllSame ns)
unfolding all_same
reads_all_same ns = reads_all (λ n. eqb n (get_or ns 0 0)) (λ n. n ≡ get_or ns 0 0) ns (λ n m. reads_eq n (get_or ns 0 0))
