-- What the reader computes for the rules 1 and 2: for each, nowhere or the place of the refusal (document 01's table).
--   breach1, breach2 ==  where rule 1, 2 is broken (breach3 stands with the cutting)
use Rattle.std.specs.Prelude.{ℕ, ◌&&◌, List, length, eqb, Option}
use Rattle.ground.specs.Pick.{within}
use Rattle.ground.specs.Numbers.{byte, word}
use Rattle.ground.specs.Refuse.{kept_at}
use Rattle.opening.specs.Rules1and2.{most_bytes}

unfoldable pub breach1 : List ℕ → Option ℕ
breach1 s = kept_at (within 9 (length s) most_bytes) 0

unfoldable pub breach2 : List ℕ → Option ℕ
breach2 s = kept_at (eqb (byte s 0) 9 && (eqb (byte s 1) 2 && eqb (word s 2) (length s))) 0
