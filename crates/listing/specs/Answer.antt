-- What is printed of a request's answer.
--   answer_text n g r  ==  `refused` and the number n where that is not 0, else `got` and the bytes r of a get, or `set`
use Rattle.std.specs.Prelude.{ℕ, List, ◌++◌, Bool, eqb, codes, decimal}
use Rattle.ground.specs.Pick.{pick}
use Rattle.text.specs.Hex.{hex_behind}

abbrev pub answer_text : ℕ → Bool → List ℕ → List ℕ
answer_text n g r =
    pick (eqb n 0) (pick g (codes "got" ++ hex_behind r) (codes "set")) (codes "refused " ++ decimal n)
