-- An order of the run in which each source stands before its user. It is over any IDs and sources: index i, below n, bears the
-- ID `ids i` and names its sources by the IDs `sources i`. A pass looks at the indices 0 to n - 1 in turn; one joins at the
-- order's end if no index there bears its ID and each of its source IDs is borne there. It counts from then on, for the rest
-- of the pass too, so that a run whose sources stand before their users is in order after one pass. "Order carries no
-- meaning: a source may stand after its user" (document 01): such a user joins in a later pass. n passes are enough for any
-- run (Quiet.antt); what they leave out has no rank (Ranked.antt).
--   borne ids o                 ==  the IDs that the indices of o bear
--   joins ids sources o i       ==  index i may join o
--   step ids sources o i        ==  o, with i at its end if it may join
--   pass_from ids sources k i o  ==  o after the steps of the k indices from i on
--   passes ids sources n k      ==  the order after k passes over n indices
--   order_of ids sources n       ==  the order of n indices
use Rattle.std.specs.Prelude.{ℕ, zero, suc, List, [], ◌∷◌, ◌++◌, map, Bool, not, ◌&&◌}
use Rattle.ground.specs.Pick.{pick}
use Rattle.graph.specs.Members.{mem, all}

abbrev pub borne : (ℕ → ℕ) → List ℕ → List ℕ
borne ids o = map ids o

module _ (ids : ℕ → ℕ) (sources : ℕ → List ℕ) where
  unfoldable pub joins : List ℕ → ℕ → Bool
  joins o i = not (mem (ids i) (borne ids o)) && all (λ x. mem x (borne ids o)) (sources i)

  unfoldable pub step : List ℕ → ℕ → List ℕ
  step o i = pick (joins o i) (o ++ (i ∷ [])) o

  unfoldable pub pass_from : ℕ → ℕ → List ℕ → List ℕ
  pass_from zero i o = o
  pass_from (suc k) i o = pass_from k (suc i) (step o i)

  module _ (n : ℕ) where
    unfoldable pub passes : ℕ → List ℕ
    passes zero = []
    passes (suc k) = pass_from n 0 (passes k)

    abbrev pub order_of : List ℕ
    order_of = passes n
