-- Clusters given out along an order, for any kind of cluster C and any edition's rule. The rule says what an index gives out,
-- from what enters it by its sources (document 01, "Clusters": "A Feature Unit gives out its source's cluster", "A Selector
-- gives out pin 1's"; an Input Terminal's rule looks at no source). Clusters go by ID: what an index gives out is its ID's, and
-- a user finds it there. In an order each source stands before its user, so that one sweep along it gives out every cluster,
-- whatever is tested of them later: "Each rule reads the declared bytes, even where those break a rule themselves."
--   put f x c            ==  f, with c at x; put_at, put_other: what it is at x, and elsewhere
--   enters sources c i   ==  the clusters that enter index i, in the order of its sources, where c has them by ID
--   gives sources rule c i       ==  what the rule makes of them
--   given ids sources rule c o   ==  the clusters by ID after the indices of o have given out theirs, from c on
--   given_with           ==  one index more gives out its own
--   given_take           ==  .. so do the first suc k of an order, after the first k
--   given_out ids sources rule c n  ==  the clusters by ID, given out along the order of n indices
--   MadeAt ids sources rule c i  ==  in c, index i's cluster is what the rule makes of what enters it
--   Made ids sources rule o c    ==  .. for each index of o
use Rattle.std.specs.Prelude.{ℕ, suc, ◌<◌, ◌≡◌, ◌⊎◌, eqb, length, get_or, take}
use Rattle.std.proofs.Math.Path.{refl}
use Rattle.std.proofs.Common.{sym, ap, ◌∙◌, inl, inr, ⊎_elim, take-suc, eq-eqb, ne_eqb}
use mathlib.Core.List.Memᴰ
use mathlib.Core.List.{List, [], ◌∷◌, map}
use Rattle.ground.specs.Pick.{pick, yes, no}
use Rattle.ground.specs.Lists.{take_in}
use Rattle.graph.specs.Members.{◌∈◌, map_same}
use Rattle.graph.specs.Passes.{borne, order_of}
use Rattle.graph.specs.Grown.{with, with_cases, with_last, borne_cases, Grown, none, more, grown_source, grown_take, grown_at}

unfoldable pub put : {C : Type 0} → (ℕ → C) → ℕ → C → ℕ → C
put f x c y = pick (eqb y x) c (f y)

module _ {C : Type 0} (f : ℕ → C) (x : ℕ) (c : C) where
  pub put_at : put f x c x ≡ c
  unfolding put
  put_at = yes _ _ (eq-eqb x x refl)

  pub put_other : (y : ℕ) → (y ≡ x → ⊥) → put f x c y ≡ f y
  unfolding put
  put_other y h = no _ _ (ne_eqb y x h)

module _ {C : Type 0} (sources : ℕ → List ℕ) where
  abbrev pub enters : (ℕ → C) → ℕ → List C
  enters c i = map c (sources i)

  abbrev pub gives : (ℕ → List C → C) → (ℕ → C) → ℕ → C
  gives rule c i = rule i (enters c i)

module _ {C : Type 0} (ids : ℕ → ℕ) (sources : ℕ → List ℕ) (rule : ℕ → List C → C) where
  unfoldable pub given : (ℕ → C) → List ℕ → ℕ → C
  given c [] = c
  given c (i ∷ o) = given (put c (ids i) (gives sources rule c i)) o

  pub given_with : (c : ℕ → C) (o : List ℕ) (i : ℕ) → given c (with o i) ≡ put (given c o) (ids i) (gives sources rule (given c o) i)
  unfolding given
  given_with c [] i = refl
  given_with c (j ∷ o) i = given_with (put c (ids j) (gives sources rule c j)) o i

  pub given_take : (c : ℕ → C) (o : List ℕ) (k : ℕ) → k < length o
      → given c (take (suc k) o) ≡ put (given c (take k o)) (ids (get_or o k 0)) (gives sources rule (given c (take k o)) (get_or o k 0))
  given_take c o k l = ap (given c) (take-suc o k 0 l) ∙ given_with c (take k o) (get_or o k 0)

  abbrev pub MadeAt : (ℕ → C) → ℕ → Type 0
  MadeAt c i = c (ids i) ≡ gives sources rule c i

  abbrev pub Made : List ℕ → (ℕ → C) → Type 0
  Made o c = (i : ℕ) → i ∈ o → MadeAt c i

  module _ (c : ℕ → C) (n : ℕ) where
    abbrev pub given_out : ℕ → C
    given_out = given c (order_of ids sources n)
