-- Where rule 10 is kept, an ID is its entity's own: "ID zero or borne by an earlier entity" is so of none (document 01).
--   earlier          ==  a descriptor of a lower index is among those before
--   own_ids          ==  two indices at which the same ID is borne are one
--   distinct_ids     ==  so no two descriptors of the run bear the same ID
--   own_one          ==  .. and two descriptors of the run that bear the same ID are the same
use Rattle.std.specs.Prelude.{ℕ, ◌≤◌, ◌<◌, ◌≡◌, ltb, length, get_or, take}
use Rattle.std.proofs.Math.Path.{sym, ap}
use Rattle.std.proofs.Common.{◌∙◌, inr, ⊎_elim, length-take-le, get_or-take, arith}
use mathlib.Core.List.{List, [], ◌∷◌, ◌++◌, append_assoc}
use Rattle.ground.specs.Pick.{decided, reads_lt}
use Rattle.ground.specs.Lists.{split_of, of_split, member_at, member_index}
use Rattle.ground.specs.First.{Sound}
use Rattle.ground.specs.Indexed.{sound_index}
use Rattle.graph.specs.Members.{◌∈◌}
use Rattle.edition.specs.Edition.{own_id, DistinctIds}
use Rattle.ids.specs.Rule10.{WrongId, Rule10}

pub earlier : (ds : List (List ℕ)) (i j : ℕ) → j < i → i ≤ length ds → get_or ds j [] ∈ take i ds
earlier ds i j h l =
    let n = length-take-le i ds l in
    let m : j < length (take i ds) = omega arith in
    rw (get_or-take i ds j [] h) at (member_at [] (take i ds) j m)

module _ (ds : List (List ℕ)) (rule : Rule10 ds) where
  -- an ID is not borne at a lower index
  not_before : (i j : ℕ) → i < j → j < length ds → own_id (get_or ds i []) ≡ own_id (get_or ds j []) → ⊥
  not_before i j h l e = (sound_index WrongId ds).1 rule j l (inr (record { one = get_or ds i []; among = earlier ds j i h (omega arith); has = e }))

  pub own_ids : (i j : ℕ) → i < length ds → j < length ds → own_id (get_or ds i []) ≡ own_id (get_or ds j []) → i ≡ j
  own_ids i j l m e =
      ⊎_elim
      (λ (h : i < j). absurd (not_before i j h m e))
      (λ (n : i < j → ⊥). ⊎_elim (λ (h : j < i). absurd (not_before j i h l (sym e))) (λ (o : j < i → ⊥). let q : i ≡ j = omega arith in q) (decided (ltb j i) (reads_lt j i)))
      (decided (ltb i j) (reads_lt i j))

  pub distinct_ids : DistinctIds ds
  unfolding Sound
  distinct_ids x a y b e m q =
      let k = split_of m in
      let whole : ds ≡ (x ++ a ∷ k.0) ++ b ∷ k.1 = e ∙ ap (λ (t : List (List ℕ)). x ++ a ∷ t) k.2 ∙ sym (append_assoc x (a ∷ k.0) (b ∷ k.1)) in
      rule (x ++ a ∷ k.0) b k.1 whole (inr (record { one = a; among = of_split x a k.0; has = q }))

  pub own_one : (d e : List ℕ) → d ∈ ds → e ∈ ds → own_id d ≡ own_id e → d ≡ e
  own_one d e m n q =
      let i = member_index [] m in
      let j = member_index [] n in
      sym i.2 ∙ ap (λ (k : ℕ). get_or ds k []) (own_ids i.0 j.0 i.1 j.1 (ap own_id i.2 ∙ q ∙ sym (ap own_id j.2))) ∙ j.2
