-- A rule on descriptors says what is wrong with one, given those that stand before it (First). A loop over an array goes by index
-- (Places): what stands before index i are the first i descriptors. The two ways to say "nothing is wrong" and "this is the first
-- offender's place" are one, for any rule.
--   WrongAt w ds i   ==  the descriptor at index i of ds is wrong by w
--   sound_below      ==  none of the first n descriptors is wrong exactly where none is at the indices below n
--   sound_index      ==  .. for all of ds
--   breaks_index     ==  the first offender's place, from its index
--   first_by_place   ==  "'First' is by place": the first offender's place is the lowest of all offenders' places, for any rule on any descriptors,
--                        whatever the edition
use Rattle.std.specs.Prelude.{ℕ, suc, ◌+◌, ◌≤◌, ◌<◌, ◌≡◌, refl, Bool, true, false, ◌↔◌, List, [], ◌∷◌, ◌++◌, get_or, take, drop, ltb}
use Rattle.std.proofs.Common.{sym, ap, ◌∙◌, append_assoc, take-append-drop, take-take, get_or-take, arith, ltb-true, ltb-false}
use Rattle.std.proofs.Math.ListN.{length}
use Rattle.std.proofs.Math.Seq.{split_at, take-length, length-take-le}
use Rattle.ground.specs.Lists.{total, total_append, split_inside, split_front, split_here}
use Rattle.ground.specs.First.{Sound, Breaks}
use Rattle.ground.specs.Places.{FirstPlace}

module _ (Wrong : List (List ℕ) → List ℕ → Type 0) where
  abbrev pub WrongAt : List (List ℕ) → ℕ → Type 0
  WrongAt ds i = Wrong (take i ds) (get_or ds i [])

  -- a descriptor of ds that stands behind x is the one at the index that is x's length
  at_index : {ds : List (List ℕ)} (x : List (List ℕ)) (d : List ℕ) (y : List (List ℕ)) → ds ≡ x ++ d ∷ y → Wrong x d → WrongAt ds (length x)
  at_index x d y e w = rw (split_front x d y e, split_here x d y e []) w

  pub sound_below : (ds : List (List ℕ)) (n : ℕ) → n ≤ length ds → ((i : ℕ) → i < n → WrongAt ds i → ⊥) ↔ Sound Wrong (take n ds)
  unfolding Sound
  sound_below ds n few = (to, of)
    where
      long : length (take n ds) ≡ n
      long = length-take-le n ds few

      to : ((i : ℕ) → i < n → WrongAt ds i → ⊥) → Sound Wrong (take n ds)
      to h x d y e w =
          let l = split_inside x d y e in
          let whole : ds ≡ x ++ d ∷ (y ++ drop n ds) = sym (take-append-drop n ds) ∙ ap (λ (r : List (List ℕ)). r ++ drop n ds) e ∙ append_assoc x (d ∷ y) (drop n ds) in
          h (length x) (omega (arith, long)) (at_index x d (y ++ drop n ds) whole w)

      of : Sound Wrong (take n ds) → (i : ℕ) → i < n → WrongAt ds i → ⊥
      of h i l w =
          let m : i < length (take n ds) = omega (arith, long) in
          h (take i (take n ds)) (get_or (take n ds) i []) (drop (suc i) (take n ds)) (split_at (take n ds) i [] m) (rw (take-take i n ds (omega arith), get_or-take n ds i [] l) w)

  pub sound_index : (ds : List (List ℕ)) → ((i : ℕ) → i < length ds → WrongAt ds i → ⊥) ↔ Sound Wrong ds
  sound_index ds = rw take-length at (sound_below ds (length ds) (omega arith))

  pub breaks_index : (p : ℕ) (ds : List (List ℕ)) (q : ℕ) → FirstPlace (length ds) (λ i. p + total (take i ds)) (WrongAt ds) q ↔ Breaks Wrong p ds q
  breaks_index p ds q = (to, of)
    where
      to : FirstPlace (length ds) (λ i. p + total (take i ds)) (WrongAt ds) q → Breaks Wrong p ds q
      to b =
          let i = b.offender in
          let l = b.inside in
          record {
            before = take i ds;
            offender = get_or ds i [];
            after = drop (suc i) ds;
            split = split_at ds i [] l;
            wrong = b.wrong;
            place = b.at;
            none_before = (sound_below ds i (omega arith)).0 b.none_before;
          }

      of : Breaks Wrong p ds q → FirstPlace (length ds) (λ i. p + total (take i ds)) (WrongAt ds) q
      of k =
          let x = k.before in
          let front = split_front x k.offender k.after k.split in
          let l = split_inside x k.offender k.after k.split in
          record {
            offender = length x;
            inside = l;
            wrong = at_index x k.offender k.after k.split k.wrong;
            at = k.place ∙ ap (λ (r : List (List ℕ)). p + total r) (sym front);
            none_before = (sound_below ds (length x) (omega arith)).1 (rw front k.none_before);
          }

  -- document 01 has the first offender's place: the first among the descriptors has the lowest
  pub first_by_place : {p : ℕ} {ds : List (List ℕ)} {q : ℕ} → Breaks Wrong p ds q
      → (x : List (List ℕ)) (d : List ℕ) (y : List (List ℕ)) → ds ≡ x ++ d ∷ y → Wrong x d → q ≤ p + total x
  first_by_place {p = p} {ds = ds} {q = q} b x d y e w = go (ltb (length x) f.offender) refl
    where
      f : FirstPlace (length ds) (λ i. p + total (take i ds)) (WrongAt ds) q
      f = (breaks_index p ds q).1 b

      go : (c : Bool) → ltb (length x) f.offender ≡ c → q ≤ p + total x
      go true h = absurd (f.none_before (length x) (ltb-true _ _ h) (at_index x d y e w))
      go false h =
          let i = f.offender in
          let front : take i ds ≡ take i x = sym (take-take i (length x) ds (ltb-false _ _ h)) ∙ ap (take i) (split_front x d y e) in
          let same : total (take i ds) ≡ total (take i x) = ap total front in
          let parts : total x ≡ total (take i x) + total (drop i x) = ap total (sym (take-append-drop i x)) ∙ total_append (take i x) (drop i x) in
          let at = f.at in
          omega arith
