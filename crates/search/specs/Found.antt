-- What a search by what is wanted has found: its place, what it passed, and that nothing of what it passed was wanted.
--   found_any, found_none  ==  a search finds a place exactly where something wanted stands
--   rest_split, rest_front ==  what stands from a place on, cut in two: the second part is what stands behind the first, and the first
--                        is all that stands where the bytes end there
--   Found w s from q ==  q is the place of the first wanted descriptor; the descriptors before it are passed, none of them wanted
--   found            ==  what a search from within the bytes has found
--   found_before     ==  during a search from the first byte on: the first wanted stands before exactly where one of what was passed is
--                        wanted
--   found_room       ==  wherever a search began, what it found is a whole descriptor within the bytes
use Rattle.std.specs.Prelude.{ℕ, ◌+◌, ◌-◌, ◌≤◌, ◌<◌, ◌≡◌, refl, Bool, true, false, length, take, leb, Some, None}
use Rattle.std.proofs.Math.Path.{sym, ap}
use Rattle.std.proofs.Common.{◌∙◌, length-take, take_at, arith, leb-true, leb-false}
use mathlib.Core.List.Memᴰ
use mathlib.Core.List.{List, [], ◌∷◌, ◌++◌, flatten, append_assoc, append-nil, append_cancel_left, Memᴰ}
use Rattle.std.proofs.Math.ListN.{drop}
use Rattle.ground.specs.Pick.{reads_true, true≠false}
use Rattle.ground.specs.Lists.{part_drop, drop_take, length_flatten, flatten_append, total, total_append, any, of_split}
use Rattle.ground.specs.First.{first_from, Breaks, first_at, first_none_any, first_at_any, first_before, is_before, sound_none}
use Rattle.scan.specs.Cutting.{Descriptor, rest}
use Rattle.scan.specs.CuttingLaws.{Standing, standing, rest_of, rest_none, end_none}
use Rattle.scan.specs.Search.{searched, Passed}
use Rattle.search.specs.Want.{wants, found_from}
use Rattle.search.specs.declared.Want.{Want}

pub found_any : (w : Want) (s : List ℕ) (from q : ℕ) → found_from s from w ≡ Some q → any (wants w) (rest s from) ≡ true
unfolding found_from searched
found_any w s from q e = first_at_any (wants w) from (rest s from) q e

pub found_none : (w : Want) (s : List ℕ) (from : ℕ) → found_from s from w ≡ None → any (wants w) (rest s from) ≡ false
unfolding found_from searched
found_none w s from e = first_none_any (wants w) from (rest s from) e

module _ (s : List ℕ) (from : ℕ) (h : from ≤ length s) (x y : List (List ℕ)) (e : rest s from ≡ x ++ y) where
  k : Standing s from (rest s from)
  k = standing s from h

  all : ℕ
  all = from + total (rest s from)

  flat : drop from s ≡ flatten x ++ (flatten y ++ drop all s)
  unfolding all
  flat = sym (part_drop s from all (omega arith)) ∙ ap (λ (l : List ℕ). l ++ drop all s) (sym k.flat ∙ ap flatten e ∙ flatten_append x y) ∙ append_assoc (flatten x) (flatten y) (drop all s)

  each : (d : List ℕ) → Memᴰ d x → Descriptor d
  each d m = k.each d (rw e (Memᴰ.append_left y m))

  pub rest_split : rest s (from + total x) ≡ y
  rest_split = append_cancel_left x (rest s (from + total x)) y (sym (rest_of s from x (flatten y ++ drop all s) flat each) ∙ e)

  pub rest_front : rest (take (from + total x) s) from ≡ x
  rest_front =
      let end = from + total x in
      let n : end - from ≡ total x = omega arith in
      let f : drop from (take end s) ≡ flatten x ++ [] =
      drop_take from end s ∙ ap (λ (i : ℕ). take i (drop from s)) n ∙ ap (take (total x)) flat ∙ take_at (flatten x) (flatten y ++ drop all s) (total x) (length_flatten x) ∙ sym (append-nil (flatten x)) in
      let l : length (take end s) ≤ end = rw length-take (omega arith) in
      rest_of (take end s) from x [] f each ∙ ap (λ (r : List (List ℕ)). x ++ r) (rest_none (take end s) end (end_none (take end s) end (λ two room. omega arith))) ∙ append-nil x

pub record Found (w : Want) (s : List ℕ) (from q : ℕ) : Type 0 where
  pub passed : List (List ℕ)
  pub wanted : List ℕ
  pub behind : List (List ℕ)
  pub whole : rest s from ≡ passed ++ wanted ∷ behind
  pub here : rest s q ≡ wanted ∷ behind
  pub place : q ≡ from + total passed
  pub room : q + 2 ≤ length s
  pub meets : wants w wanted ≡ true
  pub none_passed : any (wants w) passed ≡ false

pub found : (w : Want) (s : List ℕ) (from q : ℕ) → from ≤ length s → found_from s from w ≡ Some q → Found w s from q
unfolding found_from searched total
found w s from q h e = of ((first_at (λ b d. wants w d) (λ b d. wants w d ≡ true) (λ b d. reads_true (wants w d)) from (rest s from) q).0 e)
  where
    k : Standing s from (rest s from)
    k = standing s from h

    of : Breaks (λ b d. wants w d ≡ true) from (rest s from) q → Found w s from q
    of b =
        let p = b.place in
        let two = (k.each b.offender (rw b.split (of_split b.before b.offender b.after))).long in
        let room = k.room in
        let all : total (rest s from) ≡ total b.before + (length b.offender + total b.after) = ap total b.split ∙ total_append b.before (b.offender ∷ b.after) in
        record {
          passed = b.before;
          wanted = b.offender;
          behind = b.after;
          whole = b.split;
          here = ap (rest s) p ∙ rest_split s from h b.before (b.offender ∷ b.after) b.split;
          place = p;
          room = omega arith;
          meets = b.wrong;
          none_passed = sound_none (wants w) b.before b.none_before;
        }

pub found_before : (w : Want) (s : List ℕ) (t : List (List ℕ) → List ℕ → Bool) (at : ℕ) (g : Passed t s 0 at)
    → is_before (found_from s 0 w) at ≡ any (wants w) g.behind
unfolding found_from searched
found_before w s t at g =
    let k = standing s 0 (omega arith) in
    ap (λ (r : List (List ℕ)). is_before (first_from (λ b d. wants w d) 0 [] r) at) g.whole
    ∙ ap (λ (i : ℕ). is_before (first_from (λ b d. wants w d) 0 [] (g.behind ++ rest s at)) i) g.place
    ∙ first_before (wants w) 0 [] g.behind (rest s at) (λ d m. let two = (k.each d (rw g.whole (Memᴰ.append_left (rest s at) m))).long in omega arith)

pub found_room : (w : Want) (s : List ℕ) (from q : ℕ) → found_from s from w ≡ Some q → q + 2 ≤ length s
unfolding any
found_room w s from q e = go (leb from (length s)) refl
  where
    nothing : length s < from → rest s from ≡ []
    nothing h = rest_none s from (end_none s from (λ two room. omega arith))

    go : (b : Bool) → leb from (length s) ≡ b → q + 2 ≤ length s
    go true h = (found w s from q (leb-true _ _ h) e).room
    go false h = absurd (true≠false (sym (found_any w s from q e) ∙ ap (any (wants w)) (nothing (leb-false _ _ h))))
