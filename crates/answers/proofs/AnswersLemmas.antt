-- Laws of what stands beside it in specs.
--   block_long           ==  a block has the bytes of all its controls; cut_long: and what is sent of it the lesser of those and wLength
--   sizes_snoc, takes_snoc, sets_snoc, block_snoc  ==  sizes, 38, what is stored and the block, of one control more
--   sets_long            ==  a Set leaves as many controls as there were
--   set_by_number, get_by_number  ==  a Set and a Get by the number of their refusal; denied_or o x: the refusal x, or o where none is given
--   set_silent           ==  a Set writes nothing
use Rattle.std.specs.Prelude.{ℕ, Option, None, Some, suc, ◌+◌, ◌*◌, ◌≤◌, min, ◌≡◌, refl, List, [], ◌∷◌, ◌++◌, Bool, true, false, ◌&&◌, length, drop, ltb}
use Rattle.std.proofs.Common.{sym, ap, ◌∙◌, arith, length-append, length-take, drop-drop}
use Rattle.std.proofs.Math.Bool.{and-true, and_assoc}
use Rattle.ground.specs.Pick.{pick}
use Rattle.ground.specs.Lists.{any}
use Rattle.table.specs.declared.Control.{Control}
use Rattle.setup.specs.declared.Part.{Part}
use Rattle.deed.specs.Doing.{Doing, bytes_in}
use Rattle.deed.specs.Reply.{low_first, low_first_long}
use Rattle.deed.specs.Doing.Doing.{denied, given, changed}
use Rattle.answers.specs.Held.{lacking, part_of, unready, takes, stored_for, with_cur}
use Rattle.answers.specs.Answers.{held_by, size_in, sizes_of, sent_to, rest_of, all_take, all_set, block_of, misfits, cut_to, set_number, get_number, set_of, get_of}
use Rattle.answers.specs.AnswersLaws.{size_most}

pub block_long : (part : Part) (cs : List Control) → length (block_of part cs) ≡ sizes_of cs
unfolding block_of sizes_of
block_long part [] = refl
block_long part (c ∷ cs) = rw (length-append (low_first (size_in c) (part_of part c)) (block_of part cs), low_first_long (size_in c) (part_of part c), block_long part cs)

pub cut_long : (n : ℕ) (part : Part) (cs : List Control) → length (cut_to n part cs) ≡ min n (sizes_of cs)
cut_long n part cs = length-take n (block_of part cs) ∙ ap (min n) (block_long part cs)

-- one control more
pub sizes_snoc : (cs : List Control) (c : Control) → sizes_of (cs ++ c ∷ []) ≡ sizes_of cs + size_in c
unfolding sizes_of
sizes_snoc [] c = omega arith
sizes_snoc (e ∷ cs) c = let h = sizes_snoc cs c in omega arith

pub sizes_most : (cs : List Control) → sizes_of cs ≤ length cs * 2
unfolding sizes_of
sizes_most [] = omega arith
sizes_most (c ∷ cs) = let h = sizes_most cs in let m = size_most (held_by c) in omega arith

pub takes_snoc : (cs : List Control) (c : Control) (d : List ℕ)
    → all_take (cs ++ c ∷ []) d ≡ (all_take cs d && takes (held_by c) c (sent_to c (drop (sizes_of cs) d)))
unfolding all_take sizes_of
takes_snoc [] c d = and-true (takes (held_by c) c (sent_to c d))
takes_snoc (e ∷ cs) c d =
    rw (takes_snoc cs c (rest_of e d), drop-drop (sizes_of cs) (size_in e) d)
    (sym (and_assoc (takes (held_by e) e (sent_to e d)) (all_take cs (rest_of e d)) (takes (held_by c) c (sent_to c (drop (size_in e + sizes_of cs) d)))))

pub sets_snoc : (cs : List Control) (c : Control) (d : List ℕ)
    → all_set (cs ++ c ∷ []) d ≡ all_set cs d ++ with_cur (stored_for (held_by c) c (sent_to c (drop (sizes_of cs) d))) c ∷ []
unfolding all_set sizes_of
sets_snoc [] c d = refl
sets_snoc (e ∷ cs) c d = rw (sets_snoc cs c (rest_of e d), drop-drop (sizes_of cs) (size_in e) d)

pub sets_long : (cs : List Control) (d : List ℕ) → length (all_set cs d) ≡ length cs
unfolding all_set
sets_long [] d = refl
sets_long (c ∷ cs) d = ap suc (sets_long cs (rest_of c d))

silent : (b : Bool) (o q : Doing) → bytes_in o ≡ [] → bytes_in q ≡ [] → bytes_in (pick b o q) ≡ []
silent true o q e f = e
silent false o q e f = f

pub set_silent : (cs : List Control) (n : ℕ) (d : List ℕ) → bytes_in (set_of cs n d) ≡ []
unfolding set_of
set_silent cs n d = silent (any (λ c. unready (held_by c) c) cs) _ _ refl (silent (misfits cs n d) _ _ refl (silent (all_take cs d) _ _ refl refl))

-- the rows, by their number
abbrev pub denied_or : Doing → Option ℕ → Doing
denied_or o None = o
denied_or o (Some n) = denied n

set_picked : (u m t : Bool) (o : Doing)
    → pick u (denied 36) (pick m (denied 37) (pick t o (denied 38))) ≡ denied_or o (pick u (Some 36) (pick m (Some 37) (pick t None (Some 38))))
set_picked true m t o = refl
set_picked false true t o = refl
set_picked false false true o = refl
set_picked false false false o = refl

pub set_by_number : (cs : List Control) (n : ℕ) (d : List ℕ) (x : Option ℕ) → x ≡ set_number (any (λ c. unready (held_by c) c) cs) (all_take cs d) (sizes_of cs) n (length d)
    → set_of cs n d ≡ denied_or (changed (all_set cs d)) x
unfolding set_of set_number
set_by_number cs n d x e =
    set_picked (any (λ c. unready (held_by c) c) cs) (misfits cs n d) (all_take cs d) (changed (all_set cs d)) ∙ ap (denied_or (changed (all_set cs d))) (sym e)

get_picked : (k u r : Bool) (o : Doing)
    → pick k (denied 35) (pick u (denied 36) (pick r (denied 39) o)) ≡ denied_or o (pick k (Some 35) (pick u (Some 36) (pick r (Some 39) None)))
get_picked true u r o = refl
get_picked false true r o = refl
get_picked false false true o = refl
get_picked false false false o = refl

pub get_by_number : (part : Part) (cs : List Control) (n room : ℕ) (x : Option ℕ)
    → x ≡ get_number (any (λ c. lacking (held_by c) part) cs) (any (λ c. unready (held_by c) c) cs) (length (cut_to n part cs)) room
    → get_of part cs n room ≡ denied_or (given (cut_to n part cs)) x
unfolding get_of get_number
get_by_number part cs n room x e =
    get_picked (any (λ c. lacking (held_by c) part) cs) (any (λ c. unready (held_by c) c) cs) (ltb room (length (cut_to n part cs))) (given (cut_to n part cs))
    ∙ ap (denied_or (given (cut_to n part cs))) (sym e)
