-- A table that grows by controls: each takes the next place; past the last place it is counted only.
--   added t x   ==  the table t with the control x in its next place
--   grown t l   ==  the table t with the controls l in its next places, one after another
--   table_of l   ==  the table of the controls l: all of them counted, the first 128 in its places, spare places all zeros
--   grown_append, grown_count  ==  by two lists one after the other; the count grows by as many
--   table_empty, table_grown   ==  the table with no control, grown by controls, is the table of those
use Rattle.std.specs.Prelude.{◌+◌, ◌≡◌, refl, List, [], ◌∷◌, ◌++◌, length, set}
use Rattle.std.proofs.Common.{sym, ap, ◌∙◌, append-nil, length-append, arith}
use Rattle.std.proofs.Math.Seq.{append_snoc}
use Rattle.ground.specs.Lists.{pad, pad_blank, pad_set}
use Rattle.table.specs.declared.Control.{Control}
use Rattle.table.specs.declared.Table.{Table}
use Rattle.table.specs.Controls.{most_controls, blank_control, empty_table}

abbrev pub added : Table → Control → Table
added t x = record { count = t.count + 1; controls = set t.controls t.count x }

unfoldable pub grown : Table → List Control → Table
grown t [] = t
grown t (x ∷ l) = grown (added t x) l

unfoldable pub table_of : List Control → Table
table_of l = record { count = length l; controls = pad blank_control most_controls l }

pub grown_append : (t : Table) (l m : List Control) → grown t (l ++ m) ≡ grown (grown t l) m
unfolding grown
grown_append t [] m = refl
grown_append t (x ∷ l) m = grown_append (added t x) l m

pub grown_count : (t : Table) (l : List Control) → (grown t l).count ≡ t.count + length l
unfolding grown
grown_count t [] = omega arith
grown_count t (x ∷ l) = let h = grown_count (added t x) l in omega arith

pub table_empty : empty_table ≡ table_of []
unfolding table_of
table_empty = ap (λ (cs : List Control). record { count = 0; controls = cs }) (pad_blank blank_control most_controls)

pub table_grown : (l m : List Control) → grown (table_of l) m ≡ table_of (l ++ m)
unfolding grown table_of
table_grown l [] = ap table_of (sym (append-nil l))
table_grown l (x ∷ m) = ap (λ (t : Table). grown t m) one ∙ table_grown (l ++ x ∷ []) m ∙ ap table_of (append_snoc l x m)
  where
    one : added (table_of l) x ≡ table_of (l ++ x ∷ [])
    one = rw (sym (length-append l (x ∷ []))) (ap (λ (cs : List Control). record { count = length (l ++ x ∷ []); controls = cs }) (pad_set blank_control most_controls l x))
