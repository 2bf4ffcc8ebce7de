-- The table that the notes of controls tell (control_from of crate masks), while they grow and when they are all there.
--   table_by l n        ==  the table that the notes l tell, n of them counted
--   table_from l n      ==  the same, spare places behind the first n
--   Grows l n xs m k   ==  the notes m, k of them counted, tell the table that l and n tell, grown by the controls xs
--   Come l n xs most m k  ==  the same, and xs are no more than that many
--   Room t most        ==  the table t has its 128 places, and counts fewer than that many
--   room_more, room_grown  ==  .. so fewer than more; a table that has grown has its places still
--   notes_empty        ==  no notes tell the table with no control
--   notes_added, notes_full  ==  a note put in the next place, and past the last place, tells the table with that control added
--   notes_front        ==  where the notes tell the table of some controls, the notes that are counted are enough
use Rattle.std.specs.Prelude.{ℕ, zero, suc, ◌+◌, ◌≤◌, ◌<◌, ◌≡◌, refl, List, [], ◌∷◌, map, length, take, set, replicate}
use Rattle.std.proofs.Common.{sym, ap, ◌∙◌, arith, length-set}
use Rattle.ground.specs.Lists.{pad}
use Rattle.table.specs.declared.Control.{Control}
use Rattle.table.specs.declared.Table.{Table}
use Rattle.table.specs.Controls.{most_controls, blank_control, empty_table}
use Rattle.masks.specs.Notes.{control_from}
use Rattle.controls.specs.Growth.{added, grown, table_of, grown_count}

abbrev pub table_by : List ℕ → ℕ → Table
table_by l n = record { count = n; controls = map control_from l }

abbrev pub table_from : List ℕ → ℕ → Table
table_from l n = record { count = n; controls = pad blank_control most_controls (take n (map control_from l)) }

abbrev pub Grows : List ℕ → ℕ → List Control → List ℕ → ℕ → Type 0
Grows l n xs m k = table_by m k ≡ grown (table_by l n) xs

pub record Come (l : List ℕ) (n : ℕ) (xs : List Control) (most : ℕ) (m : List ℕ) (k : ℕ) : Type 0 where
  pub same : Grows l n xs m k
  pub few : length xs ≤ most

pub record Room (t : Table) (most : ℕ) : Type 0 where
  pub places : length t.controls ≡ most_controls
  pub few : t.count < most

pub room_more : (t : Table) (n m : ℕ) → Room t n → n ≤ m → Room t m
room_more t n m r h = let f = r.few in record { places = r.places; few = omega arith }

grown_places : (t : Table) (l : List Control) → length (grown t l).controls ≡ length t.controls
unfolding grown
grown_places t [] = refl
grown_places t (x ∷ l) = grown_places (added t x) l ∙ length-set t.controls t.count x

pub room_grown : (t : Table) (l : List Control) (n k : ℕ) → Room t n → length l ≤ k → Room (grown t l) (n + k)
room_grown t l n k r h =
    let c = grown_count t l in
    let f = r.few in
    record { places = grown_places t l ∙ r.places; few = omega arith }

map_replicate : (n : ℕ) → map control_from (replicate n 0) ≡ replicate n blank_control
unfolding control_from
map_replicate zero = refl
map_replicate (suc n) = ap (λ (l : List Control). blank_control ∷ l) (map_replicate n)

pub notes_empty : table_by (replicate most_controls 0) 0 ≡ empty_table
notes_empty = ap (λ (l : List Control). record { count = 0; controls = l }) (map_replicate most_controls)

map_set : (l : List ℕ) (i x : ℕ) → map control_from (set l i x) ≡ set (map control_from l) i (control_from x)
map_set [] i x = refl
map_set (y ∷ l) zero x = refl
map_set (y ∷ l) (suc i) x = ap (λ (r : List Control). control_from y ∷ r) (map_set l i x)

pub notes_added : (l : List ℕ) (n x : ℕ) → table_by (set l n x) (n + 1) ≡ added (table_by l n) (control_from x)
notes_added l n x = ap (λ (r : List Control). record { count = n + 1; controls = r }) (map_set l n x)

set_past : {A : Type 0} (l : List A) (i : ℕ) (x : A) → length l ≤ i → set l i x ≡ l
set_past [] i x h = refl
set_past (y ∷ l) zero x h = absurd (omega arith)
set_past (y ∷ l) (suc i) x h = ap (λ r. y ∷ r) (set_past l i x (omega arith))

pub notes_full : (l : List ℕ) (n x : ℕ) → length (map control_from l) ≤ n → table_by l (n + 1) ≡ added (table_by l n) (control_from x)
notes_full l n x h = ap (λ (r : List Control). record { count = n + 1; controls = r }) (sym (set_past (map control_from l) n (control_from x) h))

-- the taken ones of n places, and spare ones behind them, are the n places
pad_again : {A : Type 0} (b : A) (n : ℕ) (l : List A) → pad b n (take (length l) (pad b n l)) ≡ pad b n l
unfolding pad
pad_again b zero l = refl
pad_again b (suc n) [] = refl
pad_again b (suc n) (x ∷ l) = ap (λ r. x ∷ r) (pad_again b n l)

pub notes_front : (l : List ℕ) (n : ℕ) (xs : List Control) → table_by l n ≡ table_of xs → table_from l n ≡ table_of xs
unfolding table_of
notes_front l n xs e =
    ap (λ (t : Table). record { count = t.count; controls = pad blank_control most_controls (take t.count t.controls) }) e
    ∙ ap (λ (r : List Control). record { count = length xs; controls = r }) (pad_again blank_control most_controls xs)
