-- Words and laws on lists that the kit's libraries do not have.
--   any t l    ==  some element of l passes the test t
--   SomeOf P l   ==  some element of l has the property P
--   total ds   ==  the lengths of the parts ds together
--   part s a e ==  the bytes of s from place a up to place e, as many of them as there are: what a callee is handed
--   pad b n l  ==  n places: the first n elements of l, then b in the spare ones
--   Stops P l  ==  l begins with no P: it is empty (stop_end), or its first element is not P (stop_at)
--   front_one  ==  a list has one longest front of P: the law by which two such splits are the same
--   part_length, part_none, part_join, part_drop  ==  a part's length; an empty part; a part and what stands behind it
--   drop_take  ==  a part in the kit's form, lib.Seq's slice
--   flatten_append, total_append, length_flatten  ==  parts laid end to end, and their length
--   reads_any  ==  any t l decides SomeOf P l, where t decides P
--   any_append, any_snoc  ==  some element of two lists in a row, of a list and one element more
--   replicate_at  ==  what is read of a list of one value, past its end too
--   split_of, of_split  ==  an element stands somewhere in its list, and what stands somewhere in a list is an element
--   member_at, member_index  ==  what stands at an index is an element, and an element stands at an index
--   split_inside, split_front, split_here  ==  of a list that is x, then a, then y: x's length is an index of it, before which x stands and
--              at which a stands
--   take_in    ==  an element of a list's first elements is one of the list
--   take_least ==  there are no more elements to be taken than the list has; take_append: those of two lists in a row
--   total_one  ==  the lengths of the parts up to an index, and that part's own
--   total_rises  ==  where each part has an element, more parts are longer together
--   pad_length, pad_blank, pad_at, pad_front  ==  how many places; all of them spare; one of them; the taken ones
--   pad_full, pad_more  ==  all places taken; more spare places behind them
--   pad_set    ==  filling the next spare place; past the last place nothing changes
use Rattle.std.specs.Prelude.{ℕ, zero, suc, ◌+◌, ◌-◌, ◌≤◌, ◌<◌, min, ◌≡◌, refl, Bool, true, false, ◌||◌, ◌⊎◌, length, get_or, set, replicate, take, drop, ltb}
use Rattle.std.proofs.Common.{sym, ap, ◌∙◌, inl, inr, ⊎_elim, take-append-drop, length-append, length-take, length-drop, take-add, take-suc, drop-drop, ltb-true, ltb-false, arith, le_of_suc-le-suc}
use Rattle.std.proofs.Math.Bool.{or-false, or_assoc}
use mathlib.Core.List.Memᴰ
use mathlib.Core.List.{List, [], ◌∷◌, ◌++◌, flatten, append_assoc, Memᴰ, nil≢cons, head-eq_of_cons-eq, tail-eq_of_cons-eq}
use Rattle.std.proofs.Math.Seq.{take-nil, take-append_seam, get_or-append_seam}
use Rattle.std.proofs.Math.Nat.{zero-min, min-zero, suc-min-suc, sub-zero, zero-sub, suc-sub-suc}
use Rattle.ground.specs.Pick.{Reads, true≠false}

abbrev pub part : List ℕ → ℕ → ℕ → List ℕ
part s a e = take (e - a) (drop a s)

pub part_length : (s : List ℕ) (a e : ℕ) → e ≤ length s → length (part s a e) ≡ e - a
part_length s a e h = simp (length-take, length-drop) (omega arith)

pub part_join : (s : List ℕ) (a b c : ℕ) → a ≤ b → b ≤ c → part s a b ++ part s b c ≡ part s a c
part_join s a b c h k =
    let n : c - a ≡ b - a + (c - b) = omega arith in
    let m : a + (b - a) ≡ b = omega arith in
    sym (ap (λ (i : ℕ). take i (drop a s)) n ∙ take-add (b - a) (c - b) (drop a s) ∙ ap (λ (l : List ℕ). part s a b ++ take (c - b) l) (drop-drop (b - a) a s ∙ ap (λ (i : ℕ). drop i s) m))

pub part_drop : (s : List ℕ) (a e : ℕ) → a ≤ e → part s a e ++ drop e s ≡ drop a s
part_drop s a e h =
    let m : a + (e - a) ≡ e = omega arith in
    ap (λ (l : List ℕ). part s a e ++ l) (sym (drop-drop (e - a) a s ∙ ap (λ (i : ℕ). drop i s) m)) ∙ take-append-drop (e - a) (drop a s)

pub flatten_append : (x y : List (List ℕ)) → flatten (x ++ y) ≡ flatten x ++ flatten y
unfolding flatten
flatten_append [] y = refl
flatten_append (d ∷ x) y = ap (λ (l : List ℕ). d ++ l) (flatten_append x y) ∙ sym (append_assoc d (flatten x) (flatten y))

pub drop_take : (a e : ℕ) (s : List ℕ) → drop a (take e s) ≡ part s a e
drop_take zero e s = let z : e - 0 ≡ e = omega arith in sym (ap (λ (i : ℕ). take i s) z)
drop_take (suc a) zero s = let z : 0 - suc a ≡ 0 = omega arith in sym (ap (λ (i : ℕ). take i (drop (suc a) s)) z)
drop_take (suc a) (suc e) [] = sym (take-nil (suc e - suc a))
drop_take (suc a) (suc e) (x ∷ s) = let z : suc e - suc a ≡ e - a = omega arith in drop_take a e s ∙ sym (ap (λ (i : ℕ). take i (drop a s)) z)

pub part_none : (s : List ℕ) (a : ℕ) → part s a a ≡ []
part_none s a = let z : a - a ≡ 0 = omega arith in ap (λ (i : ℕ). take i (drop a s)) z

unfoldable pub total : List (List ℕ) → ℕ
total [] = 0
total (d ∷ ds) = length d + total ds

pub total_append : (b : List (List ℕ)) (c : List (List ℕ)) → total (b ++ c) ≡ total b + total c
unfolding total
total_append [] c = omega arith
total_append (d ∷ b) c = let h = total_append b c in omega arith

pub length_flatten : (ds : List (List ℕ)) → length (flatten ds) ≡ total ds
unfolding total flatten
length_flatten [] = refl
length_flatten (d ∷ ds) = length-append d (flatten ds) ∙ ap (λ (n : ℕ). length d + n) (length_flatten ds)

unfoldable pub any : {A : Type 0} → (A → Bool) → List A → Bool
any t [] = false
any t (x ∷ l) = t x || any t l

pub record SomeOf {A : Type 0} (P : A → Type 0) (l : List A) : Type 0 where
  pub one : A
  pub among : Memᴰ one l
  pub has : P one

pub reads_any : {A : Type 0} (t : A → Bool) (P : A → Type 0) → ((x : A) → Reads (t x) (P x)) → (l : List A) → Reads (any t l) (SomeOf P l)
unfolding any
reads_any {A} t P r [] = record { says = λ e. absurd (true≠false (sym e)); denies = λ e h. Memᴰ.not-nil h.among }
reads_any {A} t P r (x ∷ l) = go (t x) (r x) (reads_any t P r l)
  where
    go : (b : Bool) → Reads b (P x) → Reads (any t l) (SomeOf P l) → Reads (b || any t l) (SomeOf P (x ∷ l))
    go true q ih = record { says = λ e. record { one = x; among = Memᴰ.head refl; has = q.says refl }; denies = λ e. absurd (true≠false e) }
    go false q ih = record {
      says = λ e. let s = ih.says e in record { one = s.one; among = Memᴰ.tail s.among; has = s.has };
      denies = λ e h. split e h (Memᴰ.cases_cons h.among);
    }
      where
        split : any t l ≡ false → (h : SomeOf P (x ∷ l)) → (h.one ≡ x) ⊎ Memᴰ h.one l → ⊥
        split e h (inl m) = q.denies refl (rw m at h.has)
        split e h (inr m) = ih.denies e (record { one = h.one; among = m; has = h.has })

pub any_append : {A : Type 0} (t : A → Bool) (x y : List A) → any t (x ++ y) ≡ (any t x || any t y)
unfolding any
any_append t [] y = refl
any_append t (a ∷ x) y = ap (λ (b : Bool). t a || b) (any_append t x y) ∙ sym (or_assoc (t a) (any t x) (any t y))

pub any_snoc : {A : Type 0} (t : A → Bool) (x : List A) (a : A) → any t (x ++ a ∷ []) ≡ (any t x || t a)
unfolding any
any_snoc t x a = any_append t x (a ∷ []) ∙ ap (λ (b : Bool). any t x || b) (or-false (t a))

pub replicate_at : {A : Type 0} (a : A) (n i : ℕ) → get_or (replicate n a) i a ≡ a
replicate_at a zero i = refl
replicate_at a (suc n) zero = refl
replicate_at a (suc n) (suc i) = replicate_at a n i

pub split_of : {A : Type 0} {a : A} {l : List A} → Memᴰ a l → (x : List A) × (y : List A) × (l ≡ x ++ a ∷ y)
split_of (Memᴰ.head {xs = l} e) = ([], l, ap (λ b. b ∷ l) (sym e))
split_of (Memᴰ.tail {x = b} m) = let r = split_of m in (b ∷ r.0, r.1, ap (λ l. b ∷ l) r.2)

pub of_split : {A : Type 0} (x : List A) (a : A) (y : List A) → Memᴰ a (x ++ a ∷ y)
of_split x a y = Memᴰ.append_right x (Memᴰ.head refl)

pub member_at : {A : Type 0} (blank : A) (l : List A) (i : ℕ) → i < length l → Memᴰ (get_or l i blank) l
member_at blank [] i h = absurd (omega arith)
member_at blank (x ∷ l) zero h = Memᴰ.head refl
member_at blank (x ∷ l) (suc i) h = Memᴰ.tail (member_at blank l i (le_of_suc-le-suc h))

pub member_index : {A : Type 0} (blank : A) {x : A} {l : List A} → Memᴰ x l → (i : ℕ) × (i < length l) × (get_or l i blank ≡ x)
member_index blank (Memᴰ.head e) = (0, omega arith, sym e)
member_index blank (Memᴰ.tail m) = let r = member_index blank m in let h = r.1 in (suc r.0, omega arith, r.2)

module _ {A : Type 0} {l : List A} (x : List A) (a : A) (y : List A) (e : l ≡ x ++ a ∷ y) where
  pub split_inside : length x < length l
  split_inside = let n : length l ≡ length x + suc (length y) = ap length e ∙ length-append x (a ∷ y) in omega arith

  pub split_front : take (length x) l ≡ x
  split_front = ap (take (length x)) e ∙ take-append_seam x (a ∷ y)

  pub split_here : (blank : A) → get_or l (length x) blank ≡ a
  split_here blank = ap (λ (m : List A). get_or m (length x) blank) e ∙ get_or-append_seam x a y blank

pub take_in : {A : Type 0} (k : ℕ) {l : List A} {x : A} → Memᴰ x (take k l) → Memᴰ x l
take_in zero m = absurd (Memᴰ.not-nil m)
take_in (suc k) {l = []} m = m
take_in (suc k) {l = y ∷ l} m = ⊎_elim (λ e. Memᴰ.head e) (λ r. Memᴰ.tail (take_in k r)) (Memᴰ.cases_cons m)

pub take_least : {A : Type 0} (n : ℕ) (l : List A) → take (min n (length l)) l ≡ take n l
take_least zero l = rw (zero-min (length l))
take_least (suc n) [] = rw (min-zero (suc n))
take_least (suc n) (x ∷ l) = rw (suc-min-suc n (length l), take_least n l)

pub take_append : {A : Type 0} (n : ℕ) (x y : List A) → take n (x ++ y) ≡ take n x ++ take (n - length x) y
take_append {A} n [] y = rw (sub-zero n, take-nil {A = A} n)
take_append zero (a ∷ x) y = rw (zero-sub (suc (length x)))
take_append (suc n) (a ∷ x) y = rw (suc-sub-suc n (length x), take_append n x y)

pub total_one : (ds : List (List ℕ)) (i : ℕ) → i < length ds → total (take (suc i) ds) ≡ total (take i ds) + length (get_or ds i [])
unfolding total
total_one ds i h =
    let k : total (take i ds ++ get_or ds i [] ∷ []) ≡ total (take i ds) + (length (get_or ds i []) + 0) = total_append (take i ds) (get_or ds i [] ∷ []) in
    let n : total (take (suc i) ds) ≡ total (take i ds ++ get_or ds i [] ∷ []) = ap total (take-suc ds i [] h) in
    omega arith

pub total_rises : (ds : List (List ℕ)) → ((d : List ℕ) → Memᴰ d ds → 0 < length d) → (i j : ℕ) → i < j → j ≤ length ds
    → total (take i ds) < total (take j ds)
total_rises ds some i zero h k = absurd (omega arith)
total_rises ds some i (suc j) h k = go (ltb i j) refl (λ l. total_rises ds some i j l (omega arith))
  where
    go : (b : Bool) → ltb i j ≡ b → (i < j → total (take i ds) < total (take j ds)) → total (take i ds) < total (take (suc j) ds)
    go true e ih =
        let m = ih (ltb-true _ _ e) in
        let n = total_one ds j (omega arith) in
        omega arith
    go false e ih =
        let l : j ≤ i = ltb-false _ _ e in
        let q : i ≡ j = omega arith in
        let n = total_one ds j (omega arith) in
        let m : total (take i ds) ≡ total (take j ds) = ap (λ (n : ℕ). total (take n ds)) q in
        let o = some (get_or ds j []) (member_at [] ds j (omega arith)) in
        omega arith

unfoldable pub pad : {A : Type 0} → A → ℕ → List A → List A
pad b zero l = []
pad b (suc n) [] = b ∷ pad b n []
pad b (suc n) (x ∷ l) = x ∷ pad b n l

pub pad_length : {A : Type 0} (b : A) (n : ℕ) (l : List A) → length (pad b n l) ≡ n
unfolding pad
pad_length b zero l = refl
pad_length b (suc n) [] = ap suc (pad_length b n [])
pad_length b (suc n) (x ∷ l) = ap suc (pad_length b n l)

pub pad_blank : {A : Type 0} (b : A) (n : ℕ) → replicate n b ≡ pad b n []
unfolding pad
pad_blank b zero = refl
pad_blank b (suc n) = ap (λ l. b ∷ l) (pad_blank b n)

pub pad_set : {A : Type 0} (b : A) (n : ℕ) (l : List A) (v : A) → set (pad b n l) (length l) v ≡ pad b n (l ++ v ∷ [])
unfolding pad
pad_set b zero l v = refl
pad_set b (suc n) [] v = refl
pad_set b (suc n) (x ∷ l) v = ap (λ r. x ∷ r) (pad_set b n l v)

pub pad_at : {A : Type 0} (b : A) (n : ℕ) (l : List A) (i : ℕ) → i < n → get_or (pad b n l) i b ≡ get_or l i b
unfolding pad
pad_at b zero l i h = absurd (omega arith)
pad_at b (suc n) [] zero h = refl
pad_at b (suc n) [] (suc i) h = pad_at b n [] i (le_of_suc-le-suc h)
pad_at b (suc n) (x ∷ l) zero h = refl
pad_at b (suc n) (x ∷ l) (suc i) h = pad_at b n l i (le_of_suc-le-suc h)

pub pad_front : {A : Type 0} (b : A) (n : ℕ) (l : List A) → length l ≤ n → take (length l) (pad b n l) ≡ l
unfolding pad
pad_front b zero [] h = refl
pad_front b zero (x ∷ l) h = absurd (omega arith)
pad_front b (suc n) [] h = refl
pad_front b (suc n) (x ∷ l) h = ap (λ r. x ∷ r) (pad_front b n l (le_of_suc-le-suc h))

pub data Stops {A : Type 0} (P : A → Type 0) : List A → Type 0 where
  stop_end : Stops P []
  stop_at : {a : A} {l : List A} → (P a → ⊥) → Stops P (a ∷ l)

pub front_one : {A : Type 0} (P : A → Type 0) (x y x' y' : List A) → x ++ y ≡ x' ++ y' → ((a : A) → Memᴰ a x → P a)
    → ((a : A) → Memᴰ a x' → P a) → Stops P y → Stops P y' → (x ≡ x') × (y ≡ y')
front_one P [] y [] y' e h h' k k' = (refl, e)
front_one P [] y (a ∷ x') y' e h h' k k' = absurd (go k e)
  where
    go : {l : List _} → Stops P l → l ≡ a ∷ (x' ++ y') → ⊥
    go stop_end q = nil≢cons q
    go (stop_at n) q = n (rw (head-eq_of_cons-eq q) (h' a (Memᴰ.head refl)))
front_one P (a ∷ x) y [] y' e h h' k k' = absurd (go k' e)
  where
    go : {l : List _} → Stops P l → a ∷ (x ++ y) ≡ l → ⊥
    go stop_end q = nil≢cons (sym q)
    go (stop_at n) q = n (rw (sym (head-eq_of_cons-eq q)) (h a (Memᴰ.head refl)))
front_one P (a ∷ x) y (a' ∷ x') y' e h h' k k' =
    let r = front_one P x y x' y' (tail-eq_of_cons-eq e) (λ b m. h b (Memᴰ.tail m)) (λ b m. h' b (Memᴰ.tail m)) k k' in
    (rw (head-eq_of_cons-eq e, r.0) refl, r.1)

pub pad_full : {A : Type 0} (b : A) (n : ℕ) (l : List A) → n ≤ length l → take n l ≡ pad b n l
unfolding pad
pad_full b zero l h = refl
pad_full b (suc n) [] h = absurd (omega arith)
pad_full b (suc n) (x ∷ l) h = ap (λ r. x ∷ r) (pad_full b n l (le_of_suc-le-suc h))

pub pad_more : {A : Type 0} (b : A) (n : ℕ) (l : List A) (m : ℕ) → length l ≤ n → pad b n l ++ replicate m b ≡ pad b (n + m) l
unfolding pad
pad_more b zero [] m h = let q : 0 + m ≡ m = omega arith in pad_blank b m ∙ ap (λ (k : ℕ). pad b k []) (sym q)
pad_more b zero (x ∷ l) m h = absurd (omega arith)
pad_more b (suc n) [] m h = let q : suc n + m ≡ suc (n + m) = omega arith in ap (λ r. b ∷ r) (pad_more b n [] m (omega arith)) ∙ sym (ap (λ (k : ℕ). pad b k []) q)
pad_more b (suc n) (x ∷ l) m h =
    let q : suc n + m ≡ suc (n + m) = omega arith in
    ap (λ r. x ∷ r) (pad_more b n l m (le_of_suc-le-suc h)) ∙ sym (ap (λ (k : ℕ). pad b k (x ∷ l)) q)
