-- Records of one length laid end to end, and cut again; records of one size laid as records of another.
--   resized k m s n   ==  the first n records of s, of k bytes, one after another as records of m bytes: the first m, 00 where there are fewer
--   resized_none, resized_more  ==  .. none of them, and one record more; resized_long: how long they are
--   Room l k d m n    ==  n records of k bytes are within l bytes, and of m bytes within d
--   joined_records    ==  the records of s laid end to end are s, where no byte stands behind the last
--   Each k rs         ==  each of the records rs is k bytes long
--   joined_long, record_in_lem, records_joined  ==  such records laid end to end: their length, the i-th of them; cut again, they are those records
use Rattle.std.specs.Prelude.{ℕ, zero, suc, ◌+◌, ◌*◌, ◌/◌, ◌%◌, ◌≤◌, ◌<◌, ◌≡◌, refl, length, get_or, take, drop}
use Rattle.std.proofs.Common.{sym, ap, ◌∙◌, arith, suc-mul, zero-mul, mul-div_cancel, div-add-mod', le_of_suc-le-suc, length-append, take_at, drop_at, drop-drop, take-add}
use mathlib.Core.List.Memᴰ
use mathlib.Core.List.{List, [], ◌∷◌, ◌++◌, flatten, append-nil}
use Rattle.std.proofs.Math.Seq.{take-length}
use Rattle.ground.specs.Lists.{pad, pad_length, flatten_append}
use Rattle.graph.specs.Members.{◌∈◌}
use Rattle.graph.specs.Tables.{tabulate, tabulate_from, tabulate_more, tabulate_same, tabulate_get_d}
use Rattle.legal.specs.Sheet.{count_by, record_by, records_by}

joined_more : (k : ℕ) (f : ℕ → List ℕ) → flatten (tabulate (suc k) f) ≡ flatten (tabulate k f) ++ f k
unfolding flatten
joined_more k f = ap flatten (tabulate_more k f) ∙ flatten_append (tabulate k f) (f k ∷ []) ∙ ap (λ (l : List ℕ). flatten (tabulate k f) ++ l) (append-nil (f k))

unfoldable pub resized : ℕ → ℕ → List ℕ → ℕ → List ℕ
resized k m s n = flatten (tabulate n (λ i. pad 0 m (record_by k s i)))

pub resized_none : (k m : ℕ) (s d : List ℕ) → d ≡ resized k m s 0 ++ drop (0 * m) d
unfolding resized tabulate_from flatten
resized_none k m s d = sym (ap (λ (j : ℕ). drop j d) (zero-mul m))

pub resized_more : (k m : ℕ) (s : List ℕ) (n : ℕ) → resized k m s (suc n) ≡ resized k m s n ++ pad 0 m (record_by k s n)
unfolding resized
resized_more k m s n = joined_more n (λ i. pad 0 m (record_by k s i))

pub resized_long : (k m : ℕ) (s : List ℕ) (n : ℕ) → length (resized k m s n) ≡ n * m
unfolding resized tabulate_from flatten
resized_long k m s zero = sym (zero-mul m)
resized_long k m s (suc n) =
    ap length (joined_more n (λ i. pad 0 m (record_by k s i))) ∙ length-append (resized k m s n) (pad 0 m (record_by k s n)) ∙ rw (resized_long k m s n, pad_length 0 m (record_by k s n), suc-mul n m) refl

pub record Room (l k d m n : ℕ) : Type 0 where
  pub taken : n * k ≤ l
  pub given : n * m ≤ d

joined_front : (k : ℕ) (s : List ℕ) (n : ℕ) → flatten (tabulate n (record_by k s)) ≡ take (n * k) s
unfolding tabulate_from flatten
joined_front k s zero = sym (ap (λ (j : ℕ). take j s) (zero-mul k))
joined_front k s (suc n) =
    joined_more n (record_by k s) ∙ ap (λ (l : List ℕ). l ++ record_by k s n) (joined_front k s n) ∙ sym (take-add (n * k) k s) ∙ ap (λ (j : ℕ). take j s) (sym (suc-mul n k))

pub joined_records : (k : ℕ) (s : List ℕ) → length s % k ≡ 0 → flatten (records_by k s) ≡ s
unfolding records_by
joined_records k s h =
    let q = div-add-mod' (length s) k in
    let e : count_by k s * k ≡ length s = omega arith in
    joined_front k s (count_by k s) ∙ ap (λ (j : ℕ). take j s) e ∙ take-length s

abbrev pub Each : ℕ → List (List ℕ) → Type 0
Each k rs = (a : List ℕ) → a ∈ rs → length a ≡ k

pub joined_long : (k : ℕ) (rs : List (List ℕ)) → Each k rs → length (flatten rs) ≡ length rs * k
unfolding flatten
joined_long k [] e = sym (zero-mul k)
joined_long k (a ∷ rs) e =
    let l = e a (Memᴰ.head refl) in
    let m = joined_long k rs (λ b i. e b (Memᴰ.tail i)) in
    length-append a (flatten rs) ∙ omega (arith, suc-mul (length rs) k)

pub record_in_lem : (k : ℕ) (rs : List (List ℕ)) → Each k rs → (i : ℕ) → i < length rs → record_by k (flatten rs) i ≡ get_or rs i []
unfolding flatten
record_in_lem k [] e i l = absurd (omega arith)
record_in_lem k (a ∷ rs) e zero l = ap (λ (j : ℕ). take k (drop j (a ++ flatten rs))) (zero-mul k) ∙ take_at a (flatten rs) k (e a (Memᴰ.head refl))
record_in_lem k (a ∷ rs) e (suc i) l =
    let q : suc i * k ≡ k + i * k = omega (arith, suc-mul i k) in
    ap (λ (j : ℕ). take k (drop j (a ++ flatten rs))) q
    ∙ ap (take k) (sym (drop-drop (i * k) k (a ++ flatten rs)) ∙ ap (drop (i * k)) (drop_at a (flatten rs) k (e a (Memᴰ.head refl))))
    ∙ record_in_lem k rs (λ b m. e b (Memᴰ.tail m)) i (le_of_suc-le-suc l)

pub records_joined : (k : ℕ) → 0 < k → (rs : List (List ℕ)) → Each k rs → records_by k (flatten rs) ≡ rs
unfolding records_by
records_joined k p rs e =
    let n : count_by k (flatten rs) ≡ length rs = ap (λ (j : ℕ). j / k) (joined_long k rs e) ∙ mul-div_cancel (length rs) p in
    ap (λ (j : ℕ). tabulate j (record_by k (flatten rs))) n
    ∙ tabulate_same (length rs) (record_by k (flatten rs)) (λ i. get_or rs i []) (λ i l. record_in_lem k rs e i l)
    ∙ tabulate_get_d rs []
