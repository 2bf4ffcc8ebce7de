-- The lines of two sheets say exactly what differs, and they are none exactly where nothing does.
--   lines_exact   ==  THE LAW: a line for an ID exactly where the records differ, of the kind and with the bytes that differ, by rising ID
--   no_line       ==  .. and no line exactly for the same set of records, a Selector's kind mended
--   line_there    ==  the line of an ID that stands in one of the two sheets is among their lines
--   LineSays, line_says  ==  what a line says of the two records of its ID
use Prim.Native.Nat.{ℕ, ◌≤◌, ◌<◌}
use mathlib.Core.Path.{◌≡◌, refl, sym, ap, ◌∙◌}
use mathlib.Core.Option.{Option, none, some}
use mathlib.Core.Logic.{◌⊎◌, inl, inr, ⊎_elim}
use mathlib.Core.List.Memᴰ
use mathlib.Core.List.{List, [], ◌∷◌, map}
use native.Mathlib.Omega.{arith}
use Rattle.ground.specs.Numbers.{byte, Bytes}
use Rattle.graph.specs.Members.{◌∈◌, along}
use Rattle.legal.specs.Sheet.{records_in, id_of, Sheet}
use Rattle.ground.specs.Rising.{rising_one}
use Rattle.differences.specs.InTurn.{in_turn_lem, of_turn, turn_rising}
use Rattle.differences.specs.Mended.{compared_same, mended}
use Rattle.differences.proofs.MendedLemmas.{mended_byte, mended_id}
use Rattle.differences.specs.Lines.{Line, line_id, last_id, record_bearing, differing, changed_line, line_of, line_at, lines_of}
use Rattle.differences.specs.Lines.Line.{left_only, right_only, changed}
use Rattle.differences.specs.LinesLaws.{line_own, line_few}
use Rattle.differences.specs.Exact.{HasId, Differ, Changed, Exact, SameRecords, NoLine}
use Rattle.differences.proofs.Records.{found_is, record_size_lem, record_found, id_above, id_below, found_none, differing_each, differing_rising, records_same}

-- what is found for an ID
found_or_not : (x : Option (List ℕ)) → (x ≡ none) ⊎ ((a : List ℕ) × (x ≡ some a))
found_or_not none = inl refl
found_or_not (some a) = inr (a, refl)

module _ (i : ℕ) where
  pub data LineSays (p q : Option (List ℕ)) : Line → Type 0 where
    says_left : {a : List ℕ} → p ≡ some a → q ≡ none → LineSays p q (left_only i)
    says_right : {b : List ℕ} → p ≡ none → q ≡ some b → LineSays p q (right_only i)
    says_changed : {a b : List ℕ} → p ≡ some a → q ≡ some b → (differing a b ≡ [] → ⊥) → LineSays p q (changed i (differing a b))

  only : {p q : Option (List ℕ)} {x y : Line} → LineSays p q y → x ∈ (y ∷ []) → LineSays p q x
  only s m = ⊎_elim (λ e. rw e s) (λ t. absurd (Memᴰ.not-nil t)) (Memᴰ.cases_cons m)

  pub line_says : (p q : Option (List ℕ)) {x : Line} → x ∈ line_of i p q → LineSays p q x
  line_says none none m = absurd (Memᴰ.not-nil m)
  line_says (some a) none m = only (says_left refl refl) m
  line_says none (some b) m = only (says_right refl refl) m
  line_says (some a) (some b) {x} m = go (differing a b) refl m
    where
      go : (ns : List ℕ) → differing a b ≡ ns → x ∈ changed_line i ns → LineSays (some a) (some b) x
      go [] e m = absurd (Memᴰ.not-nil m)
      go (n ∷ ns) e m = only (rw e at (says_changed refl refl (λ z. Memᴰ.not-nil (along (sym e ∙ z) (Memᴰ.head refl))))) m

differ_of : (a b : List ℕ) → (differing a b ≡ [] → ⊥) → Differ a b (differing a b)
differ_of a b d = record { each = differing_each a b; rising = differing_rising a b; one = d }

no_member : {A : Type 0} (l : List A) → ((x : A) → x ∈ l → ⊥) → l ≡ []
no_member [] h = refl
no_member (x ∷ l) h = absurd (h x (Memᴰ.head refl))

empty_or_not : (ns : List ℕ) → (ns ≡ []) ⊎ (ns ≡ [] → ⊥)
empty_or_not [] = inl refl
empty_or_not (n ∷ ns) = inr (λ e. Memᴰ.not-nil (along e (Memᴰ.head refl)))

changed_one : (i : ℕ) (ns : List ℕ) → (ns ≡ [] → ⊥) → changed_line i ns ≡ changed i ns ∷ []
changed_one i [] h = absurd (h refl)
changed_one i (n ∷ ns) h = refl

module _ (l r : List ℕ) where
  pub line_there : (i : ℕ) {x : Line} → 0 < i → i ≤ last_id → x ∈ line_at l r i → x ∈ lines_of l r
  unfolding lines_of
  line_there i a b m = in_turn_lem (line_at l r) 1 last_id i a (omega arith) m

  pub line_of_lem : {x : Line} → x ∈ lines_of l r → LineSays (line_id x) (record_bearing l (line_id x)) (record_bearing r (line_id x)) x
  unfolding lines_of line_at
  line_of_lem {x} m =
      let j = of_turn (line_at l r) 1 last_id m in
      let e : line_id x ≡ j.0 = line_own l r j.0 x j.3 in
      rw e (line_says j.0 (record_bearing l j.0) (record_bearing r j.0) j.3)

  line_by : (i : ℕ) {p q : Option (List ℕ)} → record_bearing l i ≡ p → record_bearing r i ≡ q → line_at l r i ≡ line_of i p q
  unfolding line_at
  line_by i p q = rw (p, q) refl

  module _ (left : Sheet l) (right : Sheet r) (lb : Bytes l) (rb : Bytes r) where
    stands_left : (i : ℕ) {a : List ℕ} → record_bearing l i ≡ some a → HasId l i
    stands_left i {a} e = let f = found_is l i e in record { one = a; among = f.0; has = f.1 }

    stands_right : (i : ℕ) {b : List ℕ} → record_bearing r i ≡ some b → HasId r i
    stands_right i {b} e = let f = found_is r i e in record { one = b; among = f.0; has = f.1 }

    -- for an ID that does not stand nothing is found
    nothing_in : (s : List ℕ) (i : ℕ) → (HasId s i → ⊥) → record_bearing s i ≡ none
    nothing_in s i n = go (found_or_not (record_bearing s i))
      where
        go : (record_bearing s i ≡ none) ⊎ ((a : List ℕ) × (record_bearing s i ≡ some a)) → record_bearing s i ≡ none
        go (inl e) = e
        go (inr (a, e)) = let f = found_is s i e in absurd (n (record { one = a; among = f.0; has = f.1 }))

    to_left : (i : ℕ) → HasId l i × (HasId r i → ⊥) → left_only i ∈ lines_of l r
    to_left i (s, n) =
        let e = s.has in
        let a = id_above l left s.among in
        let b = id_below l lb s.among in
        line_there i (omega arith) (omega arith) (along (sym (line_by i (ap (record_bearing l) (sym e) ∙ record_found l left s.among) (nothing_in r i n))) (Memᴰ.head refl))

    to_right : (i : ℕ) → (HasId l i → ⊥) × HasId r i → right_only i ∈ lines_of l r
    to_right i (n, s) =
        let e = s.has in
        let a = id_above r right s.among in
        let b = id_below r rb s.among in
        line_there i (omega arith) (omega arith) (along (sym (line_by i (nothing_in l i n) (ap (record_bearing r) (sym e) ∙ record_found r right s.among))) (Memᴰ.head refl))

    to_changed : (i : ℕ) {a b : List ℕ} → a ∈ records_in l → b ∈ records_in r → id_of a ≡ i → id_of b ≡ i → (differing a b ≡ [] → ⊥) → changed i (differing a b) ∈ lines_of l r
    to_changed i {a} {b} m n e f d =
        let p = id_above l left m in
        let q = id_below l lb m in
        line_there i (omega arith) (omega arith)
        (along (sym (line_by i (ap (record_bearing l) (sym e) ∙ record_found l left m) (ap (record_bearing r) (sym f) ∙ record_found r right n) ∙ changed_one i (differing a b) d)) (Memᴰ.head refl))

    of_left : (i : ℕ) {x : Line} → LineSays i (record_bearing l i) (record_bearing r i) x → x ≡ left_only i → HasId l i × (HasId r i → ⊥)
    of_left i (says_left p q) e = (stands_left i p, λ s. found_none r right i q s.among s.has)
    of_left i (says_right p q) e = let z : ◌≡◌ {A = ℕ} 0 1 = cc in absurd (omega arith)
    of_left i (says_changed p q d) e = let z : ◌≡◌ {A = ℕ} 0 1 = cc in absurd (omega arith)

    of_right : (i : ℕ) {x : Line} → LineSays i (record_bearing l i) (record_bearing r i) x → x ≡ right_only i → (HasId l i → ⊥) × HasId r i
    of_right i (says_left p q) e = let z : ◌≡◌ {A = ℕ} 0 1 = cc in absurd (omega arith)
    of_right i (says_right p q) e = (λ s. found_none l left i p s.among s.has, stands_right i q)
    of_right i (says_changed p q d) e = let z : ◌≡◌ {A = ℕ} 0 1 = cc in absurd (omega arith)

    of_changed : (i : ℕ) (ns : List ℕ) {x : Line} → LineSays i (record_bearing l i) (record_bearing r i) x → x ≡ changed i ns → Changed l r i ns
    of_changed i ns (says_left p q) e = let z : ◌≡◌ {A = ℕ} 0 1 = cc in absurd (omega arith)
    of_changed i ns (says_right p q) e = let z : ◌≡◌ {A = ℕ} 0 1 = cc in absurd (omega arith)
    of_changed i ns (says_changed {a} {b} p q d) e =
        let f = found_is l i p in
        let g = found_is r i q in
        let z : differing a b ≡ ns = cc in
        record {
          before = a;
          after = b;
          on_left = f.0;
          on_right = g.0;
          left_id = f.1;
          right_id = g.1;
          differ = rw z at (differ_of a b d);
        }

    pub lines_exact : Exact l r
    unfolding lines_of
    lines_exact = record {
      left_only_lem = λ i. (λ m. of_left i (line_of_lem m) refl, to_left i);
      right_only_lem = λ i. (λ m. of_right i (line_of_lem m) refl, to_right i);
      changed_too = λ i ns. (λ m. of_changed i ns (line_of_lem m) refl, back i ns);
      rising = turn_rising line_id (line_at l r) (line_few l r) (line_own l r) 1 last_id;
    }
      where
        back : (i : ℕ) (ns : List ℕ) → Changed l r i ns → changed i ns ∈ lines_of l r
        back i ns c =
            let d = c.differ in
            let same : differing c.before c.after ≡ ns = rising_one (differing_rising c.before c.after) d.rising (λ n. (λ m. (d.each n).1 ((differing_each c.before c.after n).0 m), λ m. (differing_each c.before c.after n).1 ((d.each n).0 m))) in
            rw same at (to_changed i c.on_left c.on_right c.left_id c.right_id (λ z. d.one (sym same ∙ z)))

    -- records of one ID that no line names are the same, a Selector's kind mended
    same_there : {a b : List ℕ} → a ∈ records_in l → b ∈ records_in r → id_of a ≡ id_of b → ((x : Line) → x ∈ lines_of l r → line_id x ≡ id_of a → ⊥) → mended a ≡ mended b
    same_there {a} {b} m n e f =
        ⊎_elim
        (λ d. records_same a b (record_size_lem l m) (record_size_lem r n) d)
        (λ d. absurd (f (changed (id_of a) (differing a b)) (to_changed (id_of a) m n refl (sym e) d) refl))
        (empty_or_not (differing a b))

    pub stays : {a : List ℕ} → a ∈ records_in l → ((x : Line) → x ∈ lines_of l r → line_id x ≡ id_of a → ⊥) → mended a ∈ map mended (records_in r)
    stays {a} m f = go (found_or_not (record_bearing r (id_of a)))
      where
        go : (record_bearing r (id_of a) ≡ none) ⊎ ((b : List ℕ) × (record_bearing r (id_of a) ≡ some b)) → mended a ∈ map mended (records_in r)
        go (inl e) =
            absurd (f (left_only (id_of a)) (to_left (id_of a) (record { one = a; among = m; has = refl }, λ s. found_none r right (id_of a) e s.among s.has)) refl)
        go (inr (b, e)) = let g = found_is r (id_of a) e in rw (same_there m g.0 (sym g.1) f) (Memᴰ.map mended g.0)

    pub stood : {b : List ℕ} → b ∈ records_in r → ((x : Line) → x ∈ lines_of l r → line_id x ≡ id_of b → ⊥)
        → (a : List ℕ) × a ∈ records_in l × (id_of a ≡ id_of b) × (mended a ≡ mended b)
    stood {b} m f = go (found_or_not (record_bearing l (id_of b)))
      where
        go : (record_bearing l (id_of b) ≡ none) ⊎ ((a : List ℕ) × (record_bearing l (id_of b) ≡ some a)) → (a : List ℕ) × a ∈ records_in l × (id_of a ≡ id_of b) × (mended a ≡ mended b)
        go (inl e) =
            absurd (f (right_only (id_of b)) (to_right (id_of b) (λ s. found_none l left (id_of b) e s.among s.has, record { one = b; among = m; has = refl })) refl)
        go (inr (a, e)) =
            let g = found_is l (id_of b) e in
            (a, g.0, g.1, same_there g.0 m g.1 (λ x k q. f x k (q ∙ g.1)))

    -- a record of one sheet has one of its ID in the other, if the sets are the same
    counterpart : (s u : List ℕ) → ((a : List ℕ) → a ∈ map mended (records_in s) → a ∈ map mended (records_in u)) → {a : List ℕ} → a ∈ records_in s
        → (b : List ℕ) × b ∈ records_in u × (id_of b ≡ id_of a) × (mended b ≡ mended a)
    counterpart s u h {a} m =
        let k = Memᴰ.of_map mended (records_in u) (h (mended a) (Memᴰ.map mended m)) in
        (k.0, k.1, sym (mended_id k.0) ∙ ap id_of k.2 ∙ mended_id a, k.2)

    pub no_line : NoLine l r
    no_line = (λ e a. (λ m. to e m, λ m. from e m), λ h. no_member (lines_of l r) (λ x m. says h (line_of_lem m)))
      where
        nothing : lines_of l r ≡ [] → (x : Line) → x ∈ lines_of l r → ⊥
        nothing e x m = Memᴰ.not-nil (along e m)

        to : lines_of l r ≡ [] → {a : List ℕ} → a ∈ map mended (records_in l) → a ∈ map mended (records_in r)
        to e m = let k = Memᴰ.of_map mended (records_in l) m in rw k.2 at (stays k.1 (λ x i q. nothing e x i))

        from : lines_of l r ≡ [] → {a : List ℕ} → a ∈ map mended (records_in r) → a ∈ map mended (records_in l)
        from e m =
            let k = Memᴰ.of_map mended (records_in r) m in
            let o = stood k.1 (λ x i q. nothing e x i) in
            rw (o.3 ∙ k.2) at (Memᴰ.map mended o.1)

        says : SameRecords l r → {i : ℕ} {x : Line} → LineSays i (record_bearing l i) (record_bearing r i) x → ⊥
        says h {i} (says_left {a} p q) =
            let f = found_is l i p in
            let k = counterpart l r (λ b. (h b).0) f.0 in
            found_none r right i q k.1 (k.2 ∙ f.1)
        says h {i} (says_right {b} p q) =
            let f = found_is r i q in
            let k = counterpart r l (λ a. (h a).1) f.0 in
            found_none l left i p k.1 (k.2 ∙ f.1)
        says h {i} (says_changed {a} {b} p q d) =
            let f = found_is l i p in
            let k = counterpart l r (λ c. (h c).0) f.0 in
            let c = k.0 in
            let e : some c ≡ some b = sym (record_found r right k.1) ∙ ap (record_bearing r) (k.2 ∙ f.1) ∙ q in
            let z : c ≡ b = cc in
            let y : mended a ≡ mended b = sym k.3 ∙ ap mended z in
            d (no_member (differing a b) (λ n m. ((differing_each a b n).0 m).1 (compared_same n _ _ (sym (mended_byte a n) ∙ ap (λ (x : List ℕ). byte x n) y ∙ mended_byte b n))))
