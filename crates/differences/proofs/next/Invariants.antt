use Prim.Native.Nat.{ℕ, ◌-◌, ◌≤◌, ◌<◌}
use mathlib.Core.Path.{◌≡◌, refl, sym, ap, ◌∙◌}
use mathlib.Core.Option.{Option, none, some}
use mathlib.Core.Logic.{⊎_elim}
use mathlib.Core.List.{List, [], ◌∷◌}
use native.Mathlib.Omega.{arith}
use lib.Dec.{ltb}
use Rattle.ground.specs.Pick.{decided, reads_lt}
use Rattle.legal.specs.Sheet.{count_in, record_at, id_at}
use Rattle.std.specs.declared.option.Option.TheVariants.{None, Some}
use Rattle.differences.specs.declared.Difference.TheVariants as difference
use Rattle.differences.specs.Lines.{Line, last_id, record_bearing, differing, changed_line, line_of, line_at, lines_of, first_above, bits_set, difference_of}
use Rattle.differences.specs.Lines.Line.{left_only, right_only, changed}
use Rattle.differences.specs.LinesLaws.{record_first, record_none, lines_none, lines_some}
use Rattle.differences.specs.Lowest.{no_id, LowestAbove, Standing}
use Rattle.differences.specs.Masks.{mask_zero}
use Rattle.differences.proofs.next.Given as goal

module _ (s : List ℕ) (a x k : ℕ) (g : LowestAbove (id_at s) a (count_in s) x k) where
  pub absent : (j : ℕ) → a < j → j < x → record_bearing s j ≡ none
  absent j p q = record_none s j (λ i h e. let n = g.none_lower i h (let z : a < id_at s i = omega arith in z) in omega arith)

  pub present : x < no_id → record_bearing s x ≡ some (record_at s k)
  present p = record_first s x k (g.inside p) (g.stands p) (g.first p)

module _ (l r : List ℕ) where
  pub line_by : (i : ℕ) {a b : Option (List ℕ)} → record_bearing l i ≡ a → record_bearing r i ≡ b → line_at l r i ≡ line_of i a b
  unfolding line_at
  line_by i p q = rw (p, q) refl

  module _ (above : ℕ) where
    pub record Come (at : ℕ) : Type 0 where
      pub low : above ≤ at
      pub high : at ≤ last_id
      pub none_passed : (j : ℕ) → above < j → j ≤ at → line_at l r j ≡ []

    pub start : above < no_id → Come above
    start h = record { low = omega arith; high = omega arith; none_passed = λ j p q. absurd (omega arith) }

    module _ (at : ℕ) (g : Come at) where
      -- no ID below m has a line where none between the one come to and m has
      pub before : (m : ℕ) → ((j : ℕ) → at < j → j < m → line_at l r j ≡ []) → (j : ℕ) → above < j → j < m → line_at l r j ≡ []
      before m h j p q = ⊎_elim (λ (o : at < j). h j o q) (λ (n : at < j → ⊥). g.none_passed j p (omega arith)) (decided (ltb at j) (reads_lt at j))

      pub found : (m : ℕ) (x : Line) → at < m → m < no_id → line_at l r m ≡ x ∷ [] → ((j : ℕ) → at < j → j < m → line_at l r j ≡ [])
          → difference_of (some x) ≡ difference_of (first_above above (lines_of l r))
      found m x p q e h = let o = g.low in ap difference_of (sym (lines_some l r above m x (omega arith) (omega arith) e (before m h)))

      module _ (x k y m : ℕ) (L : LowestAbove (id_at l) at (count_in l) x k) (R : LowestAbove (id_at r) at (count_in r) y m) where
        pub neither : (j : ℕ) → at < j → j < x → j < y → line_at l r j ≡ []
        neither j p q o = line_by j (absent l at x k L j p q) (absent r at y m R j p o)

        pub left_small : x < y → x < no_id
        left_small h = let n = R.low in omega arith

        pub left_only_lem : x < y → Some (difference.LeftOnly x) ≡ difference_of (first_above above (lines_of l r))
        left_only_lem h =
            let s = left_small h in
            let p = L.above s in
            found x (left_only x) p s (line_by x (present l at x k L s) (absent r at y m R x p h)) (λ j o q. neither j o q (omega arith))

        module _ (f : y ≤ x) where
          pub right_small : y < x → y < no_id
          right_small h = let n = L.low in omega arith

          pub right_only_lem : y < x → Some (difference.RightOnly y) ≡ difference_of (first_above above (lines_of l r))
          right_only_lem h =
              let s = right_small h in
              let p = R.above s in
              found y (right_only y) p s (line_by y (absent l at x k L y p h) (present r at y m R s)) (λ j o q. neither j o (omega arith) q)

          module _ (h : x ≤ y) where
            pub over : x ≡ no_id → None ≡ difference_of (first_above above (lines_of l r))
            over e =
                let b : (j : ℕ) → above < j → j < no_id → line_at l r j ≡ [] = before no_id (λ j o q. neither j o (omega arith) (omega arith)) in
                ap difference_of (sym (lines_none l r above (λ j p q. b j p (omega arith))))

            module _ (e : x ≡ no_id → ⊥) where
              pub small : x < no_id
              small = let n = L.low in omega arith

              pub both_inside : Standing l k r m
              both_inside = record { on_left = L.inside small; on_right = R.inside (omega (arith, small)) }

              pub line_both : line_at l r x ≡ changed_line x (differing (record_at l k) (record_at r m))
              line_both =
                  let q : x ≡ y = omega arith in
                  line_by x (present l at x k L small) (ap (record_bearing r) q ∙ present r at y m R (omega (arith, small)))

              module _ (mask : ℕ) (d : mask ≡ bits_set (differing (record_at l k) (record_at r m))) where
                pub differ : (mask ≡ 0 → ⊥) → Some (difference.Changed x mask) ≡ difference_of (first_above above (lines_of l r))
                differ n = ap (λ (m : ℕ). Some (difference.Changed x m)) d ∙ go (differing (record_at l k) (record_at r m)) (λ z. n (d ∙ (mask_zero _).1 z)) line_both
                  where
                    go : (ns : List ℕ) → (ns ≡ [] → ⊥) → line_at l r x ≡ changed_line x ns → Some (difference.Changed x (bits_set ns)) ≡ difference_of (first_above above (lines_of l r))
                    go [] z b = absurd (z refl)
                    go (n ∷ ns) z b = found x (changed x (n ∷ ns)) (L.above small) small b (λ j o q. neither j o q (omega arith))

                pub same : mask ≡ 0 → Come x
                same z =
                    let w = L.above small in
                    let o = g.low in
                    let u = small in
                    let b : line_at l r x ≡ [] = line_both ∙ ap (changed_line x) ((mask_zero _).0 (sym d ∙ z)) in
                    record {
                      low = omega arith;
                      high = omega arith;
                      none_passed = λ j p q. ⊎_elim (λ (n : j < x). before x (λ i a c. neither i a c (omega arith)) j p n) (λ (n : j < x → ⊥). let t : j ≡ x = omega arith in ap (line_at l r) t ∙ b) (decided (ltb j x) (reads_lt j x));
                    }

                pub falls : mask ≡ 0 → last_id - x < last_id - at
                falls z = let w = L.above small in let u = small in omega arith

abbrev pub invariant-loop-r : goal.invariant-loop-r
invariant-loop-r l = Come l.left l.right l.above l.at

abbrev pub decreases-loop-r : goal.decreases-loop-r
decreases-loop-r l = last_id - l.at
