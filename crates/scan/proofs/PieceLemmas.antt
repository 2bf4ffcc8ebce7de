-- Laws of what stands beside it in specs.
--   cut_exists       ==  .. the scan answers nowhere exactly where there is one
--   cut_misfit       ==  .. and a place exactly where that is the first at which no piece stands
use Prim.Native.Nat.{ℕ, zero, suc, ◌+◌, ◌-◌, ◌≤◌, ◌<◌}
use Rattle.std.specs.Prelude.{◌≡◌, Bool, ◌↔◌, take, eqb, Some, None}
use Rattle.std.proofs.Math.Path.{refl, sym, ap}
use Rattle.std.proofs.Common.{◌∙◌, length-append, length-drop, drop-drop, add-zero, add_assoc}
use Rattle.std.proofs.Math.Bool.{true, false}
use mathlib.Core.List.Memᴰ
use mathlib.Core.List.{List, [], ◌∷◌, ◌++◌, flatten, append_assoc, append-nil, append_cancel_left, cons≢nil, Memᴰ}
use Rattle.std.proofs.Math.Logic.{⊎_elim}
use Rattle.std.proofs.Math.ListN.{length, drop, take-append-drop}
use Rattle.std.proofs.Math.Seq.{take-append_seam, drop-append_seam, take_all, length-take-le}
use Rattle.std.proofs.Math.Dec.{ltb}
use native.Mathlib.Omega.{arith}
use Rattle.std.proofs.Math.Nat.{add-sub_cancel_left}
use borrow.Author.Tests.{eq-eqb, ne_eqb, le-ltb, ltb-true, ltb-false, eqb-true, eqb-false}
use Rattle.ground.specs.Pick.{pick, yes, no, Reads, shows}
use Rattle.ground.specs.Lists.{part, total, part_length, part_join, part_none, part_drop, length_flatten}
use Rattle.ground.specs.Refuse.{kept_at, kept_nowhere, kept_at_lem}
use Rattle.scan.specs.Cutting.{Measure, Piece, Pieces, end_by, rest_from_by, rest_by, reach_by, breach_by, MisfitBy}
use Rattle.scan.specs.PieceLaws.{none, stands, end_stands, end_none, rest_none, rest_more, rest_of, standing, cut_rest}

part_front : (s : List ℕ) (p : ℕ) → part s 0 p ≡ take p s
part_front s p = let z : p - 0 ≡ p = omega arith in ap (λ (i : ℕ). take i s) z

module _ (m : Measure) where
  -- the pieces stop where they reach
  reach_stops : (s : List ℕ) → rest_by m s (reach_by m s 0) ≡ []
  unfolding reach_by
  reach_stops s =
      let all = rest_by m s 0 in
      let k = (standing m) s 0 (omega arith) in
      append_cancel_left all (rest_by m s (0 + total all)) []
      (sym ((rest_of m) s 0 all (drop (0 + total all) s) (sym (ap (λ (l : List ℕ). l ++ drop (0 + total all) s) (k.flat ∙ part_front s (0 + total all)) ∙ take-append-drop (0 + total all) s)) k.each) ∙ sym (append-nil all))

  none_at_reach : (s : List ℕ) → m.least ≤ m.told s (reach_by m s 0) → reach_by m s 0 + m.told s (reach_by m s 0) ≤ length s → ⊥
  none_at_reach s least room =
      let p = reach_by m s 0 in
      let i = m.some in
      let e = (end_stands m) s p least room in
      cons≢nil (sym ((rest_more m) s p (λ q. omega arith)) ∙ reach_stops s)

  reads_cut : (s : List ℕ) → Reads (eqb (reach_by m s 0) (length s)) ((ds : List (List ℕ)) × Pieces m s ds)
  unfolding reach_by
  reads_cut s = record { says = λ e. (rest_by m s 0, whole (eqb-true _ _ e)); denies = λ e c. eqb-false _ _ e (reached c.0 c.1) }
    where
      whole : 0 + total (rest_by m s 0) ≡ length s → Pieces m s (rest_by m s 0)
      whole h =
          let k = (standing m) s 0 (omega arith) in
          record { whole = k.flat ∙ part_front s (0 + total (rest_by m s 0)) ∙ take_all (0 + total (rest_by m s 0)) s (omega arith); each = k.each }

      reached : (ds : List (List ℕ)) → Pieces m s ds → 0 + total (rest_by m s 0) ≡ length s
      reached ds c =
          let l : total ds ≡ length s = sym (length_flatten ds) ∙ ap length c.whole in
          let n : total (rest_by m s 0) ≡ total ds = ap total ((cut_rest m) s ds c) in
          omega arith

  -- where there is no cutting, the pieces stop at a misfit
  at_reach : (s : List ℕ) → ((ds : List (List ℕ)) × Pieces m s ds → ⊥) → MisfitBy m s (reach_by m s 0)
  unfolding reach_by
  at_reach s n =
      let k = (standing m) s 0 (omega arith) in
      let r = k.room in
      let short : 0 + total (rest_by m s 0) ≡ length s → ⊥ = λ q. n ((reads_cut s).says (eq-eqb _ _ q)) in
      record {
        before = rest_by m s 0;
        stands = record { whole = k.flat ∙ part_front s (0 + total (rest_by m s 0)); each = k.each };
        inside = omega arith;
        none = none_at_reach s;
      }

  -- and they stop at no other
  misfit_reach : (s : List ℕ) (p : ℕ) → MisfitBy m s p → p ≡ reach_by m s 0
  unfolding reach_by
  misfit_reach s p n =
      let c = n.stands in
      let i = n.inside in
      let b = n.before in
      let l : total b ≡ p = sym (length_flatten b) ∙ ap length c.whole ∙ length-take-le p s (omega arith) in
      let r : rest_by m s 0 ≡ b ++ rest_by m s (0 + total b) = (rest_of m) s 0 b (drop p s) (sym (ap (λ (x : List ℕ). x ++ drop p s) c.whole ∙ take-append-drop p s)) c.each in
      let z : 0 + total b ≡ p = omega arith in
      let o : rest_by m s (0 + total b) ≡ [] = rw z ((rest_none m) s p ((end_none m) s p n.none)) in
      let t : total (rest_by m s 0) ≡ total b = ap total (r ∙ ap (λ (x : List (List ℕ)). b ++ x) o ∙ append-nil b) in
      omega arith

  pub cut_exists : (s : List ℕ) → (breach_by m s ≡ None) ↔ ((ds : List (List ℕ)) × Pieces m s ds)
  unfolding breach_by
  cut_exists s = kept_nowhere _ (reads_cut s)

  pub cut_misfit : (s : List ℕ) (p : ℕ) → (breach_by m s ≡ Some p) ↔ MisfitBy m s p
  unfolding breach_by
  cut_misfit s p = (λ e. let k = both.0 e in rw k.0 (at_reach s k.1), λ n. both.1 (misfit_reach s p n, uncut n))
    where
      both : (kept_at (eqb (reach_by m s 0) (length s)) (reach_by m s 0) ≡ Some p) ↔ ((p ≡ reach_by m s 0) × ((ds : List (List ℕ)) × Pieces m s ds → ⊥))
      both = kept_at_lem (reach_by m s 0) p (reads_cut s)

      uncut : MisfitBy m s p → (ds : List (List ℕ)) × Pieces m s ds → ⊥
      uncut n c =
          let q = misfit_reach s p n in
          let i = n.inside in
          let w : reach_by m s 0 ≡ length s = eqb-true _ _ (shows (reads_cut s) c) in
          omega arith
