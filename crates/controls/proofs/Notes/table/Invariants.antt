use Prim.Native.Nat.{ℕ, ◌+◌, ◌≤◌, ◌<◌, min}
use mathlib.Core.Path.{◌≡◌, sym, ap, ◌∙◌}
use mathlib.Core.List.{List, [], ◌∷◌, ◌++◌, map}
use native.Mathlib.Omega.{arith}
use native.Mathlib.Numerals.{add-one}
use lib.ListN.{length, get_or, take, set, replicate, length-take, get_or-map}
use lib.Seq.{take-suc, take_all}
use lib.Dec.{leb}
use Rattle.std.proofs.Common.{⊎_elim}
use Rattle.ground.specs.Pick.{decided, reads_le}
use Rattle.ground.specs.Lists.{pad, pad_blank, pad_set}
use Rattle.table.specs.declared.Control.{Control}
use Rattle.table.specs.Controls.{most_controls, blank_control}
use Rattle.masks.specs.Notes.{control_from}
use Rattle.controls.specs.Told.{table_by, table_from, Room}
use Rattle.controls.proofs.Notes.table.Given as goal

module _ (l : List ℕ) (n : ℕ) where
  pub record Come (xs : List Control) (i : ℕ) : Type 0 where
    pub low : i ≤ most_controls
    pub not_behind : i ≤ n
    pub places : length (map control_from l) ≡ most_controls
    pub same : xs ≡ pad blank_control most_controls (take i (map control_from l))

  pub start : (z : Control) → z ≡ control_from 0 → Room (table_by l n) 900000 → Come (replicate most_controls z) 0
  unfolding control_from
  start z e r = record {
    low = omega arith;
    not_behind = omega arith;
    places = r.places;
    same = ap (replicate most_controls) e ∙ pad_blank blank_control most_controls;
  }

  module _ (xs : List Control) (i : ℕ) (g : Come xs i) where
    over : n ≤ i → record { count = n; controls = xs } ≡ table_from l n
    over h =
        let b = g.not_behind in
        let z : i ≡ n = omega arith in
        ap (λ (ys : List Control). record { count = n; controls = ys }) (g.same ∙ ap (λ (j : ℕ). pad blank_control most_controls (take j (map control_from l))) z)

    full : most_controls ≤ i → record { count = n; controls = xs } ≡ table_from l n
    full h =
        let p = g.places in
        let b = g.not_behind in
        ap (λ (ys : List Control). record { count = n; controls = ys })
        (g.same ∙ ap (pad blank_control most_controls) (take_all i (map control_from l) (omega arith) ∙ sym (take_all n (map control_from l) (omega arith))))

    pub all : (e : ℕ) → e ≡ min n most_controls → e ≤ i → record { count = n; controls = xs } ≡ table_from l n
    all e q h =
        ⊎_elim
        (λ (m : n ≤ most_controls). over (omega arith))
        (λ (m : n ≤ most_controls → ⊥). full (omega arith))
        (decided (leb n most_controls) (reads_le n most_controls))

    pub on : (x : Control) → i < most_controls → i < n → x ≡ control_from (get_or l i 0) → Come (set xs i x) (i + 1)
    unfolding control_from
    on x h k e =
        let p = g.places in
        let j : length (take i (map control_from l)) ≡ i = simp length-take (omega arith) in
        let m : i < length (map control_from l) = omega arith in
        record {
          low = omega arith;
          not_behind = omega arith;
          places = p;
          same =
              ap (λ (ys : List Control). set ys i x) g.same
              ∙ ap (λ (a : ℕ). set (pad blank_control most_controls (take i (map control_from l))) a x) (sym j)
              ∙ pad_set blank_control most_controls (take i (map control_from l)) x
              ∙ ap (λ (y : Control). pad blank_control most_controls (take i (map control_from l) ++ y ∷ [])) (e ∙ sym (get_or-map control_from l i 0))
              ∙ rw add-one (ap (pad blank_control most_controls) (sym (take-suc (map control_from l) i blank_control m)));
        }

abbrev pub invariant-loop-i : goal.invariant-loop-i
invariant-loop-i l = Come l.self.notes l.self.count l.controls l.i
