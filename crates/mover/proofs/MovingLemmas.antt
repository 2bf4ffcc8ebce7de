-- Laws of what stands beside it in specs.
--   record_padded   ==  a moved record as so many places as its form has
--   moved_resized, moved_long  ==  the moved sheet as records of another size; its length
--   move_judged, judged_move ==  THE LAW: the number is the one that the paper gives, and there is no other
--   unrefused_short, unrefused_room  ==  what is moved is so, and has room
use Rattle.std.specs.Prelude.{ℕ, ◌*◌, ◌≤◌, ◌<◌, ◌≡◌, Bool, replicate, eqb, ltb}
use Rattle.std.proofs.Math.Path.{refl, ap}
use Rattle.std.proofs.Common.{sym, ◌∙◌, arith, take_all, eq-eqb, ne_eqb}
use Rattle.std.proofs.Math.Bool.{true, false}
use mathlib.Core.List.{List, ◌++◌, flatten}
use Rattle.std.proofs.Math.ListN.{length}
use Rattle.ground.specs.Pick.{pick, yes, no, Reads, shows, refutes, reads_lt, reads_eq}
use Rattle.ground.specs.Lists.{pad, pad_full, pad_more}
use Rattle.graph.specs.Tables.{tabulate_same, map_tabulate}
use Rattle.legal.specs.declared.Form.{Form}
use Rattle.legal.specs.declared.Form.TheVariants.{Old, New}
use Rattle.legal.specs.Forms.{old_size, record_size_of}
use Rattle.legal.specs.Sheet.JudgedBy.{sheet}
use Rattle.legal.specs.Sheet.{most_sheet, count_by, record_by, records_by, SheetBy, number_by}
use Rattle.legal.specs.SheetLaws.{sheet_judged, judged_one, record_long}
use Rattle.mover.specs.Moving.JudgedMove.{by_form, by_more, by_room, moved}
use Rattle.mover.specs.Moving.{other_of, more_bytes, record_to, moved_to, LosesTo, JudgedMove, loses_to, move_number}
use Rattle.mover.specs.Laid.{resized, resized_long}
use Rattle.mover.specs.MovingLaws.{reads_loses, short, moved_sheet}

pub record_padded : (f : Form) (a : List ℕ) → length a ≡ record_size_of (other_of f) → record_to f a ≡ pad 0 (record_size_of f) a
unfolding record_to record_size_of other_of
record_padded Old a h = pad_full 0 old_size a (omega arith)
record_padded New a h =
    ap (λ (l : List ℕ). l ++ replicate more_bytes 0) (sym (take_all old_size a (omega arith)) ∙ pad_full 0 old_size a (omega arith)) ∙ pad_more 0 old_size a more_bytes (omega arith)

module _ (f : Form) (s : List ℕ) where
  pub moved_resized : moved_to f s ≡ resized (record_size_of (other_of f)) (record_size_of f) s (count_by (record_size_of (other_of f)) s)
  unfolding moved_to records_by resized
  moved_resized =
      ap flatten (map_tabulate (record_to f) (count_by (record_size_of (other_of f)) s) (record_by (record_size_of (other_of f)) s) ∙ tabulate_same (count_by (record_size_of (other_of f)) s) (λ i. record_to f (record_by (record_size_of (other_of f)) s i)) (λ i. pad 0 (record_size_of f) (record_by (record_size_of (other_of f)) s i)) (λ i l. record_padded f (record_by (record_size_of (other_of f)) s i) (record_long (record_size_of (other_of f)) s i l)))

  pub moved_long : length (moved_to f s) ≡ count_by (record_size_of (other_of f)) s * record_size_of f
  moved_long = ap length moved_resized ∙ resized_long (record_size_of (other_of f)) (record_size_of f) s (count_by (record_size_of (other_of f)) s)

  module _ (n : ℕ) where
    pub move_judged : JudgedMove f s n (move_number f s n)
    unfolding move_number
    move_judged = form (eqb (number_by (record_size_of (other_of f)) s) 0) (reads_eq (number_by (record_size_of (other_of f)) s) 0)
      where
        rows : SheetBy (record_size_of (other_of f)) s → (a : Bool) → Reads a (LosesTo f s) → (b : Bool) → Reads b (n < length (moved_to f s)) → JudgedMove f s n (pick a 43 (pick b 44 0))
        rows k true r b q = by_more k (r.says refl)
        rows k false r true q = by_room k (r.denies refl) (q.says refl)
        rows k false r false q = moved k (r.denies refl) (let d : n < length (moved_to f s) → ⊥ = q.denies refl in omega arith)

        form : (a : Bool) → Reads a (number_by (record_size_of (other_of f)) s ≡ 0)
            → JudgedMove f s n (pick a (pick (loses_to f s) 43 (pick (ltb n (length (moved_to f s))) 44 0)) (number_by (record_size_of (other_of f)) s))
        form true r = rows ((moved_sheet f s) (r.says refl)) (loses_to f s) (reads_loses f s) (ltb n (length (moved_to f s))) (reads_lt n (length (moved_to f s)))
        form false r = by_form (sheet_judged (record_size_of (other_of f)) s) (r.denies refl)

    pub judged_move : {m : ℕ} → JudgedMove f s n m → move_number f s n ≡ m
    unfolding move_number
    judged_move (by_form j d) = let e = judged_one (record_size_of (other_of f)) s j in no _ _ (ne_eqb _ 0 (λ z. d (sym e ∙ z))) ∙ e
    judged_move (by_more k l) = yes _ _ (eq-eqb _ 0 (judged_one (record_size_of (other_of f)) s (sheet k))) ∙ yes _ _ (shows (reads_loses f s) l)
    judged_move (by_room k l r) =
        yes _ _ (eq-eqb _ 0 (judged_one (record_size_of (other_of f)) s (sheet k))) ∙ no _ _ (refutes (reads_loses f s) l) ∙ yes _ _ (shows (reads_lt n (length (moved_to f s))) r)
    judged_move (moved k l r) =
        yes _ _ (eq-eqb _ 0 (judged_one (record_size_of (other_of f)) s (sheet k))) ∙ no _ _ (refutes (reads_loses f s) l)
        ∙ no _ _ (refutes (reads_lt n (length (moved_to f s))) (λ h. let q = r in omega arith))

    unrefused : move_number f s n ≡ 0 → SheetBy (record_size_of (other_of f)) s × (LosesTo f s → ⊥) × (length (moved_to f s) ≤ n)
    unrefused e = go move_judged e
      where
        go : {m : ℕ} → JudgedMove f s n m → m ≡ 0 → SheetBy (record_size_of (other_of f)) s × (LosesTo f s → ⊥) × (length (moved_to f s) ≤ n)
        go (by_form j d) z = absurd (d z)
        go (by_more k l) z = absurd (omega arith)
        go (by_room k l r) z = absurd (omega arith)
        go (moved k l r) z = (k, l, r)

    pub unrefused_short : move_number f s n ≡ 0 → length s ≤ most_sheet
    unrefused_short e = (short f s) (unrefused e).0

    pub unrefused_room : move_number f s n ≡ 0 → length (moved_to f s) ≤ n
    unrefused_room e = (unrefused e).2
