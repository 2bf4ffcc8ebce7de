-- Document 02, No. 7, of the mover, proved.
use Prim.Native.Nat.{ℕ, ◌*◌, ◌≤◌, ◌<◌}
use mathlib.Core.Path.{◌≡◌, refl, sym}
use mathlib.Core.Bool.{Bool, true, false}
use mathlib.Core.Logic.{⊎_elim, ◌↔◌}
use mathlib.Core.List.{List, ◌++◌}
use native.Mathlib.Omega.{arith}
use native.Mathlib.Nat.{div-add-mod'}
use lib.ListN.{length, drop}
use lib.Seq.{drop_at}
use lib.Dec.{eqb}
use borrow.Author.Tests.{ne_eqb}
use Rattle.ground.specs.Pick.{pick, no, decided}
use Rattle.legal.specs.declared.Form.{Form}
use Rattle.legal.specs.declared.Form.TheVariants.{Old, New}
use Rattle.legal.specs.Forms.{old_size, record_size_of}
use Rattle.legal.specs.Sheet.{count_by, record_by, SheetBy, Sheet}
use Rattle.legal.specs.SheetLaws.{record_long, in_records, records_long}
use Rattle.records.specs.Records.{record_size}
use Rattle.mover.specs.Moving.JudgedMove.{by_more, moved}
use Rattle.mover.specs.Moving.{other_of, record_to, moved_to, LosesMore, move_number, written_by, room_after}
use Rattle.mover.specs.MovingLaws.{reads_loses}
use Rattle.mover.proofs.MovingLemmas.{moved_long, move_judged, judged_move}
use Rattle.mover.specs.MovedBack.{Lent, ThereAndBack, NotMoved, MovedBack}
use Rattle.mover.proofs.Trips.{moved_count, moved_at, trip, old_kept, old_fits, new_kept}
use Rattle.mover.proofs.AsNow.{as_now}

nothing : (f : Form) (s d : List ℕ) → (move_number f s (length d) ≡ 0 → ⊥) → (room_after f s d ≡ d) × (written_by f s (length d) ≡ 0)
unfolding room_after written_by
nothing f s d n = let z = ne_eqb (move_number f s (length d)) 0 n in (no _ _ z, no _ _ z)

stays : (f : Form) (s d : List ℕ) → drop (written_by f s (length d)) (room_after f s d) ≡ drop (written_by f s (length d)) d
unfolding room_after written_by
stays f s d = go (eqb (move_number f s (length d)) 0)
  where
    go : (b : Bool) → drop (pick b (length (moved_to f s)) 0) (pick b (moved_to f s ++ drop (length (moved_to f s)) d) d) ≡ drop (pick b (length (moved_to f s)) 0) d
    go true = drop_at (moved_to f s) (drop (length (moved_to f s)) d) (length (moved_to f s)) refl
    go false = refl

module _ (s : List ℕ) where
  old_new_old : (d e : List ℕ) → SheetBy old_size s → Lent New s d → length s ≤ length e → ThereAndBack New s d e
  unfolding other_of record_size_of record_to
  old_new_old d e k l r = trip New s k (λ a m. old_kept a (records_long old_size s m)) d e (λ h. h) none l r
    where
      none : LosesMore (moved_to New s) → ⊥
      none (i, h, m) =
          let c = moved_count New s in
          let j : i < count_by old_size s = omega arith in
          old_fits (record_by old_size s i) (record_long old_size s i j) (rw (moved_at New s i j) at m)

  module _ (d : List ℕ) (k : Sheet s) (l : Lent Old s d) where
    by_43 : LosesMore s → move_number Old s (length d) ≡ 43
    unfolding other_of record_size_of
    by_43 m = judged_move Old s (length d) (by_more k m)

    by_none : (LosesMore s → ⊥) → move_number Old s (length d) ≡ 0
    unfolding other_of record_size_of
    by_none n = judged_move Old s (length d) (moved k n l)

    lost : NotMoved s d → LosesMore s
    lost r = ⊎_elim (λ m. m) (λ n. absurd (r (by_none n))) (decided _ (reads_loses Old s))

    new_old_refused : NotMoved s d ↔ LosesMore s
    new_old_refused = (lost, λ m z. let e = by_43 m in omega arith)

    new_old_new : (e : List ℕ) → (LosesMore s → ⊥) → length s ≤ length e → ThereAndBack Old s d e
    unfolding other_of record_size_of record_to
    new_old_new e n r =
        trip Old s k (λ a m. let i = in_records record_size s m in new_kept a (records_long record_size s m) (λ h. n (i.0, i.1, rw (sym i.2) at h))) d e n (λ h. h) l r

twice_as_long : (s : List ℕ) → SheetBy old_size s → length (moved_to New s) ≡ 2 * length s
unfolding other_of record_size_of
twice_as_long s k = let q = div-add-mod' (length s) old_size in let w = k.whole in let m = moved_long New s in omega arith

half_as_long : (s : List ℕ) → Sheet s → 2 * length (moved_to Old s) ≡ length s
unfolding other_of record_size_of
half_as_long s k = let q = div-add-mod' (length s) record_size in let w = k.whole in let m = moved_long Old s in omega arith

pub moved_back : MovedBack
moved_back = record {
  refused = move_judged;
  one_number = λ f s n m j. judged_move f s n j;
  nothing = nothing;
  stays = stays;
  old_new_old = old_new_old;
  new_old_refused = new_old_refused;
  by_43 = λ s d k l r. by_43 s d k l (lost s d k l r);
  new_old_new = λ s d e k l. new_old_new s d k l e;
  as_now = λ ds cluster d run l. as_now cluster ds run d l;
  twice_as_long = twice_as_long;
  half_as_long = half_as_long;
}
