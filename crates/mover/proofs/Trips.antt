-- A sheet moved and moved back, of either form.
use Prim.Native.Nat.{ℕ, ◌+◌, ◌/◌, ◌%◌, ◌≤◌, ◌<◌}
use mathlib.Core.Path.{◌≡◌, refl, sym, ap, ◌∙◌}
use mathlib.Core.Logic.{⊎_elim}
use mathlib.Core.List.Memᴰ
use mathlib.Core.List.{List, [], ◌∷◌, ◌++◌, map, flatten}
use native.Mathlib.Omega.{arith}
use native.Mathlib.Nat.{mul-le-mul_right, mul-div_cancel, mul-mod_left, div-le_of_le-mul}
use lib.ListN.{length, get_or, take, drop, replicate, take-append-drop, length-drop, length-replicate}
use lib.Seq.{take_at, get_or-drop, get_or-append-add, ext_get_or}
use lib.Dec.{eqb}
use borrow.Author.Tests.{eq-eqb}
use Rattle.ground.specs.Pick.{yes, decided, reads_eq}
use Rattle.ground.specs.Numbers.{byte}
use Rattle.ground.specs.Lists.{pad_length, pad_at, replicate_at}
use Rattle.graph.specs.Members.{◌∈◌}
use Rattle.graph.specs.Tables.{tabulate, map_tabulate, get_d_tabulate, length_tabulate}
use Rattle.entities.specs.Run.{most_entities}
use Rattle.records.specs.Records.{record_size}
use Rattle.legal.specs.declared.Form.{Form}
use Rattle.legal.specs.declared.Form.TheVariants.{Old, New}
use Rattle.legal.specs.Forms.{old_size, record_size_of, record_size_some}
use Rattle.legal.specs.Sheet.{count_by, record_by, records_by, id_by, SheetBy}
use Rattle.legal.specs.SheetLaws.{record_long, record_id, records_long}
use Rattle.mover.specs.Moving.{other_of, more_bytes, as_new, as_old, record_to, moved_to, HasMore, LosesTo, move_number, written_by, room_after}
use Rattle.mover.specs.Moving.JudgedMove.{moved}
use Rattle.mover.specs.Laid.{Each, record_in_lem, records_joined, joined_records}
use Rattle.mover.proofs.MovingLemmas.{record_padded, moved_long, judged_move}
use Rattle.mover.specs.MovedBack.{Lent, bytes_moved, ThereAndBack}

pub other_twice : (f : Form) → other_of (other_of f) ≡ f
unfolding other_of
other_twice Old = refl
other_twice New = refl

-- what an unrefused move writes
pub given_moved : (f : Form) (s d : List ℕ) → move_number f s (length d) ≡ 0 → bytes_moved f s d ≡ moved_to f s
unfolding written_by room_after
given_moved f s d e =
    let z = eq-eqb (move_number f s (length d)) 0 e in
    rw (yes (length (moved_to f s)) 0 z, yes (moved_to f s ++ drop (length (moved_to f s)) d) d z)
    (take_at (moved_to f s) (drop (length (moved_to f s)) d) (length (moved_to f s)) refl)

map_back : (g h : List ℕ → List ℕ) (rs : List (List ℕ)) → ((a : List ℕ) → a ∈ rs → g (h a) ≡ a) → map g (map h rs) ≡ rs
map_back g h [] e = refl
map_back g h (a ∷ rs) e = rw (e a (Memᴰ.head refl)) (ap (λ (l : List (List ℕ)). a ∷ l) (map_back g h rs (λ b m. e b (Memᴰ.tail m))))

module _ (f : Form) (s : List ℕ) where
  abbrev from : ℕ
  from = record_size_of (other_of f)

  abbrev records : List (List ℕ)
  records = map (record_to f) (records_by from s)

  each : Each (record_size_of f) records
  each a m =
      let b = Memᴰ.of_map (record_to f) (records_by from s) m in
      sym (ap length b.2) ∙ ap length (record_padded f b.0 (records_long from s b.1)) ∙ pad_length 0 (record_size_of f) b.0

  pub moved_records : records_by (record_size_of f) (moved_to f s) ≡ records
  unfolding moved_to
  moved_records = records_joined (record_size_of f) (record_size_some f) records each

  pub moved_count : count_by (record_size_of f) (moved_to f s) ≡ count_by from s
  moved_count = ap (λ (n : ℕ). n / record_size_of f) (moved_long f s) ∙ mul-div_cancel (count_by from s) (record_size_some f)

  listed : records ≡ tabulate (count_by from s) (λ i. record_to f (record_by from s i))
  unfolding records_by
  listed = map_tabulate (record_to f) (count_by from s) (record_by from s)

  pub moved_at : (i : ℕ) → i < count_by from s → record_by (record_size_of f) (moved_to f s) i ≡ record_to f (record_by from s i)
  unfolding moved_to
  moved_at i h =
      let l : length records ≡ count_by from s = ap length listed ∙ length_tabulate (count_by from s) (λ j. record_to f (record_by from s j)) in
      record_in_lem (record_size_of f) records each i (omega arith)
      ∙ ap (λ (rs : List (List ℕ)). get_or rs i []) listed
      ∙ get_d_tabulate (count_by from s) (λ j. record_to f (record_by from s j)) i [] h

  moved_id : (i : ℕ) → i < count_by from s → id_by (record_size_of f) (moved_to f s) i ≡ id_by from s i
  moved_id i h =
      let c = moved_count in
      sym (record_id (record_size_of f) (moved_to f s) i (omega arith) (record_size_some f))
      ∙ ap (λ (a : List ℕ). byte a 0) (moved_at i h ∙ record_padded f (record_by from s i) (record_long from s i h))
      ∙ pad_at 0 (record_size_of f) (record_by from s i) 0 (record_size_some f)
      ∙ record_id from s i h (record_size_some (other_of f))

  sheet_moved : SheetBy from s → SheetBy (record_size_of f) (moved_to f s)
  sheet_moved k =
      let l = moved_long f s in
      let c = moved_count in
      let few : count_by from s ≤ most_entities = div-le_of_le-mul from (let h = k.short in omega arith) in
      record {
        short = omega (arith, mul-le-mul_right (record_size_of f) few);
        whole = ap (λ (n : ℕ). n % record_size_of f) l ∙ mul-mod_left (count_by from s) (record_size_of f);
        own = record {
          named = λ i h e. k.own.named i (omega arith) (sym (moved_id i (omega arith)) ∙ e);
          once = λ i j h m e. k.own.once i j (omega arith) (omega arith) (sym (moved_id i (omega arith)) ∙ e ∙ moved_id j (omega arith));
        };
      }

  module _ (k : SheetBy from s) (kept : (a : List ℕ) → a ∈ records_by from s → record_to (other_of f) (record_to f a) ≡ a) where
    moved_back : moved_to (other_of f) (moved_to f s) ≡ s
    unfolding moved_to
    moved_back =
        ap (λ (g : Form). flatten (map (record_to (other_of f)) (records_by (record_size_of g) (moved_to f s)))) (other_twice f)
        ∙ ap (λ (rs : List (List ℕ)). flatten (map (record_to (other_of f)) rs)) moved_records
        ∙ ap flatten (map_back (record_to (other_of f)) (record_to f) (records_by from s) kept)
        ∙ joined_records from s k.whole

    pub trip : (d e : List ℕ) → (LosesTo f s → ⊥) → (LosesTo (other_of f) (moved_to f s) → ⊥) → Lent f s d → length s ≤ length e → ThereAndBack f s d e
    trip d e n m l r =
        let first : move_number f s (length d) ≡ 0 = judged_move f s (length d) (moved k n l) in
        let g = given_moved f s d first in
        let b = moved_back in
        let size : record_size_of f ≡ record_size_of (other_of (other_of f)) = ap record_size_of (sym (other_twice f)) in
        let fits : length (moved_to (other_of f) (moved_to f s)) ≤ length e = rw b r in
        let second : move_number (other_of f) (moved_to f s) (length e) ≡ 0 =
        judged_move (other_of f) (moved_to f s) (length e) (moved (rw size at (sheet_moved k)) m fits) in
        record {
          there = first;
          back = rw g second;
          same = rw g (given_moved (other_of f) (moved_to f s) e second ∙ b);
        }

-- a record of the old form comes back whole
pub old_kept : (a : List ℕ) → length a ≡ old_size → as_old (as_new a) ≡ a
old_kept a l = take_at a (replicate more_bytes 0) old_size l

-- .. and has nothing in its last bytes while it is a new one
pub old_fits : (a : List ℕ) → length a ≡ old_size → HasMore (as_new a) → ⊥
old_fits a l (n, h, d) =
    d (ap (λ (k : ℕ). byte (as_new a) (k + n)) (sym l) ∙ get_or-append-add a (replicate more_bytes 0) n 0 ∙ replicate_at 0 more_bytes n)

-- one of the new form comes back whole where it has nothing in its last bytes
pub new_kept : (a : List ℕ) → length a ≡ record_size → (HasMore a → ⊥) → as_new (as_old a) ≡ a
new_kept a l n = ap (λ (x : List ℕ). take old_size a ++ x) (sym blank) ∙ take-append-drop old_size a
  where
    zero_byte : (i : ℕ) → i < more_bytes → byte a (old_size + i) ≡ 0
    zero_byte i h = ⊎_elim (λ z. z) (λ d. absurd (n (i, h, d))) (decided (eqb (byte a (old_size + i)) 0) (reads_eq (byte a (old_size + i)) 0))

    long : length (drop old_size a) ≡ more_bytes
    long = simp length-drop (omega arith)

    blank : drop old_size a ≡ replicate more_bytes 0
    blank = ext_get_or 0 (drop old_size a) (replicate more_bytes 0) (long ∙ sym (length-replicate {A = ℕ} more_bytes 0)) (λ i h. let q = long in get_or-drop old_size a i 0 ∙ zero_byte i (omega arith) ∙ sym (replicate_at 0 more_bytes i))
