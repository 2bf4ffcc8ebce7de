-- The two trips: what is written, set within a configuration, is read back; and what is read is written again.
use Prim.Native.Nat.{ℕ, zero, suc, ◌+◌, ◌-◌, ◌/◌, ◌%◌, ◌≤◌, ◌<◌}
use mathlib.Core.Path.{◌≡◌, refl, sym, ap, subst, ◌∙◌}
use mathlib.Core.Bool.{Bool, true, false}
use mathlib.Core.Logic.{◌⊎◌, inl, ⊎_elim}
use mathlib.Core.Option.{Option, none, some}
use mathlib.Core.List.Memᴰ
use mathlib.Core.List.{List, [], ◌∷◌, ◌++◌, map, flatten, append_assoc, append-nil, Memᴰ}
use native.Mathlib.Omega.{arith}
use native.Mathlib.Nat.{le_of_suc-le-suc}
use lib.ListN.{length, get_or, take, drop, length-append, length-drop}
use lib.Seq.{take_at, drop_at, append_snoc}
use borrow.Author.Tests.{eq-eqb}
use Rattle.ground.specs.declared.Refusal.{Refusal}
use Rattle.ground.specs.Refuse as refuse
use Rattle.ground.specs.Rows.{AllKept, all_none}
use Rattle.ground.specs.Pick.{pick, yes, reads_and, reads_eq, reads_within, reads_true}
use Rattle.ground.specs.Numbers.{word, Bytes}
use Rattle.ground.specs.Lists.{total, total_append, length_flatten, flatten_append, pad, pad_length, pad_at, pad_front, pad_full}
use Rattle.graph.specs.Members.{◌∈◌}
use Rattle.scan.specs.Cutting.{Descriptor, Cutting}
use Rattle.scan.specs.CuttingLaws.{cutting_one}
use Rattle.search.specs.Want.{Class}
use Rattle.layout.specs.Format.{fits}
use Rattle.layout.specs.Layouts as kind
use Rattle.layout.specs.Layouts.{format_of, most_pins}
use Rattle.layout.specs.Fields.{Fields, input, output, mixer, selector, feature, bytes_of, LaidOut}
use Rattle.layout.specs.Fields as fields
use Rattle.layout.specs.FieldsLaws.{none_some}
use Rattle.layout.proofs.FieldsLemmas.{read_back, laid_only, laid_whole}
use Rattle.layout.proofs.WithdrawnLemmas.{printed_unlaid, layout_or}
use Rattle.edition.specs.Audio.{audio}
use Rattle.interfaces.specs.InterfaceLaws.{nine}
use Rattle.groups.specs.Rules5and6.{Header, listed_of, Rule5, Rule6}
use Rattle.cutting.specs.Rules1to9.{Opened, header_place, Kept, Rule9, NoneWithdrawn, laid_out}
use Rattle.cutting.specs.Context.{cut_told, header_is, run_one}
use Rattle.entities.specs.Run.{most_entities, run_in}
use Rattle.entities.specs.Represents.{Represents}
use Rattle.entities.proofs.RepresentsLemmas.{run_represents}
use Rattle.clusters.specs.Rule13.{Connected}
use Rattle.clusters.specs.Topology.{connected_parts}
use Rattle.reader.specs.Configuration.{run_of, place_of_run, Configuration}
use Rattle.fields.specs.declared.Item.{Item}
use Rattle.fields.specs.Listed.{Listed, wrong, laid, printed, written_as, listed_with, blank_item, moved_by, found_as, fields_found, ReadAs}
use Rattle.fields.specs.ListedLaws.{read_some, moved_same}
use Rattle.writing.specs.declared.Wrote.{Wrote}
use Rattle.writing.specs.Writing.{most_numbers, descriptors_of, header_with, whole_of, written_of, WrongIn, entity_rows, room_rows, writer_rows, writer_verdict, Writes}
use Rattle.described.specs.OurBox.{EntitiesKeep, SetIn, Within, list_read, collection_read, bytes_of_both, ReadBack, WrittenAgain, Had}
use Rattle.described.proofs.Refused.{all_descriptors, empty_unlaid, empty_unprinted, verdict_answers}

-- ---- what has a layout was in range

passed : (b : Bool) (x f : Fields) → pick b (some x) none ≡ some f → b ≡ true
passed true x f e = refl
passed false x f e = absurd (none_some e)

kept_of : (f : Fields) → LaidOut (bytes_of f) → fields.InBounds f
kept_of (input i t a c l m n) o = tt
kept_of (output i t a s n) o = tt
kept_of (mixer i s c l m k n) o =
    let d = bytes_of (mixer i s c l m k n) in
    let t = passed (fits (format_of kind.mixer) d 3) _ _ (laid_only d o) in
    (((reads_and _ _ (reads_within 1 (length s) most_pins) (reads_true _)).says t).0, tt)
kept_of (selector i s n) o =
    let d = bytes_of (selector i s n) in
    let t = passed (fits (format_of kind.selector) d 3) _ _ (laid_only d o) in
    (((reads_and _ _ (reads_within 1 (length s) most_pins) (reads_true _)).says t).0, tt)
kept_of (feature i s z k n) o =
    let d = bytes_of (feature i s z k n) in
    let t = passed (fits (format_of kind.feature) d 3) _ _ (laid_only d o) in
    (((reads_and _ _ (reads_within 1 z 4) (reads_true _)).says t).0, tt)

-- a printed Selector has no layout: its length is one more than a Selector's
printed_none : (i : ℕ) (s : List ℕ) (k : ℕ) → LaidOut (written_as (printed i s k)) → ⊥
printed_none i s k o =
    let d = written_as (printed i s k) in
    let t = passed (fits (format_of kind.selector) d 3) _ _ (laid_only d o) in
    let e : length d ≡ 4 + 1 + length s + 1 = ((reads_and _ _ (reads_within 1 (length s) most_pins) (reads_eq (length d) (4 + 1 + length s + 1))).says t).1 in
    let n = length-append s (k ∷ []) in
    omega arith

-- ---- a list that keeps the rules is found again in its descriptors

found_one : (l : Listed) → (WrongIn (written_as l) → ⊥) → (audio.Withdrawn (written_as l) → ⊥) → fields_found (written_as l) ≡ l
unfolding fields_found
found_one wrong n w = absurd (n (inl (empty_unlaid, empty_unprinted)))
found_one (laid f) n w = ap found_as (read_back f (kept_of f (⊎_elim (λ x. x) (λ x. absurd (w x)) (layout_or (bytes_of f) (λ x. n (inl x))))))
found_one (printed i s k) n w = absurd (⊎_elim (printed_none i s k) w (layout_or (written_as (printed i s k)) (λ x. n (inl x))))

found_all : (ls : List Listed) → ((d : List ℕ) → d ∈ descriptors_of ls → WrongIn d → ⊥) → NoneWithdrawn audio (descriptors_of ls) → map fields_found (descriptors_of ls) ≡ ls
found_all [] n w = refl
found_all (l ∷ ls) n w =
    let one = found_one l (n (written_as l) (Memᴰ.head refl)) (w (written_as l) (Memᴰ.head refl)) in
    let more = found_all ls (λ d m. n d (Memᴰ.tail m)) (λ d m. w d (Memᴰ.tail m)) in
    rw (one, more) refl

class_one : (l : Listed) → Descriptor (written_as l) → Class (written_as l)
class_one wrong c = let n = c.long in absurd (omega arith)
class_one (laid f) c = refl
class_one (printed i s k) c = refl

pub class_all : (ls : List Listed) → ((d : List ℕ) → d ∈ descriptors_of ls → Descriptor d) → (d : List ℕ) → d ∈ descriptors_of ls → Class d
class_all [] c d m = absurd (Memᴰ.not-nil m)
class_all (l ∷ ls) c d m = ⊎_elim (λ e. rw e (class_one l (c (written_as l) (Memᴰ.head refl)))) (λ k. class_all ls (λ x j. c x (Memᴰ.tail j)) d k) (Memᴰ.cases_cons m)

-- ---- what stands behind the AudioControl interface

module _ {s : List ℕ} (o : Opened s) where
  front : List (List ℕ)
  front = o.before ++ o.control ∷ []

  front_long : length (flatten front) ≡ header_place o
  unfolding front total
  front_long =
      let n : length o.control ≡ 9 = nine s (rw (cut_told s o) o.rule4) o.before o.control o.tail (cut_told s o ∙ o.split) o.is_control.0 in
      let t = total_append o.before (o.control ∷ []) in
      length_flatten front ∙ (let z : total (o.before ++ o.control ∷ []) ≡ total o.before + 9 = omega arith in z)

  bytes_split : s ≡ flatten front ++ flatten o.tail
  unfolding front
  bytes_split = sym o.rule3.whole ∙ ap flatten (o.split ∙ sym (append_snoc o.before o.control o.tail)) ∙ flatten_append front o.tail

  tail_each : (d : List ℕ) → d ∈ o.tail → Descriptor d
  tail_each d m = o.rule3.each d (rw o.split (Memᴰ.append_right o.before (Memᴰ.tail m)))

represents : (ds : List (List ℕ)) → ((d : List ℕ) → d ∈ ds → Descriptor d) → Rule9 audio ds → length ds ≤ most_entities → Represents audio (flatten ds) 0 ds (run_in audio 0 ds)
represents ds cut l few = run_represents audio (flatten ds) 0 ds [] (sym (append-nil (flatten ds))) cut l few

-- ---- what is written, set within a frame, is header and run

module _ (s : List ℕ) (ls : List Listed) (cs : List ℕ) (w : SetIn s ls cs) (each : (d : List ℕ) → d ∈ descriptors_of ls → Descriptor d) where
  abbrev run_written : List (List ℕ)
  run_written = descriptors_of ls

  abbrev header : List ℕ
  header = header_with cs (length (flatten run_written))

  abbrev others : List (List ℕ)
  others = run_written ++ (w.later ++ w.after)

  pub header_own : 8 + length cs ≡ length header
  header_own = omega arith

  tail_bytes : flatten w.opened.tail ≡ written_of ls cs ++ w.behind
  tail_bytes =
      let n = front_long w.opened in
      sym (drop_at (flatten (front w.opened)) (flatten w.opened.tail) (header_place w.opened) n)
      ∙ ap (drop (header_place w.opened)) (sym (bytes_split w.opened) ∙ w.whole)
      ∙ drop_at w.before (written_of ls cs ++ w.behind) (header_place w.opened) w.place

  written_cut : Cutting (written_of ls cs ++ w.behind) (header ∷ others)
  unfolding flatten
  written_cut = record {
    whole = ap (λ (x : List ℕ). header ++ x) (flatten_append run_written (w.later ++ w.after) ∙ ap (λ (x : List ℕ). flatten run_written ++ x) w.cut.whole) ∙ sym (append_assoc header (flatten run_written) w.behind);
    each = λ d m. ⊎_elim (λ e. rw e (record { long = omega arith; own = header_own })) (λ j. ⊎_elim (each d) (w.cut.each d) (Memᴰ.append_cases run_written j)) (Memᴰ.cases_cons m);
  }

  pub tail_is : w.opened.tail ≡ header ∷ others
  tail_is =
      let c : Cutting (flatten w.opened.tail) w.opened.tail = record { whole = refl; each = tail_each w.opened } in
      cutting_one (written_of ls cs ++ w.behind) w.opened.tail (header ∷ others) (rw tail_bytes at c) written_cut

  unfoldable pub right5 : Rule5 w.opened.tail
  right5 = record { header = header; others = others; stands = tail_is; right = record { opening = refl; long = sym header_own } }

  unfoldable pub right6 : Rule6 header others
  right6 = record {
    run = run_written;
    later = w.later;
    after = w.after;
    split = refl;
    class = class_all ls each;
    no_class = w.no_class;
    in_group = w.in_group;
    ends = w.ends;
    length_told = let n = length_flatten run_written in omega arith;
  }

-- ---- written, then read

module _ (s : List ℕ) (ls : List Listed) (cs : List ℕ) (k : EntitiesKeep ls) (w : Within s ls cs) where
  abbrev ds : List (List ℕ)
  ds = descriptors_of ls

  ds_each : (d : List ℕ) → d ∈ ds → Descriptor d
  ds_each = all_descriptors ls k.1.0

  ds_laid : Rule9 audio ds
  ds_laid = laid_out audio ds (λ d m. layout_or d (λ x. k.1.0 d m (inl x))) k.1.1.0

  kept : Kept s
  unfolding right5 right6
  kept = record { opened = w.frame.opened; rule5 = right5 s ls cs w.frame ds_each; rule6 = right6 s ls cs w.frame ds_each; rule7 = w.frame.rule7; rule8 = k.0; rule9 = ds_laid }

  connected : Connected audio ds
  connected = (connected_parts (represents ds ds_each ds_laid k.0.1) k.1.1.1.0 k.1.1.1.1.0).1 (k.1.1.1.1.1.0, k.1.1.1.1.1.1.0)

  -- the run and the header that keep the rules are one
  same_run : (t : Configuration s) → run_of t.kept ≡ ds
  unfolding kept right6
  same_run t = run_one s t.kept.opened kept.opened t.kept.rule5 kept.rule5 t.kept.rule6 kept.rule6

  same_header : (t : Configuration s) → t.kept.rule5.header ≡ header_with cs (length (flatten ds))
  unfolding kept right5
  same_header t = header_is s t.kept.opened t.kept.rule5 ∙ sym (header_is s kept.opened kept.rule5)

  pub read_back_same : ReadBack s ls cs
  unfolding kept right5 right6
  read_back_same = record {
    accepted = record { kept = kept; connected = connected; rule14 = w.rule14 connected.cluster connected.given_out; rule15 = w.rule15 connected.cluster connected.given_out };
    same_list = λ t. ap (map fields_found) (same_run t) ∙ found_all ls k.1.0 k.1.1.0;
    same_collection = λ t. ap listed_of (same_header t);
  }

-- ---- read, then written

bytes_left : (x y : List ℕ) → Bytes (x ++ y) → Bytes x
bytes_left [] y b k = omega arith
bytes_left (a ∷ x) y b zero = b 0
bytes_left (a ∷ x) y b (suc k) = bytes_left x y (λ i. b (suc i)) k

bytes_right : (x y : List ℕ) → Bytes (x ++ y) → Bytes y
bytes_right [] y b = b
bytes_right (a ∷ x) y b = bytes_right x y (λ i. b (suc i))

bytes_each : (ds : List (List ℕ)) → Bytes (flatten ds) → (d : List ℕ) → d ∈ ds → Bytes d
unfolding flatten
bytes_each [] b d m = absurd (Memᴰ.not-nil m)
bytes_each (x ∷ ds) b d m = ⊎_elim (λ e. rw e (bytes_left x (flatten ds) b)) (λ j. bytes_each ds (bytes_right x (flatten ds) b) d j) (Memᴰ.cases_cons m)

-- a header says its own bytes
header_again : (h : List ℕ) (n : ℕ) → Descriptor h → Header h → Bytes h → word h 5 ≡ length h + n → header_with (listed_of h) n ≡ h
header_again [] n c r b e = let t = c.long in absurd (omega arith)
header_again (x0 ∷ []) n c r b e = let l = r.long in absurd (omega arith)
header_again (x0 ∷ x1 ∷ []) n c r b e = let l = r.long in absurd (omega arith)
header_again (x0 ∷ x1 ∷ x2 ∷ []) n c r b e = let l = r.long in absurd (omega arith)
header_again (x0 ∷ x1 ∷ x2 ∷ x3 ∷ []) n c r b e = let l = r.long in absurd (omega arith)
header_again (x0 ∷ x1 ∷ x2 ∷ x3 ∷ x4 ∷ []) n c r b e = let l = r.long in absurd (omega arith)
header_again (x0 ∷ x1 ∷ x2 ∷ x3 ∷ x4 ∷ x5 ∷ []) n c r b e = let l = r.long in absurd (omega arith)
header_again (x0 ∷ x1 ∷ x2 ∷ x3 ∷ x4 ∷ x5 ∷ x6 ∷ []) n c r b e = let l = r.long in absurd (omega arith)
header_again (x0 ∷ x1 ∷ x2 ∷ x3 ∷ x4 ∷ x5 ∷ x6 ∷ x7 ∷ cs) n c r b e =
    let o : ◌≡◌ {A = List ℕ} (x1 ∷ x2 ∷ x3 ∷ x4 ∷ []) (0x24 ∷ 1 ∷ 0 ∷ 1 ∷ []) = r.opening in
    let l = r.long in
    let own = c.own in
    let small : x5 < 256 = b 5 in
    let y0 : 8 + length cs ≡ x0 = omega arith in
    let y1 : 0x24 ≡ x1 = cc in
    let y2 : 1 ≡ x2 = cc in
    let y3 : 0 ≡ x3 = cc in
    let y4 : 1 ≡ x4 = cc in
    let y5 : (8 + length cs + n) % 256 ≡ x5 = omega arith in
    let y6 : (8 + length cs + n) / 256 ≡ x6 = omega arith in
    let y7 : length cs ≡ x7 = omega arith in
    cc

-- what is read of descriptors that stand one behind another from place q on, each moved to where it stands
items : (q : ℕ) (ds : List (List ℕ)) → ((d : List ℕ) → d ∈ ds → Bytes d) → List Item
items q [] b = []
items q (d ∷ ds) b = moved_by q (read_some d (b d (Memᴰ.head refl))).0 ∷ items (q + length d) ds (λ x m. b x (Memᴰ.tail m))

items_long : (q : ℕ) (ds : List (List ℕ)) (b : (d : List ℕ) → d ∈ ds → Bytes d) → length (items q ds b) ≡ length ds
unfolding items
items_long q [] b = refl
items_long q (d ∷ ds) b = ap suc (items_long (q + length d) ds (λ x m. b x (Memᴰ.tail m)))

items_each : (q : ℕ) (ds : List (List ℕ)) (b : (d : List ℕ) → d ∈ ds → Bytes d) (i : ℕ) → i < length ds
    → (r : Item) × ReadAs (get_or ds i []) r × (get_or (items q ds b) i blank_item ≡ moved_by (q + total (take i ds)) r)
unfolding items total
items_each q [] b i l = absurd (omega arith)
items_each q (d ∷ ds) b zero l =
    let x = read_some d (b d (Memᴰ.head refl)) in
    let z : q ≡ q + 0 = omega arith in
    (x.0, x.1, ap (λ (k : ℕ). moved_by k x.0) z)
items_each q (d ∷ ds) b (suc i) l =
    let x = items_each (q + length d) ds (λ y m. b y (Memᴰ.tail m)) i (le_of_suc-le-suc l) in
    let z : q + length d + total (take i ds) ≡ q + (length d + total (take i ds)) = omega arith in
    (x.0, x.1, x.2 ∙ ap (λ (k : ℕ). moved_by k x.0) z)

items_found : (s front back : List ℕ) (q : ℕ) (ds : List (List ℕ)) (b : (d : List ℕ) → d ∈ ds → Bytes d) → s ≡ front ++ (flatten ds ++ back) → length front ≡ q
    → map (listed_with s) (items q ds b) ≡ map fields_found ds
unfolding items flatten
items_found s front back q [] b e n = refl
items_found s front back q (d ∷ ds) b e n =
    let x = read_some d (b d (Memᴰ.head refl)) in
    let f : s ≡ front ++ (d ++ (flatten ds ++ back)) = e ∙ ap (λ (y : List ℕ). front ++ y) (append_assoc d (flatten ds) back) in
    let one : listed_with s (moved_by q x.0) ≡ fields_found d =
    ap (λ (k : ℕ). listed_with s (moved_by k x.0)) (sym n) ∙ ap (λ (y : List ℕ). listed_with y (moved_by (length front) x.0)) f ∙ moved_same front d (flatten ds ++ back) x.0 x.1 in
    let more : map (listed_with s) (items (q + length d) ds (λ y m. b y (Memᴰ.tail m))) ≡ map fields_found ds =
    items_found s (front ++ d) back (q + length d) ds (λ y m. b y (Memᴰ.tail m)) (f ∙ sym (append_assoc front d (flatten ds ++ back))) (length-append front d ∙ ap (λ (k : ℕ). k + length d) n) in
    rw (one, more) refl

module _ (s : List ℕ) (t : Configuration s) (b : Bytes s) where
  abbrev k : Kept s
  k = t.kept

  abbrev h : List ℕ
  h = k.rule5.header

  abbrev run : List (List ℕ)
  run = run_of k

  tail_all : k.opened.tail ≡ h ∷ (run ++ (k.rule6.later ++ k.rule6.after))
  tail_all = k.rule5.stands ∙ ap (λ (x : List (List ℕ)). h ∷ x) k.rule6.split

  in_tail : (d : List ℕ) → d ∈ run → d ∈ k.opened.tail
  in_tail d m = rw tail_all (Memᴰ.tail (Memᴰ.append_left (k.rule6.later ++ k.rule6.after) m))

  h_in : h ∈ k.opened.tail
  h_in = subst (λ (l : List (List ℕ)). h ∈ l) (sym tail_all) (Memᴰ.head refl)

  tail_small : (d : List ℕ) → d ∈ k.opened.tail → Bytes d
  tail_small = bytes_each k.opened.tail (bytes_right (flatten (front k.opened)) (flatten k.opened.tail) (rw (bytes_split k.opened) at b))

  run_each : (d : List ℕ) → d ∈ run → Descriptor d
  run_each d m = tail_each k.opened d (in_tail d m)

  short : (d : List ℕ) → d ∈ k.opened.tail → length d ≤ 255
  short d m = let o = (tail_each k.opened d m).own in let l = tail_small d m 0 in omega arith

  one_again : (d : List ℕ) → d ∈ run → written_as (fields_found d) ≡ d
  unfolding fields_found
  one_again d m =
      let l = k.rule9 d m in
      ap (λ (o : Option Fields). written_as (found_as o)) (laid_only d l) ∙ sym (laid_whole d l (run_each d m).own (k.rule6.class d m))

  each_again : (ds : List (List ℕ)) → ((d : List ℕ) → d ∈ ds → written_as (fields_found d) ≡ d) → descriptors_of (map fields_found ds) ≡ ds
  each_again [] f = refl
  each_again (d ∷ ds) f =
      let one = f d (Memᴰ.head refl) in
      let more = each_again ds (λ x m. f x (Memᴰ.tail m)) in
      rw (one, more) refl

  run_again : descriptors_of (list_read t) ≡ run
  run_again = each_again run one_again

  head_again : header_with (listed_of h) (length (flatten run)) ≡ h
  head_again =
      header_again h (length (flatten run)) (tail_each k.opened h h_in) k.rule5.right (tail_small h h_in)
      (k.rule6.length_told ∙ ap (λ (n : ℕ). length h + n) (sym (length_flatten run)))

  same : written_of (list_read t) (collection_read t) ≡ bytes_of_both t
  same = ap (λ (x : List (List ℕ)). whole_of (listed_of h) (flatten x)) run_again ∙ ap (λ (x : List ℕ). x ++ flatten run) head_again

  few : length (listed_of h) ≤ most_numbers
  few = let n = length-drop 8 h in let l = short h h_in in omega arith

  kept_rows : (m : ℕ) → length (bytes_of_both t) ≤ m → AllKept (entity_rows run (room_rows (listed_of h) (flatten run) m))
  kept_rows m r =
      let wrong_none : (d : List ℕ) → d ∈ run → WrongIn d → ⊥ = λ d i. ⊎_elim (λ x. x.0 (k.rule9 d i)) (λ x. let l = short d (in_tail d i) in omega arith) in
      let room : length (whole_of (listed_of h) (flatten run)) ≤ m = subst (λ (x : List ℕ). length (x ++ flatten run) ≤ m) (sym head_again) r in
      let c = t.connected in
      let both = (connected_parts (represents run run_each k.rule9 k.rule8.1) c.rule10 c.rule11).0 c in (
        k.rule8,
        (
          wrong_none,
          (
            λ d i p. printed_unlaid d p (k.rule9 d i),
            (
              c.rule10,
              (c.rule11, (both.0, (both.1, (few, (room, tt))))),
            ),
          ),
        ),
      )

  -- what stands behind the run
  back : List ℕ
  back = flatten (k.rule6.later ++ k.rule6.after)

  tail_stands : flatten k.opened.tail ≡ h ++ (flatten run ++ back)
  unfolding flatten back
  tail_stands = ap flatten tail_all ∙ ap (λ (x : List ℕ). h ++ x) (flatten_append run (k.rule6.later ++ k.rule6.after))

  stands : take (length (bytes_of_both t)) (drop (header_place k.opened) s) ≡ bytes_of_both t
  stands =
      ap (λ (x : List ℕ). take (length (bytes_of_both t)) (drop (header_place k.opened) x)) (bytes_split k.opened)
      ∙ ap (take (length (bytes_of_both t)))
      (drop_at (flatten (front k.opened)) (flatten k.opened.tail) (header_place k.opened) (front_long k.opened) ∙ tail_stands ∙ sym (append_assoc h (flatten run) back))
      ∙ take_at (bytes_of_both t) back (length (bytes_of_both t)) refl

  pub written_same : WrittenAgain s t
  written_same = record {
    stands = stands;
    same = same;
    accepted = λ m r. all_none (writer_rows (list_read t) (collection_read t) m) (writer_verdict (list_read t) (collection_read t) m) (verdict_answers (list_read t) (collection_read t) m) (rw run_again (kept_rows m r));
  }

  -- ---- out of the configuration itself

  run_small : (d : List ℕ) → d ∈ run → Bytes d
  run_small d m = tail_small d (in_tail d m)

  abbrev all : List Item
  all = items (place_of_run k) run run_small

  padded : pad blank_item (length run) (pad blank_item most_entities all) ≡ all
  padded =
      let n = items_long (place_of_run k) run run_small in
      let few = k.rule8.1 in
      let m = pad_length blank_item most_entities all in
      sym (pad_full blank_item (length run) (pad blank_item most_entities all) (omega arith))
      ∙ ap (λ (i : ℕ). take i (pad blank_item most_entities all)) (sym n)
      ∙ pad_front blank_item most_entities all (omega arith)

  list_found : map (listed_with s) (pad blank_item (length run) (pad blank_item most_entities all)) ≡ list_read t
  list_found =
      ap (map (listed_with s)) padded
      ∙ items_found s (flatten (front k.opened) ++ h) back (place_of_run k) run run_small
      (bytes_split k.opened ∙ ap (λ (x : List ℕ). flatten (front k.opened) ++ x) tail_stands ∙ sym (append_assoc (flatten (front k.opened)) h (flatten run ++ back)))
      (length-append (flatten (front k.opened)) h ∙ ap (λ (n : ℕ). n + length h) (front_long k.opened))

  written_had : (ls : List Listed) → ls ≡ list_read t → (before after : List ℕ) (r : Wrote) → length (bytes_of_both t) ≤ length before → Writes ls (collection_read t) before after r
      → (r.number ≡ 0) × (after ≡ bytes_of_both t ++ drop (length (bytes_of_both t)) before)
  written_had ls e before after r m w =
      let v : writer_verdict ls (collection_read t) (length before) ≡ refuse.none = ap (λ (x : List Listed). writer_verdict x (collection_read t) (length before)) e ∙ written_same.accepted (length before) m in
      let n : (writer_verdict ls (collection_read t) (length before)).number ≡ 0 = ap (λ (x : Refusal). x.number) v in
      let y : written_of ls (collection_read t) ≡ bytes_of_both t = ap (λ (x : List Listed). written_of x (collection_read t)) e ∙ same in
      (ap (λ (x : Refusal). x.number) w.refused ∙ n, w.lent ∙ yes _ _ (eq-eqb _ 0 n) ∙ ap (λ (x : List ℕ). x ++ drop (length x) before) y)

  pub had_all : Had s t
  had_all = record {
    list = record { count = length run; items = pad blank_item most_entities all };
    places = pad_length blank_item most_entities all;
    each = λ i l.
        let x = items_each (place_of_run k) run run_small i l in
        let few = k.rule8.1 in
        (x.0, x.1, pad_at blank_item most_entities all i (omega arith) ∙ x.2);
    found = list_found;
    written = written_had _ list_found;
  }
