-- What a step, and then a run, does to one control, the one of the key k at index p.
--   still, moved_then    ==  nothing told moves nothing; one such move and then another
--   stored_means         ==  what is stored for a number means that number
--   sense_at             ==  the control that is found holds what its key's selector says
--   set_shares           ==  a Set asks a control that it addresses to take the number of its piece of the data; set_spares: and every other
--                            to take none
--   one_step             ==  so does every step, with what it tells k if it is accepted
--   whole_run            ==  and every run
use Prim.Native.Nat.{ℕ}
use mathlib.Core.Path.{◌≡◌, refl, sym, ap, ◌∙◌}
use mathlib.Core.List.Memᴰ
use mathlib.Core.List.{List, [], ◌∷◌, ◌++◌, append-nil}
use mathlib.Core.Bool.{Bool, true, false, ◌||◌, or-true, or-false, or_assoc}
use native.Mathlib.Omega.{arith}
use borrow.Author.Tests.{not-false}
use lib.ListN.{length}
use mathlib.Core.Logic.{⊎_elim}
use Rattle.ground.specs.Numbers.{Bytes}
use Rattle.ground.specs.Pick.{pick, yes, Reads, shows, refutes, reads_and, reads_eq}
use Rattle.graph.specs.Members.{◌∈◌}
use Rattle.setting.specs.Setting.{fits_of, legal_of, closest_to}
use Rattle.setting.specs.declared.Sort.{Sort}
use Rattle.setting.specs.declared.Range.{Range}
use Rattle.table.specs.declared.Control.{Control}
use Rattle.table.specs.declared.Table.{Table}
use Rattle.table.specs.declared.Sense.{Sense}
use Rattle.table.specs.declared.Sense.TheVariants as sense
use Rattle.table.specs.First.Seat.{seat}
use Rattle.table.specs.Controls.{at, placed, sense_of, size_of, range_of}
use Rattle.table.specs.Same.{Same, same_self, same_by}
use Rattle.single.specs.Meaning.{SoundAs, loaded_legal}
use Rattle.sound.specs.Meaning.{Sound}
use Rattle.table.specs.Placed.{placed_here, placed_elsewhere, placed_found}
use Rattle.sound.specs.Placed.{placed_sound}
use Rattle.table.specs.Keys.{Key, where_is, Bears, StandsAt, InTable}
use Rattle.setup.specs.Setup.{AsksSet, asks_set}
use Rattle.setup.specs.Asking.{set_no_get, reads_set}
use Rattle.address.specs.AddressedLaws.{found_stands, stands_found}
use Rattle.answers.specs.Held.{unready, value_in, stored_for}
use Rattle.loads.specs.Load.{loaded_with}
use Rattle.request.specs.declared.State.{State}
use Rattle.request.specs.Outcome.{Outcome, table_after}
use Rattle.request.specs.Outcome.Outcome.{refused, got, done}
use Rattle.request.specs.Load.{load_of}
use Rattle.request.specs.Request.{request_of}
use Rattle.runs.specs.Runs.{named_by, addressed_by, Step, accepted, next, after, same_key, share_of, ranges_in, numbers_in, heard, told, last_of, some_of, sent, Wired}
use Rattle.runs.specs.Runs.Step.{load, request}
use Rattle.runs.specs.RequestRows.{Names, Addressed}
use Rattle.runs.specs.Promises.{CurMeans, Share, Moved}
use Rattle.runs.proofs.Stored.{member}
use Rattle.runs.proofs.Shares.{share_told, none_told, none_sent}
use Rattle.runs.proofs.Taken.{addressed_at, LoadTaken, SetTaken, load_taken, set_taken, get_taken, load_not_got}
use Rattle.runs.proofs.Addressing.{addressed_low, addressed_found, addressed_one}
use Rattle.runs.proofs.Sets.{shared, set_here, set_other, set_keeps, set_pins, set_count, set_sound_after}
use Rattle.runs.proofs.Kept.{load_same, load_sound, index_below, index_inside, settles_closest, sent_fits}

last_append : {A : Type 0} (x : A) (xs ys : List A) → last_of x (xs ++ ys) ≡ last_of (last_of x xs) ys
unfolding last_of
last_append x [] ys = refl
last_append x (y ∷ xs) ys = last_append y xs ys

some_append : {A : Type 0} (xs ys : List A) → some_of (xs ++ ys) ≡ (some_of xs || some_of ys)
some_append [] ys = refl
some_append (x ∷ xs) ys = refl

none_left : {A : Type 0} (xs ys : List A) → xs ++ ys ≡ [] → xs ≡ []
none_left [] ys e = refl
none_left (x ∷ xs) ys e = absurd (let z : ◌≡◌ {A = ℕ} 0 1 = cc in omega arith)

none_right : {A : Type 0} (xs ys : List A) → xs ++ ys ≡ [] → ys ≡ []
none_right [] ys e = e
none_right (x ∷ xs) ys e = absurd (let z : ◌≡◌ {A = ℕ} 0 1 = cc in omega arith)

some_not_none : {A : Type 0} (x : A) (xs : List A) → (x ∷ xs) ≡ [] → ⊥
some_not_none x xs e = let z : ◌≡◌ {A = ℕ} 0 1 = cc in omega arith

-- nothing told, nothing changed
pub still : (t : Table) (k : Key) (p : ℕ) → Sound t → where_is t k ≡ seat p → Moved t k p [] [] t
unfolding last_of
still t k p s f = record {
  sound = s;
  there = found_stands t k p f;
  same = same_self (at t p);
  pins = refl;
  loaded = sym (or-false (at t p).loaded);
  ranges = refl;
  unmoved = λ e. refl;
  cur = λ n. absurd (n refl);
}

-- the last of two lists is the last of the second, or of the first where the second is empty
moved_cur : (t v w : Table) (k : Key) (p : ℕ) (rs qs : List Range) (ns ms : List ℕ) → Moved t k p rs ns v → Moved v k p qs ms w
    → (ns ++ ms ≡ [] → ⊥) → CurMeans (sense_of k.selector) (range_of (at w p)) (last_of 0 (ns ++ ms)) (at w p).cur
unfolding last_of
moved_cur t v w k p rs qs ns [] a b n =
    rw (append-nil ns, b.unmoved refl) (a.cur (λ e. n (append-nil ns ∙ e)))
moved_cur t v w k p rs qs ns (m ∷ ms) a b n = rw (last_append 0 ns (m ∷ ms)) (b.cur (some_not_none m ms))

pub moved_then : (t v w : Table) (k : Key) (p : ℕ) (rs qs : List Range) (ns ms : List ℕ) → Moved t k p rs ns v → Moved v k p qs ms w
    → Moved t k p (rs ++ qs) (ns ++ ms) w
moved_then t v w k p rs qs ns ms a b = record {
  sound = b.sound;
  there = b.there;
  same = same_by b.same a.same;
  pins = b.pins ∙ a.pins;
  loaded =
      b.loaded ∙ ap (λ (x : Bool). x || some_of qs) a.loaded ∙ or_assoc (at t p).loaded (some_of rs) (some_of qs) ∙ ap (λ (x : Bool). (at t p).loaded || x) (sym (some_append rs qs));
  unmoved = λ e. b.unmoved (none_right ns ms e) ∙ a.unmoved (none_left ns ms e);
  ranges = b.ranges ∙ ap (λ (r : Range). last_of r qs) a.ranges ∙ sym (last_append (range_of (at t p)) rs qs);
  cur = λ n. moved_cur t v w k p rs qs ns ms a b n;
}

-- a key is another exactly where their three numbers are
record OneKey (k l : Key) : Type 0 where
  unit : k.unit ≡ l.unit
  channel : k.channel ≡ l.channel
  selector : k.selector ≡ l.selector

reads_key : (k l : Key) → Reads (same_key k l) (OneKey k l)
reads_key k l =
    let r = reads_and _ _ (reads_eq k.unit l.unit) (reads_and _ _ (reads_eq k.channel l.channel) (reads_eq k.selector l.selector)) in
    record {
      says = λ e. let h = r.says e in record { unit = h.0; channel = h.1.0; selector = h.1.1 };
      denies = λ e h. r.denies e (h.unit, (h.channel, h.selector));
    }

found_at_one : {p q : ℕ} → seat p ≡ seat q → p ≡ q
found_at_one e = cc

-- two keys are one exactly where they are found at one index
module _ (t : Table) (k l : Key) (p q : ℕ) (f : where_is t k ≡ seat p) (g : where_is t l ≡ seat q) where
  one_index : same_key k l ≡ true → q ≡ p
  one_index e =
      let h = (reads_key k l).says e in
      let i : where_is t k ≡ where_is t l = rw (h.unit, h.channel, h.selector) in
      found_at_one (sym g ∙ sym i ∙ f)

  two_indices : same_key k l ≡ false → p ≡ q → ⊥
  two_indices e i =
      let a = found_stands t k p f in
      let b : StandsAt t l p = rw i (found_stands t l q g) in
      (reads_key k l).denies e
      (let x = a.bears in let y = b.bears in record { unit = sym x.unit ∙ y.unit; channel = sym x.channel ∙ y.channel; selector = sym x.selector ∙ y.selector })

-- a control is stored at another index
module _ (t : Table) (k : Key) (p : ℕ) (s : Sound t) (f : where_is t k ≡ seat p) (l : Key) (q : ℕ) (g : where_is t l ≡ seat q) (c : Control)
    (h : Same c (at t q)) (ok : SoundAs (sense_of c.selector) c) where
  stored_sound : Sound (placed t q c)
  stored_sound = placed_sound t q (index_inside t l q g s) c h s ok

  stored_there : where_is (placed t q c) k ≡ seat p
  stored_there = placed_found t q (index_inside t l q g s) c h k.unit k.channel k.selector ∙ f

  elsewhere : same_key k l ≡ false → Moved t k p [] [] (placed t q c)
  unfolding last_of
  elsewhere e =
      let i : at (placed t q c) p ≡ at t p = placed_elsewhere t q c p (two_indices t k l p q f g e) in
      record {
        sound = stored_sound;
        there = found_stands _ k p stored_there;
        same = rw i (same_self (at t p));
        pins = rw i;
        loaded = rw i (sym (or-false (at t p).loaded));
        ranges = rw i;
        unmoved = λ z. i;
        cur = λ z. absurd (z refl);
      }

  -- or at this one
  here : same_key k l ≡ true → (rs : List Range) (ns : List ℕ) → c.pins ≡ (at t q).pins → c.loaded ≡ ((at t q).loaded || some_of rs)
      → range_of c ≡ last_of (range_of (at t q)) rs → (ns ≡ [] → ⊥)
      → CurMeans (sense_of k.selector) (range_of c) (last_of 0 ns) c.cur → Moved t k p rs ns (placed t q c)
  here e rs ns m n a o b =
      let j : q ≡ p = one_index t k l p q f g e in
      let i : at (placed t q c) p ≡ c = ap (at (placed t q c)) (sym j) ∙ placed_here t q (index_inside t l q g s) c in
      record {
        sound = stored_sound;
        there = found_stands _ k p stored_there;
        same = rw (i, ← j) h;
        pins = rw (i, ← j) m;
        loaded = rw (i, ← j) n;
        ranges = rw (i, ← j) a;
        unmoved = λ z. absurd (o z);
        cur = λ z. rw i b;
      }

-- a key's control has the key's selector
selector_at : (t : Table) (k : Key) (p : ℕ) → where_is t k ≡ seat p → (at t p).selector ≡ k.selector
selector_at t k p f = (found_stands t k p f).bears.selector

pub sense_at : (t : Table) (k : Key) (p : ℕ) → where_is t k ≡ seat p → sense_of (at t p).selector ≡ sense_of k.selector
sense_at t k p f = ap sense_of (selector_at t k p f)

-- a load of the control tells it a range and a number
load_means : (k : Sense) (s : Sort) → k ≡ sense.Ranged s → (range : Range) (w : ℕ) → legal_of s range ≡ true → fits_of s w ≡ true
    → CurMeans k range w (closest_to s range w)
load_means k s e range w l f = rw e (settles_closest s range w (closest_to s range w) l f refl)

-- a Set tells it a number
pub stored_means : (k : Sense) (c : Control) (d : List ℕ) → SoundAs k c → unready k c ≡ false → Bytes d → length d ≡ size_of k
    → CurMeans k (range_of c) (value_in d) (stored_for k c (value_in d))
unfolding unready
stored_means sense.Unknown c d h r b l = refl
stored_means sense.YesNo c d h r b l = refl
stored_means (sense.Ranged s) c d h r b l =
    settles_closest s (range_of c) (value_in d) (closest_to s (range_of c) (value_in d)) (loaded_legal s c (h.loaded (not-false c.loaded r))) (sent_fits s d b l) refl
stored_means sense.Pin c d h r b l = refl

module _ (t : Table) (k : Key) (p : ℕ) (s : Sound t) (f : where_is t k ≡ seat p) where
  load_moves : (l : Key) (range : Range) (w : ℕ) (v : Table) → LoadTaken t l range w v
      → Moved t k p (pick (same_key k l) (range ∷ []) []) (pick (same_key k l) (w ∷ []) []) v
  unfolding last_of
  load_moves l range w v a = rw a.table (go (same_key k l) refl)
    where
      ok : SoundAs (sense_of (loaded_with a.sort range w (at t a.index)).selector) (loaded_with a.sort range w (at t a.index))
      ok =
          load_sound a.sort range w (at t a.index) a.sense (s.each a.index (index_below t l a.index a.there)) a.legal a.fits

      held : same_key k l ≡ true → sense_of k.selector ≡ sense.Ranged a.sort
      held e = ap sense_of ((reads_key k l).says e).selector ∙ sym (sense_at t l a.index a.there) ∙ a.sense

      go : (b : Bool) → same_key k l ≡ b
          → Moved t k p (pick b (range ∷ []) []) (pick b (w ∷ []) []) (placed t a.index (loaded_with a.sort range w (at t a.index)))
      go true e =
          here t k p s f l a.index a.there _ (load_same a.sort range w (at t a.index)) ok e (range ∷ []) (w ∷ []) refl (sym (or-true (at t a.index).loaded)) refl (some_not_none w [])
          (load_means (sense_of k.selector) a.sort (held e) range w a.legal a.fits)
      go false e = elsewhere t k p s f l a.index a.there _ (load_same a.sort range w (at t a.index)) ok e

-- a Set tells each control that it addresses its number
module _ (t : Table) (k : Key) (p : ℕ) (s : Sound t) (f : StandsAt t k p) (su d : List ℕ) (v : Table) (b : Bytes d) (a : SetTaken t su d v) where
  still_there : StandsAt v k p
  still_there =
      let h = set_keeps t su d v s a p in
      let x = f.bears in
      record { inside = rw (set_count t su d v s a) f.inside; bears = record { unit = h.unit ∙ x.unit; channel = h.channel ∙ x.channel; selector = h.selector ∙ x.selector } }

  told_one : (m : p ∈ addressed_at t su) → Moved t k p [] (value_in (shared t su d v s a p m).piece ∷ []) v
  unfolding last_of
  told_one m =
      let g = shared t su d v s a p m in
      let i = set_here t su d v s a p m in
      let held : sense_of k.selector ≡ sense_of (at t p).selector = ap sense_of (sym f.bears.selector) in
      record {
        sound = set_sound_after t su d v s a b;
        there = still_there;
        same = set_keeps t su d v s a p;
        pins = set_pins t su d v s a p;
        loaded = rw i (sym (or-false (at t p).loaded));
        ranges = rw i;
        unmoved = λ z. absurd (some_not_none _ [] z);
        cur = λ z. rw (i, held) (stored_means (sense_of (at t p).selector) (at t p) g.piece (s.each p f.inside) g.ready (g.bytes b) g.sized);
      }

  told_none : (p ∈ addressed_at t su → ⊥) → Moved t k p [] [] v
  unfolding last_of
  told_none n =
      let i = set_other t su d v s a p n in
      record {
        sound = set_sound_after t su d v s a b;
        there = still_there;
        same = set_keeps t su d v s a p;
        pins = set_pins t su d v s a p;
        loaded = rw i (sym (or-false (at t p).loaded));
        ranges = rw i;
        unmoved = λ z. i;
        cur = λ z. absurd (z refl);
      }

  set_moves : Moved t k p [] (share_of k (addressed_by t su) d) v
  set_moves =
      ⊎_elim
      (λ (m : p ∈ addressed_at t su). rw (share_told k (addressed_found t su s).rising f.bears (shared t su d v s a p m).share) (told_one m))
      (λ (n : p ∈ addressed_at t su → ⊥). rw (none_sent t s k p f (addressed_at t su) d (addressed_low t su) n) (told_none n))
      (member p (addressed_at t su))

-- the number that a Set asks a control to take, by the papers' words for who is addressed and for whose the data are
module _ (t : Table) (s : Sound t) (su d : List ℕ) (room : ℕ) (k : Key) where
  pub set_shares : AsksSet su → (cs : List Control) → Addressed t su cs → (c : Control) → Bears k c → (piece : List ℕ) → Share cs d c piece
      → numbers_in k t (request su d room) ≡ value_in piece ∷ []
  set_shares a cs h c b piece i =
      yes _ _ (shows (reads_set su) a)
      ∙ ap (λ (l : List Control). share_of k l d) (addressed_one t su (addressed_by t su) cs (addressed_found t su s) h)
      ∙ share_told k h.rising b i

  pub set_spares : ((c : Control) → InTable t c → Names (named_by su) c → Bears k c → ⊥) → numbers_in k t (request su d room) ≡ []
  set_spares n = go (asks_set su)
    where
      go : (b : Bool) → pick b (share_of k (addressed_by t su) d) [] ≡ []
      go true = none_told k (addressed_by t su) d (λ c m. let h = ((addressed_found t su s).each c).0 m in n c h.0 h.1)
      go false = refl

module _ (st : State) (k : Key) (p : ℕ) (s : Sound st.table) (f : where_is st.table k ≡ seat p) where
  abbrev t : Table
  t = st.table

  load_step : (l : Key) (range : Range) (w : ℕ) (o : Outcome) → load_of st l.unit l.channel l.selector range w ≡ o
      → Moved t k p (pick (accepted o) (ranges_in k t (load l range w)) []) (pick (accepted o) (numbers_in k t (load l range w)) []) (table_after t o)
  load_step l range w (refused n) e = still t k p s f
  load_step l range w (got bytes) e = absurd (load_not_got st l range w bytes e)
  load_step l range w (done v) e = load_moves t k p s f l range w v (load_taken st l range w v e)

  request_step : (su d : List ℕ) (room : ℕ) → Bytes d → (o : Outcome) → request_of st su d room ≡ o
      → Moved t k p (pick (accepted o) [] []) (pick (accepted o) (numbers_in k t (request su d room)) []) (table_after t o)
  request_step su d room b (refused m) e = still t k p s f
  request_step su d room b (got bytes) e =
      let a = get_taken st su d room bytes e in
      let z : asks_set su ≡ false = refutes (reads_set su) (λ x. set_no_get su x a.asked) in
      rw z (still t k p s f)
  request_step su d room b (done v) e =
      let a = set_taken st su d room v e in
      let z : asks_set su ≡ true = shows (reads_set su) a.asked in
      rw z (set_moves t k p s (found_stands t k p f) su d v b a)

  pub one_step : (step : Step) → Bytes (sent step) → Moved t k p (heard (ranges_in k) st step) (heard (numbers_in k) st step) (next st step).table
  one_step (load l range w) b = load_step l range w _ refl
  one_step (request su d room) b = request_step su d room b _ refl

pub whole_run : (st : State) (k : Key) (p : ℕ) (run : List Step) → Sound st.table → StandsAt st.table k p → Wired run
    → Moved st.table k p (told (ranges_in k) st run) (told (numbers_in k) st run) (after st run).table
unfolding told after
whole_run st k p [] s f w = still st.table k p s (stands_found st.table s k p f)
whole_run st k p (step ∷ run) s f w =
    let a = one_step st k p s (stands_found st.table s k p f) step (w step (Memᴰ.head refl)) in
    moved_then st.table (next st step).table (after (next st step) run).table k p _ _ _ _ a
    (whole_run (next st step) k p run a.sound a.there (λ x m. w x (Memᴰ.tail m)))
