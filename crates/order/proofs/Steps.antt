-- Two states of the box with the same controls in another order answer every load and request alike, and are left with the same controls. The rows of
-- the papers' table speak of the controls that are in the table, and the addressed ones are taken by channel: so none of it sees the order.
--   same_back        ==  the same controls, the other way
--   blind_tables     ==  THE LAW of what is asked of a table; addressed_same: who is addressed is the same list
--   number_same      ==  each step has the same number in both
--   bytes_same       ==  .. and is answered with the same bytes
--   next_same        ==  so each step leaves such states
--   run_same         ==  THE LAW: and every run does
use Prim.Native.Nat.{ℕ, ◌<◌}
use mathlib.Core.Path.{◌≡◌, refl, sym, ap, ◌∙◌, subst}
use mathlib.Core.List.Memᴰ
use mathlib.Core.List.{List, [], ◌∷◌}
use native.Mathlib.Omega.{arith}
use lib.ListN.{length, length-map}
use Rattle.ground.specs.Numbers.{byte, word}
use Rattle.graph.specs.Members.{◌∈◌}
use Rattle.setting.specs.declared.Range.{Range}
use Rattle.setting.specs.declared.Sort.{Sort}
use Rattle.table.specs.declared.Control.{Control}
use Rattle.table.specs.declared.Table.{Table}
use Rattle.table.specs.declared.Sense.TheVariants.{Ranged}
use Rattle.table.specs.Controls.{at, placed, sense_of}
use Rattle.table.specs.Keys.{Key, Bears, StandsAt, InTable}
use Rattle.sound.specs.Meaning.{Sound, sound_counted}
use Rattle.setup.specs.declared.Part.{Part}
use Rattle.setup.specs.declared.Target.{Target}
use Rattle.setup.specs.declared.Asked.TheVariants as asks
use Rattle.setup.specs.Setup.{code_of, target_of, asked_by}
use Rattle.setup.specs.Asking.{set_no_get}
use Rattle.answers.specs.Answers.{all_set, cut_to}
use Rattle.answers.proofs.AnswersLemmas.{sets_long}
use Rattle.loads.specs.Load.{loaded_with}
use Rattle.address.specs.AddressedLaws.{found_stands, stands_one}
use Rattle.request.specs.declared.State.{State}
use Rattle.request.specs.Outcome.{Outcome, number_of, bytes_of, table_after}
use Rattle.request.specs.Outcome.Outcome.{refused, got, done}
use Rattle.request.specs.Stored.{stored_at, Apart, alone, apart}
use Rattle.request.specs.Load.{load_of}
use Rattle.request.specs.Request.{request_of}
use Rattle.runs.specs.Runs.{named_by, addressed_by, Step, step_of, next, after, Wired}
use Rattle.runs.specs.Runs.Step.{load, request}
use Rattle.runs.specs.RequestRows.{Row, given, passed, Names, Along, addressed_rows, request_rows, load_rows, step_rows}
use Rattle.runs.proofs.Taken.{addressed_at, LoadTaken, SetTaken, GetTaken, load_taken, set_taken, get_taken, load_not_got}
use Rattle.runs.proofs.Addressing.{addressed_apart, addressed_low, addressed_inside, names_among, among_names, addressed_found, addressed_one}
use Rattle.runs.proofs.Stored.{Pair, front, behind, pair_in, stored_count, stored_other, stored_here, At, stored, kept, stored_at_lem}
use Rattle.runs.proofs.Refusals.{LoadNumber, load_30, load_20, load_21, RequestNumber, load_numbers, request_numbers}
use Rattle.runs.proofs.Rows.{step_rows_lem, step_row_one}
use Rattle.runs.proofs.Alone.{step_sound}
use Rattle.runs.proofs.InTurn.{get_asks}
use Rattle.order.specs.Same.{SameControls, SameState}
use Rattle.order.specs.Blind.{BlindTables}

pub same_back : {t u : Table} → SameControls t u → SameControls u t
same_back h = record { count = sym h.count; each = λ x. ((h.each x).1, (h.each x).0) }

row_as : {n : ℕ} {When Where : Type 0} {rest last : ℕ → Type 0} (m : ℕ) → (When → Where) → (Where → When) → (rest m → last m) → Row n When rest m → Row n Where last m
row_as m f g h (given w e) = given (f w) e
row_as m f g h (passed n r) = passed (λ w. n (g w)) (h r)

pub blind_tables : BlindTables
blind_tables = record {
  unit = λ x t u same o.
      let i = o.inside in
      let k = (same.each (at t o.index)).0 (record { index = o.index; inside = omega arith; is = refl }) in
      let j = k.inside in
      record { index = k.index; inside = omega arith; unit = ap (λ (c : Control). c.unit) k.is ∙ o.unit };
  addressed = λ s cs t u same a. record {
    each = λ c. (λ m. let h = (a.each c).0 m in ((same.each c).0 h.0, h.1), λ h. (a.each c).1 ((same.each c).1 h.0, h.1));
    rising = a.rising;
  };
  ranged = λ k t u same r. record { control = r.control; there = (same.each r.control).0 r.there; bears = r.bears; ranged = r.ranged };
}

-- what is addressed is the same list
module _ (t u : Table) (same : SameControls t u) (sound : Sound t) (whole : Sound u) where
  pub addressed_same : (s : List ℕ) → addressed_by t s ≡ addressed_by u s
  addressed_same s = addressed_one u s (addressed_by t s) (addressed_by u s) (blind_tables.addressed s (addressed_by t s) t u same (addressed_found t s sound)) (addressed_found u s whole)

module _ (st su : State) (same : SameState st su) (sound : Sound st.table) (whole : Sound su.table) where
  abbrev t : Table
  t = st.table

  abbrev u : Table
  u = su.table

  back : SameControls u t
  back = same_back same.controls

  along_as : (s d : List ℕ) (room m : ℕ) → Along t s (addressed_rows s d room) m → Along u s (addressed_rows s d room) m
  along_as s d room m (cs, a) = (cs, (blind_tables.addressed s cs t u same.controls a.0, a.1))

  request_as : (s d : List ℕ) (room m : ℕ) → request_rows st s d room m → request_rows su s d room m
  unfolding request_rows
  request_as s d room m =
      row_as m (λ n w. n sound) (λ n w. n whole)
      (row_as m (λ x. x) (λ x. x)
      (row_as m (λ n e. n (e ∙ sym same.interface)) (λ n e. n (e ∙ same.interface))
      (row_as m (λ n o. n (blind_tables.unit (byte s 5) u t back o)) (λ n o. n (blind_tables.unit (byte s 5) t u same.controls o)) (along_as s d room m))))

  load_as : (k : Key) (range : Range) (w m : ℕ) → load_rows st k range w m → load_rows su k range w m
  unfolding load_rows
  load_as k range w m =
      row_as m (λ n h. n sound) (λ n h. n whole)
      (row_as m (λ n r. n (blind_tables.ranged k u t back r)) (λ n r. n (blind_tables.ranged k t u same.controls r)) (row_as m (λ x. x) (λ x. x) (λ e. e)))

  step_as : (step : Step) (m : ℕ) → step_rows st step m → step_rows su step m
  step_as (load k range w) m = load_as k range w m
  step_as (request s d room) m = request_as s d room m

  pub number_same : (step : Step) → number_of (step_of st step) ≡ number_of (step_of su step)
  number_same step = step_row_one su step _ _ (step_as step _ (step_rows_lem st step)) (step_rows_lem su step)

  -- a refusal has a number, so that where the one is refused the other is
  refused_no_zero : (v : State) (s d : List ℕ) (room m : ℕ) → request_of v s d room ≡ refused m → m ≡ 0 → ⊥
  refused_no_zero v s d room m e z = let k : RequestNumber m = rw e at (request_numbers v s d room) in let f = k.from in omega arith

  load_no_zero : (v : State) (k : Key) (range : Range) (w m : ℕ) → load_of v k.unit k.channel k.selector range w ≡ refused m → m ≡ 0 → ⊥
  load_no_zero v k range w m e z = go m (rw e at (load_numbers v k range w)) z
    where
      go : (m : ℕ) → LoadNumber m → m ≡ 0 → ⊥
      go _ load_30 i = omega arith
      go _ load_20 i = omega arith
      go _ load_21 i = omega arith

  part_one : (g : Target) (a b : Part) → code_of a ≡ code_of b → a ≡ b
  part_one g a b e = let i : asks.Get a g ≡ asks.Get b g = sym (get_asks g a) ∙ ap (asked_by g 0xA1) e ∙ get_asks g b in cc

  got_same : (s b c : List ℕ) → GetTaken t s b → GetTaken u s c → b ≡ c
  got_same s b c x y =
      x.given
      ∙ ap (λ (p : Part). cut_to (word s 6) p (addressed_by t s)) (part_one (target_of s) x.part y.part (sym x.code ∙ y.code))
      ∙ ap (cut_to (word s 6) y.part) (addressed_same t u same.controls sound whole s)
      ∙ sym y.given

  request_bytes : (s d : List ℕ) (room : ℕ) (o q : Outcome) → request_of st s d room ≡ o → request_of su s d room ≡ q → number_of o ≡ number_of q → bytes_of o ≡ bytes_of q
  request_bytes s d room (refused m) (got c) e f h = absurd (refused_no_zero st s d room m e h)
  request_bytes s d room (got b) (refused n) e f h = absurd (refused_no_zero su s d room n f (sym h))
  request_bytes s d room (got b) (got c) e f h = got_same s b c (get_taken st s d room b e) (get_taken su s d room c f)
  request_bytes s d room (got b) (done v) e f h = absurd (set_no_get s (set_taken su s d room v f).asked (get_taken st s d room b e).asked)
  request_bytes s d room (done v) (got c) e f h = absurd (set_no_get s (set_taken st s d room v e).asked (get_taken su s d room c f).asked)
  request_bytes s d room (refused m) (refused n) e f h = refl
  request_bytes s d room (refused m) (done v) e f h = refl
  request_bytes s d room (done v) (refused n) e f h = refl
  request_bytes s d room (done v) (done w) e f h = refl

  load_silent : (v : State) (k : Key) (range : Range) (w : ℕ) (o : Outcome) → load_of v k.unit k.channel k.selector range w ≡ o → bytes_of o ≡ []
  load_silent v k range w (refused m) e = refl
  load_silent v k range w (got b) e = absurd (load_not_got v k range w b e)
  load_silent v k range w (done x) e = refl

  pub bytes_same : (step : Step) → bytes_of (step_of st step) ≡ bytes_of (step_of su step)
  bytes_same (load k range w) = load_silent st k range w _ refl ∙ sym (load_silent su k range w _ refl)
  bytes_same (request s d room) = request_bytes s d room _ _ refl refl (number_same (request s d room))

-- the same controls stored at their indices, in the one table and in the other
pair_as : (ps qs : List ℕ) (cs : List Control) → length ps ≡ length qs → (i : ℕ) (c : Control) → Pair ps cs i c → (j : ℕ) × Pair qs cs j c
pair_as [] qs cs l i e h = elim h [ ]
pair_as (p ∷ ps) [] [] l i e h = elim h [ ]
pair_as (p ∷ ps) (q ∷ qs) [] l i e h = elim h [ ]
pair_as (p ∷ ps) [] (c ∷ cs) l i e h = absurd (omega arith)
pair_as (p ∷ ps) (q ∷ qs) (c ∷ cs) l _ _ front = (q, front)
pair_as (p ∷ ps) (q ∷ qs) (c ∷ cs) l i e (behind h) = let k = pair_as ps qs cs (omega arith) i e h in (k.0, behind k.1)

record Places (t : Table) (ps : List ℕ) (cs : List Control) : Type 0 where
  each_once : Apart ps
  low : (p : ℕ) → p ∈ ps → p < t.count
  inside : (p : ℕ) → p ∈ ps → p < length t.controls
  long : length cs ≡ length ps

stored_as : (t u : Table) → SameControls t u → (ps qs : List ℕ) (cs : List Control) → Places t ps cs → Places u qs cs
    → ((i j : ℕ) → i < t.count → at u j ≡ at t i → j ∈ qs → i ∈ ps) → (x : Control) → InTable (stored_at t ps cs) x → InTable (stored_at u qs cs) x
stored_as t u same ps qs cs a b only x k = go (stored_at_lem t ps cs a.each_once a.inside a.long k.index) k.is
  where
    inside_is : k.index < t.count
    inside_is = rw (stored_count t ps cs) at k.inside

    go : {c : Control} → At t ps cs a.each_once a.inside a.long k.index c → c ≡ x → InTable (stored_at u qs cs) x
    go (stored c h) e =
        let m = a.long in
        let n = b.long in
        let r = pair_as ps qs cs (omega arith) k.index c h in
        record { index = r.0; inside = rw (stored_count u qs cs) (b.low r.0 (pair_in r.1)); is = stored_here u qs cs b.each_once b.inside r.0 c r.1 ∙ e }
    go (kept n) e =
        let r = (same.each (at t k.index)).0 (record { index = k.index; inside = inside_is; is = refl }) in
        record {
          index = r.index;
          inside = rw (stored_count u qs cs) r.inside;
          is = stored_other u qs cs r.index (λ m. n (only k.index r.index inside_is r.is m)) ∙ r.is ∙ e;
        }

stored_same : (t u : Table) → SameControls t u → (ps qs : List ℕ) (cs : List Control) → Places t ps cs → Places u qs cs
    → ((i j : ℕ) → i < t.count → at u j ≡ at t i → j ∈ qs → i ∈ ps) → ((i j : ℕ) → i < u.count → at t j ≡ at u i → j ∈ ps → i ∈ qs)
    → SameControls (stored_at t ps cs) (stored_at u qs cs)
stored_same t u same ps qs cs a b only back = record {
  count = stored_count t ps cs ∙ same.count ∙ sym (stored_count u qs cs);
  each = λ x. (stored_as t u same ps qs cs a b only x, stored_as u t (same_back same) qs ps cs b a back x);
}

-- what a Set and a load store, in the one and in the other
module _ (t u : Table) (same : SameControls t u) (sound : Sound t) (whole : Sound u) where
  set_places : (v : Table) (h : Sound v) (s d : List ℕ) → Places v (addressed_at v s) (all_set (addressed_by v s) d)
  set_places v h s d = record {
    each_once = addressed_apart v s;
    low = addressed_low v s;
    inside = addressed_inside v s h;
    long = sets_long (addressed_by v s) d ∙ length-map (addressed_at v s) (at v);
  }

  -- who is addressed in the one is addressed in the other
  set_only : (v w : Table) → Sound v → (s : List ℕ) (i j : ℕ) → i < v.count → at w j ≡ at v i → j ∈ addressed_at w s → i ∈ addressed_at v s
  set_only v w h s i j l e m = names_among v s h i l (subst (Names (named_by s)) e (among_names w s j m))

  set_same : (s d : List ℕ) (v w : Table) → SetTaken t s d v → SetTaken u s d w → SameControls v w
  set_same s d v w a b =
      let new = all_set (addressed_by u s) d in
      let e : all_set (addressed_by t s) d ≡ new = ap (λ (cs : List Control). all_set cs d) (addressed_same t u same sound whole s) in
      let h = stored_same t u same (addressed_at t s) (addressed_at u s) new
      (subst (Places t (addressed_at t s)) e (set_places t sound s d)) (set_places u whole s d) (set_only t u sound s) (set_only u t whole s) in
      subst (λ (x : Table). SameControls x w) (sym (a.table ∙ ap (stored_at t (addressed_at t s)) e)) (subst (SameControls (stored_at t (addressed_at t s) new)) (sym b.table) h)

  one_place : (v : Table) → Sound v → (p : ℕ) → p < v.count → (c : Control) → Places v (p ∷ []) (c ∷ [])
  one_place v h p l c = record {
    each_once = apart (λ m. Memᴰ.not-nil m) alone;
    low = λ q m. rw (Memᴰ.eq_of_singleton m) l;
    inside = λ q m. rw (Memᴰ.eq_of_singleton m) (sound_counted v h p l);
    long = refl;
  }

  -- the control of a key is the same in both
  load_only : (v w : Table) → Sound v → (k : Key) (p q : ℕ) → StandsAt v k p → StandsAt w k q → (i j : ℕ) → i < v.count → at w j ≡ at v i → j ∈ (q ∷ []) → i ∈ (p ∷ [])
  load_only v w h k p q a b i j l e m =
      Memᴰ.head (stands_one v h k i p (record { inside = l; bears = subst (Bears k) (ap (at w) (sym (Memᴰ.eq_of_singleton m)) ∙ e) b.bears }) a)

  load_control : (k : Key) (p q : ℕ) → StandsAt t k p → StandsAt u k q → at t p ≡ at u q
  load_control k p q a b =
      let r = (same.each (at t p)).0 (record { index = p; inside = a.inside; is = refl }) in
      let e = stands_one u whole k r.index q (record { inside = r.inside; bears = subst (Bears k) (sym r.is) a.bears }) b in
      sym r.is ∙ ap (at u) e

  load_same : (k : Key) (range : Range) (w : ℕ) (v x : Table) → LoadTaken t k range w v → LoadTaken u k range w x → SameControls v x
  unfolding stored_at
  load_same k range w v x a b =
      let i = found_stands t k a.index a.there in
      let j = found_stands u k b.index b.there in
      let c : at t a.index ≡ at u b.index = load_control k a.index b.index i j in
      let f : Ranged a.sort ≡ Ranged b.sort = sym a.sense ∙ ap (λ (y : Control). sense_of y.selector) c ∙ b.sense in
      let g : a.sort ≡ b.sort = cc in
      let new = loaded_with b.sort range w (at u b.index) in
      let e : loaded_with a.sort range w (at t a.index) ≡ new = ap (λ (y : Sort). loaded_with y range w (at t a.index)) g ∙ ap (loaded_with b.sort range w) c in
      let h = stored_same t u same (a.index ∷ []) (b.index ∷ []) (new ∷ [])
      (one_place t sound a.index i.inside new) (one_place u whole b.index j.inside new)
      (load_only t u sound k a.index b.index i j) (load_only u t whole k b.index a.index j i) in
      subst (λ (y : Table). SameControls y x) (sym (a.table ∙ ap (placed t a.index) e)) (subst (SameControls (placed t a.index new)) (sym b.table) h)

module _ (st su : State) (same : SameState st su) (sound : Sound st.table) (whole : Sound su.table) where
  request_next : (s d : List ℕ) (room : ℕ) (o q : Outcome) → request_of st s d room ≡ o → request_of su s d room ≡ q → number_of o ≡ number_of q
      → SameControls (table_after st.table o) (table_after su.table q)
  request_next s d room (done v) (done w) e f h = set_same st.table su.table same.controls sound whole s d v w (set_taken st s d room v e) (set_taken su s d room w f)
  request_next s d room (refused m) (done v) e f h = absurd (refused_no_zero st su same sound whole st s d room m e h)
  request_next s d room (done v) (refused n) e f h = absurd (refused_no_zero st su same sound whole su s d room n f (sym h))
  request_next s d room (got b) (done v) e f h = absurd (set_no_get s (set_taken su s d room v f).asked (get_taken st s d room b e).asked)
  request_next s d room (done v) (got c) e f h = absurd (set_no_get s (set_taken st s d room v e).asked (get_taken su s d room c f).asked)
  request_next s d room (refused m) (refused n) e f h = same.controls
  request_next s d room (refused m) (got c) e f h = same.controls
  request_next s d room (got b) (refused n) e f h = same.controls
  request_next s d room (got b) (got c) e f h = same.controls

  load_next : (k : Key) (range : Range) (w : ℕ) (o q : Outcome) → load_of st k.unit k.channel k.selector range w ≡ o
      → load_of su k.unit k.channel k.selector range w ≡ q → number_of o ≡ number_of q → SameControls (table_after st.table o) (table_after su.table q)
  load_next k range w (done v) (done x) e f h = load_same st.table su.table same.controls sound whole k range w v x (load_taken st k range w v e) (load_taken su k range w x f)
  load_next k range w (refused m) (done v) e f h = absurd (load_no_zero st su same sound whole st k range w m e h)
  load_next k range w (done v) (refused n) e f h = absurd (load_no_zero st su same sound whole su k range w n f (sym h))
  load_next k range w (got b) q e f h = absurd (load_not_got st k range w b e)
  load_next k range w (done v) (got c) e f h = absurd (load_not_got su k range w c f)
  load_next k range w (refused m) (got c) e f h = same.controls
  load_next k range w (refused m) (refused n) e f h = same.controls

  pub next_same : (step : Step) → SameState (next st step) (next su step)
  next_same (load k range w) = record { interface = same.interface; controls = load_next k range w _ _ refl refl (number_same st su same sound whole (load k range w)) }
  next_same (request s d room) = record { interface = same.interface; controls = request_next s d room _ _ refl refl (number_same st su same sound whole (request s d room)) }

pub run_same : (run : List Step) → Wired run → (st su : State) → SameState st su → Sound st.table → Sound su.table → SameState (after st run) (after su run)
unfolding after
run_same [] w st su same a b = same
run_same (step ∷ run) w st su same a b =
    let d = w step (Memᴰ.head refl) in
    run_same run (λ x m. w x (Memᴰ.tail m)) (next st step) (next su step) (next_same st su same a b step) (step_sound st step d a) (step_sound su step d b)
