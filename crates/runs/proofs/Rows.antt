-- Each refusal exactly where the paper gives it: the number of a load or a request is that of the first row of the paper's table
-- that is given, and 0 where none is; and no other number is.
--   request_rows_lem, load_rows_lem    ==  the number that is answered is the one that the rows say; step_rows_lem: so it is of every step
--   request_row_one, load_row_one, step_row_one ==  the rows say one number
use Prim.Native.Nat.{ℕ, ◌≤◌, ◌<◌}
use mathlib.Core.Path.{◌≡◌, refl, sym, ap, ◌∙◌, subst}
use mathlib.Core.List.Memᴰ
use mathlib.Core.List.{List, [], ◌∷◌, map, Memᴰ}
use mathlib.Core.Bool.{Bool, true, false, not, ◌&&◌, ◌||◌}
use mathlib.Core.Logic.{◌⊎◌, inl, inr, ⊎_elim}
use native.Mathlib.Omega.{arith}
use lib.Dec.{eqb, leb, ltb}
use lib.ListN.{length}
use Rattle.ground.specs.Pick.{pick, true≠false, Reads, decided, reads_same, reads_eq, reads_lt, reads_le, reads_and, reads_or, reads_not}
use Rattle.ground.specs.Numbers.{byte, word}
use Rattle.ground.specs.Lists.{any, SomeOf, reads_any}
use Rattle.ground.specs.Places.{reads_somewhere}
use Rattle.graph.specs.Members.{◌∈◌}
use Rattle.setting.specs.Setting.{fits_of, legal_of}
use Rattle.setting.specs.Legal.{fits_reads, legal_means}
use Rattle.setting.specs.declared.Range.{Range}
use Rattle.setting.specs.declared.Sort.{Sort}
use Rattle.table.specs.declared.Control.{Control}
use Rattle.table.specs.declared.Table.{Table}
use Rattle.table.specs.declared.Sense.{Sense}
use Rattle.table.specs.declared.Sense.TheVariants.{Unknown, YesNo, Ranged, Pin}
use Rattle.table.specs.First.{Seat, places, entry_at}
use Rattle.table.specs.First.Seat.{absent, seat}
use Rattle.table.specs.Controls.{at, sense_of}
use Rattle.table.specs.Keys.{Key, where_is, Bears, StandsAt, InTable}
use Rattle.sound.specs.Sound.{sound_of}
use Rattle.single.specs.Meaning.{SoundAs}
use Rattle.sound.specs.Meaning.{Sound, sound_reads}
use Rattle.setup.specs.declared.Part.{Part}
use Rattle.setup.specs.declared.Part.TheVariants.{Cur, Min, Max, Res}
use Rattle.setup.specs.declared.Asked.{Asked}
use Rattle.setup.specs.declared.Asked.TheVariants as asks
use Rattle.setup.specs.Setup.{AsksSet, AsksGet, code_of, target_of, asked_of}
use Rattle.setup.specs.Asking.{Asking, none, sets, gets, set_no_get}
use Rattle.setup.proofs.AskingLemmas.{asking}
use Rattle.deed.specs.Doing.{Doing}
use Rattle.deed.specs.Doing.Doing.{denied, given, changed}
use Rattle.answers.specs.Held.{is_ranged, of_range, lacking, unready, takes}
use Rattle.answers.specs.Answers.{held_by, sizes_of, sent_to, rest_of, all_take, cut_to, set_of, get_of}
use Rattle.answers.proofs.AnswersLemmas.{cut_long}
use Rattle.loads.specs.Load.{load_range, load_by, load_on}
use Rattle.request.specs.declared.State.{State}
use Rattle.request.specs.Outcome.{Outcome, number_of}
use Rattle.request.specs.Outcome.Outcome.{refused}
use Rattle.address.specs.Addressed.{addressed_in, unit_in}
use Rattle.address.specs.AddressedLaws.{found_stands, none_stands}
use Rattle.request.specs.Stored.{outcome_at}
use Rattle.request.specs.Load.{load_at, load_of}
use Rattle.request.specs.Request.{elsewhere_by, barred_by, done_at, answer_asked, request_of}
use Rattle.runs.specs.RequestRows.{Row, given as is-given, passed, NoRow, Owned, Addressed, Along, HasRange, Unloaded, Outside, Beyond, first, later, RangedThere, InRange, bytes_sent, last_rows, control_rows, addressed_rows, asked_rows, request_rows, load_rows, step_rows}
use Rattle.runs.specs.Runs.{Step, step_of}
use Rattle.runs.specs.Runs.Step.{load, request}
use Rattle.runs.proofs.Taken.{addressed_at}
use Rattle.runs.proofs.Addressing.{addressed_low, among_names, addressed_found, addressed_one}

-- the number of what is done at the controls
abbrev number_in : Doing → ℕ
number_in (denied n) = n
number_in (given bytes) = 0
number_in (changed cs) = 0

same_number : (t : Table) (ps : List ℕ) (o : Doing) → number_of (outcome_at t ps o) ≡ number_in o
same_number t ps (denied n) = refl
same_number t ps (given bytes) = refl
same_number t ps (changed cs) = refl

-- a row that is given where a test holds, and one that is given where it does not
module _ {rest : ℕ → Type 0} where
  by_test : {When : Type 0} (k : ℕ) (b : Bool) (o : Doing) → Reads b When → (b ≡ false → rest (number_in o))
      → Row k When rest (number_in (pick b (denied k) o))
  by_test k true o r h = is-given (r.says refl) refl
  by_test k false o r h = passed (r.denies refl) (h refl)

  by_kept : {P : Type 0} (k : ℕ) (b : Bool) (o : Outcome) → Reads b P → (b ≡ true → rest (number_of o))
      → Row k (P → ⊥) rest (number_of (pick b o (refused k)))
  by_kept k true o r h = passed (λ n. n (r.says refl)) (h refl)
  by_kept k false o r h = is-given (r.denies refl) refl

  row_one : {n : ℕ} {When : Type 0} → ((a b : ℕ) → rest a → rest b → a ≡ b) → (a b : ℕ) → Row n When rest a → Row n When rest b → a ≡ b
  row_one h a b (is-given w e) (is-given v f) = e ∙ sym f
  row_one h a b (is-given w e) (passed n r) = absurd (n w)
  row_one h a b (passed n r) (is-given w e) = absurd (n w)
  row_one h a b (passed n r) (passed m q) = h a b r q

no_row_one : (a b : ℕ) → NoRow a → NoRow b → a ≡ b
no_row_one a b e f = e ∙ sym f

reads_false : (b : Bool) → Reads (not b) (b ≡ false)
reads_false true = record { says = λ e. absurd (true≠false (sym e)); denies = λ e f. true≠false f }
reads_false false = record { says = λ e. refl; denies = λ e. absurd (true≠false e) }

ranged_reads : (k : Sense) → Reads (is_ranged k) ((r : Sort) × (k ≡ Ranged r))
ranged_reads Unknown = record { says = λ e. absurd (true≠false (sym e)); denies = λ e h. true≠false (sym (ap is_ranged h.1)) }
ranged_reads YesNo = record { says = λ e. absurd (true≠false (sym e)); denies = λ e h. true≠false (sym (ap is_ranged h.1)) }
ranged_reads (Ranged r) = record { says = λ e. (r, refl); denies = λ e. absurd (true≠false e) }
ranged_reads Pin = record { says = λ e. absurd (true≠false (sym e)); denies = λ e h. true≠false (sym (ap is_ranged h.1)) }

-- MIN, MAX and RES are the requests from 82 on
range_code : (part : Part) → leb 0x82 (code_of part) ≡ of_range part
range_code Cur = refl
range_code Min = refl
range_code Max = refl
range_code Res = refl

-- rows 35 to 39, of any list of controls
module _ (s d : List ℕ) (room : ℕ) where
  unready_reads : (cs : List Control) → Reads (any (λ c. unready (held_by c) c) cs) (SomeOf Unloaded cs)
  unfolding unready
  unready_reads cs = reads_any _ Unloaded (λ c. reads_and _ _ (ranged_reads (held_by c)) (reads_false c.loaded)) cs

  outside_reads : (k : Sense) (c : Control) (x : ℕ) → SoundAs k c → Reads (not (takes k c x)) (Outside k c x)
  outside_reads Unknown c x h = absurd h
  outside_reads YesNo c x h = reads_same (reads_not _ (reads_le x 1)) (λ n. omega arith) (λ o l. omega arith)
  outside_reads (Ranged r) c x h = record { says = λ e. absurd (true≠false (sym e)); denies = λ e o. o }
  outside_reads Pin c x h = reads_same (reads_not _ (reads_and _ _ (reads_le 1 x) (reads_le x c.pins))) out (λ o l. ⊎_elim (λ (q : x < 1). let z = l.0 in omega arith) (λ (q : c.pins < x). let z = l.1 in omega arith) o)
    where
      out : ((1 ≤ x) × (x ≤ c.pins) → ⊥) → (x < 1) ⊎ (c.pins < x)
      out n =
          ⊎_elim (λ (l : x < 1). inl l)
          (λ (l : x < 1 → ⊥). ⊎_elim (λ (q : c.pins < x). inr q) (λ (q : c.pins < x → ⊥). absurd (n (omega arith, omega arith))) (decided (ltb c.pins x) (reads_lt c.pins x)))
          (decided (ltb x 1) (reads_lt x 1))

  not_both : (a b : Bool) → not (a && b) ≡ (not a || not b)
  not_both true b = refl
  not_both false b = refl

  none_beyond : {cs : List Control} {e : List ℕ} → Beyond cs e → cs ≡ [] → ⊥
  none_beyond (first {c} {cs} o) i = Memᴰ.not-nil (subst (λ (l : List Control). c ∈ l) i (Memᴰ.head refl))
  none_beyond (later {c} {cs} b) i = Memᴰ.not-nil (subst (λ (l : List Control). c ∈ l) i (Memᴰ.head refl))

  beyond_reads : (cs : List Control) (e : List ℕ) → ((c : Control) → c ∈ cs → SoundAs (held_by c) c) → Reads (not (all_take cs e)) (Beyond cs e)
  unfolding all_take
  beyond_reads [] e h = record { says = λ z. absurd (true≠false (sym z)); denies = λ z b. none_beyond b refl }
  beyond_reads (c ∷ cs) e h =
      rw (not_both (takes (held_by c) c (sent_to c e)) (all_take cs (rest_of c e)))
      (reads_same (reads_or _ _ (outside_reads (held_by c) c (sent_to c e) (h c (Memᴰ.head refl))) (beyond_reads cs (rest_of c e) (λ x m. h x (Memᴰ.tail m))))
      (⊎_elim (λ o. first o) (λ b. later b))
      either)
    where
      either : Beyond (c ∷ cs) e → Outside (held_by c) c (sent_to c e) ⊎ Beyond cs (rest_of c e)
      either (first o) = inl o
      either (later b) = inr b

  module _ (cs : List Control) (a : AsksSet s) where
    no_get : {Q : Type 0} → AsksGet s × Q → ⊥
    no_get h = set_no_get s a h.0

    settled_rows : (b : Bool) → Reads (not b) (Beyond cs d) → (es : List Control) → last_rows s d room cs (number_in (pick b (changed es) (denied 38)))
    settled_rows true r es = passed (λ x. r.denies refl x.1) (passed no_get refl)
    settled_rows false r es = is-given (a, r.says refl) refl

    set_rows : ((c : Control) → c ∈ cs → SoundAs (held_by c) c) → control_rows s d room cs (number_in (set_of cs (word s 6) d))
    unfolding set_of
    set_rows h =
        passed no_get
        (by_test 36 _ _ (unready_reads cs) (λ _.
        by_test 37 _ _
        (reads_same (reads_or _ _ (reads_not _ (reads_eq (word s 6) (sizes_of cs))) (reads_not _ (reads_eq (length d) (sizes_of cs)))) (λ n. (a, n)) (λ n. n.1))
        (λ _. settled_rows (all_take cs d) (beyond_reads cs d h) _)))

  module _ (cs : List Control) (a : AsksGet s) (part : Part) (code : byte s 1 ≡ code_of part) where
    no_set : {Q : Type 0} → AsksSet s × Q → ⊥
    no_set h = set_no_get s h.0 a

    lacking_reads : (c : Control) → Reads (lacking (held_by c) part) ((0x82 ≤ byte s 1) × (HasRange c.selector → ⊥))
    unfolding lacking
    lacking_reads c = let r : Reads (of_range part) (0x82 ≤ byte s 1) = rw (code, ← range_code part) (reads_le 0x82 (code_of part)) in reads_and _ _ r (reads_not _ (ranged_reads (held_by c)))

    some_lacking : Reads (any (λ c. lacking (held_by c) part) cs) (AsksGet s × ((0x82 ≤ byte s 1) × SomeOf (λ c. HasRange c.selector → ⊥) cs))
    some_lacking =
        reads_same (reads_any _ _ lacking_reads cs)
        (λ h. (a, (h.has.0, record { one = h.one; among = h.among; has = h.has.1 })))
        (λ h. let k = h.1.1 in record { one = k.one; among = k.among; has = (h.1.0, k.has) })

    no_room : Reads (ltb room (length (cut_to (word s 6) part cs))) (AsksGet s × (room < bytes_sent s cs))
    no_room = rw (cut_long (word s 6) part cs) (reads_same (reads_lt room (bytes_sent s cs)) (λ l. (a, l)) (λ h. h.1))

    get_rows : control_rows s d room cs (number_in (get_of part cs (word s 6) room))
    unfolding get_of
    get_rows =
        by_test 35 _ _ some_lacking (λ _.
        by_test 36 _ _ (unready_reads cs) (λ _.
        passed no_set (passed no_set (by_test 39 _ _ no_room (λ _. refl)))))

-- what stands in a table that 30 does not turn away
module _ (t : Table) (sound : Sound t) where
  owned_reads : (u : ℕ) → Reads (unit_in t u) (Owned t u)
  unfolding unit_in
  owned_reads u =
      let few = sound.few in
      reads_same (reads_somewhere (λ q. eqb (at t q).unit u) (λ q. (at t q).unit ≡ u) (places t) (λ q l. reads_eq (at t q).unit u))
      (λ k. let i = k.1 in record { index = k.0; inside = omega arith; unit = k.2 })
      (λ o. let i = o.inside in (o.index, omega arith, o.unit))

  bears_stands : (k : Key) (c : Control) (i : InTable t c) → Bears k c → StandsAt t k i.index
  bears_stands k c i b = record { inside = i.inside; bears = rw i.is b }

  each_sound : (s : List ℕ) (cs : List Control) → Addressed t s cs → (c : Control) → c ∈ cs → SoundAs (held_by c) c
  each_sound s cs a c m = let h = ((a.each c).0 m).0 in rw (← h.is) (sound.each h.index h.inside)

-- rows 32 to 39, of what is done at the addressed controls
module _ (st : State) (sound : Sound st.table) (s d : List ℕ) (room : ℕ) (act : List Control → Doing)
    (rows : (cs : List Control) → Addressed st.table s cs → control_rows s d room cs (number_in (act cs))) where
  abbrev t : Table
  t = st.table

  abbrev rest_rows : ℕ → Type 0
  rest_rows = Row 33 (Owned t (byte s 5) → ⊥) (Along t s (addressed_rows s d room))

  -- where a control is addressed its unit has one
  owned_by : (ps : List ℕ) → addressed_at t s ≡ ps → (p : ℕ) → p ∈ ps → Owned t (byte s 5)
  owned_by ps e p m =
      let i : p ∈ addressed_at t s = rw e m in
      record { index = p; inside = addressed_low t s p i; unit = (among_names t s p i).unit }

  found_rows : (ps : List ℕ) → addressed_at t s ≡ ps → Addressed t s (map (at t) ps) → (b : Bool) → Reads b (Owned t (byte s 5)) → unit_in t (byte s 5) ≡ b
      → rest_rows (number_of (done_at t (byte s 5) ps act))
  unfolding done_at
  found_rows (p ∷ ps) e l b r h =
      passed (λ n. n (owned_by (p ∷ ps) e p (Memᴰ.head refl)))
      (map (at t) (p ∷ ps), (l, passed (λ i. Memᴰ.not-nil (subst (λ (x : List Control). at t p ∈ x) i (Memᴰ.head refl))) (rw (same_number t (p ∷ ps) (act (map (at t) (p ∷ ps)))) (rows (map (at t) (p ∷ ps)) l))))
  found_rows [] e l true r h = passed (λ n. n (r.says refl)) (rw h ([], (l, is-given refl refl)))
  found_rows [] e l false r h = rw h (is-given (r.denies refl) refl)

  here_rows : rest_rows (number_of (done_at t (byte s 5) (addressed_in t (byte s 5) (byte s 2) (byte s 3)) act))
  here_rows = found_rows (addressed_at t s) refl (addressed_found t s sound) (unit_in t (byte s 5)) (owned_reads t sound (byte s 5)) refl

module _ (st : State) (sound : Sound st.table) (s d : List ℕ) (room : ℕ) where
  -- 32 where the interface is another
  on_interface : (k : Asked) → barred_by k st.control ≡ pick (eqb (byte s 4) st.control) 0 32 → (o : Outcome) (rest : ℕ → Type 0)
      → rest (number_of o)
      → Row 32 (byte s 4 ≡ st.control → ⊥) rest (number_of (pick (eqb (barred_by k st.control) 0) o (refused (barred_by k st.control))))
  on_interface k e o rest h = rw e (go (eqb (byte s 4) st.control) (reads_eq (byte s 4) st.control))
    where
      go : (b : Bool) → Reads b (byte s 4 ≡ st.control)
          → Row 32 (byte s 4 ≡ st.control → ⊥) rest (number_of (pick (eqb (pick b 0 32) 0) o (refused (pick b 0 32))))
      go true r = passed (λ n. n (r.says refl)) h
      go false r = is-given (r.denies refl) refl

  asked_rows_lem : (k : Asked) → Asking s k → asked_rows st s d room (number_of (answer_asked st k d room))
  unfolding answer_asked elsewhere_by
  asked_rows_lem _ (none w) = is-given w refl
  asked_rows_lem _ (sets l a) =
      passed (λ n. n (l, inl a))
      (on_interface (asks.Set (target_of s)) refl _ _
      (here_rows st sound s d room (λ cs. set_of cs (word s 6) d) (λ cs h. set_rows s d room cs a (each_sound st.table sound s cs h))))
  asked_rows_lem _ (gets part l a c) =
      passed (λ n. n (l, inr a))
      (on_interface (asks.Get part (target_of s)) refl _ _
      (here_rows st sound s d room (λ cs. get_of part cs (word s 6) room) (λ cs h. get_rows s d room cs a part c)))

pub request_rows_lem : (st : State) (s d : List ℕ) (room : ℕ) → request_rows st s d room (number_of (request_of st s d room))
unfolding request_of request_rows
request_rows_lem st s d room = by_kept 30 (sound_of st.table) _ (sound_reads st.table) (λ e. asked_rows_lem st ((sound_reads st.table).says e) s d room (asked_of s) (asking s))

pub request_row_one : (st : State) (s d : List ℕ) (room a b : ℕ) → request_rows st s d room a → request_rows st s d room b → a ≡ b
unfolding request_rows
request_row_one st s d room = row_one (row_one (row_one (row_one along_one)))
  where
    along_one : (a b : ℕ) → Along st.table s (addressed_rows s d room) a → Along st.table s (addressed_rows s d room) b → a ≡ b
    along_one a b (cs, (h, x)) (es, (k, y)) =
        row_one (row_one (row_one (row_one (row_one (row_one no_row_one))))) a b x
        (subst (λ (l : List Control). addressed_rows s d room l b) (addressed_one st.table s es cs k h) y)

-- loads
module _ (t : Table) (sound : Sound t) (k : Key) (range : Range) (w : ℕ) where
  abbrev range_rows : ℕ → Type 0
  range_rows = Row 20 (RangedThere t k → ⊥) (Row 21 (InRange k.selector range w → ⊥) NoRow)

  in_range : (r : Sort) → sense_of k.selector ≡ Ranged r → Reads (legal_of r range && fits_of r w) (InRange k.selector range w)
  in_range r e =
      reads_same (reads_and _ _ (legal_means r range) (fits_reads r w))
      (λ h. record { sort = r; ranged = e; legal = h.0; fits = h.1 })
      (λ h. let q : Ranged h.sort ≡ Ranged r = sym h.ranged ∙ e in let i : h.sort ≡ r = cc in (rw (← i) h.legal, rw (← i) h.fits))

  unranged : (h : Sense) → sense_of k.selector ≡ h → is_ranged h ≡ false → RangedThere t k → ⊥
  unranged h e f x = true≠false (sym (ap is_ranged x.ranged.1) ∙ ap is_ranged e ∙ f)

  by_range : (r : Sort) (c : Control) → sense_of k.selector ≡ Ranged r → (b : Bool) → Reads b (InRange k.selector range w) → (es : List Control)
      → Row 21 (InRange k.selector range w → ⊥) NoRow (number_in (pick b (changed es) (denied 21)))
  by_range r c e true q es = passed (λ n. n (q.says refl)) refl
  by_range r c e false q es = is-given (q.denies refl) refl

  by_sense : (c : Control) → InTable t c → Bears k c → (h : Sense) → sense_of k.selector ≡ h → range_rows (number_in (load_by h c range w))
  unfolding load_by load_range
  by_sense c i b Unknown e = is-given (unranged Unknown e refl) refl
  by_sense c i b YesNo e = is-given (unranged YesNo e refl) refl
  by_sense c i b (Ranged r) e = passed (λ n. n (record { control = c; there = i; bears = b; ranged = (r, e) })) (by_range r c e _ (in_range r e) _)
  by_sense c i b Pin e = is-given (unranged Pin e refl) refl

  by_place : (f : Seat) → where_is t k ≡ f → range_rows (number_of (load_at t (entry_at t f) range w))
  unfolding load_at
  by_place absent e = is-given (λ h. none_stands t sound k e h.there.index (bears_stands t sound k h.control h.there h.bears)) refl
  by_place (seat p) e =
      let a = found_stands t k p e in
      rw (same_number t (p ∷ []) (load_on (at t p) range w))
      (by_sense (at t p) (record { index = p; inside = a.inside; is = refl }) a.bears (sense_of (at t p).selector) (ap sense_of (sym a.bears.selector)))

pub load_rows_lem : (st : State) (k : Key) (range : Range) (w : ℕ)
    → load_rows st k range w (number_of (load_of st k.unit k.channel k.selector range w))
unfolding load_of load_rows
load_rows_lem st k range w = by_kept 30 (sound_of st.table) _ (sound_reads st.table) (λ e. by_place st.table ((sound_reads st.table).says e) k range w (where_is st.table k) refl)

pub load_row_one : (st : State) (k : Key) (range : Range) (w a b : ℕ) → load_rows st k range w a → load_rows st k range w b → a ≡ b
unfolding load_rows
load_row_one st k range w = row_one (row_one (row_one no_row_one))

pub step_rows_lem : (st : State) (step : Step) → step_rows st step (number_of (step_of st step))
step_rows_lem st (load k range w) = load_rows_lem st k range w
step_rows_lem st (request s d room) = request_rows_lem st s d room

pub step_row_one : (st : State) (step : Step) (a b : ℕ) → step_rows st step a → step_rows st step b → a ≡ b
step_row_one st (load k range w) = load_row_one st k range w
step_row_one st (request s d room) = request_row_one st s d room
