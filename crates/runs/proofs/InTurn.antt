-- A request of several controls is the single requests of each, one after another (document 02, No. 2). An addressed control is the only one
-- that its single request addresses: no other has its unit, channel and selector, and its channel is not 255 (single_place). So its single
-- request makes the tests that the request of all makes of it, on the same piece of the data (set_alone, get_alone). What a Set stores stands
-- at that control's index: the controls to come stand as they stood, in a table that 30 has nothing against (standing_on). By induction along
-- the list none of them is refused exactly where the tests of all pass, and then they leave what all leave (set_runs, get_runs). No law
-- here looks at a selector or a size.
--   get_asks ==  what a Get of a part is read as
--   in_turn_lem  ==  so it is in every state whose table 30 has nothing against, for every setup that 31 to 34 let pass
use Prim.Native.Nat.{ℕ, ◌≤◌, ◌<◌}
use mathlib.Core.Path.{◌≡◌, refl, sym, ap, ◌∙◌, subst}
use mathlib.Core.List.Memᴰ
use mathlib.Core.List.{List, [], ◌∷◌, ◌++◌, map, append-nil}
use mathlib.Core.Bool.{Bool, true, false, not, ◌&&◌, or-false, and-true, and-false}
use mathlib.Core.Logic.{◌⊎◌, inl, inr, ⊎_elim}
use native.Mathlib.Omega.{arith}
use lib.Dec.{eqb, ltb}
use lib.ListN.{length, take, length-drop}
use lib.Seq.{take-take, take-nil, take_all, length-take-le}
use Rattle.ground.specs.Pick.{pick, yes, true≠false, Reads, shows, refutes, decided, reads_same, reads_eq, reads_lt, reads_or, reads_not}
use Rattle.ground.specs.Numbers.{byte, word, Bytes}
use Rattle.ground.specs.Lists.{any}
use Rattle.graph.specs.Members.{◌∈◌, map_same}
use Rattle.table.specs.declared.Control.{Control}
use Rattle.table.specs.declared.Table.{Table}
use Rattle.table.specs.Controls.{at, placed, sense_of}
use Rattle.table.specs.Placed.{placed_elsewhere}
use Rattle.sound.specs.Meaning.{Sound, sound_reads}
use Rattle.setup.specs.declared.Part.{Part}
use Rattle.setup.specs.declared.Part.TheVariants.{Cur, Min, Max, Res}
use Rattle.setup.specs.declared.Target.{Target}
use Rattle.setup.specs.declared.Asked.{Asked}
use Rattle.setup.specs.declared.Asked.TheVariants as asks
use Rattle.setup.specs.Setup.{AsksSet, AsksGet, WellAsked, code_of, target_of, get_asked, asked_by, asked_of}
use Rattle.setup.specs.Asking.{Asking, none, sets, gets, set_no_get}
use Rattle.setup.proofs.AskingLemmas.{asking}
use Rattle.deed.specs.Doing.{Doing}
use Rattle.deed.specs.Reply.{low_first, low_first_long}
use Rattle.deed.specs.Doing.Doing.{denied, given, changed}
use Rattle.answers.specs.Held.{lacking, part_of, unready, takes, stored_for, with_cur}
use Rattle.answers.specs.Answers.{held_by, size_in, sizes_of, sent_to, rest_of, all_take, all_set, block_of, misfits, cut_to, set_of, get_of}
use Rattle.answers.proofs.AnswersLemmas.{cut_long}
use Rattle.request.specs.declared.State.{State}
use Rattle.request.specs.Outcome.{Outcome, bytes_of, state_after}
use Rattle.request.specs.Outcome.Outcome.{refused, got, done}
use Rattle.address.specs.AddressedLaws.{sound_channel, stands_one}
use Rattle.request.specs.Stored.{stored_at, outcome_at}
use Rattle.request.specs.Request.{elsewhere_by, done_at, answer_asked, request_of}
use Rattle.runs.specs.Runs.{addressed_by, Step, step_of, accepted, after}
use Rattle.runs.specs.Runs.Step.{request}
use Rattle.runs.specs.RequestRows.{Addressed, bytes_sent}
use Rattle.runs.specs.Promises.{key_in}
use Rattle.runs.specs.InTurn.{single_of, singles_of, none_refused, replies_of, OfWhole, InTurn}
use Rattle.request.specs.Stored.{Apart, apart}
use Rattle.runs.proofs.Shares.{bytes_take, bytes_drop}
use Rattle.runs.proofs.Taken.{addressed_at}
use Rattle.runs.proofs.Addressing.{addressed_apart, addressed_low, names_among, among_names, addressed_found, addressed_one}
use Rattle.runs.proofs.Alone.{step_sound}

-- what a setup that asks something is read as
set_asks : (g : Target) → asked_by g 0x21 1 ≡ asks.Set g
unfolding asked_by
set_asks g = refl

pub get_asks : (g : Target) (part : Part) → asked_by g 0xA1 (code_of part) ≡ asks.Get part g
unfolding asked_by get_asked
get_asks g Cur = refl
get_asks g Min = refl
get_asks g Max = refl
get_asks g Res = refl

module _ (s : List ℕ) (long : length s ≡ 8) where
  set_read : AsksSet s → asked_of s ≡ asks.Set (target_of s)
  unfolding asked_of
  set_read a = yes _ _ (shows (reads_eq (length s) 8) long) ∙ rw (a.0, a.1) (set_asks (target_of s))

  get_read : (part : Part) → byte s 0 ≡ 0xA1 → byte s 1 ≡ code_of part → asked_of s ≡ asks.Get part (target_of s)
  unfolding asked_of
  get_read part a e = yes _ _ (shows (reads_eq (length s) 8) long) ∙ rw (a, e) (get_asks (target_of s) part)

  part_asked : AsksGet s → (part : Part) × (byte s 1 ≡ code_of part)
  part_asked a = go (asked_of s) (asking s)
    where
      go : (k : Asked) → Asking s k → (part : Part) × (byte s 1 ≡ code_of part)
      go _ (none w) = absurd (w (long, inr a))
      go _ (sets l b) = absurd (set_no_get s b a)
      go _ (gets part l b e) = (part, e)

-- a request that 30 to 32 let pass is done at the controls that it addresses
module _ (st : State) (sound : Sound st.table) (s d : List ℕ) (room : ℕ) (here : byte s 4 ≡ st.control) where
  abbrev done_by : (List Control → Doing) → Outcome
  done_by act = done_at st.table (byte s 5) (addressed_at st.table s) act

  unbarred : eqb (elsewhere_by (target_of s) st.control) 0 ≡ true
  unfolding elsewhere_by
  unbarred = ap (λ (b : Bool). eqb (pick b 0 32) 0) (shows (reads_eq (byte s 4) st.control) here)

  read_as : (k : Asked) → asked_of s ≡ k → request_of st s d room ≡ answer_asked st k d room
  unfolding request_of
  read_as k e = yes _ _ (shows (sound_reads st.table) sound) ∙ ap (λ (x : Asked). answer_asked st x d room) e

  set_done : asked_of s ≡ asks.Set (target_of s) → request_of st s d room ≡ done_by (λ cs. set_of cs (word s 6) d)
  unfolding answer_asked
  set_done e = read_as (asks.Set (target_of s)) e ∙ yes _ _ unbarred

  get_done : (part : Part) → asked_of s ≡ asks.Get part (target_of s) → request_of st s d room ≡ done_by (λ cs. get_of part cs (word s 6) room)
  unfolding answer_asked
  get_done part e = read_as (asks.Get part (target_of s)) e ∙ yes _ _ unbarred

done_some : (t : Table) (u : ℕ) (ps : List ℕ) (act : List Control → Doing) → (map (at t) ps ≡ [] → ⊥)
    → done_at t u ps act ≡ outcome_at t ps (act (map (at t) ps))
unfolding done_at
done_some t u [] act n = absurd (n refl)
done_some t u (p ∷ ps) act n = refl

-- indices of which none stands twice
apart_head : {p : ℕ} {ps : List ℕ} → Apart (p ∷ ps) → p ∈ ps → ⊥
apart_head (apart n a) = n

apart_tail : {p : ℕ} {ps : List ℕ} → Apart (p ∷ ps) → Apart ps
apart_tail (apart n a) = a

only_one : (p : ℕ) (ps : List ℕ) → Apart ps → p ∈ ps → ((q : ℕ) → q ∈ ps → q ≡ p) → ps ≡ p ∷ []
only_one p [] a m h = absurd (Memᴰ.not-nil m)
only_one p (q ∷ []) a m h = ap (λ (r : ℕ). r ∷ []) (h q (Memᴰ.head refl))
only_one p (q ∷ r ∷ ps) a m h =
    absurd (apart_head a (Memᴰ.head (h q (Memᴰ.head refl) ∙ sym (h r (Memᴰ.tail (Memᴰ.head refl))))))

-- a control of the setup's unit and selector is the one that its single request addresses
module _ (t : Table) (sound : Sound t) (s : List ℕ) (p : ℕ) (inside : p < t.count) (unit : (at t p).unit ≡ byte s 5)
    (selector : (at t p).selector ≡ byte s 3) where
  abbrev alone : List ℕ
  alone = single_of s (at t p)

  single_place : addressed_at t alone ≡ p ∷ []
  single_place =
      only_one p (addressed_at t alone) (addressed_apart t alone) (names_among t alone sound p inside (record { unit = unit; selector = selector; channel = inl refl })) same
    where
      same : (q : ℕ) → q ∈ addressed_at t alone → q ≡ p
      same q m =
          let h = among_names t alone q m in
          let low = sound_channel (sense_of (at t p).selector) (at t p) (sound.each p inside) in
          ⊎_elim
          (λ (e : (at t q).channel ≡ (at t p).channel).
          stands_one t sound (key_in (at t p)) q p
          (record { inside = addressed_low t alone q m; bears = record { unit = h.unit ∙ sym unit; channel = e; selector = h.selector ∙ sym selector } })
          (record { inside = inside; bears = record { unit = refl; channel = refl; selector = refl } }))
          (λ (e : ((at t p).channel ≡ 255) × (byte s 3 ≡ 0 → ⊥)). let z = e.0 in absurd (omega arith))
          h.channel

single_size : (s : List ℕ) (c : Control) → word (single_of s c) 6 ≡ size_in c
single_size s c = omega arith

-- what a run comes to: none of its steps is refused exactly where good holds, and then it leaves w and is answered with the bytes
record Comes (v : State) (run : List Step) (good : Bool) (w : State) (bytes : List ℕ) : Type 0 where
  agrees : none_refused v run ≡ good
  leaves : good ≡ true → after v run ≡ w
  told : good ≡ true → replies_of v run ≡ bytes

module _ (v : State) (step : Step) (run : List Step) (good : Bool) (w : State) (bytes : List ℕ) where
  comes_off : (n : ℕ) → step_of v step ≡ refused n → good ≡ false → Comes v (step ∷ run) good w bytes
  unfolding none_refused
  comes_off n e f = record {
    agrees = ap (λ (x : Outcome). accepted x && none_refused (state_after v x) run) e ∙ sym f;
    leaves = λ z. absurd (true≠false (sym z ∙ f));
    told = λ z. absurd (true≠false (sym z ∙ f));
  }

  comes_on : (o : Outcome) → step_of v step ≡ o → accepted o ≡ true → Comes (state_after v o) run good w bytes
      → Comes v (step ∷ run) good w (bytes_of o ++ bytes)
  unfolding none_refused after replies_of
  comes_on o e k r = record {
    agrees = ap (λ (x : Outcome). accepted x && none_refused (state_after v x) run) e ∙ rw k r.agrees;
    leaves = λ z. ap (λ (x : Outcome). after (state_after v x) run) e ∙ r.leaves z;
    told = λ z. ap (λ (x : Outcome). bytes_of x ++ replies_of (state_after v x) run) e ∙ ap (λ (l : List ℕ). bytes_of o ++ l) (r.told z);
  }

-- the controls that are still to be asked stand as they stood, in the state that the requests before left
record Standing (s : List ℕ) (v : State) (ps : List ℕ) : Type 0 where
  sound : Sound v.table
  here : byte s 4 ≡ v.control
  apart : Apart ps
  inside : (p : ℕ) → p ∈ ps → p < v.table.count
  unit : (p : ℕ) → p ∈ ps → (at v.table p).unit ≡ byte s 5
  selector : (p : ℕ) → p ∈ ps → (at v.table p).selector ≡ byte s 3

misfits_reads : (cs : List Control) (n : ℕ) (d : List ℕ) → Reads (misfits cs n d) ((n ≡ sizes_of cs → ⊥) ⊎ (length d ≡ sizes_of cs → ⊥))
misfits_reads cs n d = reads_or _ _ (reads_not _ (reads_eq n (sizes_of cs))) (reads_not _ (reads_eq (length d) (sizes_of cs)))

-- a Set and a Get of one control
abbrev set_as : Control → List ℕ → Control
set_as c d = with_cur (stored_for (held_by c) c (sent_to c d)) c

set_alone : (c : Control) (d : List ℕ) → size_in c ≤ length d
    → set_of (c ∷ []) (size_in c) (take (size_in c) d)
    ≡ pick (unready (held_by c) c) (denied 36) (pick (takes (held_by c) c (sent_to c d)) (changed (set_as c d ∷ [])) (denied 38))
unfolding set_of any sizes_of all_take all_set
set_alone c d l =
    let one : sizes_of (c ∷ []) ≡ size_in c = omega arith in
    let long : length (take (size_in c) d) ≡ size_in c = length-take-le (size_in c) d l in
    let reads = misfits_reads (c ∷ []) (size_in c) (take (size_in c) d) in
    let fits : misfits (c ∷ []) (size_in c) (take (size_in c) d) ≡ false = refutes reads (⊎_elim (λ n. n (sym one)) (λ n. n (long ∙ sym one))) in
    rw (fits, or-false (unready (held_by c) c), take-take (size_in c) (size_in c) d (omega arith), and-true (takes (held_by c) c (sent_to c d)))

abbrev value_of : Part → Control → List ℕ
value_of part c = low_first (size_in c) (part_of part c)

get_alone : (part : Part) (c : Control)
    → get_of part (c ∷ []) (size_in c) (size_in c)
    ≡ pick (lacking (held_by c) part) (denied 35) (pick (unready (held_by c) c) (denied 36) (given (value_of part c)))
unfolding get_of any block_of
get_alone part c =
    let long : length (value_of part c) ≡ size_in c = low_first_long (size_in c) (part_of part c) in
    let whole : take (size_in c) (value_of part c ++ []) ≡ value_of part c = rw (append-nil (value_of part c)) (take_all (size_in c) (value_of part c) (omega arith)) in
    let room : ltb (size_in c) (length (value_of part c)) ≡ false = refutes (reads_lt _ _) (λ (l : size_in c < length (value_of part c)). omega arith) in
    rw (or-false (lacking (held_by c) part), or-false (unready (held_by c) c), whole, room)

-- what the single requests of a Set come to, and those of a Get
abbrev some_unready : List Control → Bool
some_unready cs = any (λ c. unready (held_by c) c) cs

abbrev some_lacking : Part → List Control → Bool
some_lacking part cs = any (λ c. lacking (held_by c) part) cs

abbrev SetRun : List ℕ → State → List ℕ → List Control → List ℕ → Type 0
SetRun s v ps cs d = Comes v (singles_of s cs d) (not (some_unready cs) && all_take cs d) (state_after v (done (stored_at v.table ps (all_set cs d)))) []

abbrev GetRun : List ℕ → Part → State → List Control → List ℕ → Type 0
GetRun s part v cs d = Comes v (singles_of s cs d) (not (some_lacking part cs) && not (some_unready cs)) v (block_of part cs)

-- the first of them
module _ (s : List ℕ) (v : State) (p : ℕ) (ps : List ℕ) (h : Standing s v (p ∷ ps)) (d : List ℕ) where
  abbrev c : Control
  c = at v.table p

  abbrev behind : List Control
  behind = map (at v.table) ps

  abbrev piece : List ℕ
  piece = take (size_in c) d

  abbrev ask : Step
  ask = request (single_of s c) piece (size_in c)

  -- the table that it leaves where it is a Set
  abbrev left : Table
  left = placed v.table p (set_as c d)

  single_at : (act : ℕ → List Control → Doing)
      → step_of v ask ≡ done_at v.table (byte s 5) (addressed_at v.table (single_of s c)) (act (word (single_of s c) 6))
      → step_of v ask ≡ outcome_at v.table (p ∷ []) (act (size_in c) (c ∷ []))
  unfolding done_at
  single_at act e =
      let m : p ∈ (p ∷ ps) = Memᴰ.head refl in
      e ∙ rw (single_place v.table h.sound s p (h.inside p m) (h.unit p m) (h.selector p m), single_size s c)

  -- the rest, in any table that 30 has nothing against and that has what stood there
  standing_rest : (u : Table) → Sound u → u.count ≡ v.table.count → ((q : ℕ) → q ∈ ps → at u q ≡ at v.table q)
      → Standing s (state_after v (done u)) ps
  standing_rest u sound count same = record {
    sound = sound;
    here = h.here;
    apart = apart_tail h.apart;
    inside = λ q m. rw count (h.inside q (Memᴰ.tail m));
    unit = λ q m. rw (same q m) (h.unit q (Memᴰ.tail m));
    selector = λ q m. rw (same q m) (h.selector q (Memᴰ.tail m));
  }

  rest_same : (q : ℕ) → q ∈ ps → at left q ≡ at v.table q
  rest_same q m = placed_elsewhere v.table p (set_as c d) q (λ i. apart_head h.apart (rw (← i) m))

  standing_on : Bytes d → step_of v ask ≡ done left → Standing s (state_after v (done left)) ps
  standing_on b e =
      standing_rest left (subst (λ (o : Outcome). Sound (state_after v o).table) e (step_sound v ask (bytes_take (size_in c) d b) h.sound)) refl rest_same

  module _ (asked : AsksSet s) where
    set_by : (x y : Bool) → unready (held_by c) c ≡ x → takes (held_by c) c (sent_to c d) ≡ y → size_in c ≤ length d
        → step_of v ask ≡ pick x (refused 36) (pick y (done left) (refused 38))
    unfolding stored_at
    set_by x y i j l =
        single_at (λ n cs. set_of cs n piece) (set_done v h.sound (single_of s c) piece (size_in c) h.here (set_read (single_of s c) refl asked))
        ∙ rw (set_alone c d l, i, j) (go x y)
      where
        go : (x y : Bool) → outcome_at v.table (p ∷ []) (pick x (denied 36) (pick y (changed (set_as c d ∷ [])) (denied 38)))
            ≡ pick x (refused 36) (pick y (done left) (refused 38))
        go true y = refl
        go false true = refl
        go false false = refl

    set_next : Bytes d → length d ≡ sizes_of (c ∷ behind)
        → ((w : State) → Standing s w ps → (e : List ℕ) → Bytes e → length e ≡ sizes_of (map (at w.table) ps) → SetRun s w ps (map (at w.table) ps) e)
        → (x y : Bool) → unready (held_by c) c ≡ x → takes (held_by c) c (sent_to c d) ≡ y → SetRun s v (p ∷ ps) (c ∷ behind) d
    unfolding singles_of any all_take all_set stored_at sizes_of
    set_next b l on true y i j = comes_off v ask _ _ _ _ 36 (set_by true y i j (omega arith)) (rw i)
    set_next b l on false false i j = comes_off v ask _ _ _ _ 38 (set_by false false i j (omega arith)) (rw (i, j) (and-false (not (some_unready behind))))
    set_next b l on false true i j =
        let e = set_by false true i j (omega arith) in
        let same : map (at left) ps ≡ behind = map_same _ _ ps rest_same in
        let long : length (rest_of c d) ≡ sizes_of behind = length-drop (size_in c) d ∙ omega arith in
        let r = on (state_after v (done left)) (standing_on b e) (rest_of c d) (bytes_drop (size_in c) d b) (rw same long) in
        rw (i, j) (comes_on v ask _ _ _ _ (done left) e refl (rw same at r))

  module _ (part : Part) (asked : byte s 0 ≡ 0xA1) (code : byte s 1 ≡ code_of part) where
    get_by : (x y : Bool) → lacking (held_by c) part ≡ x → unready (held_by c) c ≡ y
        → step_of v ask ≡ pick x (refused 35) (pick y (refused 36) (got (value_of part c)))
    get_by x y i j =
        single_at (λ n cs. get_of part cs n (size_in c))
        (get_done v h.sound (single_of s c) piece (size_in c) h.here part (get_read (single_of s c) refl part asked code))
        ∙ rw (get_alone part c, i, j) (go x y)
      where
        go : (x y : Bool) → outcome_at v.table (p ∷ []) (pick x (denied 35) (pick y (denied 36) (given (value_of part c))))
            ≡ pick x (refused 35) (pick y (refused 36) (got (value_of part c)))
        go true y = refl
        go false true = refl
        go false false = refl

    get_next : ((e : List ℕ) → GetRun s part v behind e) → (x y : Bool) → lacking (held_by c) part ≡ x → unready (held_by c) c ≡ y
        → GetRun s part v (c ∷ behind) d
    unfolding singles_of any block_of
    get_next on true y i j = comes_off v ask _ _ _ _ 35 (get_by true y i j) (rw i)
    get_next on false true i j = comes_off v ask _ _ _ _ 36 (get_by false true i j) (rw (i, j) (and-false (not (some_lacking part behind))))
    get_next on false false i j = rw (i, j) (comes_on v ask _ _ _ _ (got (value_of part c)) (get_by false false i j) refl (on _))

set_runs : (s : List ℕ) → AsksSet s → (ps : List ℕ) (v : State) → Standing s v ps → (d : List ℕ) → Bytes d → length d ≡ sizes_of (map (at v.table) ps)
    → SetRun s v ps (map (at v.table) ps) d
unfolding singles_of none_refused replies_of after any all_take stored_at
set_runs s a [] v h d b l = record { agrees = refl; leaves = λ z. refl; told = λ z. refl }
set_runs s a (p ∷ ps) v h d b l = set_next s v p ps h d a b l (λ w k e m n. set_runs s a ps w k e m n) _ _ refl refl

get_runs : (s : List ℕ) (part : Part) → byte s 0 ≡ 0xA1 → byte s 1 ≡ code_of part → (ps : List ℕ) (v : State) → Standing s v ps → (d : List ℕ)
    → GetRun s part v (map (at v.table) ps) d
unfolding singles_of none_refused replies_of after any block_of
get_runs s part a k [] v h d = record { agrees = refl; leaves = λ z. refl; told = λ z. refl }
get_runs s part a k (p ∷ ps) v h d =
    get_next s v p ps h d part a k
    (get_runs s part a k ps v (standing_rest s v p ps h d v.table h.sound refl (λ q m. refl)))
    _ _ refl refl

-- the tests of all, and what is done where they pass or do not
module _ (t : Table) (ps : List ℕ) where
  set_passed : (a m b : Bool) (es : List Control) → m ≡ false → (not a && b) ≡ true
      → outcome_at t ps (pick a (denied 36) (pick m (denied 37) (pick b (changed es) (denied 38)))) ≡ done (stored_at t ps es)
  set_passed true m b es e f = absurd (true≠false (sym f))
  set_passed false true b es e f = absurd (true≠false e)
  set_passed false false true es e f = refl
  set_passed false false false es e f = absurd (true≠false (sym f))

  set_barred : (a m b : Bool) (es : List Control) → (m ≡ true) ⊎ ((not a && b) ≡ false)
      → (n : ℕ) × (outcome_at t ps (pick a (denied 36) (pick m (denied 37) (pick b (changed es) (denied 38)))) ≡ refused n)
  set_barred true m b es x = (36, refl)
  set_barred false true b es x = (37, refl)
  set_barred false false true es x = absurd (⊎_elim (λ e. true≠false (sym e)) true≠false x)
  set_barred false false false es x = (38, refl)

  get_passed : (a b m : Bool) (bytes : List ℕ) → m ≡ false → (not a && not b) ≡ true
      → outcome_at t ps (pick a (denied 35) (pick b (denied 36) (pick m (denied 39) (given bytes)))) ≡ got bytes
  get_passed true b m bytes e f = absurd (true≠false (sym f))
  get_passed false true m bytes e f = absurd (true≠false (sym f))
  get_passed false false true bytes e f = absurd (true≠false e)
  get_passed false false false bytes e f = refl

  get_barred : (a b m : Bool) (bytes : List ℕ) → (m ≡ true) ⊎ ((not a && not b) ≡ false)
      → (n : ℕ) × (outcome_at t ps (pick a (denied 35) (pick b (denied 36) (pick m (denied 39) (given bytes)))) ≡ refused n)
  get_barred true b m bytes x = (35, refl)
  get_barred false true m bytes x = (36, refl)
  get_barred false false true bytes x = (39, refl)
  get_barred false false false bytes x = absurd (⊎_elim (λ e. true≠false (sym e)) true≠false x)

-- from what the single requests come to, and what the request of all does
module _ (st : State) (s d : List ℕ) (room : ℕ) (cs : List Control) (whole good : Bool) (w : State) (bytes : List ℕ) (o : Outcome) where
  turn : Reads whole (OfWhole s d room cs) → (whole ≡ false → Comes st (singles_of s cs d) good w bytes)
      → accepted o ≡ true → state_after st o ≡ w → bytes_of o ≡ take (word s 6) bytes → (whole ≡ false → good ≡ true → request_of st s d room ≡ o)
      → ((whole ≡ true) ⊎ (good ≡ false) → (n : ℕ) × (request_of st s d room ≡ refused n)) → InTurn st s d room cs
  turn reads comes ok state sent taken barred = record {
    together = λ free fit.
        let f = refutes reads fit in
        let r = comes f in
        let g = sym r.agrees ∙ free in
        let e = taken f g in
        record {
          taken = rw e ok;
          state = ap (state_after st) e ∙ state ∙ sym (r.leaves g);
          bytes = ap bytes_of e ∙ sent ∙ sym (ap (take (word s 6)) (r.told g));
        };
    otherwise = λ x.
        let n = go whole refl x in
        record { refused = ap accepted n.1; state = ap (state_after st) n.1; bytes = ap bytes_of n.1 };
  }
    where
      go : (b : Bool) → whole ≡ b → (none_refused st (singles_of s cs d) ≡ false) ⊎ OfWhole s d room cs → (n : ℕ) × (request_of st s d room ≡ refused n)
      go true f x = barred (inl f)
      go false f (inl x) = barred (inr (sym (comes f).agrees ∙ x))
      go false f (inr x) = absurd (reads.denies f x)

module _ (st : State) (sound : Sound st.table) (s d : List ℕ) (room : ℕ) (long : length s ≡ 8) (here : byte s 4 ≡ st.control)
    (some : addressed_by st.table s ≡ [] → ⊥) where
  abbrev t : Table
  t = st.table

  abbrev all : List Control
  all = addressed_by t s

  standing : Standing s st (addressed_at t s)
  standing = record {
    sound = sound;
    here = here;
    apart = addressed_apart t s;
    inside = addressed_low t s;
    unit = λ p m. (among_names t s p m).unit;
    selector = λ p m. (among_names t s p m).selector;
  }

  set_turn : AsksSet s → Bytes d → InTurn st s d room all
  unfolding set_of
  set_turn a b =
      turn st s d room all misfit _ _ _ (done (stored_at t (addressed_at t s) (all_set all d)))
      (reads_same (misfits_reads all (word s 6) d) (λ x. inl (a, x)) (⊎_elim (λ x. x.1) (λ x. absurd (set_no_get s a x.0))))
      (λ f. set_runs s a (addressed_at t s) st standing d b (sized f))
      refl refl (sym (take-nil (word s 6)))
      (λ f g. e ∙ set_passed t (addressed_at t s) (some_unready all) misfit (all_take all d) (all_set all d) f g)
      (λ x. let n = set_barred t (addressed_at t s) (some_unready all) misfit (all_take all d) (all_set all d) x in (n.0, e ∙ n.1))
    where
      misfit : Bool
      misfit = misfits all (word s 6) d

      e : request_of st s d room ≡ outcome_at t (addressed_at t s) (set_of all (word s 6) d)
      e = set_done st sound s d room here (set_read s long a) ∙ done_some t (byte s 5) (addressed_at t s) _ some

      sized : misfit ≡ false → length d ≡ sizes_of all
      sized f =
          ⊎_elim (λ (i : length d ≡ sizes_of all). i) (λ (n : length d ≡ sizes_of all → ⊥). absurd ((misfits_reads all (word s 6) d).denies f (inr n)))
          (decided (eqb (length d) (sizes_of all)) (reads_eq (length d) (sizes_of all)))

  get_turn : AsksGet s → InTurn st s d room all
  unfolding get_of
  get_turn a =
      turn st s d room all (ltb room (length sent)) _ _ _ (got sent)
      (rw (cut_long (word s 6) part all)
      (reads_same (reads_lt room (bytes_sent s all)) (λ l. inr (a, l)) (⊎_elim (λ x. absurd (set_no_get s x.0 a)) (λ x. x.1))))
      (λ f. get_runs s part a.0 code (addressed_at t s) st standing d)
      refl refl refl
      (λ f g. e ∙ get_passed t (addressed_at t s) (some_lacking part all) (some_unready all) (ltb room (length sent)) sent f g)
      (λ x. let n = get_barred t (addressed_at t s) (some_lacking part all) (some_unready all) (ltb room (length sent)) sent x in (n.0, e ∙ n.1))
    where
      part : Part
      part = (part_asked s long a).0

      code : byte s 1 ≡ code_of part
      code = (part_asked s long a).1

      sent : List ℕ
      sent = cut_to (word s 6) part all

      e : request_of st s d room ≡ outcome_at t (addressed_at t s) (get_of part all (word s 6) room)
      e = get_done st sound s d room here part (get_read s long part a.0 code) ∙ done_some t (byte s 5) (addressed_at t s) _ some

pub in_turn_lem : (st : State) → Sound st.table → (s d : List ℕ) (room : ℕ) → WellAsked s → byte s 4 ≡ st.control → (cs : List Control)
    → Addressed st.table s cs → (cs ≡ [] → ⊥) → Bytes d → InTurn st s d room cs
in_turn_lem st sound s d room asked here cs a some b =
    let e : addressed_by st.table s ≡ cs = addressed_one st.table s _ cs (addressed_found st.table s sound) a in
    let n : addressed_by st.table s ≡ [] → ⊥ = λ i. some (sym e ∙ i) in
    subst (InTurn st s d room) e
    (⊎_elim (λ x. set_turn st sound s d room asked.0 here n x b) (λ x. get_turn st sound s d room asked.0 here n x) asked.1)
