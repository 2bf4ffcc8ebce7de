-- Demand 2, of the next step and over every run: a Get that is accepted after any run of loads and requests whose data are bytes, from
-- any table that 30 does not turn away, answers the addressed controls: the CUR of each is the closest setting to its last accepted Set or
-- load, or its first value where there was none; MIN, MAX and RES are those of its last accepted load; a yes/no and a pin are
-- what the last accepted Set made them.
--   settles_one            ==  one number is settled where a number is wanted
--   next_get, next_set, next_load  ==  an accepted Get gives, an accepted Set and an accepted load store, what the papers ask
--   get_keeps, set_silent  ==  no Get changes the table, and no Set writes to the reply
--   run_found              ==  every control is found where it was
--   get_answers            ==  every Get that is accepted after a run is answered so
use Prim.Native.Nat.{ℕ, zero, suc, ◌<◌}
use mathlib.Core.Path.{◌≡◌, refl, sym, ap, ◌∙◌, subst}
use mathlib.Core.List.Memᴰ
use mathlib.Core.List.{List, [], ◌∷◌, ◌++◌, map}
use mathlib.Core.Bool.{false}
use mathlib.Core.Logic.{⊎_elim}
use native.Mathlib.Omega.{arith}
use lib.ListN.{take}
use borrow.Author.Tests.{not-false}
use Rattle.ground.specs.Pick.{pick, shows}
use Rattle.ground.specs.Numbers.{byte, word, Bytes}
use Rattle.ground.specs.Lists.{any}
use Rattle.graph.specs.Members.{◌∈◌}
use Rattle.setting.specs.Setting.{closest_to}
use Rattle.setting.specs.Legal.{fits_reads, legal_means}
use Rattle.setting.proofs.ClosestLemmas.{closest_self, closest_only}
use Rattle.setting.specs.declared.Sort.{Sort}
use Rattle.setting.specs.declared.Range.{Range}
use Rattle.table.specs.declared.Control.{Control}
use Rattle.table.specs.declared.Table.{Table}
use Rattle.table.specs.declared.Sense.{Sense}
use Rattle.table.specs.declared.Sense.TheVariants.{Unknown, YesNo, Ranged, Pin}
use Rattle.table.specs.First.{Seat}
use Rattle.table.specs.First.Seat.{absent}
use Rattle.table.specs.Controls.{at, placed, sense_of, size_of, range_of}
use Rattle.table.specs.Keys.{Key, where_is, StandsAt}
use Rattle.single.specs.Meaning.{SoundAs, loaded_legal, loaded_fits, loaded_setting}
use Rattle.sound.specs.Meaning.{Sound, sound_reads}
use Rattle.table.specs.Placed.{placed_here, placed_elsewhere, kept_found}
use Rattle.address.specs.Addressed.{most_addressed, wants_channel, seat_at, seats_from}
use Rattle.address.specs.AddressedLaws.{found_stands}
use Rattle.setup.specs.declared.Part.{Part}
use Rattle.setup.specs.declared.Part.TheVariants.{Cur, Min, Max, Res}
use Rattle.setup.specs.Setup.{AsksSet, AsksGet}
use Rattle.setup.specs.Asking.{set_no_get}
use Rattle.deed.specs.Reply.{low_first}
use Rattle.answers.specs.Held.{part_of, unready}
use Rattle.answers.specs.Answers.{held_by, block_of}
use Rattle.loads.specs.Load.{loaded_with}
use Rattle.request.specs.declared.State.{State}
use Rattle.request.specs.Outcome.{Outcome, number_of, bytes_of, table_after}
use Rattle.request.specs.Outcome.Outcome.{refused, got, done}
use Rattle.request.specs.Load.{load_of}
use Rattle.request.specs.Request.{request_of}
use Rattle.runs.specs.Runs.{addressed_by, Step, next, after, last_of, Wired}
use Rattle.runs.specs.Promises.{Settles, CurMeans, GetGiven, Turned, SetStored, LoadStored, Moved, Means, key_in, RightValue, Valued, none, more, in_bytes, GetAnswered}
use Rattle.runs.proofs.Shares.{any_front}
use Rattle.runs.proofs.Taken.{addressed_at, GetTaken, SetTaken, LoadTaken, get_taken, set_taken, load_taken, load_not_got}
use Rattle.runs.proofs.Addressing.{addressed_low, names_among, among_names, addressed_found}
use Rattle.runs.proofs.Sets.{shared, set_here, set_other, set_count}
use Rattle.runs.proofs.Kept.{load_same, index_inside, settles_closest}
use Rattle.runs.proofs.Moved.{stored_means, whole_run, sense_at}
use Rattle.runs.proofs.Alone.{alone}
use Rattle.runs.proofs.Refusals.{LoadNumber, load_30, load_20, load_21, RequestNumber, load_numbers, request_numbers}

pub settles_one : (s : Sort) (range : Range) (x v w : ℕ) → Settles s range x v → Settles s range x w → v ≡ w
settles_one s range x v w a b =
    let l = shows (legal_means s range) a.legal in
    let f = shows (fits_reads s x) a.asked in
    closest_only s range l x f v a.fits a.means ∙ sym (closest_only s range l x f w b.fits b.means)

map_some : (t : Table) (ps : List ℕ) → (ps ≡ [] → ⊥) → map (at t) ps ≡ [] → ⊥
map_some t [] n e = n refl
map_some t (p ∷ ps) n e = let z : ◌≡◌ {A = ℕ} 0 1 = cc in omega arith

module _ (st : State) where
  abbrev t : Table
  t = st.table

  -- what is accepted is a Get with its bytes, or a Set or a load with its table
  module _ (s d : List ℕ) (room : ℕ) where
    no_zero : {P : Type 0} (m : ℕ) → request_of st s d room ≡ refused m → m ≡ 0 → P
    no_zero m e z = absurd (let k : RequestNumber m = rw e at (request_numbers st s d room) in let f = k.from in omega arith)

    get_got : AsksGet s → number_of (request_of st s d room) ≡ 0 → (bytes : List ℕ) × (request_of st s d room ≡ got bytes)
    get_got a z = go (request_of st s d room) refl z
      where
        go : (o : Outcome) → request_of st s d room ≡ o → number_of o ≡ 0 → (bytes : List ℕ) × (request_of st s d room ≡ got bytes)
        go (refused m) e i = no_zero m e i
        go (got bytes) e i = (bytes, e)
        go (done v) e i = absurd (set_no_get s (set_taken st s d room v e).asked a)

    set_done : AsksSet s → number_of (request_of st s d room) ≡ 0 → (v : Table) × (request_of st s d room ≡ done v)
    set_done a z = go (request_of st s d room) refl z
      where
        go : (o : Outcome) → request_of st s d room ≡ o → number_of o ≡ 0 → (v : Table) × (request_of st s d room ≡ done v)
        go (refused m) e i = no_zero m e i
        go (got bytes) e i = absurd (set_no_get s a (get_taken st s d room bytes e).asked)
        go (done v) e i = (v, e)

  load_done : (k : Key) (range : Range) (w : ℕ) → number_of (load_of st k.unit k.channel k.selector range w) ≡ 0
      → (v : Table) × (load_of st k.unit k.channel k.selector range w ≡ done v)
  load_done k range w z = go (load_of st k.unit k.channel k.selector range w) refl z
    where
      no_number : (m : ℕ) → LoadNumber m → m ≡ 0 → ⊥
      no_number m load_30 i = omega arith
      no_number m load_20 i = omega arith
      no_number m load_21 i = omega arith

      go : (o : Outcome) → load_of st k.unit k.channel k.selector range w ≡ o → number_of o ≡ 0
          → (v : Table) × (load_of st k.unit k.channel k.selector range w ≡ done v)
      go (refused m) e i = absurd (no_number m (rw e at (load_numbers st k range w)) i)
      go (got bytes) e i = absurd (load_not_got st k range w bytes e)
      go (done v) e i = (v, e)

  get_given : (s bytes : List ℕ) → GetTaken t s bytes → GetGiven t s bytes
  get_given s bytes a = record {
    part = a.part;
    code = a.code;
    controls = addressed_by t s;
    addressed = addressed_found t s ((sound_reads t).says a.sound);
    some = map_some t (addressed_at t s) a.some;
    given = a.given;
  }

  pub next_get : (s d : List ℕ) (room : ℕ) → AsksGet s → number_of (request_of st s d room) ≡ 0 → GetGiven t s (bytes_of (request_of st s d room))
  next_get s d room a z =
      let g = get_got s d room a z in
      subst (GetGiven t s) (sym (ap bytes_of g.1)) (get_given s g.0 (get_taken st s d room g.0 g.1))

  pub get_keeps : (s d : List ℕ) (room : ℕ) → AsksGet s → table_after t (request_of st s d room) ≡ t
  get_keeps s d room a = go (request_of st s d room) refl
    where
      go : (o : Outcome) → request_of st s d room ≡ o → table_after t o ≡ t
      go (refused m) e = refl
      go (got bytes) e = refl
      go (done v) e = absurd (set_no_get s (set_taken st s d room v e).asked a)

  pub set_silent : (s d : List ℕ) (room : ℕ) → AsksSet s → bytes_of (request_of st s d room) ≡ []
  set_silent s d room a = go (request_of st s d room) refl
    where
      go : (o : Outcome) → request_of st s d room ≡ o → bytes_of o ≡ []
      go (refused m) e = refl
      go (got bytes) e = absurd (set_no_get s a (get_taken st s d room bytes e).asked)
      go (done v) e = refl

  module _ (sound : Sound t) where
    set_stored : (s d : List ℕ) → Bytes d → (v : Table) → SetTaken t s d v → SetStored t s d v
    set_stored s d b v a = record {
      controls = addressed_by t s;
      addressed = addressed_found t s sound;
      some = map_some t (addressed_at t s) a.some;
      each = λ i l n. turned i l (names_among t s sound i l n);
      others = λ i n. set_other t s d v sound a i (λ m. n (addressed_low t s i m) (among_names t s i m));
      count = set_count t s d v sound a;
    }
      where
        turned : (i : ℕ) → i < t.count → i ∈ addressed_at t s → Turned (addressed_by t s) d (at t i) (at v i)
        turned i l m =
            let g = shared t s d v sound a i m in
            let e = set_here t s d v sound a i m in
            record {
              piece = g.piece;
              share = g.share;
              sized = g.sized;
              cur = rw e (stored_means (held_by (at t i)) (at t i) g.piece (sound.each i l) g.ready (g.bytes b) g.sized);
              rest = rw e;
            }

    pub next_set : (s d : List ℕ) (room : ℕ) → Bytes d → AsksSet s → number_of (request_of st s d room) ≡ 0
        → SetStored t s d (table_after t (request_of st s d room))
    next_set s d room b a z =
        let g = set_done s d room a z in
        subst (SetStored t s d) (sym (ap (table_after t) g.1)) (set_stored s d b g.0 (set_taken st s d room g.0 g.1))

    load_stored : (k : Key) (range : Range) (w : ℕ) (v : Table) → LoadTaken t k range w v → LoadStored t k range w v
    load_stored k range w v a = rw a.table (record {
      index = p;
      stands = found_stands t k p a.there;
      loaded = rw here;
      ranged = rw here;
      cur = rw (here, ← sense_at t k p a.there, a.sense) (settles_closest a.sort range w (closest_to a.sort range w) a.legal a.fits refl);
      same = rw here (load_same a.sort range w (at t p));
      pins = rw here;
      others = λ q n. placed_elsewhere t p new q n;
      count = refl;
    })
      where
        p : ℕ
        p = a.index

        new : Control
        new = loaded_with a.sort range w (at t p)

        here : at (placed t p new) p ≡ new
        here = placed_here t p (index_inside t k p a.there sound) new

    pub next_load : (k : Key) (range : Range) (w : ℕ) → number_of (load_of st k.unit k.channel k.selector range w) ≡ 0
        → LoadStored t k range w (table_after t (load_of st k.unit k.channel k.selector range w))
    next_load k range w z =
        let g = load_done k range w z in
        subst (LoadStored t k range w) (sym (ap (table_after t) g.1)) (load_stored k range w g.0 (load_taken st k range w g.0 g.1))

-- every control is found where it was
pub run_found : (st : State) (run : List Step) (k : Key) → where_is (after st run).table k ≡ where_is st.table k
unfolding after
run_found st [] k = refl
run_found st (step ∷ run) k =
    let a = alone st step in
    run_found (next st step) run k ∙ kept_found st.table (next st step).table a.count a.same k.unit k.channel k.selector

-- the CUR of a table that 30 does not turn away means itself
first_means : (k : Sense) (c : Control) → SoundAs k c → unready k c ≡ false → CurMeans k (range_of c) c.cur c.cur
unfolding unready
first_means Unknown c h r = refl
first_means YesNo c h r = refl
first_means (Ranged s) c h r =
    let a = h.loaded (not-false c.loaded r) in
    settles_closest s (range_of c) c.cur c.cur (loaded_legal s c a) (loaded_fits s c a) (sym (closest_self s (range_of c) c.cur (loaded_setting s c a)))
first_means Pin c h r = refl

-- what CUR is after a run: what the last number told makes it, or its first value
cur_means : (t : Table) (k : Key) (p : ℕ) (rs : List Range) (ns : List ℕ) (v : Table) → Moved t k p rs ns v → SoundAs (sense_of k.selector) (at t p)
    → unready (sense_of k.selector) (at v p) ≡ false → CurMeans (sense_of k.selector) (range_of (at v p)) (last_of (at t p).cur ns) (at v p).cur
unfolding last_of
cur_means t k p rs [] v m h r = rw (m.unmoved refl) (first_means (sense_of k.selector) (at t p) h (rw (m.unmoved refl) at r))
cur_means t k p rs (n ∷ ns) v m h r = m.cur (λ e. let z : ◌≡◌ {A = ℕ} 0 1 = cc in omega arith)

part_means : (part : Part) (k : Sense) (c : Control) (range : Range) (x : ℕ) → range_of c ≡ range → CurMeans k (range_of c) x c.cur
    → (rs : List Range) (ns : List ℕ) (b : Control) → last_of (range_of b) rs ≡ range → last_of b.cur ns ≡ x → Means k part b rs ns (part_of part c)
part_means Cur k c range x e m rs ns b f g = rw (f, ← e, g) m
part_means Min k c range x e m rs ns b f g = rw (f, ← e)
part_means Max k c range x e m rs ns b f g = rw (f, ← e)
part_means Res k c range x e m rs ns b f g = rw (f, ← e)

-- whoever is addressed is addressed after every run
run_addressed : (st : State) (run : List Step) (s : List ℕ) → addressed_at (after st run).table s ≡ addressed_at st.table s
unfolding seats_from
run_addressed st run s = go 0 most_addressed
  where
    v : Table
    v = (after st run).table

    same_seat : (c : ℕ) → seat_at v (byte s 5) (byte s 2) (byte s 3) c ≡ seat_at st.table (byte s 5) (byte s 2) (byte s 3) c
    same_seat c =
        ap (λ (x : Seat). pick (wants_channel (byte s 2) (byte s 3) c) x absent) (run_found st run (record { unit = byte s 5; channel = c; selector = byte s 3 }))

    go : (c n : ℕ) → seats_from v (byte s 5) (byte s 2) (byte s 3) c n ≡ seats_from st.table (byte s 5) (byte s 2) (byte s 3) c n
    go c zero = refl
    go c (suc n) = rw (same_seat c, go (suc c) n)

-- of the controls at some of the indices, none is ranged and not loaded
all_ready : (t : Table) (ps : List ℕ) → any (λ c. unready (held_by c) c) (map (at t) ps) ≡ false → (p : ℕ) → p ∈ ps → unready (held_by (at t p)) (at t p) ≡ false
all_ready t [] h p m = absurd (Memᴰ.not-nil m)
all_ready t (q ∷ ps) h p m =
    let r = any_front (at t q) (map (at t) ps) h in
    ⊎_elim (λ (e : p ≡ q). rw e r.0) (λ (i : p ∈ ps). all_ready t ps r.1 p i) (Memᴰ.cases_cons m)

module _ (st : State) (run : List Step) (h : Sound st.table) (w : Wired run) (s : List ℕ) (part : Part) where
  abbrev t0 : Table
  t0 = st.table

  abbrev v0 : Table
  v0 = (after st run).table

  abbrev values : List ℕ → List ℕ
  values ps = map (λ p. part_of part (at v0 p)) ps

  module _ (ready : (p : ℕ) → p ∈ addressed_at t0 s → unready (held_by (at v0 p)) (at v0 p) ≡ false) where
    answer_at : (p : ℕ) → p ∈ addressed_at t0 s → RightValue st run part (at t0 p) (part_of part (at v0 p))
    answer_at p i =
        let k : Key = key_in (at t0 p) in
        let f : StandsAt t0 k p = record { inside = addressed_low t0 s p i; bears = record { unit = refl; channel = refl; selector = refl } } in
        let m = whole_run st k p run h f w in
        let same : sense_of (at v0 p).selector ≡ sense_of k.selector = ap sense_of m.same.selector in
        record {
          means =
              part_means part (sense_of k.selector) (at v0 p) (range_of (at v0 p)) _ refl
              (cur_means t0 k p _ _ v0 m (h.each p f.inside) (rw same at (ready p i)))
              _ _ (at t0 p) (sym m.ranges) refl;
          first = λ z. ap (part_of part) (m.unmoved z);
        }

    all_valued : (ps : List ℕ) → ((p : ℕ) → p ∈ ps → p ∈ addressed_at t0 s) → Valued st run part (map (at t0) ps) (values ps)
    all_valued [] among = none
    all_valued (p ∷ ps) among =
        more (answer_at p (among p (Memᴰ.head refl))) (all_valued ps (λ q m. among q (Memᴰ.tail m)))

  -- each value has the size of the selector
  all_sized : (ps : List ℕ) → ((p : ℕ) → p ∈ ps → (at v0 p).selector ≡ byte s 3) → block_of part (map (at v0) ps) ≡ in_bytes (size_of (sense_of (byte s 3))) (values ps)
  unfolding block_of in_bytes
  all_sized [] named = refl
  all_sized (p ∷ ps) named =
      rw (named p (Memᴰ.head refl)) (ap (λ (l : List ℕ). low_first (size_of (sense_of (byte s 3))) (part_of part (at v0 p)) ++ l) (all_sized ps (λ q m. named q (Memᴰ.tail m))))

got_answers : (st : State) (run : List Step) → Sound st.table → Wired run → (s bytes : List ℕ) → GetTaken (after st run).table s bytes
    → GetAnswered st run s bytes
got_answers st run h w s bytes a = record {
  part = a.part;
  code = a.code;
  controls = addressed_by st.table s;
  addressed = addressed_found st.table s h;
  some = map_some st.table (addressed_at st.table s) (λ e. a.some (run_addressed st run s ∙ e));
  values = values st run h w s a.part (addressed_at st.table s);
  given =
      a.given
      ∙ ap (λ (ps : List ℕ). take (word s 6) (block_of a.part (map (at v) ps))) (run_addressed st run s)
      ∙ ap (take (word s 6)) (all_sized st run h w s a.part (addressed_at st.table s) (λ p m. (among_names v s p (rw (run_addressed st run s) m)).selector));
  means = all_valued st run h w s a.part (λ p m. all_ready v (addressed_at v s) a.ready p (rw (run_addressed st run s) m)) (addressed_at st.table s) (λ p m. m);
}
  where
    v : Table
    v = (after st run).table

pub get_answers : (st : State) (run : List Step) → Sound st.table → Wired run → (s d : List ℕ) (room : ℕ) → AsksGet s
    → number_of (request_of (after st run) s d room) ≡ 0 → GetAnswered st run s (bytes_of (request_of (after st run) s d room))
get_answers st run h w s d room a z =
    let g = get_got (after st run) s d room a z in
    subst (GetAnswered st run s) (sym (ap bytes_of g.1)) (got_answers st run h w s g.0 (get_taken (after st run) s d room g.0 g.1))
