-- What an accepted step was: each acceptance, taken apart into what the papers ask of it.
--   LoadTaken  ==  a load that was taken
--   addressed_at t s  ==  the indices of the controls that the setup addresses
--   SetTaken   ==  a Set that was taken
--   GetTaken   ==  a Get that was answered
--   load_taken, set_taken, get_taken  ==  every acceptance is one of these
--   load_not_got  ==  no load is answered with bytes
use Prim.Native.Nat.{ℕ}
use mathlib.Core.Path.{◌≡◌, refl, sym, ap, ◌∙◌}
use mathlib.Core.List.{List, [], ◌∷◌, map}
use mathlib.Core.Bool.{Bool, true, false, not, ◌&&◌, ◌||◌}
use mathlib.Core.Logic.{◌⊎◌, inl, inr, ⊎_elim}
use native.Mathlib.Omega.{arith}
use lib.Dec.{eqb, ltb}
use lib.ListN.{length}
use borrow.Author.Tests.{eqb-true, not-false}
use Rattle.ground.specs.Pick.{pick, true≠false, reads_true, reads_and}
use Rattle.ground.specs.Numbers.{byte, word}
use Rattle.ground.specs.Lists.{any}
use Rattle.setting.specs.Setting.{fits_of, legal_of}
use Rattle.setting.specs.declared.Sort.{Sort}
use Rattle.setting.specs.declared.Range.{Range}
use Rattle.table.specs.declared.Control.{Control}
use Rattle.table.specs.declared.Table.{Table}
use Rattle.table.specs.declared.Sense.{Sense}
use Rattle.table.specs.declared.Sense.TheVariants.{Unknown, YesNo, Ranged, Pin}
use Rattle.table.specs.First.{Seat, entry_at}
use Rattle.table.specs.First.Seat.{absent, seat}
use Rattle.table.specs.Controls.{at, placed, sense_of}
use Rattle.table.specs.Keys.{Key, where_is}
use Rattle.sound.specs.Sound.{sound_of}
use Rattle.setup.specs.declared.Part.{Part}
use Rattle.setup.specs.declared.Asked.{Asked}
use Rattle.setup.specs.declared.Asked.TheVariants as asks
use Rattle.setup.specs.Setup.{AsksSet, AsksGet, code_of, asked_of}
use Rattle.setup.specs.Asking.{Asking, none, sets, gets}
use Rattle.setup.proofs.AskingLemmas.{asking}
use Rattle.deed.specs.Doing.{Doing}
use Rattle.deed.specs.Doing.Doing.{denied, given, changed}
use Rattle.answers.specs.Held.{lacking, unready}
use Rattle.answers.specs.Answers.{held_by, sizes_of, all_take, all_set, misfits, cut_to, set_of, get_of}
use Rattle.loads.specs.Load.{loaded_with, load_range, load_by, load_on}
use Rattle.request.specs.declared.State.{State}
use Rattle.request.specs.Outcome.Outcome.{refused, got, done}
use Rattle.address.specs.Addressed.{addressed_in}
use Rattle.request.specs.Stored.{stored_at, outcome_at}
use Rattle.request.specs.Load.{load_at, load_of}
use Rattle.request.specs.Request.{barred_by, done_at, answer_asked, request_of}
use Rattle.runs.specs.Runs.{addressed_by}

-- which of its two a choice came from
picked : {A : Type 0} (b : Bool) (x y z : A) → pick b x y ≡ z → ((b ≡ true) × (x ≡ z)) ⊎ ((b ≡ false) × (y ≡ z))
picked true x y z e = inl (refl, e)
picked false x y z e = inr (refl, e)

-- a refusal is no acceptance
no_done : {P : Type 0} {n : ℕ} {t : Table} → refused n ≡ done t → P
no_done e = absurd (let z : ◌≡◌ {A = ℕ} 0 1 = cc in omega arith)

no_got : {P : Type 0} {n : ℕ} {bytes : List ℕ} → refused n ≡ got bytes → P
no_got e = absurd (let z : ◌≡◌ {A = ℕ} 0 1 = cc in omega arith)

no_change : {P : Type 0} {n : ℕ} {cs : List Control} → denied n ≡ changed cs → P
no_change e = absurd (let z : ◌≡◌ {A = ℕ} 0 1 = cc in omega arith)

no_gift : {P : Type 0} {n : ℕ} {bytes : List ℕ} → denied n ≡ given bytes → P
no_gift e = absurd (let z : ◌≡◌ {A = ℕ} 0 1 = cc in omega arith)

change_no_gift : {P : Type 0} {cs : List Control} {bytes : List ℕ} → changed cs ≡ given bytes → P
change_no_gift e = absurd (let z : ◌≡◌ {A = ℕ} 0 1 = cc in omega arith)

done_one : {t u : Table} → done t ≡ done u → t ≡ u
done_one e = cc

-- what was done, from what it came to
done_changed : (t : Table) (ps : List ℕ) (o : Doing) (v : Table) → outcome_at t ps o ≡ done v
    → (cs : List Control) × ((o ≡ changed cs) × (v ≡ stored_at t ps cs))
done_changed t ps (denied n) v e = no_done e
done_changed t ps (given bytes) v e = absurd (let z : ◌≡◌ {A = ℕ} 0 1 = cc in omega arith)
done_changed t ps (changed cs) v e = (cs, (refl, sym (done_one e)))

got_given : (t : Table) (ps : List ℕ) (o : Doing) (bytes : List ℕ) → outcome_at t ps o ≡ got bytes → o ≡ given bytes
got_given t ps (denied n) bytes e = no_got e
got_given t ps (given x) bytes e = let i : x ≡ bytes = cc in ap given i
got_given t ps (changed cs) bytes e = absurd (let z : ◌≡◌ {A = ℕ} 0 1 = cc in omega arith)

-- a test that refuses, passed
passed_change : (b : Bool) (n : ℕ) (o : Doing) (cs : List Control) → pick b (denied n) o ≡ changed cs → (b ≡ false) × (o ≡ changed cs)
passed_change true n o cs e = no_change e
passed_change false n o cs e = (refl, e)

passed_gift : (b : Bool) (n : ℕ) (o : Doing) (bytes : List ℕ) → pick b (denied n) o ≡ given bytes → (b ≡ false) × (o ≡ given bytes)
passed_gift true n o bytes e = no_gift e
passed_gift false n o bytes e = (refl, e)

kept_change : (b : Bool) (n : ℕ) (cs ds : List Control) → pick b (changed cs) (denied n) ≡ changed ds → (b ≡ true) × (ds ≡ cs)
kept_change true n cs ds e = let i : cs ≡ ds = cc in (refl, sym i)
kept_change false n cs ds e = no_change e

pub record LoadTaken (t : Table) (k : Key) (range : Range) (w : ℕ) (v : Table) : Type 0 where
  pub sound : sound_of t ≡ true
  pub index : ℕ
  pub there : where_is t k ≡ seat index
  pub sort : Sort
  pub sense : sense_of (at t index).selector ≡ Ranged sort
  pub legal : legal_of sort range ≡ true
  pub fits : fits_of sort w ≡ true
  pub table : v ≡ placed t index (loaded_with sort range w (at t index))

module _ (t : Table) (k : Key) (range : Range) (w : ℕ) (v : Table) (q : sound_of t ≡ true) (p : ℕ) (f : where_is t k ≡ seat p) where
  sense_taken : (h : Sense) → sense_of (at t p).selector ≡ h → (cs : List Control) → load_by h (at t p) range w ≡ changed cs
      → v ≡ stored_at t (p ∷ []) cs → LoadTaken t k range w v
  unfolding load_by load_range stored_at
  sense_taken Unknown h cs e i = no_change e
  sense_taken YesNo h cs e i = no_change e
  sense_taken (Ranged r) h cs e i =
      let a = kept_change (legal_of r range && fits_of r w) 21 _ cs e in
      let both = (reads_and (legal_of r range) (fits_of r w) (reads_true _) (reads_true _)).says a.0 in
      record { sound = q; index = p; there = f; sort = r; sense = h; legal = both.0; fits = both.1; table = i ∙ ap (stored_at t (p ∷ [])) a.1 }
  sense_taken Pin h cs e i = no_change e

found_taken : (t : Table) (k : Key) (range : Range) (w : ℕ) (v : Table) → sound_of t ≡ true → (f : Seat) → where_is t k ≡ f
    → load_at t (entry_at t f) range w ≡ done v → LoadTaken t k range w v
unfolding load_at
found_taken t k range w v q absent f e = no_done e
found_taken t k range w v q (seat p) f e =
    let a = done_changed t (p ∷ []) (load_on (at t p) range w) v e in
    sense_taken t k range w v q p f (sense_of (at t p).selector) refl a.0 a.1.0 a.1.1

pub load_taken : (st : State) (k : Key) (range : Range) (w : ℕ) (v : Table) → load_of st k.unit k.channel k.selector range w ≡ done v
    → LoadTaken st.table k range w v
unfolding load_of
load_taken st k range w v e =
    ⊎_elim
    (λ h. found_taken st.table k range w v h.0 (where_is st.table k) refl h.1)
    (λ h. no_done h.1)
    (picked (sound_of st.table) _ _ (done v) e)

-- what is addressed where the setup names it
module _ (t : Table) (s : List ℕ) where
  abbrev pub addressed_at : List ℕ
  addressed_at = addressed_in t (byte s 5) (byte s 2) (byte s 3)

  pub record SetTaken (d : List ℕ) (v : Table) : Type 0 where
    pub sound : sound_of t ≡ true
    pub asked : AsksSet s
    pub some : addressed_at ≡ [] → ⊥
    pub ready : any (λ c. unready (held_by c) c) (addressed_by t s) ≡ false
    pub sized : length d ≡ sizes_of (addressed_by t s)
    pub taken : all_take (addressed_by t s) d ≡ true
    pub table : v ≡ stored_at t addressed_at (all_set (addressed_by t s) d)

  pub record GetTaken (bytes : List ℕ) : Type 0 where
    pub sound : sound_of t ≡ true
    pub asked : AsksGet s
    pub part : Part
    pub code : byte s 1 ≡ code_of part
    pub some : addressed_at ≡ [] → ⊥
    pub ready : any (λ c. unready (held_by c) c) (addressed_by t s) ≡ false
    pub given : bytes ≡ cut_to (word s 6) part (addressed_by t s)

misfits_not : (cs : List Control) (n : ℕ) (d : List ℕ) → misfits cs n d ≡ false → length d ≡ sizes_of cs
misfits_not cs n d e = go (eqb n (sizes_of cs)) e
  where
    go : (b : Bool) → (not b || not (eqb (length d) (sizes_of cs))) ≡ false → length d ≡ sizes_of cs
    go true h = eqb-true _ _ (not-false _ h)
    go false h = absurd (true≠false h)

given_one : {x y : List ℕ} → given x ≡ given y → x ≡ y
given_one i = cc

-- a Set is not answered with bytes, and a Get stores nothing
set_no_gift : (cs : List Control) (n : ℕ) (d : List ℕ) (bytes : List ℕ) → set_of cs n d ≡ given bytes → ⊥
unfolding set_of
set_no_gift cs n d bytes e =
    let x = passed_gift (any (λ c. unready (held_by c) c) cs) 36 _ bytes e in
    let y = passed_gift (misfits cs n d) 37 _ bytes x.1 in
    ⊎_elim (λ h. change_no_gift h.1) (λ h. no_gift h.1) (picked (all_take cs d) _ _ (given bytes) y.1)

get_no_change : (part : Part) (cs : List Control) (n room : ℕ) (es : List Control) → get_of part cs n room ≡ changed es → ⊥
unfolding get_of
get_no_change part cs n room es e =
    let x = passed_change (any (λ c. lacking (held_by c) part) cs) 35 _ es e in
    let y = passed_change (any (λ c. unready (held_by c) c) cs) 36 _ es x.1 in
    let z = passed_change (ltb room (length (cut_to n part cs))) 39 _ es y.1 in
    change_no_gift (sym z.1)

module _ (st : State) (s d : List ℕ) (room : ℕ) (q : sound_of st.table ≡ true) where
  abbrev t : Table
  t = st.table

  -- what is done at the addressed controls
  set_changed : AsksSet s → (addressed_at t s ≡ [] → ⊥) → (v : Table) (es : List Control) → set_of (addressed_by t s) (word s 6) d ≡ changed es
      → v ≡ stored_at t (addressed_at t s) es → SetTaken t s d v
  unfolding set_of
  set_changed a n v es e i =
      let x = passed_change (any (λ c. unready (held_by c) c) (addressed_by t s)) 36 _ es e in
      let y = passed_change (misfits (addressed_by t s) (word s 6) d) 37 _ es x.1 in
      let z = kept_change (all_take (addressed_by t s) d) 38 _ es y.1 in
      record {
        sound = q;
        asked = a;
        some = n;
        ready = x.0;
        sized = misfits_not (addressed_by t s) (word s 6) d y.0;
        taken = z.0;
        table = i ∙ ap (stored_at t (addressed_at t s)) z.1;
      }

  get_gave : AsksGet s → (addressed_at t s ≡ [] → ⊥) → (part : Part) → byte s 1 ≡ code_of part → (bytes : List ℕ)
      → get_of part (addressed_by t s) (word s 6) room ≡ given bytes → GetTaken t s bytes
  unfolding get_of
  get_gave a n part c bytes e =
      let x = passed_gift (any (λ c. lacking (held_by c) part) (addressed_by t s)) 35 _ bytes e in
      let y = passed_gift (any (λ c. unready (held_by c) c) (addressed_by t s)) 36 _ bytes x.1 in
      let z = passed_gift (ltb room (length (cut_to (word s 6) part (addressed_by t s)))) 39 _ bytes y.1 in
      record { sound = q; asked = a; part = part; code = c; some = n; ready = y.0; given = given_one (sym z.1) }

  cons_some : {p : ℕ} {ps : List ℕ} → p ∷ ps ≡ [] → ⊥
  cons_some e = let z : ◌≡◌ {A = ℕ} 0 1 = cc in omega arith

  -- from what it came to: it is done somewhere
  some_done : (act : List Control → Doing) (v : Table) → done_at t (byte s 5) (addressed_at t s) act ≡ done v
      → (addressed_at t s ≡ [] → ⊥) × ((es : List Control) × ((act (addressed_by t s) ≡ changed es) × (v ≡ stored_at t (addressed_at t s) es)))
  unfolding done_at
  some_done act v e = go (addressed_at t s) refl e
    where
      go : (ps : List ℕ) → addressed_at t s ≡ ps → done_at t (byte s 5) ps act ≡ done v
          → (ps ≡ [] → ⊥) × ((es : List Control) × ((act (map (at t) ps) ≡ changed es) × (v ≡ stored_at t ps es)))
      go [] i h = no_done h
      go (p ∷ ps) i h = (cons_some, done_changed t (p ∷ ps) (act (map (at t) (p ∷ ps))) v h)

  some_got : (act : List Control → Doing) (bytes : List ℕ) → done_at t (byte s 5) (addressed_at t s) act ≡ got bytes
      → (addressed_at t s ≡ [] → ⊥) × (act (addressed_by t s) ≡ given bytes)
  unfolding done_at
  some_got act bytes e = go (addressed_at t s) refl e
    where
      go : (ps : List ℕ) → addressed_at t s ≡ ps → done_at t (byte s 5) ps act ≡ got bytes → (ps ≡ [] → ⊥) × (act (map (at t) ps) ≡ given bytes)
      go [] i h = no_got h
      go (p ∷ ps) i h = (cons_some, got_given t (p ∷ ps) (act (map (at t) (p ∷ ps))) bytes h)

  set_asked : (k : Asked) → Asking s k → (v : Table) → answer_asked st k d room ≡ done v → SetTaken t s d v
  unfolding answer_asked
  set_asked _ (none w) v e = no_done e
  set_asked _ (sets l a) v e =
      ⊎_elim
      (λ h. let x = some_done (λ cs. set_of cs (word s 6) d) v h.1 in set_changed a x.0 v x.1.0 x.1.1.0 x.1.1.1)
      (λ h. no_done h.1)
      (picked (eqb (barred_by (asks.Set _) st.control) 0) _ _ (done v) e)
  set_asked _ (gets part l a c) v e =
      ⊎_elim
      (λ h. let x = some_done (λ cs. get_of part cs (word s 6) room) v h.1 in absurd (get_no_change part (addressed_by t s) (word s 6) room x.1.0 x.1.1.0))
      (λ h. no_done h.1)
      (picked (eqb (barred_by (asks.Get part _) st.control) 0) _ _ (done v) e)

  get_asked : (k : Asked) → Asking s k → (bytes : List ℕ) → answer_asked st k d room ≡ got bytes → GetTaken t s bytes
  unfolding answer_asked
  get_asked _ (none w) bytes e = no_got e
  get_asked _ (sets l a) bytes e =
      ⊎_elim
      (λ h. let x = some_got (λ cs. set_of cs (word s 6) d) bytes h.1 in absurd (set_no_gift (addressed_by t s) (word s 6) d bytes x.1))
      (λ h. no_got h.1)
      (picked (eqb (barred_by (asks.Set _) st.control) 0) _ _ (got bytes) e)
  get_asked _ (gets part l a c) bytes e =
      ⊎_elim
      (λ h. let x = some_got (λ cs. get_of part cs (word s 6) room) bytes h.1 in get_gave a x.0 part c bytes x.1)
      (λ h. no_got h.1)
      (picked (eqb (barred_by (asks.Get part _) st.control) 0) _ _ (got bytes) e)

pub set_taken : (st : State) (s d : List ℕ) (room : ℕ) (v : Table) → request_of st s d room ≡ done v → SetTaken st.table s d v
unfolding request_of
set_taken st s d room v e =
    ⊎_elim
    (λ h. set_asked st s d room h.0 (asked_of s) (asking s) v h.1)
    (λ h. no_done h.1)
    (picked (sound_of st.table) _ _ (done v) e)

pub get_taken : (st : State) (s d : List ℕ) (room : ℕ) (bytes : List ℕ) → request_of st s d room ≡ got bytes → GetTaken st.table s bytes
unfolding request_of
get_taken st s d room bytes e =
    ⊎_elim
    (λ h. get_asked st s d room h.0 (asked_of s) (asking s) bytes h.1)
    (λ h. no_got h.1)
    (picked (sound_of st.table) _ _ (got bytes) e)

-- a load is not answered with bytes
load_by_no_gift : (k : Sense) (c : Control) (range : Range) (w : ℕ) (bytes : List ℕ) → load_by k c range w ≡ given bytes → ⊥
unfolding load_by load_range
load_by_no_gift Unknown c range w bytes e = no_gift e
load_by_no_gift YesNo c range w bytes e = no_gift e
load_by_no_gift (Ranged r) c range w bytes e = ⊎_elim (λ h. change_no_gift h.1) (λ h. no_gift h.1) (picked (legal_of r range && fits_of r w) _ _ (given bytes) e)
load_by_no_gift Pin c range w bytes e = no_gift e

load_at_not_got : (t : Table) (f : Seat) (range : Range) (w : ℕ) (bytes : List ℕ) → load_at t (entry_at t f) range w ≡ got bytes → ⊥
unfolding load_at
load_at_not_got t absent range w bytes e = no_got e
load_at_not_got t (seat p) range w bytes e = load_by_no_gift (sense_of (at t p).selector) (at t p) range w bytes (got_given t (p ∷ []) (load_on (at t p) range w) bytes e)

pub load_not_got : (st : State) (k : Key) (range : Range) (w : ℕ) (bytes : List ℕ)
    → load_of st k.unit k.channel k.selector range w ≡ got bytes → ⊥
unfolding load_of
load_not_got st k range w bytes e =
    ⊎_elim (λ h. load_at_not_got st.table (where_is st.table k) range w bytes h.1) (λ h. no_got h.1) (picked (sound_of st.table) _ _ (got bytes) e)
