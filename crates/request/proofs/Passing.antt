-- The passes over the indices that were sought.
--   passed t so i  ==  the controls at the first i of them; here t so i: the one at the next
--   Along t so i   ==  a pass has come to the i-th
--   along-start, along_inside, along_index, along-offset, along_on, along_one, along_over  ==  its start, its indices, its turn and its end
use Prim.Native.Nat.{ℕ, zero, suc, ◌+◌, ◌-◌, ◌*◌, ◌^◌, ◌≤◌, ◌<◌, min}
use Rattle.std.specs.Prelude.{Option, None, Some}
use mathlib.Core.Path.{◌≡◌, refl, sym, ap, ◌∙◌}
use mathlib.Core.List.Memᴰ
use mathlib.Core.List.{List, [], ◌∷◌, ◌++◌, map, map-append, Memᴰ}
use mathlib.Core.Bool.{Bool, true, false, ◌&&◌, ◌||◌}
use mathlib.Core.Logic.{⊎_elim}
use native.Mathlib.Numerals.{add-one}
use native.Mathlib.Omega.{arith}
use lib.ListN.{length, get_or, take, drop, length-map, length-take}
use lib.Seq.{take-suc, length-take-le, take_all, take-nil, take-append_seam}
use mir.Syntax.{w64}
use mir.Val.{Fits}
use borrow.Author.Rules.{Fits-under, scaled_Fits}
use Rattle.ground.specs.Pick.{pick}
use Rattle.ground.specs.Lists.{any, any_snoc, take_append, take_least, member_at}
use Rattle.table.specs.declared.Control.{Control}
use Rattle.table.specs.declared.Table.{Table}
use Rattle.table.specs.Controls.{most_controls, at, placed}
use Rattle.address.specs.declared.Sought.{Sought}
use Rattle.address.specs.Addressed.{most_addressed}
use Rattle.setup.specs.declared.Part.{Part}
use Rattle.deed.specs.Doing.{Doing, bytes_in}
use Rattle.deed.specs.Reply.{laid, laid_long, laid_behind, low_first, Written, bytes_put, Put, put_written}
use Rattle.deed.specs.Doing.Doing.{denied, given, changed}
use Rattle.answers.specs.declared.SetAsks.{SetAsks}
use Rattle.answers.specs.declared.GetAsks.{GetAsks}
use Rattle.answers.specs.Held.{lacking, part_of, unready}
use Rattle.answers.specs.Answers.{held_by, size_in, sizes_of, set_asks, set_to, get_asks, all_take, all_set, block_of, cut_to, set_number, get_number, set_of, get_of}
use Rattle.answers.specs.AnswersLaws.{size_most, block_snoc}
use Rattle.answers.proofs.AnswersLemmas.{sizes_most, sizes_snoc, takes_snoc, sets_snoc, sets_long, block_long, cut_long, denied_or, set_by_number, get_by_number, set_silent}
use Rattle.request.proofs.Storing.{refuses, stored_more, stored_other}
use borrow.Author.Tests.{ltb-false}
use lib.Dec.{ltb}
use Rattle.request.specs.declared.State.{State}
use Rattle.request.specs.declared.Answer.{Answer}
use Rattle.request.specs.Outcome.{Outcome, bytes_of, answer_of, refusal, Answered}
use Rattle.request.specs.Outcome.Outcome.{refused, got}
use Rattle.request.specs.Stored.{stored_at, outcome_at, outcome_of, indices_in, Apart, apart, Seated}

abbrev pub passed : Table → Sought → ℕ → List Control
passed t so i = map (at t) (take i (indices_in so))

abbrev pub index : Sought → ℕ → ℕ
index so i = get_or (indices_in so) i 0

abbrev pub here : Table → Sought → ℕ → Control
here t so i = at t (index so i)

pub record Along (t : Table) (so : Sought) (i : ℕ) : Type 0 where
  pub seated : Seated so
  pub low : i ≤ length (indices_in so)
  pub room : length t.controls ≡ most_controls

-- the element of a list without twins is not among those before it
not_before : (ps : List ℕ) → Apart ps → (i : ℕ) → i < length ps → Memᴰ (get_or ps i 0) (take i ps) → ⊥
not_before [] a i l m = omega arith
not_before (p ∷ ps) (apart n a) zero l m = Memᴰ.not-nil m
not_before (p ∷ ps) (apart n a) (suc i) l m =
    ⊎_elim (λ (e : get_or ps i 0 ≡ p). n (rw (← e) (member_at 0 ps i (omega arith)))) (λ r. not_before ps a i (omega arith) r) (Memᴰ.cases_cons m)

module _ (t : Table) (so : Sought) (i : ℕ) (g : Along t so i) where
  pub along_few : i ≤ most_addressed
  along_few = let f = g.seated.few in let l = g.low in let k = length-take so.count so.indices in omega arith

  passed_long : length (passed t so i) ≡ i
  passed_long = length-map (take i (indices_in so)) (at t) ∙ length-take-le i (indices_in so) g.low

  pub along_over : length (indices_in so) ≤ i → passed t so i ≡ map (at t) (indices_in so)
  along_over h = ap (map (at t)) (take_all i (indices_in so) h)

  pub along_small : (z n : ℕ) → z ≡ sizes_of (passed t so i) → n ≤ 2 → Fits w64 (z + n)
  along_small z n e h =
      let m = sizes_most (passed t so i) in
      let l = passed_long in
      let f = along_few in
      Fits-under w64 (z + n) 37 (omega arith) tt

  module _ (h : i < length (indices_in so)) where
    among : Memᴰ (index so i) (indices_in so)
    among = member_at 0 (indices_in so) i h

    pub along_index : index so i < most_controls
    along_index = g.seated.inside (index so i) among

    pub along_scaled : (k : ℕ) → most_controls * k < 2 ^ 63 → Fits w64 (index so i * k)
    along_scaled k = scaled_Fits (index so i) most_controls k along_index

    pub along_on : Along t so (i + 1)
    along_on = record { seated = g.seated; low = omega arith; room = g.room }

    indices_one : take (i + 1) (indices_in so) ≡ take i (indices_in so) ++ index so i ∷ []
    indices_one = rw (add-one) (take-suc (indices_in so) i 0 h)

    pub along_one : passed t so (i + 1) ≡ passed t so i ++ here t so i ∷ []
    along_one = ap (map (at t)) indices_one ∙ map-append (at t) (take i (indices_in so)) (index so i ∷ [])

    pub along_new : Memᴰ (index so i) (take i (indices_in so)) → ⊥
    along_new m = not_before (indices_in so) g.seated.each i h m

-- 36 and 35 of a control
abbrev waits : Control → Bool
waits c = unready (held_by c) c

abbrev lacks : Part → Control → Bool
lacks part c = lacking (held_by c) part

-- the same indices from the start
pub along_again : (t : Table) (so : Sought) (i : ℕ) → Along t so i → Along t so 0
along_again t so i g = record { seated = g.seated; low = omega arith; room = g.room }

-- a Set asks
pub record SetAsking (t : Table) (so : Sought) (d : List ℕ) (v : Table) (u k : Bool) (size i : ℕ) : Type 0 where
  pub same : v ≡ t
  pub along : Along t so i
  pub refused : u ≡ any waits (passed t so i)
  pub taken : k ≡ all_take (passed t so i) d
  pub sizes : size ≡ sizes_of (passed t so i)

pub set_asking_start : (t : Table) (so : Sought) (d : List ℕ) → Seated so → length t.controls ≡ most_controls
    → SetAsking t so d t false true 0 0
unfolding any all_take sizes_of
set_asking_start t so d s r = record { same = refl; along = record { seated = s; low = omega arith; room = r }; refused = refl; taken = refl; sizes = refl }

module _ (t : Table) (so : Sought) (d : List ℕ) (v : Table) (u k : Bool) (size i : ℕ) (g : SetAsking t so d v u k size i) where
  module _ (h : i < length (indices_in so)) where
    pub set_asking_index : index so i < most_controls
    set_asking_index = along_index t so i g.along h

    pub set_asking_scaled : (n : ℕ) → most_controls * n < 2 ^ 63 → Fits w64 (index so i * n)
    set_asking_scaled = along_scaled t so i g.along h

    module _ (a : SetAsks) (read : a ≡ set_asks (at v (index so i)) (drop size d)) where
      e : a ≡ set_asks (here t so i) (drop size d)
      e = read ∙ ap (λ (w : Table). set_asks (at w (index so i)) (drop size d)) g.same

      pub set_asking_small : Fits w64 (size + a.size)
      set_asking_small =
          along_small t so i g.along size a.size g.sizes (let m = size_most (held_by (here t so i)) in let q = ap (λ (x : SetAsks). x.size) e in omega arith)

      pub set_asking_on : SetAsking t so d v (u || a.unready) (k && a.taken) (size + a.size) (i + 1)
      set_asking_on =
          let one = along_one t so i g.along h in
          record {
            same = g.same;
            along = along_on t so i g.along h;
            refused = rw (one, any_snoc waits (passed t so i) (here t so i), g.refused, e);
            taken = rw (one, takes_snoc (passed t so i) (here t so i) d, g.taken, e, g.sizes);
            sizes = rw (one, sizes_snoc (passed t so i) (here t so i), g.sizes, e);
          }

  module _ (over : length (indices_in so) ≤ i) (bytes : ℕ) (x : Option ℕ) (f : x ≡ set_number u k size bytes (length d)) where
    all : passed t so i ≡ map (at t) (indices_in so)
    all = along_over t so i g.along over

    pub set_by : set_of (map (at t) (indices_in so)) bytes d ≡ denied_or (changed (all_set (map (at t) (indices_in so)) d)) x
    set_by =
        set_by_number (map (at t) (indices_in so)) bytes d x
        (f ∙ rw (g.refused, g.taken, g.sizes, all))

-- a Set stores
pub record Storing (t : Table) (so : Sought) (bytes : ℕ) (d : List ℕ) (v : Table) (z i : ℕ) : Type 0 where
  pub along : Along t so i
  pub granted : set_of (map (at t) (indices_in so)) bytes d ≡ changed (all_set (map (at t) (indices_in so)) d)
  pub sizes : z ≡ sizes_of (passed t so i)
  pub stored : v ≡ stored_at t (take i (indices_in so)) (all_set (passed t so i) d)

pub storing_start : (t : Table) (so : Sought) (d : List ℕ) (v : Table) (u k : Bool) (size i : ℕ) → SetAsking t so d v u k size i → length (indices_in so) ≤ i
    → (bytes : ℕ) (x : Option ℕ) → x ≡ set_number u k size bytes (length d) → x ≡ None → Storing t so bytes d v 0 0
unfolding sizes_of stored_at
storing_start t so d v u k size i g over bytes x f z = record {
  along = along_again t so i g.along;
  granted = set_by t so d v u k size i g over bytes x f ∙ ap (denied_or (changed (all_set (map (at t) (indices_in so)) d))) z;
  sizes = refl;
  stored = g.same;
}

module _ (t : Table) (so : Sought) (bytes : ℕ) (d : List ℕ) (v : Table) (z i : ℕ) (g : Storing t so bytes d v z i) where
  module _ (h : i < length (indices_in so)) where
    pub storing_index : index so i < most_controls
    storing_index = along_index t so i g.along h

    pub storing_scaled : (n : ℕ) → most_controls * n < 2 ^ 63 → Fits w64 (index so i * n)
    storing_scaled = along_scaled t so i g.along h

    -- what was stored before leaves the control
    still : at v (index so i) ≡ here t so i
    still = rw g.stored (stored_other t (take i (indices_in so)) (all_set (passed t so i) d) (index so i) (along_new t so i g.along h))

    pub storing_small : (s : ℕ) → s ≡ size_in (at v (index so i)) → Fits w64 (z + s)
    storing_small s e = along_small t so i g.along z s g.sizes (let m = size_most (held_by (at v (index so i))) in omega arith)

    pub storing_on : (c : Control) → c ≡ set_to (at v (index so i)) (drop z d) → (s : ℕ) → s ≡ size_in (at v (index so i))
        → Storing t so bytes d (placed v (index so i) c) (z + s) (i + 1)
    storing_on c e s f =
        let one = along_one t so i g.along h in
        let l : length (take i (indices_in so)) ≡ length (all_set (passed t so i) d) = sym (sets_long (passed t so i) d ∙ length-map (take i (indices_in so)) (at t)) in
        let k : c ≡ set_to (here t so i) (drop (sizes_of (passed t so i)) d) = e ∙ rw (still, g.sizes) in
        record {
          along = along_on t so i g.along h;
          granted = g.granted;
          sizes = rw (one, sizes_snoc (passed t so i) (here t so i), ← g.sizes, f, still);
          stored =
              ap (λ (w : Table). placed w (index so i) c) g.stored
              ∙ ap (placed (stored_at t (take i (indices_in so)) (all_set (passed t so i) d)) (index so i)) k
              ∙ sym (stored_more t (take i (indices_in so)) (all_set (passed t so i) d) l (index so i) (set_to (here t so i) (drop (sizes_of (passed t so i)) d)))
              ∙ rw (one, indices_one t so i g.along h, sets_snoc (passed t so i) (here t so i) d);
        }

  pub storing_over : length (indices_in so) ≤ i → v ≡ stored_at t (indices_in so) (all_set (map (at t) (indices_in so)) d)
  storing_over h = g.stored ∙ ap (λ (l : List ℕ). stored_at t l (all_set (map (at t) l) d)) (take_all i (indices_in so) h)

-- what is answered
module _ (st : State) (so : Sought) (d : List ℕ) (bytes : ℕ) where
  abbrev Sets : Answer → Type 0
  Sets r = r ≡ answer_of st (outcome_of st.table (indices_in so) (λ cs. set_of cs bytes d))

  pub set_refused : (v : Table) (u k : Bool) (size i : ℕ) → SetAsking st.table so d v u k size i → length (indices_in so) ≤ i → (x : Option ℕ) → x ≡ set_number u k size bytes (length d)
      → (n : ℕ) → x ≡ Some n → (r : Answer) → r ≡ refusal st n → Sets r
  set_refused v u k size i g over x f n z r q =
      refuses st _ r n (ap (outcome_at st.table (indices_in so)) (set_by st.table so d v u k size i g over bytes x f ∙ ap (denied_or _) z)) q

  pub set_stored : (v : Table) (z i : ℕ) → Storing st.table so bytes d v z i → length (indices_in so) ≤ i
      → Sets (record { number = 0; written = 0; state = record { control = st.control; table = v } })
  unfolding answer_of
  set_stored v z i g over =
      ap (λ (w : Table). record { number = 0; written = 0; state = record { control = st.control; table = w } }) (storing_over st.table so bytes d v z i g over)
      ∙ sym (ap (λ o. answer_of st (outcome_at st.table (indices_in so) o)) g.granted)

-- a Get asks
pub record GetAsking (t : Table) (so : Sought) (part : Part) (k u : Bool) (size i : ℕ) : Type 0 where
  pub along : Along t so i
  pub lacking : k ≡ any (lacks part) (passed t so i)
  pub refused : u ≡ any waits (passed t so i)
  pub sizes : size ≡ sizes_of (passed t so i)

pub get_asking_start : (t : Table) (so : Sought) (part : Part) → Seated so → length t.controls ≡ most_controls
    → GetAsking t so part false false 0 0
unfolding any sizes_of
get_asking_start t so part s r = record { along = record { seated = s; low = omega arith; room = r }; lacking = refl; refused = refl; sizes = refl }

module _ (t : Table) (so : Sought) (part : Part) (k u : Bool) (size i : ℕ) (g : GetAsking t so part k u size i) where
  module _ (h : i < length (indices_in so)) where
    pub get_asking_index : index so i < most_controls
    get_asking_index = along_index t so i g.along h

    pub get_asking_scaled : (n : ℕ) → most_controls * n < 2 ^ 63 → Fits w64 (index so i * n)
    get_asking_scaled = along_scaled t so i g.along h

    module _ (a : GetAsks) (e : a ≡ get_asks part (here t so i)) where
      pub get_asking_small : Fits w64 (size + a.size)
      get_asking_small =
          along_small t so i g.along size a.size g.sizes (let m = size_most (held_by (here t so i)) in let q = ap (λ (x : GetAsks). x.size) e in omega arith)

      pub get_asking_on : GetAsking t so part (k || a.lacking) (u || a.unready) (size + a.size) (i + 1)
      get_asking_on =
          let one = along_one t so i g.along h in
          record {
            along = along_on t so i g.along h;
            lacking = rw (one, any_snoc (lacks part) (passed t so i) (here t so i), g.lacking, e);
            refused = rw (one, any_snoc waits (passed t so i) (here t so i), g.refused, e);
            sizes = rw (one, sizes_snoc (passed t so i) (here t so i), g.sizes, e);
          }

  module _ (over : length (indices_in so) ≤ i) (bytes room end : ℕ) (x : Option ℕ) (m : end ≡ min bytes size) (f : x ≡ get_number k u end room) where
    get_all : passed t so i ≡ map (at t) (indices_in so)
    get_all = along_over t so i g.along over

    sends : end ≡ length (cut_to bytes part (map (at t) (indices_in so)))
    sends = m ∙ ap (min bytes) (g.sizes ∙ ap sizes_of get_all) ∙ sym (cut_long bytes part (map (at t) (indices_in so)))

    pub get_by : get_of part (map (at t) (indices_in so)) bytes room ≡ denied_or (given (cut_to bytes part (map (at t) (indices_in so)))) x
    get_by =
        get_by_number part (map (at t) (indices_in so)) bytes room x
        (f ∙ rw (g.lacking, g.refused, sends, get_all))

    cut : take end (block_of part (map (at t) (indices_in so))) ≡ cut_to bytes part (map (at t) (indices_in so))
    cut =
        ap (λ (n : ℕ). take n (block_of part (map (at t) (indices_in so)))) (m ∙ ap (min bytes) (g.sizes ∙ ap sizes_of get_all ∙ sym (block_long part (map (at t) (indices_in so)))))
        ∙ take_least bytes (block_of part (map (at t) (indices_in so)))

-- where nothing is refused the bytes fit
abbrev is_none : Option ℕ → ℕ
is_none None = 0
is_none (Some n) = 1

fits_room : (k u : Bool) (end room : ℕ) (x : Option ℕ) → x ≡ get_number k u end room → x ≡ None → end ≤ room
unfolding get_number
fits_room true u end room x f z = absurd (let q : ◌≡◌ {A = ℕ} 0 1 = ap is_none (sym z ∙ f) in omega arith)
fits_room false true end room x f z = absurd (let q : ◌≡◌ {A = ℕ} 0 1 = ap is_none (sym z ∙ f) in omega arith)
fits_room false false end room x f z = go (ltb room end) refl f
  where
    go : (b : Bool) → ltb room end ≡ b → x ≡ pick b (Some 39) None → end ≤ room
    go true e q = absurd (let p : ◌≡◌ {A = ℕ} 0 1 = ap is_none (sym z ∙ q) in omega arith)
    go false e q = ltb-false _ _ e

-- a Get writes
pub record Writing (t : Table) (so : Sought) (part : Part) (bytes end : ℕ) (reply : List ℕ) (w : ℕ) (after : List ℕ) (i : ℕ) : Type 0 where
  pub along : Along t so i
  pub granted : get_of part (map (at t) (indices_in so)) bytes (length reply) ≡ given (take end (block_of part (map (at t) (indices_in so))))
  pub room : end ≤ length reply
  pub wrote : Written (take end (block_of part (passed t so i))) reply w after

pub writing_start : (t : Table) (so : Sought) (part : Part) (k u : Bool) (size i : ℕ) → GetAsking t so part k u size i → length (indices_in so) ≤ i → (bytes end : ℕ) (x : Option ℕ) (reply : List ℕ)
    → end ≡ min bytes size → x ≡ get_number k u end (length reply) → x ≡ None → Writing t so part bytes end reply 0 reply 0
unfolding block_of
writing_start t so part k u size i g over bytes end x reply m f z = record {
  along = along_again t so i g.along;
  granted =
      get_by t so part k u size i g over bytes (length reply) end x m f
      ∙ ap (denied_or _) z
      ∙ ap given (sym (cut t so part k u size i g over bytes (length reply) end x m f));
  room = fits_room k u end (length reply) x f z;
  wrote = rw (take-nil {A = ℕ} end) (record { number = refl; lent = refl });
}

module _ (t : Table) (so : Sought) (part : Part) (bytes end : ℕ) (reply : List ℕ) (w : ℕ) (after : List ℕ) (i : ℕ)
    (g : Writing t so part bytes end reply w after i) where
  abbrev sent : List ℕ
  sent = take end (block_of part (passed t so i))

  sent_long : length sent ≡ min end (length (block_of part (passed t so i)))
  sent_long = length-take end (block_of part (passed t so i))

  writing_low : w ≤ end
  writing_low = let e = g.wrote.number in let l = sent_long in omega arith

  pub writing_long : length after ≡ length reply
  writing_long = ap length g.wrote.lent ∙ laid_long sent reply (let e = g.wrote.number in let l = writing_low in let r = g.room in omega arith)

  -- a value has two bytes at most
  writing_few : (s : ℕ) → s ≡ size_in (here t so i) → s ≤ 2
  writing_few s e = rw e (size_most (held_by (here t so i)))

  writing_room : end ≤ length after
  writing_room = rw writing_long g.room

  module _ (h : i < length (indices_in so)) where
    pub writing_index : index so i < most_controls
    writing_index = along_index t so i g.along h

    pub writing_scaled : (n : ℕ) → most_controls * n < 2 ^ 63 → Fits w64 (index so i * n)
    writing_scaled = along_scaled t so i g.along h

    abbrev behind_it : List ℕ
    behind_it = low_first (size_in (here t so i)) (part_of part (here t so i))

    next : take end (block_of part (passed t so (i + 1))) ≡ sent ++ take (end - w) behind_it
    next =
        let e = g.wrote.number in
        let l = sent_long in
        let q : end - length (block_of part (passed t so i)) ≡ end - w = omega arith in
        ap (λ (cs : List Control). take end (block_of part cs)) (along_one t so i g.along h)
        ∙ ap (take end) (block_snoc part (passed t so i) (here t so i))
        ∙ take_append end (block_of part (passed t so i)) behind_it
        ∙ ap (λ (n : ℕ). sent ++ take n behind_it) q

    front : take w after ≡ sent
    front = rw (g.wrote.number, g.wrote.lent) (take-append_seam sent (drop (length sent) reply))

    pub writing_on : (s : ℕ) → s ≡ size_in (here t so i) → (x : ℕ) → x ≡ part_of part (here t so i) → (m : ℕ) (then : List ℕ)
        → Put (bytes_put x s w end (length after)) w after m then → Writing t so part bytes end reply m then (i + 1)
    writing_on s se x xe m then d =
        let p : Written (take w after ++ take (end - w) (low_first s x)) after m then = put_written x s w end after (writing_few s se) writing_low writing_room m then d in
        let v : Written (sent ++ take (end - w) behind_it) after m then = rw (front, xe, se) at p in
        record {
          along = along_on t so i g.along h;
          granted = g.granted;
          room = g.room;
          wrote = rw next (record {
            number = v.number;
            lent =
                v.lent
                ∙ ap (λ (a : List ℕ). laid (sent ++ take (end - w) behind_it) a) g.wrote.lent
                ∙ ap (λ (l : List ℕ). laid (l ++ take (end - w) behind_it) (laid sent reply)) (sym (take-append_seam sent (drop (length sent) reply)))
                ∙ laid_behind sent (take (end - w) behind_it) reply;
          });
        }

module _ (st : State) (so : Sought) (part : Part) (bytes : ℕ) (reply : List ℕ) where
  abbrev Gets : Answer → List ℕ → Type 0
  Gets r a = Answered st (outcome_of st.table (indices_in so) (λ cs. get_of part cs bytes (length reply))) reply r a

  pub get_refused : (k u : Bool) (size i : ℕ) → GetAsking st.table so part k u size i → length (indices_in so) ≤ i → (end : ℕ) (x : Option ℕ) → end ≡ min bytes size
      → x ≡ get_number k u end (length reply) → (n : ℕ) → x ≡ Some n → (r : Answer) → r ≡ refusal st n → Gets r reply
  get_refused k u size i g over end x m f n z r q =
      let o : outcome_of st.table (indices_in so) (λ cs. get_of part cs bytes (length reply)) ≡ refused n =
      ap (outcome_at st.table (indices_in so)) (get_by st.table so part k u size i g over bytes (length reply) end x m f ∙ ap (denied_or _) z)
      in
      record { result = refuses st _ r n o q; lent = ap (λ (y : Outcome). laid (bytes_of y) reply) (sym o) }

  pub get_sent : (end w : ℕ) (after : List ℕ) (i : ℕ) → Writing st.table so part bytes end reply w after i → length (indices_in so) ≤ i
      → Gets (record { number = 0; written = w; state = st }) after
  unfolding answer_of
  get_sent end w after i g over =
      let o : outcome_of st.table (indices_in so) (λ cs. get_of part cs bytes (length reply)) ≡ got (take end (block_of part (map (at st.table) (indices_in so)))) =
      ap (outcome_at st.table (indices_in so)) g.granted
      in
      let d : Written (take end (block_of part (map (at st.table) (indices_in so)))) reply w after =
      rw (← along_over st.table so i g.along over) g.wrote
      in
      record {
        result = ap (λ (n : ℕ). record { number = 0; written = n; state = st }) d.number ∙ sym (ap (answer_of st) o);
        lent = d.lent ∙ sym (ap (λ (y : Outcome). laid (bytes_of y) reply) o);
      }

-- a Set writes nothing
same_bytes : (t : Table) (ps : List ℕ) (o : Doing) → bytes_of (outcome_at t ps o) ≡ bytes_in o
same_bytes t ps (denied n) = refl
same_bytes t ps (given bytes) = refl
same_bytes t ps (changed cs) = refl

pub set_writes_none : (t : Table) (ps : List ℕ) (bytes : ℕ) (d : List ℕ) → bytes_of (outcome_of t ps (λ cs. set_of cs bytes d)) ≡ []
set_writes_none t ps bytes d = same_bytes t ps (set_of (map (at t) ps) bytes d) ∙ set_silent (map (at t) ps) bytes d
