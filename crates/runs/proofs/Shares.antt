-- What a Set of several controls sends to each: its piece of the data, the number that the piece is, and what is stored for it.
--   bytes_take, bytes_drop  ==  a part of bytes is bytes
--   share_told      ==  the number that the data send to a key is that of the piece of the control that bears it, where the channels rise;
--                       none_told: and none where no control bears it
--   Sent t p ps d   ==  what the data d of a Set of the controls at the indices ps send to the control at p, one of them
--   sent_to_lem         ==  there is such a share
--   none_sent       ==  a control that is not among them is sent no number
use Prim.Native.Nat.{ℕ, zero, suc, ◌+◌, ◌≤◌, ◌<◌}
use mathlib.Core.Path.{◌≡◌, refl, ap, ◌∙◌}
use mathlib.Core.List.Memᴰ
use mathlib.Core.List.{List, [], ◌∷◌, map}
use mathlib.Core.Bool.{Bool, true, false, ◌||◌}
use mathlib.Core.Logic.{⊎_elim}
use native.Mathlib.Omega.{arith}
use lib.Dec.{ltb}
use lib.ListN.{length, get_or, take, drop, length-drop}
use lib.Seq.{get_or-take, get_or-drop, length-take-le}
use Rattle.ground.specs.Numbers.{Bytes}
use Rattle.ground.specs.Pick.{yes, no, shows, refutes, true≠false, decided, reads_true, reads_and, reads_lt}
use Rattle.ground.specs.Lists.{any}
use Rattle.ground.specs.Rising.{more}
use Rattle.graph.specs.Members.{◌∈◌}
use Rattle.table.specs.declared.Control.{Control}
use Rattle.table.specs.declared.Table.{Table}
use Rattle.table.specs.Controls.{at}
use Rattle.table.specs.Keys.{Key, Bears, StandsAt}
use Rattle.sound.specs.Meaning.{Sound}
use Rattle.address.specs.AddressedLaws.{answers_reads, stands_one}
use Rattle.answers.specs.Held.{unready, value_in, takes, stored_for, with_cur}
use Rattle.answers.specs.Answers.{held_by, size_in, sizes_of, sent_to, rest_of, all_take, all_set}
use Rattle.runs.specs.Runs.{share_of}
use Rattle.runs.specs.RequestRows.{ByChannel}
use Rattle.runs.specs.Promises.{Share, first, later}
use Rattle.runs.proofs.Stored.{Pair, front, behind}

pub bytes_drop : (n : ℕ) (d : List ℕ) → Bytes d → Bytes (drop n d)
bytes_drop n d b i = rw (get_or-drop n d i 0) (b (n + i))

past_take : (n : ℕ) (d : List ℕ) (i : ℕ) → n ≤ i → get_or (take n d) i 0 ≡ 0
past_take zero d i h = refl
past_take (suc n) [] i h = refl
past_take (suc n) (x ∷ d) zero h = absurd (omega arith)
past_take (suc n) (x ∷ d) (suc i) h = past_take n d i (omega arith)

pub bytes_take : (n : ℕ) (d : List ℕ) → Bytes d → Bytes (take n d)
bytes_take n d b i =
    ⊎_elim
    (λ (l : i < n). rw (get_or-take n d i 0 l) (b i))
    (λ (l : i < n → ⊥). let e = past_take n d i (omega arith) in omega arith)
    (decided (ltb i n) (reads_lt i n))

pub any_front : (c : Control) (cs : List Control) → any (λ e. unready (held_by e) e) (c ∷ cs) ≡ false
    → (unready (held_by c) c ≡ false) × (any (λ e. unready (held_by e) e) cs ≡ false)
unfolding any
any_front c cs h = go (unready (held_by c) c) h
  where
    go : (b : Bool) → (b || any (λ e. unready (held_by e) e) cs) ≡ false → (b ≡ false) × (any (λ e. unready (held_by e) e) cs ≡ false)
    go true e = absurd (true≠false e)
    go false e = (refl, e)

share_in : {cs : List Control} {d : List ℕ} {c : Control} {piece : List ℕ} → Share cs d c piece → c ∈ cs
share_in first = Memᴰ.head refl
share_in (later h) = Memᴰ.tail (share_in h)

pub share_told : (k : Key) {cs : List Control} {d : List ℕ} {c : Control} {piece : List ℕ} → ByChannel cs → Bears k c → Share cs d c piece
    → share_of k cs d ≡ value_in piece ∷ []
unfolding share_of
share_told k r b (first {c}) = yes _ _ (shows (answers_reads k c) (b.unit, (b.channel, b.selector)))
share_told k (more low r) b (later {c} {e} h) =
    no _ _ (refutes (answers_reads k c) (λ x. let l = low e (share_in h) in let y = x.1.0 in let z = b.channel in omega arith))
    ∙ share_told k r b h

pub none_told : (k : Key) (cs : List Control) (d : List ℕ) → ((c : Control) → c ∈ cs → Bears k c → ⊥) → share_of k cs d ≡ []
unfolding share_of
none_told k [] d n = refl
none_told k (c ∷ cs) d n =
    no _ _ (refutes (answers_reads k c) (λ h. n c (Memᴰ.head refl) (record { unit = h.0; channel = h.1.0; selector = h.1.1 })))
    ∙ none_told k cs (rest_of c d) (λ e m. n e (Memᴰ.tail m))

pub none_sent : (t : Table) → Sound t → (k : Key) (p : ℕ) → StandsAt t k p → (ps : List ℕ) (d : List ℕ) → ((q : ℕ) → q ∈ ps → q < t.count) → (p ∈ ps → ⊥)
    → share_of k (map (at t) ps) d ≡ []
none_sent t sound k p stands ps d low n =
    none_told k (map (at t) ps) d
    (λ c m b.
    let x = Memᴰ.of_map (at t) ps m in
    n (rw (← (stands_one t sound k x.0 p (record { inside = low x.0 x.1; bears = rw x.2 b }) stands)) x.1))

module _ (t : Table) (p : ℕ) where
  abbrev own : Control
  own = at t p

  pub record Sent (ps : List ℕ) (d : List ℕ) : Type 0 where
    pub piece : List ℕ
    pub share : Share (map (at t) ps) d own piece
    pub sized : length piece ≡ size_in own
    pub bytes : Bytes d → Bytes piece
    pub ready : unready (held_by own) own ≡ false
    pub taken : takes (held_by own) own (value_in piece) ≡ true
    pub pair : Pair ps (all_set (map (at t) ps) d) p (with_cur (stored_for (held_by own) own (value_in piece)) own)

  pub sent_to_lem : (ps : List ℕ) (d : List ℕ) → any (λ c. unready (held_by c) c) (map (at t) ps) ≡ false
      → all_take (map (at t) ps) d ≡ true → length d ≡ sizes_of (map (at t) ps) → p ∈ ps → Sent ps d
  unfolding all_take all_set sizes_of
  sent_to_lem [] d r k l m = absurd (Memᴰ.not-nil m)
  sent_to_lem (q ∷ ps) d r k l m =
      ⊎_elim here
      (λ (i : p ∈ ps). further (sent_to_lem ps (rest_of c d) ready_all.1 taken_all.1 (length-drop (size_in c) d ∙ omega arith) i))
      (Memᴰ.cases_cons m)
    where
      c : Control
      c = at t q

      ready_all : (unready (held_by c) c ≡ false) × (any (λ e. unready (held_by e) e) (map (at t) ps) ≡ false)
      ready_all = any_front c (map (at t) ps) r

      taken_all : (takes (held_by c) c (sent_to c d) ≡ true) × (all_take (map (at t) ps) (rest_of c d) ≡ true)
      taken_all = (reads_and _ _ (reads_true _) (reads_true _)).says k

      here : p ≡ q → Sent (q ∷ ps) d
      here e = let i : own ≡ c = ap (at t) e in record {
        piece = take (size_in c) d;
        share = rw i first;
        sized = rw i (length-take-le (size_in c) d (omega arith));
        bytes = λ b. bytes_take (size_in c) d b;
        ready = rw i ready_all.0;
        taken = rw i taken_all.0;
        pair = rw (i, e) front;
      }

      further : Sent ps (rest_of c d) → Sent (q ∷ ps) d
      further h = record {
        piece = h.piece;
        share = later h.share;
        sized = h.sized;
        bytes = λ b. h.bytes (bytes_drop (size_in c) d b);
        ready = h.ready;
        taken = h.taken;
        pair = behind h.pair;
      }
