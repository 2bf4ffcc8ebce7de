-- What every step does to the state, and every run: the words of demand 2.
--   Settles s range x v  ==  of a ranged control of sort s with that range, which is legal, v is stored where x, not too wide, is wanted
--                            (Stored, of crate setting, says so over the integers: the closest available setting, silence as itself)
--   CurMeans k range x v ==  v is what CUR must be where the control holds k, has that range and x was asked: of a ranged control
--                            the closest setting (Settles), of another x
--   GetGiven t s bytes   ==  the setup asks a part of the controls that it addresses, of which there are some, and the bytes are the first
--                            wLength of that part of each, one after another, each low first and at its size
--   Share cs d c piece   ==  the piece of the data d of a Set of the controls cs that is the control c's
--   Turned cs d b a      ==  the control b, one of cs, is a after the Set: its CUR is what is stored where the number of its piece of the data d
--                            is wanted, and else it is as it was
--   SetStored t s d v    ==  from the table t to v each control that the setup addresses is turned so, and every other is as it was
--   LoadStored t k range w v  ==  .. the control of the key k is loaded with that range, and its CUR is what is stored where w is wanted
--   About step c         ==  the step is about the control c: it loads it, or addresses it
--   Alone t step v       ==  v differs from t in the numbers of the controls that the step is about alone: every other index is what it was
--   Moved t k p rs ns v  ==  from t to v the control of the key k, at index p, was given the ranges rs and asked to take the numbers ns,
--                            in this order: it stands where it stood, with as many pins; it is loaded if it was or was given a
--                            range; its range is the last of rs; its CUR is what is stored where the last of ns is wanted; it is
--                            as it was where ns is empty; and 30 has nothing against the table
--   Means k part c rs ns v  ==  v is what a Get of that part must give, where c is the control at the start, rs are the ranges of
--                            its accepted loads since and ns the numbers of its accepted loads and Sets since
--   key_in c              ==  the key of the control c
--   RightValue st run part c v  ==  v is such a number of c, and c's own where the run told it none
--   Valued st run part cs vs  ==  vs are such numbers of the controls cs, one for each
--   in_bytes n vs         ==  the numbers vs, one after another, each in n bytes, low first
--   GetAnswered st run s bytes  ==  the bytes are the first wLength of such numbers of the controls that the setup addresses
use Rattle.std.specs.Prelude.{ℕ, ◌<◌, ◌≡◌, List, [], ◌∷◌, ◌++◌, true, ◌||◌, length, take}
use Rattle.ground.specs.Numbers.{byte, word}
use Rattle.setting.specs.Setting.{span_of}
use Rattle.setting.specs.Meaning.{value, Legal, Stored}
use Rattle.setting.specs.declared.Range.{Range}
use Rattle.setting.specs.declared.Sort.{Sort}
use Rattle.table.specs.declared.Control.{Control}
use Rattle.table.specs.declared.Sense.{Sense}
use Rattle.table.specs.declared.Sense.TheVariants.{Unknown, YesNo, Ranged, Pin}
use Rattle.table.specs.declared.Table.{Table}
use Rattle.table.specs.Controls.{at, sense_of, size_of, range_of}
use Rattle.table.specs.Keys.{Key, Bears, StandsAt}
use Rattle.table.specs.Same.{Same}
use Rattle.sound.specs.Meaning.{Sound}
use Rattle.setup.specs.declared.Part.{Part}
use Rattle.setup.specs.declared.Part.TheVariants.{Cur, Min, Max, Res}
use Rattle.setup.specs.Setup.{code_of}
use Rattle.deed.specs.Reply.{low_first}
use Rattle.answers.specs.Held.{part_of, value_in, with_cur}
use Rattle.answers.specs.Answers.{held_by, size_in, rest_of, block_of}
use Rattle.request.specs.declared.State.{State}
use Rattle.runs.specs.Runs.{named_by, Step, ranges_in, numbers_in, told, last_of, some_of}
use Rattle.runs.specs.Runs.Step.{load, request}
use Rattle.runs.specs.RequestRows.{Names, Addressed}

pub record Settles (s : Sort) (range : Range) (x v : ℕ) : Type 0 where
  pub legal : Legal s range
  pub asked : x < span_of s
  pub fits : v < span_of s
  pub means : Stored s range (value s x) (value s v)

abbrev pub CurMeans : Sense → Range → ℕ → ℕ → Type 0
CurMeans Unknown range x v = v ≡ x
CurMeans YesNo range x v = v ≡ x
CurMeans (Ranged s) range x v = Settles s range x v
CurMeans Pin range x v = v ≡ x

pub record GetGiven (t : Table) (s bytes : List ℕ) : Type 0 where
  pub part : Part
  pub code : byte s 1 ≡ code_of part
  pub controls : List Control
  pub addressed : Addressed t s controls
  pub some : controls ≡ [] → ⊥
  pub given : bytes ≡ take (word s 6) (block_of part controls)

pub data Share : List Control → List ℕ → Control → List ℕ → Type 0 where
  first : {c : Control} {cs : List Control} {d : List ℕ} → Share (c ∷ cs) d c (take (size_in c) d)
  later : {c e : Control} {cs : List Control} {d piece : List ℕ} → Share cs (rest_of c d) e piece → Share (c ∷ cs) d e piece

pub record Turned (cs : List Control) (d : List ℕ) (b a : Control) : Type 0 where
  pub piece : List ℕ
  pub share : Share cs d b piece
  pub sized : length piece ≡ size_in b
  pub cur : CurMeans (held_by b) (range_of b) (value_in piece) a.cur
  pub rest : a ≡ with_cur a.cur b

pub record SetStored (t : Table) (s d : List ℕ) (v : Table) : Type 0 where
  pub controls : List Control
  pub addressed : Addressed t s controls
  pub some : controls ≡ [] → ⊥
  pub each : (i : ℕ) → i < t.count → Names (named_by s) (at t i) → Turned controls d (at t i) (at v i)
  pub others : (i : ℕ) → (i < t.count → Names (named_by s) (at t i) → ⊥) → at v i ≡ at t i
  pub count : v.count ≡ t.count

pub record LoadStored (t : Table) (k : Key) (range : Range) (w : ℕ) (v : Table) : Type 0 where
  pub index : ℕ
  pub stands : StandsAt t k index
  pub loaded : (at v index).loaded ≡ true
  pub ranged : range_of (at v index) ≡ range
  pub cur : CurMeans (sense_of k.selector) range w (at v index).cur
  pub same : Same (at v index) (at t index)
  pub pins : (at v index).pins ≡ (at t index).pins
  pub others : (q : ℕ) → (q ≡ index → ⊥) → at v q ≡ at t q
  pub count : v.count ≡ t.count

abbrev pub About : Step → Control → Type 0
About (load k range w) c = Bears k c
About (request s d room) c = Names (named_by s) c

pub record Alone (t : Table) (step : Step) (v : Table) : Type 0 where
  pub count : v.count ≡ t.count
  pub room : length v.controls ≡ length t.controls
  pub others : (q : ℕ) → (q < t.count → About step (at t q) → ⊥) → at v q ≡ at t q
  pub same : (q : ℕ) → Same (at v q) (at t q)
  pub pins : (q : ℕ) → (at v q).pins ≡ (at t q).pins

pub record Moved (t : Table) (k : Key) (p : ℕ) (rs : List Range) (ns : List ℕ) (v : Table) : Type 0 where
  pub sound : Sound v
  pub there : StandsAt v k p
  pub same : Same (at v p) (at t p)
  pub pins : (at v p).pins ≡ (at t p).pins
  pub loaded : (at v p).loaded ≡ ((at t p).loaded || some_of rs)
  pub ranges : range_of (at v p) ≡ last_of (range_of (at t p)) rs
  pub unmoved : ns ≡ [] → at v p ≡ at t p
  pub cur : (ns ≡ [] → ⊥) → CurMeans (sense_of k.selector) (range_of (at v p)) (last_of 0 ns) (at v p).cur

abbrev pub Means : Sense → Part → Control → List Range → List ℕ → ℕ → Type 0
Means k Cur c rs ns v = CurMeans k (last_of (range_of c) rs) (last_of c.cur ns) v
Means k Min c rs ns v = v ≡ (last_of (range_of c) rs).min
Means k Max c rs ns v = v ≡ (last_of (range_of c) rs).max
Means k Res c rs ns v = v ≡ (last_of (range_of c) rs).res

abbrev pub key_in : Control → Key
key_in c = record { unit = c.unit; channel = c.channel; selector = c.selector }

module _ (st : State) (run : List Step) (part : Part) where
  pub record RightValue (c : Control) (v : ℕ) : Type 0 where
    pub means : Means (held_by c) part c (told (ranges_in (key_in c)) st run) (told (numbers_in (key_in c)) st run) v
    pub first : told (numbers_in (key_in c)) st run ≡ [] → v ≡ part_of part c

  pub data Valued : List Control → List ℕ → Type 0 where
    none : Valued [] []
    more : {c : Control} {cs : List Control} {v : ℕ} {vs : List ℕ} → RightValue c v → Valued cs vs → Valued (c ∷ cs) (v ∷ vs)

unfoldable pub in_bytes : ℕ → List ℕ → List ℕ
in_bytes n [] = []
in_bytes n (v ∷ vs) = low_first n v ++ in_bytes n vs

pub record GetAnswered (st : State) (run : List Step) (s bytes : List ℕ) : Type 0 where
  pub part : Part
  pub code : byte s 1 ≡ code_of part
  pub controls : List Control
  pub addressed : Addressed st.table s controls
  pub some : controls ≡ [] → ⊥
  pub values : List ℕ
  pub given : bytes ≡ take (word s 6) (in_bytes (size_of (sense_of (byte s 3))) values)
  pub means : Valued st run part controls values
