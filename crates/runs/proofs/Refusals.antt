-- What a refusal leaves, which numbers there are, and what an answer depends on.
--   Keeps t b o      ==  the outcome o leaves the table t and the reply b as they stood
--   Numbered P o     ==  if o is a refusal, its number has P; Denied P o: the same of what is done at the controls
--   refused_keeps    ==  "All leave table and reply as they stood": a step whose number is not 0 changes neither
--   LoadNumber, RequestNumber  ==  the numbers that the paper has for a load and for a request
--   load_numbers, request_numbers, accepted_is_0  ==  every step gets 0 or a number of the paper, and 0 exactly where it is accepted: never both
--   answered_one     ==  two results that the contract of a request allows are equal, and so are the two replies
use Prim.Native.Nat.{ℕ, ◌≤◌}
use mathlib.Core.Path.{◌≡◌, refl, sym, ◌∙◌, subst}
use mathlib.Core.List.{List, [], ◌∷◌, map}
use mathlib.Core.Bool.{Bool, true, false, ◌&&◌}
use mathlib.Core.Logic.{⊎_elim}
use native.Mathlib.Omega.{arith}
use Rattle.std.specs.Prelude.{Option, None, Some}
use lib.Dec.{eqb, ltb}
use lib.ListN.{length}
use borrow.Author.Tests.{eq-eqb, ne_eqb}
use Rattle.ground.specs.Pick.{pick, decided, reads_eq}
use Rattle.ground.specs.Lists.{any}
use Rattle.setting.specs.Setting.{fits_of, legal_of}
use Rattle.setting.specs.declared.Range.{Range}
use Rattle.table.specs.declared.Control.{Control}
use Rattle.table.specs.declared.Table.{Table}
use Rattle.table.specs.First.{entry_in}
use Rattle.table.specs.declared.Sense.{Sense}
use Rattle.table.specs.declared.Sense.TheVariants.{Unknown, YesNo, Ranged, Pin}
use Rattle.table.specs.Controls.{at, sense_of}
use Rattle.table.specs.Keys.{Key}
use Rattle.address.specs.Sought.{missing_by}
use Rattle.sound.specs.Sound.{sound_of}
use Rattle.setup.specs.declared.Target.{Target}
use Rattle.setup.specs.declared.Part.{Part}
use Rattle.setup.specs.declared.Asked.{Asked}
use Rattle.setup.specs.declared.Asked.TheVariants as asks
use Rattle.setup.specs.Setup.{asked_of, target_in}
use Rattle.deed.specs.Doing.{Doing}
use Rattle.deed.specs.Reply.{laid}
use Rattle.deed.specs.Doing.Doing.{denied, given, changed}
use Rattle.answers.specs.Held.{lacking, unready}
use Rattle.answers.specs.Answers.{held_by, all_take, misfits, cut_to, set_of, get_of}
use Rattle.loads.specs.Load.{load_range, load_by, load_on}
use Rattle.request.specs.declared.State.{State}
use Rattle.request.specs.declared.Answer.{Answer}
use Rattle.request.specs.Outcome.{Outcome, number_of, bytes_of, table_after, Answered}
use Rattle.request.specs.Outcome.Outcome.{refused, got, done}
use Rattle.address.specs.Addressed.{addressed_in, unit_in}
use Rattle.request.specs.Stored.{outcome_at}
use Rattle.request.specs.Load.{load_at, load_of}
use Rattle.request.specs.Request.{elsewhere_by, barred_by, doing_of, done_at, answer_asked, request_of}
use Rattle.runs.specs.Runs.{Step, step_of, accepted}
use Rattle.runs.specs.Runs.Step.{load, request}

pub record Keeps (t : Table) (b : List ℕ) (o : Outcome) : Type 0 where
  pub table : table_after t o ≡ t
  pub reply : laid (bytes_of o) b ≡ b

pub refused_keeps : (t : Table) (b : List ℕ) (o : Outcome) → (number_of o ≡ 0 → ⊥) → Keeps t b o
refused_keeps t b (refused n) h = record { table = refl; reply = refl }
refused_keeps t b (got bytes) h = absurd (h refl)
refused_keeps t b (done v) h = absurd (h refl)

pub data LoadNumber : ℕ → Type 0 where
  load_30 : LoadNumber 30
  load_20 : LoadNumber 20
  load_21 : LoadNumber 21

pub record RequestNumber (n : ℕ) : Type 0 where
  pub from : 30 ≤ n
  pub to : n ≤ 39

abbrev pub Numbered : (ℕ → Type 0) → Outcome → Type 0
Numbered P (refused n) = P n
Numbered P (got bytes) = Unit {0}
Numbered P (done t) = Unit {0}

abbrev pub Denied : (ℕ → Type 0) → Doing → Type 0
Denied P (denied n) = P n
Denied P (given bytes) = Unit {0}
Denied P (changed cs) = Unit {0}

module _ (P : ℕ → Type 0) where
  either_numbered : (b : Bool) (x y : Outcome) → Numbered P x → Numbered P y → Numbered P (pick b x y)
  either_numbered true x y p q = p
  either_numbered false x y p q = q

  either_denied : (b : Bool) (x y : Doing) → Denied P x → Denied P y → Denied P (pick b x y)
  either_denied true x y p q = p
  either_denied false x y p q = q

  denied_numbered : (t : Table) (ps : List ℕ) (o : Doing) → Denied P o → Numbered P (outcome_at t ps o)
  denied_numbered t ps (denied n) p = p
  denied_numbered t ps (given bytes) p = p
  denied_numbered t ps (changed cs) p = p

load_by_numbers : (k : Sense) (c : Control) (range : Range) (w : ℕ) → Denied LoadNumber (load_by k c range w)
unfolding load_by load_range
load_by_numbers Unknown c range w = load_20
load_by_numbers YesNo c range w = load_20
load_by_numbers Pin c range w = load_20
load_by_numbers (Ranged s) c range w = either_denied LoadNumber (legal_of s range && fits_of s w) _ _ tt load_21

load_at_numbers : (t : Table) (e : Option (ℕ × Control)) (range : Range) (w : ℕ) → Numbered LoadNumber (load_at t e range w)
unfolding load_at
load_at_numbers t None range w = load_20
load_at_numbers t (Some found) range w =
    denied_numbered LoadNumber t (found.0 ∷ []) (load_on found.1 range w) (load_by_numbers (sense_of found.1.selector) found.1 range w)

pub load_numbers : (st : State) (k : Key) (range : Range) (w : ℕ) → Numbered LoadNumber (load_of st k.unit k.channel k.selector range w)
unfolding load_of
load_numbers st k range w =
    either_numbered LoadNumber (sound_of st.table) _ _ (load_at_numbers st.table (entry_in st.table k.unit k.channel k.selector) range w) load_30

number : (n : ℕ) → 30 ≤ n → n ≤ 39 → RequestNumber n
number n h k = record { from = h; to = k }

set_numbers : (cs : List Control) (n : ℕ) (d : List ℕ) → Denied RequestNumber (set_of cs n d)
unfolding set_of
set_numbers cs n d =
    either_denied RequestNumber (any (λ c. unready (held_by c) c) cs) _ _ (number 36 (omega arith) (omega arith))
    (either_denied RequestNumber (misfits cs n d) _ _ (number 37 (omega arith) (omega arith))
    (either_denied RequestNumber (all_take cs d) _ _ tt (number 38 (omega arith) (omega arith))))

get_numbers : (part : Part) (cs : List Control) (n room : ℕ) → Denied RequestNumber (get_of part cs n room)
unfolding get_of
get_numbers part cs n room =
    either_denied RequestNumber (any (λ c. lacking (held_by c) part) cs) _ _ (number 35 (omega arith) (omega arith))
    (either_denied RequestNumber (any (λ c. unready (held_by c) c) cs) _ _ (number 36 (omega arith) (omega arith))
    (either_denied RequestNumber (ltb room (length (cut_to n part cs))) _ _ (number 39 (omega arith) (omega arith)) tt))

doing_numbers : (k : Asked) (d : List ℕ) (room : ℕ) (cs : List Control) → Denied RequestNumber (doing_of k d room cs)
doing_numbers asks.Unknown d room cs = number 31 (omega arith) (omega arith)
doing_numbers (asks.Set g) d room cs = set_numbers cs g.bytes d
doing_numbers (asks.Get part g) d room cs = get_numbers part cs g.bytes room

-- where no control is addressed, one of 33 and 34
missed_numbers : (b : Bool) → RequestNumber (missing_by b)
missed_numbers true = number 34 (omega arith) (omega arith)
missed_numbers false = number 33 (omega arith) (omega arith)

done_numbers : (t : Table) (u : ℕ) (ps : List ℕ) (k : Asked) (d : List ℕ) (room : ℕ) → Numbered RequestNumber (done_at t u ps (doing_of k d room))
unfolding done_at
done_numbers t u [] k d room = missed_numbers (unit_in t u)
done_numbers t u (p ∷ ps) k d room =
    denied_numbered RequestNumber t (p ∷ ps) (doing_of k d room (map (at t) (p ∷ ps))) (doing_numbers k d room (map (at t) (p ∷ ps)))

-- 31 and 32, where either bars the request
Barred : ℕ → Type 0
Barred x = (x ≡ 0 → ⊥) → RequestNumber x

elsewhere_numbers : (g : Target) (m : ℕ) → Barred (elsewhere_by g m)
unfolding elsewhere_by Barred
elsewhere_numbers g m = go (eqb g.interface m)
  where
    go : (b : Bool) → (◌≡◌ {A = ℕ} (pick b 0 32) 0 → ⊥) → RequestNumber (pick b 0 32)
    go true h = absurd (h refl)
    go false h = number 32 (omega arith) (omega arith)

barred_numbers : (k : Asked) (m : ℕ) → Barred (barred_by k m)
unfolding Barred
barred_numbers asks.Unknown m h = number 31 (omega arith) (omega arith)
barred_numbers (asks.Set g) m h = elsewhere_numbers g m h
barred_numbers (asks.Get part g) m h = elsewhere_numbers g m h

barred_or : (o : Outcome) (x : ℕ) → Numbered RequestNumber o → Barred x → Numbered RequestNumber (pick (eqb x 0) o (refused x))
unfolding Barred
barred_or o x p h =
    ⊎_elim
    (λ (z : x ≡ 0). subst (λ (b : Bool). Numbered RequestNumber (pick b o (refused x))) (sym (eq-eqb _ _ z)) p)
    (λ (z : x ≡ 0 → ⊥). subst (λ (b : Bool). Numbered RequestNumber (pick b o (refused x))) (sym (ne_eqb _ _ z)) (h z))
    (decided (eqb x 0) (reads_eq x 0))

asked_numbers : (st : State) (k : Asked) (d : List ℕ) (room : ℕ) → Numbered RequestNumber (answer_asked st k d room)
unfolding answer_asked
asked_numbers st k d room = barred_or (done_at st.table (target_in k).unit (addressed_in st.table (target_in k).unit (target_in k).channel (target_in k).selector) (doing_of k d room)) (barred_by k st.control)
    (done_numbers st.table (target_in k).unit (addressed_in st.table (target_in k).unit (target_in k).channel (target_in k).selector) k d room) (barred_numbers k st.control)

pub request_numbers : (st : State) (s d : List ℕ) (room : ℕ) → Numbered RequestNumber (request_of st s d room)
unfolding request_of
request_numbers st s d room =
    either_numbered RequestNumber (sound_of st.table) _ _ (asked_numbers st (asked_of s) d room) (number 30 (omega arith) (omega arith))

-- 0 exactly where it is accepted
accepted_by : (P : ℕ → Type 0) → (P 0 → ⊥) → (o : Outcome) → Numbered P o → accepted o ≡ eqb (number_of o) 0
accepted_by P h (refused n) p = sym (ne_eqb n 0 (λ e. h (subst P e p)))
accepted_by P h (got bytes) p = refl
accepted_by P h (done t) p = refl

no_load_0 : (n : ℕ) → n ≡ 0 → LoadNumber n → ⊥
no_load_0 n e load_30 = omega arith
no_load_0 n e load_20 = omega arith
no_load_0 n e load_21 = omega arith

pub accepted_is_0 : (st : State) (step : Step) → accepted (step_of st step) ≡ eqb (number_of (step_of st step)) 0
accepted_is_0 st (load k range w) = accepted_by LoadNumber (no_load_0 0 refl) (step_of st (load k range w)) (load_numbers st k range w)
accepted_is_0 st (request s d room) = accepted_by RequestNumber (λ h. let f = h.from in omega arith) (request_of st s d room) (request_numbers st s d room)

-- the contract of a request settles its result and its reply
pub answered_one : (st : State) (o : Outcome) (b : List ℕ) (r q : Answer) (a e : List ℕ) → Answered st o b r a → Answered st o b q e
    → (r ≡ q) × (a ≡ e)
answered_one st o b r q a e x y = (x.result ∙ sym y.result, x.lent ∙ sym y.lent)
