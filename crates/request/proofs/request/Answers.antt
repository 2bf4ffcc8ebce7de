-- The rows in their order: 30, 31 and 32, 33 and 34, and then what is done at the addressed controls.
use borrow.Author.Rules.{rules}
use Prim.Native.Nat.{ℕ}
use Rattle.std.specs.Prelude.{Result, Ok, Err, Option, None, Some, Bool, true, false, eqb, unwrap_or}
use mathlib.Core.Path.{◌≡◌, refl, sym, ap, ◌∙◌}
use mathlib.Core.List.{List, [], ◌∷◌}
use lib.ListN.{length}
use native.Mathlib.Omega.{arith}
use borrow.Author.Tests.{eq-eqb, ne_eqb}
use Rattle.ground.specs.Pick.{yes, no, reads_eq}
use Rattle.table.specs.declared.Control.{Control}
use Rattle.table.specs.declared.Table.{Table}
use Rattle.setup.specs.declared.Target.{Target}
use Rattle.setup.specs.declared.Part.{Part}
use Rattle.setup.specs.declared.Asked.{Asked}
use Rattle.setup.specs.declared.Asked.TheVariants as asks
use Rattle.setup.specs.Setup.{asked_of, target_in}
use Rattle.deed.specs.Doing.{Doing}
use Rattle.deed.specs.Reply.{laid}
use Rattle.address.specs.declared.Sought.{Sought}
use Rattle.address.specs.Addressed.{addressed_in}
use Rattle.address.specs.Sought.{sought_in}
use Rattle.answers.specs.Answers.{set_of, get_of}
use Rattle.request.specs.declared.State.{State}
use Rattle.request.specs.declared.Answer.{Answer}
use Rattle.request.specs.Outcome.{Outcome, bytes_of, answer_of, refusal, Answered}
use Rattle.request.specs.Outcome.Outcome.{refused}
use Rattle.request.specs.Stored.{outcome_of, indices_in, Seated}
use Rattle.request.specs.Request.{barred_by, if_any, doing_of, done_at, answer_asked, request_of}
use Rattle.request.proofs.Searched.{number_in, is_err, is_unsound, is_sound, is_missed, is_indices, is_there, is_seated}
use Rattle.request.proofs.Storing.{refuses}
use Rattle.request.proofs.Passing.{set_writes_none}
use Rattle.request.proofs.request.Goals as goal

done_some : (t : Table) (u : ℕ) (ps : List ℕ) (act : List Control → Doing) → (ps ≡ [] → ⊥) → done_at t u ps act ≡ outcome_of t ps act
unfolding done_at
done_some t u [] act n = absurd (n refl)
done_some t u (p ∷ ps) act n = refl

-- a refusal as the code tells it
abbrev number_or : ℕ → Option ℕ → ℕ
number_or z None = z
number_or z (Some n) = n

abbrev is_some : Option ℕ → ℕ
is_some None = 0
is_some (Some n) = 1

none_given : (y : ℕ) → if_any y ≡ None → y ≡ 0
none_given y e = go (eqb y 0) refl
  where
    go : (b : Bool) → eqb y 0 ≡ b → y ≡ 0
    go true f = (reads_eq y 0).says f
    go false f = absurd (let z : ◌≡◌ {A = ℕ} 1 0 = ap is_some (sym (no None (Some y) f) ∙ e) in omega arith)

some_given : (y n : ℕ) → if_any y ≡ Some n → (n ≡ y) × (y ≡ 0 → ⊥)
some_given y n e = go (eqb y 0) refl
  where
    go : (b : Bool) → eqb y 0 ≡ b → (n ≡ y) × (y ≡ 0 → ⊥)
    go true f = absurd (let z : ◌≡◌ {A = ℕ} 0 1 = ap is_some (sym (yes None (Some y) f) ∙ e) in omega arith)
    go false f = (sym (ap (number_or 0) (sym (no None (Some y) f) ∙ e)), (reads_eq y 0).denies f)

-- one law for each way out
module _ (st : State) (s d b : List ℕ) (r : Answer) (k : Asked) (f : k ≡ asked_of s) (g : Target) (j : g ≡ target_in k) (o : Result Sought ℕ)
    (e : o ≡ sought_in st.table g.unit g.channel g.selector) where
  abbrev t : Table
  t = st.table

  abbrev Told : List ℕ → Type 0
  Told a = Answered st (request_of st s d (length b)) b r a

  abbrev ps : List ℕ
  ps = addressed_in t (target_in k).unit (target_in k).channel (target_in k).selector

  seen : o ≡ sought_in t (target_in k).unit (target_in k).channel (target_in k).selector
  seen = rw (← j) e

  refuses_all : (n : ℕ) → request_of st s d (length b) ≡ refused n → r ≡ refusal st n → Told b
  refuses_all n h q = record { result = refuses st _ r n h q; lent = ap (λ (x : Outcome). laid (bytes_of x) b) (sym h) }

  unsound : (n : ℕ) → o ≡ Err n → n ≡ 30 → r ≡ refusal st 30 → Told b
  unfolding request_of
  unsound n h z = refuses_all 30 (no _ _ (is_unsound t _ _ _ o seen (h ∙ ap Err z)))

  module _ (h : o ≡ Err 30 → ⊥) where
    asked : request_of st s d (length b) ≡ answer_asked st k d (length b)
    unfolding request_of
    asked = yes _ _ (is_sound t _ _ _ o seen h) ∙ ap (λ (y : Asked). answer_asked st y d (length b)) (sym f)

    barred_all : (n : ℕ) → if_any (barred_by k st.control) ≡ Some n → r ≡ refusal st n → Told b
    unfolding answer_asked
    barred_all n q =
        let w = some_given (barred_by k st.control) n q in
        refuses_all n (asked ∙ no _ _ (ne_eqb _ _ w.1) ∙ ap refused (sym w.0))

    free : if_any (barred_by k st.control) ≡ None → request_of st s d (length b) ≡ done_at t (target_in k).unit ps (doing_of k d (length b))
    unfolding answer_asked
    free q = asked ∙ yes _ _ (eq-eqb _ _ (none_given (barred_by k st.control) q))

    missed_all : (n : ℕ) → o ≡ Err n → if_any (barred_by k st.control) ≡ None → r ≡ refusal st n → Told b
    unfolding done_at
    missed_all n w q =
        let m = is_missed t _ _ _ o seen h n w in
        refuses_all n (free q ∙ ap (λ (l : List ℕ). done_at t (target_in k).unit l (doing_of k d (length b))) m.0 ∙ ap refused (sym m.1))

    missed_or : (n : ℕ) → o ≡ Err n → (x : Option ℕ) → if_any (barred_by k st.control) ≡ x → r ≡ refusal st (unwrap_or x n) → Told b
    missed_or n w None q = missed_all n w q
    missed_or n w (Some m) q = barred_all m q

  missed : (n : ℕ) → o ≡ Err n → (n ≡ 30 → ⊥) → (x : Option ℕ) → x ≡ if_any (barred_by k st.control) → (m : ℕ) → m ≡ unwrap_or x n → r ≡ refusal st m → Told b
  missed n w z x i m q a = missed_or (λ v. z (ap number_in (sym w ∙ v))) n w x (sym i) (rw (← q) a)

  module _ (so : Sought) (y : o ≡ Ok so) (x : Option ℕ) (i : x ≡ if_any (barred_by k st.control)) where
    fine : o ≡ Err 30 → ⊥
    fine v = let z : ◌≡◌ {A = ℕ} 0 1 = ap is_err (sym y ∙ v) in omega arith

    barred : (n : ℕ) → x ≡ Some n → r ≡ refusal st n → Told b
    barred n z = barred_all fine n (sym i ∙ z)

    module _ (z : x ≡ None) where
      comes : (act : List Control → Doing) → doing_of k d (length b) ≡ act → request_of st s d (length b) ≡ outcome_of t (indices_in so) act
      comes act q =
          free fine (sym i ∙ z)
          ∙ done_some t (target_in k).unit ps (doing_of k d (length b)) (is_there t _ _ _ o seen fine so y)
          ∙ ap (λ (l : List ℕ). outcome_of t l (doing_of k d (length b))) (sym (is_indices t _ _ _ o seen fine so y))
          ∙ ap (outcome_of t (indices_in so)) q

      unknown : k ≡ asks.Unknown → r ≡ refusal st 31 → Told b
      unknown q = refuses_all 31 (comes _ (ap (λ (v : Asked). doing_of v d (length b)) q))

      setting : (w : Target) → k ≡ asks.Set w → r ≡ answer_of st (outcome_of t (indices_in so) (λ cs. set_of cs w.bytes d)) → Told b
      setting w q a =
          let c = comes (λ cs. set_of cs w.bytes d) (ap (λ (v : Asked). doing_of v d (length b)) q) in
          record {
            result = a ∙ sym (ap (answer_of st) c);
            lent = sym (ap (λ (v : Outcome). laid (bytes_of v) b) c ∙ ap (λ (v : List ℕ). laid v b) (set_writes_none t (indices_in so) w.bytes d));
          }

      getting : (part : Part) (w : Target) (a : List ℕ) → k ≡ asks.Get part w
          → Answered st (outcome_of t (indices_in so) (λ cs. get_of part cs w.bytes (length b))) b r a → Told a
      getting part w a q v = rw (comes (λ cs. get_of part cs w.bytes (length b)) (ap (λ (y : Asked). doing_of y d (length b)) q)) v

  seated : (so : Sought) → o ≡ Ok so → Seated so
  seated so y = is_seated t _ _ _ o seen (λ v. let z : ◌≡◌ {A = ℕ} 0 1 = ap is_err (sym y ∙ v) in omega arith) so y

ruleset laws = (unsound, missed, barred, unknown, setting, getting, rules)

pub returns-in-Err : goal.returns-in-Err
returns-in-Err c = search laws

pub returns-in-Err-2 : goal.returns-in-Err-2
returns-in-Err-2 c = search laws

pub returns-in-Some : goal.returns-in-Some
returns-in-Some c = search laws

pub set_all-requires : goal.set_all-requires
set_all-requires c = search (seated, rules)

pub get_all-requires : goal.get_all-requires
get_all-requires c = search (seated, rules)

pub returns-in-Set : goal.returns-in-Set
returns-in-Set c = search laws

pub returns-in-Get : goal.returns-in-Get
returns-in-Get c = search laws
