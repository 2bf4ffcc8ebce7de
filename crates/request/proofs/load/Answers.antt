-- 30, then the control is sought; where it stands the load is done at it.
use borrow.Author.Rules.{rules}
use Prim.Native.Nat.{ℕ}
use Rattle.std.specs.Prelude.{Option, None, Some, Result}
use mathlib.Core.Path.{◌≡◌, sym, ap, ◌∙◌}
use mathlib.Core.List.{[], ◌∷◌}
use mathlib.Core.Bool.{Bool, true, false, not}
use native.Mathlib.Omega.{arith}
use borrow.Author.Tests.{not-true, not-false}
use Rattle.ground.specs.Pick.{yes, no}
use Rattle.setting.specs.declared.Range.{Range}
use Rattle.table.specs.declared.Control.{Control}
use Rattle.table.specs.declared.Table.{Table}
use Rattle.table.specs.Controls.{at}
use Rattle.table.specs.First.{Seat, found_in, entry_at, entry_in}
use Rattle.table.specs.First.Seat.{absent, seat}
use Rattle.sound.specs.Sound.{sound_of}
use Rattle.loads.specs.Load.{deed_of}
use Rattle.loads.specs.Load.{load_on, load_of_one}
use Rattle.request.specs.declared.State.{State}
use Rattle.request.specs.declared.Answer.{Answer}
use Rattle.request.specs.Outcome.{answer_of, refusal, deed_answer}
use Rattle.request.specs.Stored.{outcome_at}
use Rattle.request.specs.Load.{load_at, load_of}
use Rattle.request.proofs.Storing.{done_answer, refuses}
use Rattle.request.proofs.load.Goals as goal

-- the control of an entry is the one that stands there
abbrev held_in : Table → Option (ℕ × Control) → Control
held_in t None = at t 0
held_in t (Some found) = found.1

abbrev place_in : Option (ℕ × Control) → ℕ
place_in None = 0
place_in (Some found) = found.0

abbrev is_some : Option (ℕ × Control) → ℕ
is_some None = 0
is_some (Some found) = 1

entry_control : (t : Table) (x : Seat) (p : ℕ) (c : Control) → entry_at t x ≡ Some (p, c) → c ≡ at t p
entry_control t absent p c e = absurd (let z : ◌≡◌ {A = ℕ} 0 1 = ap is_some e in omega arith)
entry_control t (seat q) p c e = sym (ap (held_in t) e) ∙ ap (λ (x : Option (ℕ × Control)). at t (place_in x)) e

-- one law for each way out
module _ (st : State) (u ch s : ℕ) (range : Range) (w : ℕ) (r : Answer) (a : Bool) (e : a ≡ sound_of st.table) where
  no_table : not a ≡ true → r ≡ refusal st 30 → r ≡ answer_of st (load_of st u ch s range w)
  unfolding load_of
  no_table h = refuses st _ r 30 (no _ _ (sym e ∙ not-true a h))

  module _ (sound : not a ≡ false) (f : Option (ℕ × Control)) (g : f ≡ entry_in st.table u ch s) where
    comes : load_of st u ch s range w ≡ load_at st.table f range w
    unfolding load_of
    comes = yes _ _ (sym e ∙ not-false a sound) ∙ ap (λ (y : Option (ℕ × Control)). load_at st.table y range w) (sym g)

    missed : f ≡ None → r ≡ refusal st 20 → r ≡ answer_of st (load_of st u ch s range w)
    unfolding load_at
    missed h = refuses st _ r 20 (comes ∙ ap (λ (y : Option (ℕ × Control)). load_at st.table y range w) h)

    there : (p : ℕ) (c : Control) → f ≡ Some (p, c) → (d : Result Control ℕ) → d ≡ deed_of c (load_on c range w) → r ≡ deed_answer st p d
        → r ≡ answer_of st (load_of st u ch s range w)
    unfolding load_at
    there p c h d j q =
        let k : c ≡ at st.table p = entry_control st.table (found_in st.table u ch s) p c (sym g ∙ h) in
        q
        ∙ ap (deed_answer st p) (j ∙ ap (λ (x : Control). deed_of x (load_on x range w)) k)
        ∙ done_answer st p (load_on (at st.table p) range w) (load_of_one (at st.table p) range w)
        ∙ sym (ap (answer_of st) (comes ∙ ap (λ (y : Option (ℕ × Control)). load_at st.table y range w) h ∙ ap (λ (x : Control). outcome_at st.table (p ∷ []) (load_on x range w)) k))

ruleset laws = (no_table, missed, there, rules)

pub returns-then-not-sound : goal.returns-then-not-sound
returns-then-not-sound c = search laws

pub returns-in-None : goal.returns-in-None
returns-in-None c = search laws

pub returns-in-Some : goal.returns-in-Some
returns-in-Some c = search laws
