-- What is answered where something is done at the controls, or refused.
--   done_answer  ==  the control as a load's deed leaves it, stored where it stands, is what the doing comes to there
--   refuses      ==  a refusal's answer
--   stored_more  ==  one control more is stored
--   stored_other ==  every other index is as it was; stored_room: and there are as many
use Prim.Native.Nat.{ℕ}
use mathlib.Core.Path.{◌≡◌, refl, sym, ap, ◌∙◌}
use mathlib.Core.List.{List, [], ◌∷◌, ◌++◌, Memᴰ}
use native.Mathlib.Omega.{arith}
use lib.ListN.{length, length-set}
use Rattle.table.specs.declared.Control.{Control}
use Rattle.table.specs.declared.Table.{Table}
use Rattle.table.specs.Controls.{at, placed}
use Rattle.table.specs.Placed.{placed_elsewhere}
use Rattle.deed.specs.Doing.{Doing}
use Rattle.loads.specs.Load.{deed_of, OfOne, denies, changes}
use Rattle.request.specs.declared.State.{State}
use Rattle.request.specs.declared.Answer.{Answer}
use Rattle.request.specs.Outcome.{Outcome, answer_of, refusal, deed_answer}
use Rattle.request.specs.Outcome.Outcome.{refused}
use Rattle.request.specs.Stored.{stored_at, outcome_at}

pub done_answer : (st : State) (p : ℕ) (o : Doing) → OfOne o
    → deed_answer st p (deed_of (at st.table p) o) ≡ answer_of st (outcome_at st.table (p ∷ []) o)
unfolding answer_of stored_at
done_answer st p _ denies = refl
done_answer st p _ changes = refl

pub refuses : (st : State) (o : Outcome) (r : Answer) (n : ℕ) → o ≡ refused n → r ≡ refusal st n → r ≡ answer_of st o
unfolding answer_of
refuses st o r n e f = f ∙ sym (ap (answer_of st) e)

pub stored_more : (t : Table) (ps : List ℕ) (cs : List Control) → length ps ≡ length cs → (p : ℕ) (c : Control)
    → stored_at t (ps ++ p ∷ []) (cs ++ c ∷ []) ≡ placed (stored_at t ps cs) p c
unfolding stored_at
stored_more t [] [] l p c = refl
stored_more t [] (e ∷ cs) l p c = absurd (omega arith)
stored_more t (q ∷ ps) [] l p c = absurd (omega arith)
stored_more t (q ∷ ps) (e ∷ cs) l p c = stored_more (placed t q e) ps cs (omega arith) p c

pub stored_room : (t : Table) (ps : List ℕ) (cs : List Control) → length (stored_at t ps cs).controls ≡ length t.controls
unfolding stored_at
stored_room t [] cs = refl
stored_room t (p ∷ ps) [] = refl
stored_room t (p ∷ ps) (c ∷ cs) = stored_room (placed t p c) ps cs ∙ length-set t.controls p c

pub stored_other : (t : Table) (ps : List ℕ) (cs : List Control) (q : ℕ) → (Memᴰ q ps → ⊥) → at (stored_at t ps cs) q ≡ at t q
unfolding stored_at
stored_other t [] cs q h = refl
stored_other t (p ∷ ps) [] q h = refl
stored_other t (p ∷ ps) (c ∷ cs) q h =
    stored_other (placed t p c) ps cs q (λ m. h (Memᴰ.tail m)) ∙ placed_elsewhere t p c q (λ e. h (Memᴰ.head e))
