-- When two indices of a table hold one control: "a control twice" (document 01, row 30).
--   Same a b        ==  the two have one unit, channel and selector
--   same_self, same_back, same_by  ==  Same is reflexive, symmetric and transitive
--   answers_same    ==  the search's test of an index decides that
--   same_answers    ==  the same controls answer to the same
use Rattle.std.specs.Prelude.{ℕ, ◌≡◌, refl}
use Rattle.std.proofs.Common.{sym, ◌∙◌}
use Rattle.ground.specs.Pick.{Reads, reads_same, reads_eq, reads_and}
use Rattle.table.specs.declared.Control.{Control}
use Rattle.table.specs.Controls.{answers_to}

pub record Same (a b : Control) : Type 0 where
  pub unit : a.unit ≡ b.unit
  pub channel : a.channel ≡ b.channel
  pub selector : a.selector ≡ b.selector

pub same_self : (a : Control) → Same a a
same_self a = record { unit = refl; channel = refl; selector = refl }

pub same_back : {a b : Control} → Same a b → Same b a
same_back h = record { unit = sym h.unit; channel = sym h.channel; selector = sym h.selector }

pub same_by : {a b c : Control} → Same a b → Same b c → Same a c
same_by h k = record { unit = h.unit ∙ k.unit; channel = h.channel ∙ k.channel; selector = h.selector ∙ k.selector }

pub same_answers : (u ch s : ℕ) (a b : Control) → Same a b → answers_to u ch s a ≡ answers_to u ch s b
unfolding answers_to
same_answers u ch s a b h = rw (h.unit, h.channel, h.selector)

-- a control answers to another's unit, channel and selector exactly where the two are the same
pub answers_same : (a b : Control) → Reads (answers_to b.unit b.channel b.selector a) (Same a b)
unfolding answers_to
answers_same a b =
    reads_same (reads_and _ _ (reads_eq _ _) (reads_and _ _ (reads_eq _ _) (reads_eq _ _)))
    (λ h. record { unit = h.0; channel = h.1.0; selector = h.1.1 })
    (λ h. (h.unit, (h.channel, h.selector)))
