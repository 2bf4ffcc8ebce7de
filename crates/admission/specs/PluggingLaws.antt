-- A microphone is plugged in: what a plug-in comes to, and each way out of the code.
--   admitted_cases, plug_cases  ==  what a plug-in comes to, refusal by refusal in document 02's order
--   Judged r o x    ==  the plug-in o of the reading r comes to what the refusal x says: 0 lets it in, and the reader accepts it then
--   judged          ==  .. of admissionBy's refusal
use Rattle.std.specs.Prelude.{ℕ, ◌+◌, ◌≡◌, Bool, eqb, leb}
use Rattle.std.proofs.Math.Path.{refl}
use Rattle.std.proofs.Common.{eq-eqb, ne_eqb}
use Rattle.std.proofs.Math.Bool.{true, false}
use Rattle.ground.specs.declared.Refusal.{Refusal}
use Rattle.ground.specs.Pick.{pick, yes, no, Reads, refutes, reads_eq}
use Rattle.ground.specs.Refuse.{none}
use Rattle.topology.specs.declared.Reading.{Reading}
use Rattle.sides.specs.Sides.{most_together, admission_by}
use Rattle.admission.specs.Plugging.{Plugging, let_in_unless, admitted_by}
use Rattle.admission.specs.Plugging.Plugging.{refused, let_in}

pub admitted_cases : (n : ℕ) (r : Reading)
    → admitted_by n r ≡ pick (eqb r.number 0) (pick (leb (n + r.controls) most_together) (let_in r) (refused 62 0)) (refused r.number r.place)
unfolding admitted_by admission_by
admitted_cases n r = go (eqb r.number 0) (reads_eq r.number 0) (leb (n + r.controls) most_together)
  where
    go : (x : Bool) → Reads x (r.number ≡ 0) → (y : Bool)
        → let_in_unless (pick x (pick y none (record { number = 62; place = 0 })) (record { number = r.number; place = r.place })) r
        ≡ pick x (pick y (let_in r) (refused 62 0)) (refused r.number r.place)
    go true h true = refl
    go true h false = refl
    go false h y = no _ _ (refutes (reads_eq r.number 0) (h.denies refl))

pub record Judged (r : Reading) (o : Plugging) (x : Refusal) : Type 0 where
  pub accepts : x.number ≡ 0 → (r.number ≡ 0) × (o ≡ let_in r)
  pub refuses : (x.number ≡ 0 → ⊥) → o ≡ refused x.number x.place

accepted_by : (x p c n : ℕ) → (admission_by x p c n).number ≡ 0 → x ≡ 0
unfolding admission_by
accepted_by x p c n = go (eqb x 0) (reads_eq x 0) (leb (n + c) most_together)
  where
    go : (a : Bool) → Reads a (x ≡ 0) → (b : Bool)
        → (pick a (pick b none (record { number = 62; place = 0 })) (record { number = x; place = p })).number ≡ 0 → x ≡ 0
    go true h b e = h.says refl
    go false h b e = e

pub judged : (met : ℕ) (r : Reading) → Judged r (admitted_by met r) (admission_by r.number r.place r.controls met)
unfolding admitted_by
judged met r = record { accepts = λ e. (accepted_by r.number r.place r.controls met e, yes _ _ (eq-eqb _ _ e)); refuses = λ n. no _ _ (ne_eqb _ _ n) }
