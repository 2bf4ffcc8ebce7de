-- Laws of what stands beside it in specs.
--   admitted_cases, plug_cases  ==  what a plug-in comes to, refusal by refusal in document 02's order
--   barred, vacant  ==  what a plug-in comes to where the side has no vacancy, and where it has one
--   was_refused, was_let_in  ==  what a refusal, an admission that came of a reading says
--   plug_barred, plug_turned, plug_let_in  ==  the ways of a plug-in
use Rattle.std.specs.Prelude.{ℕ, ◌+◌, ◌≡◌, Bool, List, eqb, leb, length}
use Rattle.std.proofs.Math.Path.{refl}
use Rattle.std.proofs.Common.{sym, ap, ◌∙◌, arith}
use Rattle.std.proofs.Math.Bool.{true, false}
use Rattle.std.specs.declared.result.Result.{Result}
use Rattle.std.specs.declared.result.Result.TheVariants.{Ok, Err}
use Rattle.ground.specs.declared.Refusal.{Refusal}
use Rattle.ground.specs.Pick.{pick, Reads, reads_eq}
use Rattle.topology.specs.declared.Reading.{Reading}
use Rattle.topology.specs.Reading.{reading_of}
use Rattle.plug.specs.Plugged.{state_of}
use Rattle.sides.specs.declared.Side.{Side}
use Rattle.sides.specs.Sides.{most_together, admission_by}
use Rattle.duet.specs.declared.Duet.{Duet}
use Rattle.duet.specs.Box.{other_side, socket_of, controls_on, sound_duet}
use Rattle.duet.specs.Coming.{vacancy_of}
use Rattle.admission.specs.declared.Admitted.{Admitted}
use Rattle.admission.specs.declared.Admission.{Admission}
use Rattle.admission.specs.Plugging.{Plugging, admitted_by, plug_of, turned_away, plug_answer, sheet_after, PlugsIn}
use Rattle.admission.specs.Plugging.Plugging.{refused, let_in}
use Rattle.admission.specs.Admission.{admission_unless, welcomed, Admits}
use Rattle.admission.specs.PluggingLaws.{admitted_cases, judged}

pub plug_cases : (b : Duet) (k : Side) (s : List ℕ) (room : ℕ)
    → plug_of b k s room
    ≡ pick (sound_duet b)
    (pick (socket_of b k).plugged (refused 61 0)
    (pick (eqb (reading_of s room).number 0)
    (pick (leb (controls_on (socket_of b (other_side k)) + (reading_of s room).controls) most_together) (let_in (reading_of s room)) (refused 62 0))
    (refused (reading_of s room).number (reading_of s room).place)))
    (refused 30 0)
unfolding plug_of
plug_cases b k s room =
    ap (λ (o : Plugging). pick (sound_duet b) (pick (socket_of b k).plugged (refused 61 0) o) (refused 30 0))
    (admitted_cases (controls_on (socket_of b (other_side k))) (reading_of s room))

module _ (b : Duet) (k : Side) (s : List ℕ) (room : ℕ) where
  barred : (n : ℕ) → Err n ≡ vacancy_of b k → plug_of b k s room ≡ refused n 0
  unfolding plug_of vacancy_of
  barred n = go (sound_duet b) (socket_of b k).plugged (controls_on (socket_of b (other_side k)))
    where
      go : (x y : Bool) (m : ℕ) → ◌≡◌ {A = Result ℕ ℕ} (Err n) (pick x (pick y (Err 61) (Ok m)) (Err 30))
          → pick x (pick y (refused 61 0) (admitted_by m (reading_of s room))) (refused 30 0) ≡ refused n 0
      go true true m e = let z : n ≡ 61 = cc in ap (λ (i : ℕ). refused i 0) (sym z)
      go true false m e = let z : ◌≡◌ {A = ℕ} 0 1 = cc in absurd (omega arith)
      go false y m e = let z : n ≡ 30 = cc in ap (λ (i : ℕ). refused i 0) (sym z)

  vacant : (met : ℕ) → Ok met ≡ vacancy_of b k → plug_of b k s room ≡ admitted_by met (reading_of s room)
  unfolding plug_of vacancy_of
  vacant met = go (sound_duet b) (socket_of b k).plugged (controls_on (socket_of b (other_side k)))
    where
      go : (x y : Bool) (m : ℕ) → ◌≡◌ {A = Result ℕ ℕ} (Ok met) (pick x (pick y (Err 61) (Ok m)) (Err 30))
          → pick x (pick y (refused 61 0) (admitted_by m (reading_of s room))) (refused 30 0) ≡ admitted_by met (reading_of s room)
      go true true m e = let z : ◌≡◌ {A = ℕ} 0 1 = cc in absurd (omega arith)
      go true false m e = let z : met ≡ m = cc in ap (λ (i : ℕ). admitted_by i (reading_of s room)) (sym z)
      go false y m e = let z : ◌≡◌ {A = ℕ} 0 1 = cc in absurd (omega arith)

module _ (y : Refusal) (r : Reading) where
  abbrev come : Admission
  come = record { entities = r.entities; controls = r.controls; state = state_of r }

  was_refused : (x : Refusal) → Err x ≡ admission_unless y r → (x ≡ y) × (y.number ≡ 0 → ⊥)
  was_refused x = go (eqb y.number 0) (reads_eq y.number 0)
    where
      go : (b : Bool) → Reads b (y.number ≡ 0) → Err x ≡ pick b (Ok come) (Err y) → (x ≡ y) × (y.number ≡ 0 → ⊥)
      go true h e = let z : ◌≡◌ {A = ℕ} 0 1 = cc in absurd (omega arith)
      go false h e = let z : x ≡ y = cc in (z, h.denies refl)

  was_let_in : (v : Admission) → Ok v ≡ admission_unless y r → (y.number ≡ 0) × (v ≡ come)
  was_let_in v = go (eqb y.number 0) (reads_eq y.number 0)
    where
      go : (b : Bool) → Reads b (y.number ≡ 0) → Ok v ≡ pick b (Ok come) (Err y) → (y.number ≡ 0) × (v ≡ come)
      go true h e = let z : v ≡ come = cc in (h.says refl, z)
      go false h e = let z : ◌≡◌ {A = ℕ} 0 1 = cc in absurd (omega arith)

module _ (b : Duet) (k : Side) (w : Result ℕ ℕ) (h : w ≡ vacancy_of b k) (s d : List ℕ) (r : Admitted) where
  pub plug_barred : (n : ℕ) → w ≡ Err n → r ≡ turned_away b n 0 → PlugsIn b k s d r d
  plug_barred n f e =
      let o : plug_of b k s (length d) ≡ refused n 0 = barred b k s (length d) n (sym f ∙ h) in
      record { result = e ∙ sym (ap (plug_answer b k) o); sheet = sym (ap (sheet_after s d) o) }

  module _ (met : ℕ) (free : w ≡ Ok met) (q : Result Admission Refusal) (e : List ℕ) (z : Admits met s d q e) where
    abbrev R : Reading
    R = reading_of s (length d)

    comes : admitted_by met R ≡ plug_of b k s (length d)
    comes = sym (vacant b k s (length d) met (sym free ∙ h))

    abbrev by : Refusal
    by = admission_by R.number R.place R.controls met

    answered : (o : Plugging) → admitted_by met R ≡ o → r ≡ plug_answer b k o → PlugsIn b k s d r e
    answered o g t = record { result = t ∙ ap (plug_answer b k) (sym g ∙ comes); sheet = z.sheet ∙ ap (sheet_after s d) comes }

    pub plug_turned : (x : Refusal) → q ≡ Err x → r ≡ turned_away b x.number x.place → PlugsIn b k s d r e
    plug_turned x g t =
        let c = was_refused by R x (sym g ∙ z.result) in
        answered _ ((judged met R).refuses c.1) (t ∙ ap (λ (y : Refusal). turned_away b y.number y.place) c.0)

    pub plug_let_in : (v : Admission) → q ≡ Ok v → r ≡ welcomed b k v → PlugsIn b k s d r e
    plug_let_in v g t =
        let c = was_let_in by R v (sym g ∙ z.result) in
        answered (let_in R) ((judged met R).accepts c.0).1 (t ∙ ap (welcomed b k) c.1)
