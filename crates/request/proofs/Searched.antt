-- What the answer of the search says of the table.
--   is_unsound, is_sound  ==  30, or 30 has nothing against the table
--   is_missed  ==  .. and no control is addressed, which is 33 or 34
--   is_there   ==  .. and the indices are those of the addressed controls, of which there are some; is_seated: which are as they should be
use Prim.Native.Nat.{ℕ}
use Rattle.std.specs.Prelude.{Result, Ok, Err}
use mathlib.Core.Path.{◌≡◌, refl, sym, ap, ◌∙◌}
use mathlib.Core.List.{List, [], ◌∷◌}
use mathlib.Core.Bool.{Bool, true, false}
use native.Mathlib.Omega.{arith}
use lib.ListN.{length}
use borrow.Author.Tests.{lt-ltb}
use Rattle.ground.specs.Pick.{pick, yes}
use Rattle.ground.specs.Lists.{pad, pad_front}
use Rattle.table.specs.declared.Table.{Table}
use Rattle.sound.specs.Sound.{sound_of}
use Rattle.sound.specs.Meaning.{sound_reads}
use Rattle.address.specs.declared.Sought.{Sought}
use Rattle.address.specs.Addressed.{most_addressed, addressed_in, unit_in}
use Rattle.address.proofs.AddressedLemmas.{addressed_named, addressed_few, addressed_rising}
use Rattle.address.specs.Sought.{missing_by, sought_for, sought_in}
use Rattle.request.specs.Stored.{indices_in, rising_all_apart, Seated}

missing_other : (b : Bool) (n : ℕ) → missing_by b ≡ n → (n ≡ 30 → ⊥) × (n ≡ 0 → ⊥)
missing_other true n e = (λ i. omega arith, λ i. omega arith)
missing_other false n e = (λ i. omega arith, λ i. omega arith)

-- a refusal's number, 0 where there is none; what was sought, nothing where there is none
abbrev pub number_in : Result Sought ℕ → ℕ
number_in (Ok x) = 0
number_in (Err n) = n

abbrev pub is_err : Result Sought ℕ → ℕ
is_err (Ok x) = 0
is_err (Err n) = 1

abbrev value_in : Result Sought ℕ → Sought
value_in (Ok x) = x
value_in (Err n) = record { count = 0; indices = [] }

for_some : (t : Table) (u p : ℕ) (ps : List ℕ) → sought_for t u (p ∷ ps) ≡ Ok (record { count = length (p ∷ ps); indices = pad 0 most_addressed (p ∷ ps) })
for_some t u p ps = yes _ _ (lt-ltb 0 (length (p ∷ ps)) (omega arith))

for_not_30 : (t : Table) (u : ℕ) (ps : List ℕ) → sought_for t u ps ≡ Err 30 → ⊥
for_not_30 t u [] e = (missing_other (unit_in t u) _ refl).0 (ap number_in e)
for_not_30 t u (p ∷ ps) e = let z : ◌≡◌ {A = ℕ} 0 30 = ap number_in (sym (for_some t u p ps) ∙ e) in omega arith

for_missed : (t : Table) (u : ℕ) (ps : List ℕ) (n : ℕ) → sought_for t u ps ≡ Err n → (ps ≡ []) × (n ≡ missing_by (unit_in t u))
for_missed t u [] n e = (refl, sym (ap number_in e))
for_missed t u (p ∷ ps) n e = absurd (let z : ◌≡◌ {A = ℕ} 0 1 = ap is_err (sym (for_some t u p ps) ∙ e) in omega arith)

for_there : (t : Table) (u : ℕ) (ps : List ℕ) (x : Sought) → sought_for t u ps ≡ Ok x → ps ≡ [] → ⊥
for_there t u [] x e i = (missing_other (unit_in t u) _ refl).1 (ap number_in e)
for_there t u (p ∷ ps) x e i = let z : ◌≡◌ {A = ℕ} 0 1 = cc in omega arith

for_indices : (t : Table) (u : ℕ) (ps : List ℕ) (x : Sought) → sought_for t u ps ≡ Ok x → x ≡ record { count = length ps; indices = pad 0 most_addressed ps }
for_indices t u [] x e = absurd ((missing_other (unit_in t u) _ refl).1 (ap number_in e))
for_indices t u (p ∷ ps) x e = ap value_in (sym e ∙ for_some t u p ps)

module _ (t : Table) (u ch s : ℕ) (o : Result Sought ℕ) (e : o ≡ sought_in t u ch s) where
  abbrev ps : List ℕ
  ps = addressed_in t u ch s

  by_sound : (b : Bool) → sound_of t ≡ b → o ≡ pick b (sought_for t u ps) (Err 30)
  unfolding sought_in
  by_sound b f = e ∙ ap (λ (x : Bool). pick x (sought_for t u ps) (Err 30)) f

  pub is_unsound : o ≡ Err 30 → sound_of t ≡ false
  is_unsound h = go (sound_of t) refl
    where
      go : (b : Bool) → sound_of t ≡ b → sound_of t ≡ false
      go true f = absurd (for_not_30 t u ps (sym (by_sound true f) ∙ h))
      go false f = f

  module _ (h : o ≡ Err 30 → ⊥) where
    pub is_sound : sound_of t ≡ true
    is_sound = go (sound_of t) refl
      where
        go : (b : Bool) → sound_of t ≡ b → sound_of t ≡ true
        go true f = f
        go false f = absurd (h (by_sound false f))

    answer : o ≡ sought_for t u ps
    answer = by_sound true is_sound

    pub is_missed : (n : ℕ) → o ≡ Err n → (ps ≡ []) × (n ≡ missing_by (unit_in t u))
    is_missed n f = for_missed t u ps n (sym answer ∙ f)

    module _ (x : Sought) (f : o ≡ Ok x) where
      full : x ≡ record { count = length ps; indices = pad 0 most_addressed ps }
      full = for_indices t u ps x (sym answer ∙ f)

      pub is_indices : indices_in x ≡ ps
      is_indices = ap indices_in full ∙ pad_front 0 most_addressed ps (addressed_few t u ch s)

      pub is_there : ps ≡ [] → ⊥
      is_there = for_there t u ps x (sym answer ∙ f)

      pub is_seated : Seated x
      is_seated = record {
        few = let n = ap (λ (y : Sought). y.count) full in let f = addressed_few t u ch s in omega arith;
        inside = λ p m.
            let q = (addressed_named t u ch s p (rw is_indices at m)).inside in
            let c = ((sound_reads t).says is_sound).few in
            omega arith;
        each = rw is_indices (rising_all_apart (addressed_rising t u ch s));
      }
