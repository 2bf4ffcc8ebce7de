-- By its three ways out: it names a cluster, it has no pin, or pin 1's goes out.
use borrow.Author.Rules.{rules}
use Prim.Native.Nat.{ℕ, ◌<◌}
use mathlib.Core.Path.{◌≡◌, refl, sym, ap, ◌∙◌}
use mathlib.Core.Bool.{true, false}
use mathlib.Core.List.{List, [], ◌∷◌, map}
use native.Mathlib.Omega.{arith}
use lib.ListN.{length, get_or}
use Rattle.ground.specs.Pick.{yes, no}
use Rattle.layout3.specs.declared.Facts.{Facts}
use Rattle.edition3.specs.Third.{said_by}
use Rattle.entities.specs.declared.Node.{Node}
use Rattle.entities.specs.Run.{sources_of, descriptor_of}
use Rattle.sweep3.specs.Sweep.{id_on, first_id, gives_id}
use Rattle.sweep3.proofs.give_out.Goals as goal

module _ (s : List ℕ) (n : Node) (given : List ℕ) (f : Facts) (e : f ≡ said_by (descriptor_of s n)) where
  names : f.declares ≡ true → f.cluster ≡ gives_id s n (id_on given)
  unfolding gives_id
  names h = ap (λ (x : Facts). x.cluster) e ∙ sym (yes _ _ (sym (ap (λ (x : Facts). x.declares) e) ∙ h))

  module _ (h : f.declares ≡ false) (ids : List ℕ) (q : ids ≡ sources_of s n) where
    passes : first_id (map (id_on given) ids) ≡ gives_id s n (id_on given)
    unfolding gives_id
    passes = ap (λ (l : List ℕ). first_id (map (id_on given) l)) q ∙ sym (no _ _ (sym (ap (λ (x : Facts). x.declares) e) ∙ h))

    nothing : length ids ≡ 0 → 0 ≡ gives_id s n (id_on given)
    unfolding first_id
    nothing z = go ids z ∙ passes
      where
        go : (l : List ℕ) → length l ≡ 0 → 0 ≡ first_id (map (id_on given) l)
        go [] i = refl
        go (x ∷ l) i = absurd (omega arith)

    first : 0 < length ids → (i : ℕ) → i ≡ get_or ids 0 0 → (x : ℕ) → (x ≡ i) × (x < 256) → get_or given x 0 ≡ gives_id s n (id_on given)
    unfolding first_id
    first z i o x w = ap (λ (j : ℕ). get_or given j 0) (w.0 ∙ o) ∙ go ids z ∙ passes
      where
        go : (l : List ℕ) → 0 < length l → get_or given (get_or l 0 0) 0 ≡ first_id (map (id_on given) l)
        go [] i = absurd (omega arith)
        go (y ∷ l) i = refl

ruleset laws = (names, nothing, first, rules)

pub returns-then-said : goal.returns-then-said
returns-then-said c = search laws

pub returns-in_default : goal.returns-in_default
returns-in_default c = search laws

pub returns : goal.returns
returns c = search laws
