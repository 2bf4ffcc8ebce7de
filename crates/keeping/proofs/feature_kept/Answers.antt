-- The length, from the channels that enter by the one pin.
use borrow.Author.Rules.{rules}
use Prim.Native.Nat.{ℕ}
use mathlib.Core.Path.{◌≡◌, ap, ◌∙◌}
use mathlib.Core.List.{List, map}
use lib.Dec.{eqb}
use Rattle.edition.specs.Audio.{feature_length, feature_kept}
use Rattle.keeping.specs.Keeping.{channels_on}
use Rattle.sweep.specs.Sweep.{first_by}
use Rattle.keeping.proofs.feature_kept.Goals as goal

by_length : (ids counts : List ℕ) (n l c m : ℕ) → c ≡ (first_by (channels_on counts) ids).channels
    → m ≡ feature_length c n → eqb l m ≡ feature_kept n l (map (channels_on counts) ids)
unfolding feature_kept first_by
by_length ids counts n l c m e f = ap (eqb l) (f ∙ ap (λ (k : ℕ). feature_length k n) e)

ruleset laws = (by_length, rules)

pub returns : goal.returns
returns c = search laws
