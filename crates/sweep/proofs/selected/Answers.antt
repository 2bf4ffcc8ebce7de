-- Pin 1's index where all have the same, else 0.
use borrow.Author.Rules.{rules}
use Prim.Native.Nat.{ℕ}
use mathlib.Core.Path.{◌≡◌, sym, ap, ◌∙◌}
use mathlib.Core.Bool.{Bool, true, false}
use mathlib.Core.List.{List}
use Rattle.ground.specs.Pick.{yes, no}
use Rattle.layout.specs.declared.Cluster.{Cluster}
use Rattle.pins.specs.Same.{all_same}
use Rattle.edition.specs.Audio.{named}
use Rattle.sweep.proofs.selected.Goals as goal

module _ (k : Cluster) (ns : List ℕ) (b : Bool) (e : b ≡ all_same ns) where
  abbrev with : ℕ → Cluster
  with n = record { channels = k.channels; locations = k.locations; names = n }

  one_name : b ≡ true → with k.names ≡ named k ns
  unfolding named
  one_name h = sym (ap with (yes k.names 0 (sym e ∙ h)))

  other_names : b ≡ false → with 0 ≡ named k ns
  unfolding named
  other_names h = sym (ap with (no k.names 0 (sym e ∙ h)))

ruleset laws = (one_name, other_names, rules)

pub returns-then-same : goal.returns-then-same
returns-then-same c = search laws

pub returns-else-same : goal.returns-else-same
returns-else-same c = search laws
