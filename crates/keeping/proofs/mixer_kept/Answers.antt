-- The declared cluster first, then the length.
use borrow.Author.Rules.{rules}
use Prim.Native.Nat.{ℕ}
use mathlib.Core.Path.{◌≡◌, sym, ap, ◌∙◌}
use mathlib.Core.Bool.{Bool, true, false, ◌&&◌}
use mathlib.Core.List.{List}
use lib.Dec.{eqb}
use Rattle.layout.specs.declared.Cluster.{Cluster}
use Rattle.channels.specs.DeclaredChannels.{cluster_kept}
use Rattle.edition.specs.Audio.{channels_in, mixer_length, mixer_kept}
use Rattle.keeping.specs.Keeping.{Entering}
use Rattle.keeping.proofs.mixer_kept.Goals as goal

module _ (p : ℕ) (c : Cluster) (l : ℕ) (cs : List Cluster) (b : Bool) (e : b ≡ cluster_kept c) where
  cluster_broken : b ≡ false → b ≡ mixer_kept p c l cs
  unfolding mixer_kept
  cluster_broken h = h ∙ sym (ap (λ (x : Bool). x && eqb l (mixer_length p c.channels (channels_in cs))) (sym e ∙ h))

  by_length : b ≡ true → (i m : ℕ) → Entering cs i → m ≡ mixer_length p c.channels i → eqb l m ≡ mixer_kept p c l cs
  unfolding mixer_kept
  by_length h i m n f =
      ap (eqb l) (f ∙ ap (mixer_length p c.channels) n.all_channels)
      ∙ sym (ap (λ (x : Bool). x && eqb l (mixer_length p c.channels (channels_in cs))) (sym e ∙ h))

ruleset laws = (cluster_broken, by_length, rules)

pub returns-then-cluster_kept : goal.returns-then-cluster_kept
returns-then-cluster_kept c = search laws

pub returns-else-cluster_kept : goal.returns-else-cluster_kept
returns-else-cluster_kept c = search laws
