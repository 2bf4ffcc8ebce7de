-- One law for each kind: what enters by pin 1, as a Selector gives it out too, or the cluster that it declares.
use borrow.Author.Rules.{rules}
use Prim.Native.Nat.{ℕ}
use mathlib.Core.Path.{◌≡◌, sym, ap, ◌∙◌}
use mathlib.Core.List.{List, map}
use Rattle.layout.specs.declared.Cluster.{Cluster}
use Rattle.layout.specs.declared.Entity.{Entity}
use Rattle.layout.specs.declared.Entity.TheVariants.{Unknown, Input, Output, Mixer, Selector, Feature}
use Rattle.layout.specs.Layout.{entity_of}
use Rattle.entities.specs.declared.Node.{Node}
use Rattle.entities.specs.Run.{sources_of, descriptor_of}
use Rattle.pins.specs.Same.{numbers_at}
use Rattle.edition.specs.Audio.{first_of, names_each, named, give_out}
use Rattle.sweep.specs.Sweep.{cluster_by, first_by, gives_by}
use Rattle.sweep.specs.SweepLaws.{names_on}
use Rattle.sweep.proofs.give_out.Goals as goal

module _ (s : List ℕ) (n : Node) (cl : ℕ → Cluster) (d : List ℕ) (p : d ≡ descriptor_of s n) (e : Entity) (q : e ≡ entity_of d) where
  of : {x : Entity} → e ≡ x → give_out x (map cl (sources_of s n)) ≡ gives_by s n cl
  unfolding gives_by
  of h = ap (λ (y : Entity). give_out y (map cl (sources_of s n))) (sym h ∙ q ∙ ap entity_of p)

  input : {i t : ℕ} {c : Cluster} → e ≡ Input i t c → c ≡ gives_by s n cl
  unfolding give_out
  input h = of h

  mixer : {i p : ℕ} {c : Cluster} → e ≡ Mixer i p c → c ≡ gives_by s n cl
  unfolding give_out
  mixer h = of h

  module _ (ids : List ℕ) (t : ids ≡ sources_of s n) (f : Cluster) (g : f ≡ first_by cl ids) where
    first : f ≡ first_of (map cl (sources_of s n))
    unfolding first_by
    first = g ∙ ap (λ (l : List ℕ). first_of (map cl l)) t

    unknown : e ≡ Unknown → f ≡ gives_by s n cl
    unfolding give_out
    unknown h = first ∙ of h

    output : {i t s' : ℕ} → e ≡ Output i t s' → f ≡ gives_by s n cl
    unfolding give_out
    output h = first ∙ of h

    feature : {i s' k : ℕ} → e ≡ Feature i s' k → f ≡ gives_by s n cl
    unfolding give_out
    feature h = first ∙ of h

module _ (s : List ℕ) (n : Node) (channels locations names : List ℕ) (d : List ℕ) (p : d ≡ descriptor_of s n) (e : Entity) (q : e ≡ entity_of d)
    (ids : List ℕ) (t : ids ≡ sources_of s n) (f : Cluster) (g : f ≡ first_by (cluster_by channels locations names) ids) (r : Cluster) (h : r ≡ named f (numbers_at names ids)) where
  abbrev cl : ℕ → Cluster
  cl = cluster_by channels locations names

  gives : r ≡ named (first_of (map cl (sources_of s n))) (names_each (map cl (sources_of s n)))
  gives =
      h
      ∙ ap (λ (k : Cluster). named k (numbers_at names ids)) (first s n cl d p e q ids t f g)
      ∙ ap (named (first_of (map cl (sources_of s n)))) (names_on channels locations names ids ∙ ap (λ (l : List ℕ). names_each (map cl l)) t)

  selector : {i k : ℕ} → e ≡ Selector i k → r ≡ gives_by s n cl
  unfolding give_out
  selector x = gives ∙ of s n cl d p e q x

ruleset laws = (unknown, input, output, mixer, selector, feature, rules)

pub returns-in-Unknown : goal.returns-in-Unknown
returns-in-Unknown c = search laws

pub returns-in-Input : goal.returns-in-Input
returns-in-Input c = search laws

pub returns-in-Output : goal.returns-in-Output
returns-in-Output c = search laws

pub returns-in-Mixer : goal.returns-in-Mixer
returns-in-Mixer c = search laws

pub returns-in-Selector : goal.returns-in-Selector
returns-in-Selector c = search laws

pub returns-in-Feature : goal.returns-in-Feature
returns-in-Feature c = search laws
