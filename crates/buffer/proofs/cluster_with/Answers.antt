-- By its two ways out: the first bearer's descriptor, or nothing.
use borrow.Author.Rules.{rules}
use Prim.Native.Nat.{ℕ}
use mathlib.Core.Path.{◌≡◌, sym, ap, ◌∙◌}
use mathlib.Core.List.{List, []}
use Rattle.std.specs.Prelude.{Option, Some, None}
use Rattle.ground.specs.Lists.{part}
use Rattle.scan.specs.Cutting.{end_by}
use Rattle.buffer.specs.Clusters.{two_bytes}
use Rattle.buffer.specs.Reading.{found_cluster, cluster_with}
use Rattle.buffer.specs.BufferLaws.{cluster_at, cluster_none}
use Rattle.buffer.proofs.cluster_with.Goals as goal

module _ (s : List ℕ) (id : ℕ) (r : Option ℕ) (f : r ≡ found_cluster s id) where
  borne : (p : ℕ) → r ≡ Some p → (e : ℕ) → e ≡ end_by two_bytes s p → (x : List ℕ) → x ≡ part s p e → x ≡ cluster_with s id
  borne p q e g x h = h ∙ ap (part s p) g ∙ cluster_at s id p (sym f ∙ q)

  unknown : r ≡ None → [] ≡ cluster_with s id
  unknown q = sym (cluster_none s id (sym f ∙ q))

ruleset laws = (borne, unknown, rules)

pub returns-in-Some : goal.returns-in-Some
returns-in-Some c = search laws

pub returns-in-None : goal.returns-in-None
returns-in-None c = search laws
