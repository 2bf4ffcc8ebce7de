use Prim.Native.Nat.{ℕ, ◌+◌, ◌≤◌, ◌<◌}
use mathlib.Core.Path.{◌≡◌, refl, sym, ap, ◌∙◌}
use mathlib.Core.Bool.{Bool}
use mathlib.Core.List.{List}
use mathlib.Core.Logic.{⊎_elim}
use native.Mathlib.Omega.{arith}
use lib.Dec.{eqb}
use lib.ListN.{length, get_or, set, take, replicate, length-set, length-replicate, get_or-replicate}
use lib.Seq.{get_or-set_same, get_or-set_other}
use Rattle.std.specs.Prelude.{Option, Some, None}
use Rattle.std.specs.Option.{option_or}
use Rattle.ground.specs.Pick.{reads_eq, decided}
use Rattle.graph.specs.Tables.{tabulate, tabulate_same, tabulate_get_d}
use Rattle.entities.specs.declared.Node.{Node}
use Rattle.entities.specs.declared.Run.{Run}
use Rattle.entities.specs.Run.{blank_node, held, id_at, feeds_at}
use Rattle.entities.proofs.Looked.{item, inside}
use Rattle.entities.proofs.Looked as looked
use Rattle.sources.specs.Lookup.{lookup_below, lookup, directory_of}
use Rattle.sources.specs.LookupLaws.{lookup_none, lookup_other, lookup_new, lookup_old}
use Rattle.sources.proofs.directory.Given as goal

module _ (run : Run) where
  pub record Noted (found : List (Option Bool)) (i : ℕ) : Type 0 where
    pub low : i ≤ held run
    pub long : length found ≡ 256
    pub each : (x : ℕ) → x < 256 → get_or found x None ≡ lookup_below run i x

  pub start : Noted (replicate 256 None) 0
  start = record {
    low = omega arith;
    long = length-replicate {A = Option Bool} 256 None;
    each = λ x l. get_or-replicate {A = Option Bool} 256 x None None l ∙ sym (lookup_none run x);
  }

  module _ (n : ℕ) (m : n ≡ held run) (found : List (Option Bool)) (i : ℕ) (g : Noted found i) where
    pub over : length run.nodes ≡ 32 → length (take n run.nodes) ≤ i → found ≡ directory_of run
    unfolding directory_of
    over w h =
        let a = g.low in
        let b = looked.over run n i m w h in
        let e : i ≡ held run = omega arith in
        sym (tabulate_get_d found None) ∙ ap (λ (k : ℕ). tabulate k (λ x. get_or found x None)) g.long
        ∙ tabulate_same 256 (λ x. get_or found x None) (lookup run) (λ x l. g.each x l ∙ ap (λ (k : ℕ). lookup_below run k x) e)

    -- the first that bears an ID counts
    next : (x : ℕ) → id_at run i ≡ x → lookup_below run (i + 1) x ≡ option_or (lookup_below run i x) (Some (feeds_at run i))
    next x own = go (lookup_below run i x) refl
      where
        go : (r : Option Bool) → lookup_below run i x ≡ r → lookup_below run (i + 1) x ≡ option_or r (Some (feeds_at run i))
        go None e = lookup_new run i x own e
        go (Some b) e = lookup_old run i x own (λ u. absurd (some≠none (sym e ∙ u))) ∙ e
          where
            some≠none : Some b ≡ None → ⊥
            some≠none q = cc

    module _ (h : i < length (take n run.nodes)) where
      abbrev node : Node
      node = get_or (take n run.nodes) i blank_node

      pub noted : (x : ℕ) → (x ≡ node.id) × (x < 256) → Noted (set found x (option_or (get_or found x None) (Some node.feeds))) (i + 1)
      noted x w = record {
        low = (let l = inside run n i m h in omega arith);
        long = length-set found x v ∙ g.long;
        each = λ k l. ⊎_elim (λ e. same k l e) (λ f. other k l f) (decided (eqb k x) (reads_eq k x));
      }
        where
          v : Option Bool
          v = option_or (get_or found x None) (Some node.feeds)

          own : id_at run i ≡ x
          own = sym (w.0 ∙ ap (λ (e : Node). e.id) (item run n i m h))

          same : (k : ℕ) → k < 256 → k ≡ x → get_or (set found x v) k None ≡ lookup_below run (i + 1) k
          same k l e =
              let a = g.long in
              let b = w.1 in
              rw e (get_or-set_same found x v None (omega arith))
              ∙ ap (λ (r : Option Bool). option_or r (Some node.feeds)) (ap (λ (y : ℕ). get_or found y None) (sym e) ∙ g.each k l)
              ∙ ap (λ (y : Node). option_or (lookup_below run i k) (Some y.feeds)) (item run n i m h)
              ∙ sym (next k (own ∙ sym e))

          other : (k : ℕ) → k < 256 → (k ≡ x → ⊥) → get_or (set found x v) k None ≡ lookup_below run (i + 1) k
          other k l f = get_or-set_other found x k v None f ∙ g.each k l ∙ sym (lookup_other run i k (λ e. f (sym e ∙ own)))

abbrev pub invariant-loop-bearer : goal.invariant-loop-bearer
invariant-loop-bearer l = Noted l.fn.run l.found l.bearer-index
