-- Three ways out: some descriptor has none of the layouts, the four rules are kept, or one is not, at a place that has an index.
use borrow.Author.Rules.{rules}
use Prim.Native.Nat.{ℕ}
use mathlib.Core.Path.{◌≡◌, refl, sym, ap, ◌∙◌}
use mathlib.Core.List.{List}
use borrow.Author.Tests.{ne_eqb}
use Rattle.std.specs.Prelude.{Ok, Err, Some, None}
use Rattle.ground.specs.declared.Refusal.{Refusal}
use Rattle.ground.specs.Pick.{no}
use Rattle.ground.specs.Refuse.{none, refuse}
use Rattle.entities.specs.declared.Walk.{Walk}
use Rattle.entities.specs.Run.{walk_of}
use Rattle.layout.specs.declared.Cluster.{Cluster}
use Rattle.connections.specs.Judgement.{connected_in}
use Rattle.indices.specs.Indices.{index_at, index_in, connected_then, indexed_then}
use Rattle.indices.specs.IndexLaws.{indexed, indexed_judged, connected_refusal, connected_kept}
use Rattle.indices.proofs.judge.Goals as goal

module _ (s : List ℕ) (w : Walk) (e : w ≡ walk_of s 0) where
  unlaid_at : (q i : ℕ) → w.unlaid ≡ Some q → i ≡ index_at w.run q → record { number = 17; place = i } ≡ indexed_then s none
  unfolding indexed_then index_in refuse
  unlaid_at q i h k = rw (k, ← e, h) refl

  module _ (h : w.unlaid ≡ None) where
    on : connected_then s w.run none ≡ indexed_then s none
    unfolding indexed_then index_in refuse
    on = rw (← e, h) refl

    kept : (cs : List Cluster) → Ok cs ≡ connected_in s w.run → none ≡ indexed_then s none
    kept cs k = ap (indexed w.run) (sym (connected_kept s w.run cs k)) ∙ indexed_judged s w.run ∙ on

    broken : (q : Refusal) → Err q ≡ connected_in s w.run → (i : ℕ) → i ≡ index_at w.run q.place → record { number = q.number; place = i } ≡ indexed_then s none
    broken q k i f =
        let m = connected_refusal s w.run q k in
        ap (λ (j : ℕ). record { number = q.number; place = j }) f
        ∙ sym (no _ _ (ne_eqb _ _ m.0)) ∙ ap (indexed w.run) m.1 ∙ indexed_judged s w.run ∙ on

ruleset laws = (unlaid_at, kept, broken, rules)

pub returns-in-Some : goal.returns-in-Some
returns-in-Some c = search laws

pub returns-in-Ok : goal.returns-in-Ok
returns-in-Ok c = kept _ _ c.read_run-walk.ensures c.in_default.is _ (sym c.in-Ok.is ∙ c.judge.ensures)

pub returns-in-Err : goal.returns-in-Err
returns-in-Err c = search laws
