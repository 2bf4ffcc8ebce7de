-- Five ways out: no entity, more than 32, a wrong layout, a refusal by the rules behind it, or none.
use borrow.Author.Rules.{rules}
use Prim.Native.Nat.{ℕ, ◌≤◌}
use mathlib.Core.Path.{◌≡◌}
use mathlib.Core.List.{List}
use Rattle.std.specs.declared.result.Result.{Result}
use Rattle.std.specs.declared.result.Result.TheVariants.{Ok, Err}
use Rattle.ground.specs.declared.Refusal.{Refusal}
use Rattle.ground.specs.Lists.{part}
use Rattle.ground.specs.Refuse.{none}
use Rattle.indices.specs.Indices.{indexed_then}
use Rattle.writing.specs.declared.EntityList.{EntityList}
use Rattle.writing.specs.Writing.{list_of, descriptors_of, wrong_told, size_told, LaidRun, JudgedRun}
use Rattle.writing.specs.AnswerLaws.{count_none, count_many, wrong_layout, judged_wrong, judged_good}
use Rattle.writing.proofs.judge_list.Goals as goal

module _ (v : List ℕ) (l : EntityList) (out : List ℕ) (low : 1 ≤ l.count) (high : l.count ≤ 32) (q : Result ℕ ℕ)
    (t : LaidRun (descriptors_of (list_of v l)) out (wrong_told q) (size_told q)) where
  wrong : (i : ℕ) → q ≡ Err i → JudgedRun (descriptors_of (list_of v l)) out (record { number = 9; place = i }) 0
  wrong i e = wrong_layout v l out low high i 0 (rw e at t)

  module _ (size : ℕ) (e : q ≡ Ok size) (r : Refusal) (x : List ℕ) (f : x ≡ part out 0 size) (h : r ≡ indexed_then x none) where
    refused : (r.number ≡ 0 → ⊥) → JudgedRun (descriptors_of (list_of v l)) out r 0
    refused = judged_wrong v l out low high size (rw e at t) r x f h

    judged : r.number ≡ 0 → JudgedRun (descriptors_of (list_of v l)) out none size
    judged = judged_good v l out low high size (rw e at t) r x f h

ruleset laws = (count_none, count_many, wrong, refused, judged, rules)

pub returns-then-list-lt1-clause-run : goal.returns-then-list-lt1-clause-run
returns-then-list-lt1-clause-run c = search laws

pub returns-then-list-gt-MOST_ENTITIES-clause-run : goal.returns-then-list-gt-MOST_ENTITIES-clause-run
returns-then-list-gt-MOST_ENTITIES-clause-run c = search laws

pub returns-in-Err-clause-run : goal.returns-in-Err-clause-run
returns-in-Err-clause-run c = search laws

pub returns-then-refusal-ne0-clause-run : goal.returns-then-refusal-ne0-clause-run
returns-then-refusal-ne0-clause-run c = search laws

pub returns-clause-run : goal.returns-clause-run
returns-clause-run c = search laws
