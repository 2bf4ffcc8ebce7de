-- By its two ways out: the reader refuses, or the run that it found is listed.
use borrow.Author.Rules.{rules}
use Prim.Native.Nat.{ℕ}
use mathlib.Core.Path.{◌≡◌, sym, ap, ◌∙◌}
use mathlib.Core.List.{List}
use borrow.Author.Tests.{eq-eqb, ne_eqb}
use Rattle.std.specs.Prelude.{Result, Ok, Err}
use Rattle.ground.specs.declared.Refusal.{Refusal}
use Rattle.ground.specs.Pick.{yes, no}
use Rattle.ground.specs.Refuse.{none}
use Rattle.entities.specs.declared.Run.{Run}
use Rattle.cutting.specs.Survey.{survey_of}
use Rattle.topology.specs.declared.Finding.{Finding}
use Rattle.topology.specs.Reading.{judged_then, finding_with, finding_of}
use Rattle.topology.specs.Verdict.{finding_refusal, finding_taken}
use Rattle.upstream.specs.declared.Listing.{Listing}
use Rattle.upstream.specs.Listing.{refused_with}
use Rattle.routing.specs.Listing.{listing_in, list_in, listing_of, list_after}
use Rattle.routing.proofs.list_routes.Goals as goal

module _ (s : List ℕ) (a : Result Finding Refusal) (e : a ≡ finding_of s) (x : ℕ) where
  module _ (q : Refusal) (h : a ≡ Err q) where
    refused : ((judged_then s none).number ≡ 0 → ⊥) × (q ≡ judged_then s none)
    refused = finding_refusal s q (sym h ∙ e)

    refused_answer : (r : Listing) → r ≡ refused_with q.number q.place → (room : ℕ) → r ≡ listing_of s x room
    unfolding listing_of
    refused_answer r k room =
        k ∙ ap (λ (y : Refusal). refused_with y.number y.place) refused.1 ∙ sym (no _ _ (ne_eqb (judged_then s none).number 0 refused.0))

    refused_list : (l : List ℕ) → l ≡ list_after s x l
    unfolding list_after
    refused_list l = sym (no _ _ (ne_eqb (judged_then s none).number 0 refused.0))

  module _ (f : Finding) (h : a ≡ Ok f) where
    taken : ((judged_then s none).number ≡ 0) × (f.run ≡ (survey_of s).run)
    unfolding finding_with
    taken = let t = finding_taken s f (sym h ∙ e) in (t.0, ap (λ (y : Finding). y.run) t.1)

    taken_answer : (room : ℕ) (r : Listing) → r ≡ listing_in s f.run x room → r ≡ listing_of s x room
    unfolding listing_of
    taken_answer room r q = q ∙ ap (λ (y : Run). listing_in s y x room) taken.1 ∙ sym (yes _ _ (eq-eqb (judged_then s none).number 0 taken.0))

    taken_list : (l m : List ℕ) → m ≡ list_in s f.run x l → m ≡ list_after s x l
    unfolding list_after
    taken_list l m q = q ∙ ap (λ (y : Run). list_in s y x l) taken.1 ∙ sym (yes _ _ (eq-eqb (judged_then s none).number 0 taken.0))

ruleset laws = (refused_answer, refused_list, taken_answer, taken_list, rules)

pub returns-in-Err-clause-value : goal.returns-in-Err-clause-value
returns-in-Err-clause-value c = search laws

pub returns-in-Err-clause-list_after : goal.returns-in-Err-clause-list_after
returns-in-Err-clause-list_after c = search laws

pub returns-in-Ok-clause-value : goal.returns-in-Ok-clause-value
returns-in-Ok-clause-value c = search laws

pub returns-in-Ok-clause-list_after : goal.returns-in-Ok-clause-list_after
returns-in-Ok-clause-list_after c = search laws
