-- Laws of a run that stands for descriptors. What is computed of the array, index by index, is said of the descriptors, with no array;
-- and the run that is read from descriptors stands for them.
--   sound_of_lem         ==  nothing is wrong at the indices of the run exactly where nothing is with the descriptors; what is wrong may hang on
--                        what stands before
--   breaks_of        ==  q is the first offender's place in the run exactly where it is among the descriptors
--   sound_each_of, breaks_each_of  ==  the same, where what is wrong does not hang on what stands before
--   places_rise      ==  of two entities the one of the lower index stands at the lower place: the first by index is the first by place
--   stands_at        ==  of descriptors that stand one after another: the bytes from the i-th one's place on begin with it
use Prim.Native.Nat.{ℕ, zero, suc, ◌+◌, ◌-◌, ◌≤◌, ◌<◌}
use Rattle.std.specs.Prelude.{◌≡◌, ◌↔◌, get_or, take, drop}
use Rattle.std.proofs.Math.Path.{refl, ap}
use Rattle.std.proofs.Common.{sym, ◌∙◌, drop_at, drop-drop, arith, add_assoc, add-zero, le_of_suc-le-suc}
use mathlib.Core.List.{List, [], ◌∷◌, ◌++◌, flatten, append_assoc}
use Rattle.std.proofs.Math.ListN.{length, length-drop}
use Rattle.std.proofs.Math.Seq.{split_at, take-append-le, drop-append-le}
use Rattle.ground.specs.Lists.{total, part, length_flatten, flatten_append, pad_at, member_at, total_rises}
use Rattle.ground.specs.First.{Sound, Breaks, sound_each}
use Rattle.ground.specs.Places.{FirstPlace}
use Rattle.ground.specs.Indexed.{WrongAt, sound_index, breaks_index}
use Rattle.graph.specs.Members.{◌∈◌}
use Rattle.scan.specs.Cutting.{Descriptor, end_at}
use Rattle.scan.specs.CuttingLaws.{starts_end, starts_part}
use Rattle.edition.specs.Edition.{Edition}
use Rattle.edition.specs.Edition as edition
use Rattle.entities.specs.declared.Node.{Node}
use Rattle.entities.specs.declared.Run.{Run}
use Rattle.entities.specs.Run.{most_entities, node_of, nodes_from, blank_node, run_in, held, node_at, place_at, sources_of}
use Rattle.entities.specs.Represents.{Represents}

module _ {ed : Edition} {s : List ℕ} {p : ℕ} {ds : List (List ℕ)} {r : Run} (k : Represents ed s p ds r) where
  module _ (Wrong : List (List ℕ) → List ℕ → Type 0) where
    pub sound_of_lem : ((i : ℕ) → i < held r → Wrong (take i ds) (get_or ds i []) → ⊥) ↔ Sound Wrong ds
    sound_of_lem = rw k.counted (sound_index Wrong ds)

    pub breaks_of : (q : ℕ) → FirstPlace (held r) (place_at r) (λ i. Wrong (take i ds) (get_or ds i [])) q ↔ Breaks Wrong p ds q
    breaks_of q = (λ b. (breaks_index Wrong p ds q).0 (to b), λ b. of ((breaks_index Wrong p ds q).1 b))
      where
        to : FirstPlace (held r) (place_at r) (WrongAt Wrong ds) q → FirstPlace (length ds) (λ i. p + total (take i ds)) (WrongAt Wrong ds) q
        to b =
            let l : b.offender < length ds = rw k.counted at b.inside in
            record { offender = b.offender; inside = l; wrong = b.wrong; at = b.at ∙ k.place b.offender l; none_before = b.none_before }

        of : FirstPlace (length ds) (λ i. p + total (take i ds)) (WrongAt Wrong ds) q → FirstPlace (held r) (place_at r) (WrongAt Wrong ds) q
        of b = record { offender = b.offender; inside = rw k.counted b.inside; wrong = b.wrong; at = b.at ∙ sym (k.place b.offender b.inside); none_before = b.none_before }

  module _ (Wrong : List ℕ → Type 0) where
    pub sound_each_of : ((i : ℕ) → i < held r → Wrong (get_or ds i []) → ⊥) ↔ ((d : List ℕ) → d ∈ ds → Wrong d → ⊥)
    sound_each_of = (λ h. (sound_each Wrong ds).0 ((sound_of_lem (λ b d. Wrong d)).0 h), λ h. (sound_of_lem (λ b d. Wrong d)).1 ((sound_each Wrong ds).1 h))

    pub breaks_each_of : (q : ℕ) → FirstPlace (held r) (place_at r) (λ i. Wrong (get_or ds i [])) q ↔ Breaks (λ b d. Wrong d) p ds q
    breaks_each_of q = breaks_of (λ b d. Wrong d) q

  pub places_rise : ((d : List ℕ) → d ∈ ds → 0 < length d) → (i j : ℕ) → i < j → j < held r → place_at r i < place_at r j
  places_rise some i j h l =
      let n : j < length ds = rw k.counted at l in
      let low = k.place i (omega arith) in
      let high = k.place j n in
      let rise = total_rises ds some i j h (omega arith) in
      omega arith

-- descriptors that stand one after another
pub stands_at : (s : List ℕ) (p : ℕ) (ds : List (List ℕ)) (tail : List ℕ) → drop p s ≡ flatten ds ++ tail → (i : ℕ) → i < length ds
    → drop (p + total (take i ds)) s ≡ get_or ds i [] ++ (flatten (drop (suc i) ds) ++ tail)
unfolding flatten
stands_at s p ds tail e i h =
    let d = get_or ds i [] in
    let later = drop (suc i) ds in
    let whole : flatten ds ≡ flatten (take i ds) ++ (d ++ flatten later) = ap flatten (split_at ds i [] h) ∙ flatten_append (take i ds) (d ∷ later) in
    let bytes : flatten ds ++ tail ≡ flatten (take i ds) ++ (d ++ (flatten later ++ tail)) = rw (whole, append_assoc, append_assoc) refl in
    sym (drop-drop (total (take i ds)) p s) ∙ ap (drop (total (take i ds))) (e ∙ bytes) ∙ drop_at (flatten (take i ds)) (d ++ (flatten later ++ tail)) (total (take i ds)) (length_flatten (take i ds))
