-- What a walk along the descriptors finds first is what is sought, where the test does not look at what stands before.
--   found_as  ==  so, of any walk that has from a place on still ahead, and any closure that answers as the test t does
use Rattle.std.specs.Prelude.{ℕ, ◌≡◌, ◌+◌, refl, Bool, true, false, List, [], Option, Some, None, ⊤, MatchOption}
use Rattle.std.specs.List.{find, FoldsTo}
use Rattle.std.specs.Option.{option_map}
use Rattle.std.proofs.Common.{Bor, sym, ap, ◌∙◌}
use Rattle.std.proofs.lemmas.Iterator.Search.{find_from_yields_List}
use Rattle.scan.specs.Cutting.{rest}
use Rattle.scan.specs.Search.{searched}
use Rattle.scan.specs.Placed.{placed_from, seen, place_of, first_placed}

abbrev Seen : Type 0
Seen = ℕ × Bor (List ℕ)

placed : (o : Option Seen) → option_map (λ x. x.0) o ≡ place_of (option_map seen o)
placed None = refl
placed (Some x) = refl

pub found_as : (t : List ℕ → Bool) (s : List ℕ) (from : ℕ) (o : Option Seen)
    → option_map seen o ≡ find (λ x. t x.1) (placed_from from (rest s from)) → option_map (λ x. x.0) o ≡ searched (λ b d. t d) s from
unfolding searched
found_as t s from o h = placed o ∙ ap place_of h ∙ sym (first_placed t from [] (rest s from))
