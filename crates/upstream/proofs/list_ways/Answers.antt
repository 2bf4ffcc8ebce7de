-- By its three ways out: too many, too little room, and the second walk.
use borrow.Author.Rules.{rules}
use Prim.Native.Nat.{ℕ, ◌≤◌, ◌<◌}
use mathlib.Core.Path.{◌≡◌, ◌∙◌}
use mathlib.Core.List.{List, []}
use lib.ListN.{length}
use Rattle.upstream.specs.declared.Listing.{Listing}
use Rattle.upstream.specs.declared.Tally.{Tally}
use Rattle.upstream.specs.Ways.{Way}
use Rattle.upstream.specs.Telling.{most_routes, so_far, tell_all}
use Rattle.upstream.specs.Listing.{Counted, refused_with, ways_listing, ways_list}
use Rattle.upstream.specs.ListingLaws.{refused_many, refused_room, taken}
use Rattle.upstream.proofs.list_ways.Goals as goal

module _ (ws : List Way) (a : Tally) (c : Counted ws a) (l : List ℕ) where
  many_answer : (r : Listing) → r ≡ refused_with 46 0 → most_routes < a.routes → r ≡ ways_listing ws (length l)
  many_answer r e h = e ∙ (refused_many ws a c l h).0

  many_list : most_routes < a.routes → l ≡ ways_list ws l
  many_list h = (refused_many ws a c l h).1

  module _ (h : a.routes ≤ most_routes) where
    room_answer : (r : Listing) → r ≡ refused_with 49 0 → length l < a.written → r ≡ ways_listing ws (length l)
    room_answer r e b = e ∙ (refused_room ws a c l h b).0

    room_list : length l < a.written → l ≡ ways_list ws l
    room_list b = (refused_room ws a c l h b).1

    module _ (b : a.written ≤ length l) (u : Tally) (m : List ℕ) (e : so_far u m ≡ tell_all [] (so_far (record { routes = 0; written = 0 }) l) ws) where
      taken_answer : record { number = 0; place = 0; routes = a.routes; written = a.written } ≡ ways_listing ws (length l)
      taken_answer = (taken ws a c l h b u m e).0

      taken_list : m ≡ ways_list ws l
      taken_list = (taken ws a c l h b u m e).1

ruleset laws = (many_answer, many_list, room_answer, room_list, taken_answer, taken_list, rules)

pub returns-then-all-gt-MOST_ROUTES-clause-value : goal.returns-then-all-gt-MOST_ROUTES-clause-value
returns-then-all-gt-MOST_ROUTES-clause-value c = search laws

pub returns-then-all-gt-MOST_ROUTES-clause-list_after : goal.returns-then-all-gt-MOST_ROUTES-clause-list_after
returns-then-all-gt-MOST_ROUTES-clause-list_after c = search laws

pub returns-then-list-all-clause-value : goal.returns-then-list-all-clause-value
returns-then-list-all-clause-value c = search laws

pub returns-then-list-all-clause-list_after : goal.returns-then-list-all-clause-list_after
returns-then-list-all-clause-list_after c = search laws

pub returns-clause-value : goal.returns-clause-value
returns-clause-value c = search laws

pub returns-clause-list_after : goal.returns-clause-list_after
returns-clause-list_after c = search laws
