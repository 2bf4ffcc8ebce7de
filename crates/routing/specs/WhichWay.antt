-- Document 02, No. 8, as statements over the definitions, with no proof among them: what `list_routes` answers, of every configuration, ID and lent list.
--   FromOutput c x d ws  ==  d is the Output Terminal that bears the ID x in the configuration c, and ws has each route from it exactly once, in the order of pins
--   RightListing s x room r  ==  r is the paper's answer: the reader's refusal with its number and place, with a sheet for all records that there may be (by_reader); "45 if the ID is not an Output Terminal" (by_id); "46
--                      if there are more than 256 routes" (by_many); "49 if the lent list is too short for them" (by_room); or how many routes and bytes (all_routes)
--   WhichWay         ==  the answer is the paper's (answered), and there is no other (one_answer); whatever the reader refuses by another number than 16, with a sheet of
--                      any length, is refused here by that number at that place (but_16), and 16 is never given (never_16); the list holds the routes, "as IDs from the output to the input
--                      with 00 after the last", and "Bytes past the last route stay" (list_holds); "a refusal leaves the list's bytes" (list_stays); "each route
--                      exactly once and nothing else", in the one order (all_listed, one_list); "never deeper than 32" cuts none off (never_deeper)
use Rattle.std.specs.Prelude.{ℕ, ◌≤◌, ◌<◌, ◌≡◌, List, ◌++◌, length, drop}
use Rattle.graph.specs.Members.{◌∈◌}
use Rattle.records.specs.Sheet.{whole_sheet}
use Rattle.reader.specs.Configuration.{run_of, Configuration}
use Rattle.reader.specs.Refusals.{Refused}
use Rattle.upstream.specs.declared.Listing.{Listing}
use Rattle.upstream.specs.Ways.{Way, written}
use Rattle.upstream.specs.Telling.{most_depth, most_routes}
use Rattle.upstream.specs.Listing.{refused_with, listed}
use Rattle.routing.specs.Routes.{OutputOf, Route, EachOnce}
use Rattle.routing.specs.Listing.{listing_of, list_after}

pub record FromOutput {s : List ℕ} (c : Configuration s) (x : ℕ) (d : List ℕ) (ws : List Way) : Type 0 where
  pub output : OutputOf (run_of c.kept) x d
  pub routes : EachOnce (run_of c.kept) d ws

pub data RightListing (s : List ℕ) (x room : ℕ) : Listing → Type 0 where
  by_reader : {n p : ℕ} → (n ≡ 0 → ⊥) → Refused s whole_sheet n p → RightListing s x room (refused_with n p)
  by_id : (c : Configuration s) → ((d : List ℕ) → OutputOf (run_of c.kept) x d → ⊥) → RightListing s x room (refused_with 45 0)
  by_many : (c : Configuration s) {d : List ℕ} {ws : List Way} → FromOutput c x d ws → most_routes < length ws → RightListing s x room (refused_with 46 0)
  by_room : (c : Configuration s) {d : List ℕ} {ws : List Way} → FromOutput c x d ws → length ws ≤ most_routes → room < length (written ws)
      → RightListing s x room (refused_with 49 0)
  all_routes : (c : Configuration s) {d : List ℕ} {ws : List Way} → FromOutput c x d ws → length ws ≤ most_routes → length (written ws) ≤ room
      → RightListing s x room (listed ws)

pub record WhichWay : Type 0 where
  pub answered : (s : List ℕ) (x room : ℕ) → RightListing s x room (listing_of s x room)
  pub but_16 : (s : List ℕ) (x room sheet n p : ℕ) → (n ≡ 0 → ⊥) → (n ≡ 16 → ⊥) → Refused s sheet n p → listing_of s x room ≡ refused_with n p
  pub never_16 : (s : List ℕ) (x room : ℕ) → (listing_of s x room).number ≡ 16 → ⊥
  pub one_answer : (s : List ℕ) (x room : ℕ) (r : Listing) → RightListing s x room r → listing_of s x room ≡ r
  pub list_holds : (s : List ℕ) (x : ℕ) (l : List ℕ) (c : Configuration s) (d : List ℕ) (ws : List Way) → FromOutput c x d ws → length ws ≤ most_routes
      → length (written ws) ≤ length l → list_after s x l ≡ written ws ++ drop (length (written ws)) l
  pub list_stays : (s : List ℕ) (x : ℕ) (l : List ℕ) → ((listing_of s x (length l)).number ≡ 0 → ⊥) → list_after s x l ≡ l
  pub all_listed : (s : List ℕ) (c : Configuration s) (d : List ℕ) → d ∈ run_of c.kept → (ws : List Way) × EachOnce (run_of c.kept) d ws
  pub one_list : (ds : List (List ℕ)) (d : List ℕ) (ws vs : List Way) → EachOnce ds d ws → EachOnce ds d vs → ws ≡ vs
  pub never_deeper : (s : List ℕ) (c : Configuration s) (d : List ℕ) (w : Way) → d ∈ run_of c.kept → Route (run_of c.kept) d w
      → length w.ids ≤ most_depth
