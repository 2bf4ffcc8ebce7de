-- By its two ways out. The tables hold what the definitions have for every byte, and the configuration's bytes are below 256.
use borrow.Author.Rules.{rules}
use Prim.Native.Nat.{ℕ, ◌<◌}
use mathlib.Core.Path.{◌≡◌, sym, ap, ◌∙◌}
use mathlib.Core.Bool.{Bool, true, false, not}
use mathlib.Core.List.{List}
use native.Mathlib.Omega.{arith}
use lib.ListN.{get_or}
use borrow.Author.Tests.{not-true, not-false}
use Rattle.ground.specs.Pick.{yes, no}
use Rattle.entities.specs.declared.Run.{Run}
use Rattle.upstream.specs.declared.Listing.{Listing}
use Rattle.upstream.specs.Ways.{Way, ways_up}
use Rattle.upstream.specs.Telling.{sources_by, most_depth}
use Rattle.upstream.specs.Listing.{refused_with, ways_listing, ways_list}
use Rattle.routing.specs.declared.SourcePlaces.{SourcePlaces}
use Rattle.routing.specs.WaysLaws.{ways_same}
use Rattle.routing.specs.Listing.{named_in, source_places_of, is_output, ways_for, listing_in, list_in}
use Rattle.routing.specs.ListingLaws.{tables_named, named_bytes}
use Rattle.routing.proofs.list_run.Goals as goal

module _ (s : List ℕ) (run : Run) (x : ℕ) (b : Bool) (e : b ≡ is_output run x) where
  other_answer : not b ≡ true → (r : Listing) → r ≡ refused_with 45 0 → (room : ℕ) → r ≡ listing_in s run x room
  unfolding listing_in
  other_answer h r q room = q ∙ sym (no _ _ (sym e ∙ not-true b h))

  other_list : not b ≡ true → (l : List ℕ) → l ≡ list_in s run x l
  unfolding list_in
  other_list h l = sym (no _ _ (sym e ∙ not-true b h))

  module _ (h : not b ≡ false) (t : SourcePlaces) (q : t ≡ source_places_of run) (byte : x < 256) (bytes : (k : ℕ) → get_or s k 0 < 256) where
    ways : ways_up (sources_by s t.firsts t.counts) most_depth x ≡ ways_for s run x
    unfolding ways_for
    ways = ways_same (sources_by s t.firsts t.counts) (named_in s run) (tables_named s run t q) (λ y l z m. named_bytes s bytes run y z m) most_depth x byte

    answer : (room : ℕ) (r : Listing) → r ≡ ways_listing (ways_up (sources_by s t.firsts t.counts) most_depth x) room → r ≡ listing_in s run x room
    unfolding listing_in
    answer room r k = k ∙ ap (λ (w : List Way). ways_listing w room) ways ∙ sym (yes _ _ (sym e ∙ not-false b h))

    list : (l m : List ℕ) → m ≡ ways_list (ways_up (sources_by s t.firsts t.counts) most_depth x) l → m ≡ list_in s run x l
    unfolding list_in
    list l m k = k ∙ ap (λ (w : List Way). ways_list w l) ways ∙ sym (yes _ _ (sym e ∙ not-false b h))

ruleset laws = (other_answer, other_list, rules)

pub returns-then-not-is_output-clause-value : goal.returns-then-not-is_output-clause-value
returns-then-not-is_output-clause-value c = search laws

pub returns-then-not-is_output-clause-list_after : goal.returns-then-not-is_output-clause-list_after
returns-then-not-is_output-clause-list_after c = search laws

pub returns : goal.returns
returns c =
    let byte : c.args.id < 256 = omega (arith, c.ranges.id.fits) in
    let bytes : (k : ℕ) → get_or c.args.config.now k 0 < 256 = λ k. omega (arith, c.type_inv.config k) in
    record {
      value = answer _ _ _ _ c.is_output.ensures (ap not c.if-not-is_output.false) _ c.source_places-tables.ensures byte bytes _ _ c.list_ways.ensures.value;
      list_after = list _ _ _ _ c.is_output.ensures (ap not c.if-not-is_output.false) _ c.source_places-tables.ensures byte bytes _ _ c.list_ways.ensures.list_after;
    }
