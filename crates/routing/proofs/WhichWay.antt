-- Document 02, No. 8, proved.
use Prim.Native.Nat.{ℕ, suc, ◌-◌, ◌≤◌, ◌<◌}
use mathlib.Core.Path.{◌≡◌, refl, sym, ap, ◌∙◌, subst}
use mathlib.Core.Bool.{Bool, true, false}
use mathlib.Core.Logic.{◌⊎◌, inl, inr, ⊎_elim}
use mathlib.Core.List.{List, [], ◌++◌}
use native.Mathlib.Omega.{arith}
use native.Mathlib.Nat.{min-le_right}
use lib.Dec.{eqb, ltb}
use lib.ListN.{length, drop}
use borrow.Author.Tests.{eq-eqb, ne_eqb, lt-ltb, le-ltb}
use Rattle.ground.specs.declared.Refusal.{Refusal}
use Rattle.ground.specs.Pick.{Reads, pick, yes, no, shows, refutes, decided, reads_eq, reads_lt}
use Rattle.std.specs.Prelude.{Option, Some, None}
use Rattle.ground.specs.Refuse.{none, refuse}
use Rattle.ground.specs.Lists.{member_index}
use Rattle.graph.specs.Members.{◌∈◌}
use Rattle.graph.proofs.RankedLemmas.{ranks_all, order_short}
use Rattle.edition.specs.Edition.{own_id}
use Rattle.edition.specs.Audio.{audio}
use Rattle.entities.specs.declared.Run.{Run}
use Rattle.entities.specs.Run.{most_entities, held, id_at, sources_at}
use Rattle.ids.specs.Rule10Laws.{distinct_run}
use Rattle.sources.specs.GraphLaws.{known_run}
use Rattle.ranks.specs.Rule12.{Upstream}
use Rattle.ranks.proofs.Rule12Laws.{chains, ranking_run}
use Rattle.clusters.specs.Topology.{source_of}
use Rattle.records.specs.Sheet.{whole_sheet}
use Rattle.cutting.specs.declared.Survey.{Survey}
use Rattle.cutting.specs.Survey.{survey_of}
use Rattle.topology.specs.Reading.{judged_then, room_judged, verdict_of}
use Rattle.topology.specs.Verdict.{judged_chain, verdict_whole}
use Rattle.reader.specs.Configuration.{run_of, Configuration}
use Rattle.reader.specs.Refusals.{Refused}
use Rattle.reader.proofs.Surveyed.{entities_of, survey_kept, represented}
use Rattle.reader.proofs.Exactly.{accepted_exactly, refused_exactly}
use Rattle.reader.proofs.NeverSixteen.{never_sixteen}
use Rattle.upstream.specs.declared.Listing.{Listing}
use Rattle.upstream.specs.Ways.{Way, written}
use Rattle.upstream.specs.Telling.{most_depth, most_routes}
use Rattle.upstream.specs.Listing.{refused_with, listed, ways_listing, ways_list}
use Rattle.routing.specs.Routes.{OutputOf, Route, EachOnce}
use Rattle.routing.proofs.WaysLemmas.{ways_rise}
use Rattle.routing.proofs.RoutesLemmas.{ways_only, ways_each, listed_one, route_upstream}
use Rattle.routing.specs.Listing.{named_in, is_output, ways_for, listing_in, list_in, listing_of, list_after}
use Rattle.routing.specs.ListingLaws.{named_own, reads_output}
use Rattle.routing.specs.WhichWay.{FromOutput, RightListing, WhichWay}
use Rattle.routing.specs.WhichWay as statement

-- with that room 16 is never given
verdict_is : (s : List ℕ) → verdict_of s whole_sheet ≡ judged_then s none
verdict_is s = verdict_whole s whole_sheet (omega arith)

module _ (s : List ℕ) (c : Configuration s) where
  abbrev ds : List (List ℕ)
  ds = run_of c.kept

  abbrev run : Run
  run = entities_of c.kept

  accepted : (judged_then s none).number ≡ 0
  accepted =
      let few = c.kept.rule8.1 in
      ap (λ (r : Refusal). r.number) (sym (verdict_is s)) ∙ (accepted_exactly s whole_sheet).1 (c, omega arith)

  run_is : (survey_of s).run ≡ run
  run_is = ap (λ (v : Survey). v.run) (survey_kept s c.kept)

  never_deeper : (d : List ℕ) (w : Way) → d ∈ ds → Route ds d w → length w.ids ≤ most_depth
  never_deeper d w m r = go (length w.ids) refl
    where
      go : (n : ℕ) → length w.ids ≡ n → n ≤ most_depth
      go n e = ⊎_elim (λ (z : n ≡ 0). omega arith) (λ (z : n ≡ 0 → ⊥). deep (n - 1) (e ∙ omega arith)) (decided (eqb n 0) (reads_eq n 0))
        where
          deep : (k : ℕ) → length w.ids ≡ suc k → n ≤ most_depth
          deep k q =
              let g = represented s c.kept in
              let t = c.connected in
              let j = member_index [] m in
              let l : j.0 < held run = rw g.counted j.1 in
              let chain = (chains g k j.0 l).0 (subst (λ (x : List ℕ). Upstream audio ds k x) (sym j.2) (route_upstream r k q)) in
              let known = known_run g t.rule11 in
              let own = distinct_run g t.rule10 in
              let all_in = ranks_all (id_at run) (sources_at s run) (held run) own known (t.rank, (ranking_run g t.rank).0 t.ranked) in
              let short = order_short (id_at run) (sources_at s run) (held run) own known (all_in j.0 l) chain in
              let few : held run ≤ most_entities = min-le_right run.count most_entities in
              omega arith

  all_listed : (d : List ℕ) → d ∈ ds → EachOnce ds d (ways_for s run (own_id d))
  unfolding ways_for
  all_listed d m =
      let g = represented s c.kept in
      let t = c.connected in
      let own = named_own g t.rule10 in
      record {
        only = ways_only ds c.kept.rule9 (named_in s run) own (source_of t.rule11) most_depth d m;
        each = λ w r. ways_each ds c.kept.rule9 (named_in s run) own r m most_depth (never_deeper d w m r);
        rising = ways_rise (named_in s run) most_depth (own_id d);
      }

  module _ (x : ℕ) where
    listing_is : (room : ℕ) → listing_of s x room ≡ listing_in s run x room
    unfolding listing_of
    listing_is room = yes _ _ (eq-eqb (judged_then s none).number 0 accepted) ∙ ap (λ (r : Run). listing_in s r x room) run_is

    list_is : (l : List ℕ) → list_after s x l ≡ list_in s run x l
    unfolding list_after
    list_is l = yes _ _ (eq-eqb (judged_then s none).number 0 accepted) ∙ ap (λ (r : Run). list_in s r x l) run_is

    an_output : Reads (is_output run x) ((d : List ℕ) × OutputOf ds x d)
    an_output = reads_output (represented s c.kept) c.connected.rule10 c.kept.rule9 x

    not_output : (room : ℕ) → ((d : List ℕ) × OutputOf ds x d → ⊥) → listing_of s x room ≡ refused_with 45 0
    unfolding listing_in
    not_output room n = listing_is room ∙ no _ _ (refutes an_output n)

    module _ {d : List ℕ} {ws : List Way} (f : FromOutput c x d ws) where
      ways_are : ways_for s run x ≡ ws
      ways_are = ap (ways_for s run) (sym f.output.bears) ∙ listed_one (all_listed d f.output.among) f.routes

      listing_ways : (room : ℕ) → listing_of s x room ≡ ways_listing ws room
      unfolding listing_in
      listing_ways room = listing_is room ∙ yes _ _ (shows an_output (d, f.output)) ∙ ap (λ (v : List Way). ways_listing v room) ways_are

      list_ways : (l : List ℕ) → list_after s x l ≡ ways_list ws l
      unfolding list_in
      list_ways l = list_is l ∙ yes _ _ (shows an_output (d, f.output)) ∙ ap (λ (v : List Way). ways_list v l) ways_are

      too_many : (room : ℕ) → most_routes < length ws → listing_of s x room ≡ refused_with 46 0
      unfolding ways_listing
      too_many room h = listing_ways room ∙ yes _ _ (lt-ltb most_routes (length ws) h)

      module _ (h : length ws ≤ most_routes) where
        too_short : (room : ℕ) → room < length (written ws) → listing_of s x room ≡ refused_with 49 0
        unfolding ways_listing
        too_short room r = listing_ways room ∙ no _ _ (le-ltb most_routes (length ws) h) ∙ yes _ _ (lt-ltb room (length (written ws)) r)

        told : (room : ℕ) → length (written ws) ≤ room → listing_of s x room ≡ listed ws
        unfolding ways_listing
        told room r = listing_ways room ∙ no _ _ (le-ltb most_routes (length ws) h) ∙ no _ _ (le-ltb room (length (written ws)) r)

        holds : (l : List ℕ) → length (written ws) ≤ length l → list_after s x l ≡ written ws ++ drop (length (written ws)) l
        unfolding ways_list
        holds l r = list_ways l ∙ no _ _ (le-ltb most_routes (length ws) h) ∙ no _ _ (le-ltb (length l) (length (written ws)) r)

      answer_of : (room : ℕ) → RightListing s x room (listing_of s x room)
      answer_of room = ⊎_elim many (λ n. few (omega arith)) (decided (ltb most_routes (length ws)) (reads_lt most_routes (length ws)))
        where
          many : most_routes < length ws → RightListing s x room (listing_of s x room)
          many h = subst (RightListing s x room) (sym (too_many room h)) (statement.by_many c f h)

          few : length ws ≤ most_routes → RightListing s x room (listing_of s x room)
          few h =
              ⊎_elim
              (λ (r : room < length (written ws)). subst (RightListing s x room) (sym (too_short h room r)) (statement.by_room c f h r))
              (λ (n : room < length (written ws) → ⊥). let r : length (written ws) ≤ room = omega arith in subst (RightListing s x room) (sym (told h room r)) (statement.all_routes c f h r))
              (decided (ltb room (length (written ws))) (reads_lt room (length (written ws))))

    answer_kept : (room : ℕ) → RightListing s x room (listing_of s x room)
    answer_kept room =
        ⊎_elim
        (λ (o : (d : List ℕ) × OutputOf ds x d). answer_of (record { output = o.1; routes = all_listed o.0 o.1.among }) room)
        (λ n. subst (RightListing s x room) (sym (not_output room n)) (statement.by_id c (λ d o. n (d, o))))
        (decided (is_output run x) an_output)

module _ (s : List ℕ) (x room : ℕ) where
  reader_refuses : (n p : ℕ) → (n ≡ 0 → ⊥) → judged_then s none ≡ record { number = n; place = p } → listing_of s x room ≡ refused_with n p
  unfolding listing_of
  reader_refuses n p h e =
      no _ _ (ne_eqb (judged_then s none).number 0 (λ z. h (sym (ap (λ (r : Refusal). r.number) e) ∙ z)))
      ∙ ap (λ (r : Refusal). refused_with r.number r.place) e

  answered : RightListing s x room (listing_of s x room)
  answered = ⊎_elim kept refused (decided (eqb (judged_then s none).number 0) (reads_eq (judged_then s none).number 0))
    where
      kept : (judged_then s none).number ≡ 0 → RightListing s x room (listing_of s x room)
      kept e = answer_kept s ((accepted_exactly s whole_sheet).0 (ap (λ (r : Refusal). r.number) (verdict_is s) ∙ e)).0 x room

      refused : ((judged_then s none).number ≡ 0 → ⊥) → RightListing s x room (listing_of s x room)
      refused n =
          subst (RightListing s x room) (sym (reader_refuses (judged_then s none).number (judged_then s none).place n refl))
          (statement.by_reader n ((refused_exactly s whole_sheet (judged_then s none).number (judged_then s none).place n).0 (verdict_is s)))

  one_answer : (r : Listing) → RightListing s x room r → listing_of s x room ≡ r
  one_answer r (statement.by_reader {n} {p} z f) = reader_refuses n p z (sym (verdict_is s) ∙ (refused_exactly s whole_sheet n p z).1 f)
  one_answer r (statement.by_id c n) = not_output s c x room (λ o. n o.0 o.1)
  one_answer r (statement.by_many c f h) = too_many s c x f room h
  one_answer r (statement.by_room c f h b) = too_short s c x f h room b
  one_answer r (statement.all_routes c f h b) = told s c x f h room b

  -- behind the other rows only 16 is left
  sixteen : (b : Option ℕ) (n p : ℕ) → (n ≡ 0 → ⊥) → (n ≡ 16 → ⊥) → refuse 16 b none ≡ record { number = n; place = p } → ⊥
  unfolding refuse
  sixteen None n p z f e = z (sym (ap (λ (r : Refusal). r.number) e))
  sixteen (Some q) n p z f e = f (sym (ap (λ (r : Refusal). r.number) e))

  but_16 : (sheet n p : ℕ) → (n ≡ 0 → ⊥) → (n ≡ 16 → ⊥) → Refused s sheet n p → listing_of s x room ≡ refused_with n p
  unfolding verdict_of room_judged
  but_16 sheet n p z f r = go (decided (eqb (judged_then s none).number 0) (reads_eq (judged_then s none).number 0))
    where
      given : verdict_of s sheet ≡ record { number = n; place = p }
      given = (refused_exactly s sheet n p z).1 r

      go : ((judged_then s none).number ≡ 0) ⊎ ((judged_then s none).number ≡ 0 → ⊥) → listing_of s x room ≡ refused_with n p
      go (inl e) = absurd (sixteen _ n p z f (sym ((judged_chain s).on e (room_judged (survey_of s) sheet none)) ∙ given))
      go (inr m) = reader_refuses n p z (sym ((judged_chain s).stays m (room_judged (survey_of s) sheet none)) ∙ given)

never_16 : (s : List ℕ) (x room : ℕ) → (listing_of s x room).number ≡ 16 → ⊥
unfolding refused_with listed
never_16 s x room = go (answered s x room)
  where
    go : {r : Listing} → RightListing s x room r → r.number ≡ 16 → ⊥
    go (statement.by_reader {n} {p} z f) e = never_sixteen s p (subst (λ (m : ℕ). Refused s whole_sheet m p) e f)
    go (statement.by_id c n) e = omega arith
    go (statement.by_many c f h) e = omega arith
    go (statement.by_room c f h b) e = omega arith
    go (statement.all_routes c f h b) e = omega arith

-- where a listing is refused the list stays
ways_stay : (ws : List Way) (l : List ℕ) → ((ways_listing ws (length l)).number ≡ 0 → ⊥) → ways_list ws l ≡ l
unfolding ways_listing ways_list listed
ways_stay ws l = go (ltb most_routes (length ws)) (ltb (length l) (length (written ws)))
  where
    go : (a b : Bool) → ((pick a (refused_with 46 0) (pick b (refused_with 49 0) (listed ws))).number ≡ 0 → ⊥)
        → pick a l (pick b l (written ws ++ drop (length (written ws)) l)) ≡ l
    go true b n = refl
    go false true n = refl
    go false false n = absurd (n refl)

list_stays : (s : List ℕ) (x : ℕ) (l : List ℕ) → ((listing_of s x (length l)).number ≡ 0 → ⊥) → list_after s x l ≡ l
unfolding listing_of list_after listing_in list_in
list_stays s x l = go (eqb (judged_then s none).number 0) (is_output (survey_of s).run x)
  where
    go : (a b : Bool)
        → ((pick a (pick b (ways_listing (ways_for s (survey_of s).run x) (length l)) (refused_with 45 0)) (refused_with (judged_then s none).number (judged_then s none).place)).number ≡ 0 → ⊥)
        → pick a (pick b (ways_list (ways_for s (survey_of s).run x) l) l) l ≡ l
    go true true n = ways_stay (ways_for s (survey_of s).run x) l n
    go true false n = refl
    go false b n = refl

pub which_way : WhichWay
which_way = record {
  answered = answered;
  but_16 = but_16;
  never_16 = never_16;
  one_answer = one_answer;
  list_holds = λ s x l c d ws f h r. holds s c x f h l r;
  list_stays = list_stays;
  all_listed = λ s c d m. (ways_for s (entities_of c.kept) (own_id d), all_listed s c d m);
  one_list = λ ds d ws vs a b. listed_one a b;
  never_deeper = never_deeper;
}
