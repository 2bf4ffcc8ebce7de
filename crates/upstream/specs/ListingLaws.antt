-- What was told, as the list of ways has it: the count passes 256 exactly where there are more ways; where there are not, it is their number and bytes, and
-- where they have room the list holds them in front.
--   counted            ==  what a walk that told all ways says of them
--   refused_many, refused_room, taken  ==  the answer and the list, from the count
use Rattle.std.specs.Prelude.{ℕ, suc, ◌+◌, ◌≤◌, ◌<◌, ◌≡◌, refl, List, [], ◌∷◌, ◌++◌, ltb}
use Rattle.std.proofs.Math.Path.{sym, ap}
use Rattle.std.proofs.Common.{◌∙◌, subst, add-zero, length-append}
use Rattle.std.proofs.Math.Logic.{⊎_elim}
use native.Mathlib.Omega.{arith}
use Rattle.std.proofs.Math.ListN.{length, drop}
use Rattle.std.proofs.lemmas.List.Edits.{sets}
use Rattle.std.proofs.Math.Seq.{length-sets, sets-eq}
use borrow.Author.Tests.{lt-ltb, le-ltb}
use Rattle.ground.specs.Pick.{yes, no, decided, reads_lt}
use Rattle.upstream.specs.declared.Tally.{Tally}
use Rattle.upstream.specs.Ways.{Way, written}
use Rattle.upstream.specs.Telling.{most_routes, Progress, so_far, put_in, tell, tell_all}
use Rattle.upstream.specs.TellingLaws.{tell_idle, sets_both}
use Rattle.upstream.specs.Listing.{Counted, refused_with, listed, ways_listing, ways_list}

-- one route more, as long as they are listed
abbrev more : List ℕ → Progress → Progress
more is t = record { routes = t.routes + 1; written = t.written + length is + 1; list = put_in t.list t.written (is ++ 0 ∷ []) }

tell_more : (is : List ℕ) (t : Progress) → t.routes ≤ most_routes → tell is t ≡ more is t
unfolding tell
tell_more is t h = no _ _ (le-ltb most_routes t.routes h)

past : (t : Progress) (ws : List Way) → most_routes < t.routes + length ws → most_routes < (tell_all [] t ws).routes
unfolding tell_all
past t [] h = omega arith
past t (w ∷ ws) h =
    ⊎_elim
    (λ (a : most_routes < t.routes). subst (λ (u : Progress). most_routes < u.routes) (sym (tell_idle [] t (w ∷ ws) a)) a)
    (λ (n : most_routes < t.routes → ⊥). let q = tell_more w.ids t (omega arith) in subst (λ (u : Progress). most_routes < (tell_all [] u ws).routes) (sym q) (past (more w.ids t) ws (omega arith)))
    (decided (ltb most_routes t.routes) (reads_lt most_routes t.routes))

route_long : (is : List ℕ) → length (is ++ 0 ∷ []) ≡ length is + 1
route_long is = length-append is (0 ∷ [])

few : (t : Progress) (ws : List Way) → t.routes + length ws ≤ most_routes
    → ((tell_all [] t ws).routes ≡ t.routes + length ws) × ((tell_all [] t ws).written ≡ t.written + length (written ws))
unfolding tell_all written
few t [] h = (sym (add-zero t.routes), sym (add-zero t.written))
few t (w ∷ ws) h =
    let q = tell_more w.ids t (omega arith) in
    let r = few (more w.ids t) ws (omega arith) in
    let n : length ((w.ids ++ 0 ∷ []) ++ written ws) ≡ length w.ids + 1 + length (written ws) = length-append (w.ids ++ 0 ∷ []) (written ws) ∙ ap (λ (m : ℕ). m + length (written ws)) (route_long w.ids) in
    let a : t.routes + 1 + length ws ≡ t.routes + suc (length ws) = omega arith in
    let b : t.written + length w.ids + 1 + length (written ws) ≡ t.written + length ((w.ids ++ 0 ∷ []) ++ written ws) = rw n (omega arith) in
    (ap (λ (u : Progress). (tell_all [] u ws).routes) q ∙ r.0 ∙ a, ap (λ (u : Progress). (tell_all [] u ws).written) q ∙ r.1 ∙ b)

whole : (t : Progress) (ws : List Way) → t.routes + length ws ≤ most_routes → t.written + length (written ws) ≤ length t.list
    → (tell_all [] t ws).list ≡ sets t.list t.written (written ws)
unfolding tell_all written put_in
whole t [] h r = refl
whole t (w ∷ ws) h r =
    let q = tell_more w.ids t (omega arith) in
    let one = route_long w.ids in
    let n : length ((w.ids ++ 0 ∷ []) ++ written ws) ≡ length (w.ids ++ 0 ∷ []) + length (written ws) = length-append (w.ids ++ 0 ∷ []) (written ws) in
    let put : put_in t.list t.written (w.ids ++ 0 ∷ []) ≡ sets t.list t.written (w.ids ++ 0 ∷ []) = no _ _ (le-ltb (length t.list) (t.written + length (w.ids ++ 0 ∷ [])) (omega arith)) in
    let long : length (put_in t.list t.written (w.ids ++ 0 ∷ [])) ≡ length t.list = ap length put ∙ length-sets t.list t.written (w.ids ++ 0 ∷ []) in
    let at : t.written + length w.ids + 1 ≡ t.written + length (w.ids ++ 0 ∷ []) = omega arith in
    ap (λ (u : Progress). (tell_all [] u ws).list) q
    ∙ whole (more w.ids t) ws (omega arith) (omega arith)
    ∙ ap (λ (l : List ℕ). sets l (t.written + length w.ids + 1) (written ws)) put
    ∙ ap (λ (i : ℕ). sets (sets t.list t.written (w.ids ++ 0 ∷ [])) i (written ws)) at
    ∙ sym (sets_both t.list t.written (w.ids ++ 0 ∷ []) (written ws))

abbrev nothing : Tally
nothing = record { routes = 0; written = 0 }

module _ (ws : List Way) (a : Tally) (k l : List ℕ) (c : so_far a k ≡ tell_all [] (so_far nothing l) ws) where
  routes_are : a.routes ≡ (tell_all [] (so_far nothing l) ws).routes
  unfolding so_far
  routes_are = ap (λ (t : Progress). t.routes) c

  written_are : a.written ≡ (tell_all [] (so_far nothing l) ws).written
  unfolding so_far
  written_are = ap (λ (t : Progress). t.written) c

  not_many : a.routes ≤ most_routes → length ws ≤ most_routes
  unfolding so_far
  not_many h =
      ⊎_elim
      (λ (m : most_routes < length ws). let r = routes_are in let f = past (so_far nothing l) ws (omega arith) in absurd (omega arith))
      (λ (n : most_routes < length ws → ⊥). let q : length ws ≤ most_routes = omega arith in q)
      (decided (ltb most_routes (length ws)) (reads_lt most_routes (length ws)))

  pub counted : Counted ws a
  unfolding so_far
  counted = record {
    many = λ h.
        ⊎_elim (λ (m : most_routes < length ws). m)
        (λ (n : most_routes < length ws → ⊥). let r = routes_are in let f = (few (so_far nothing l) ws (omega arith)).0 in absurd (omega arith))
        (decided (ltb most_routes (length ws)) (reads_lt most_routes (length ws)));
    few = not_many;
    routes = λ h. let n = not_many h in let r = routes_are in let f = (few (so_far nothing l) ws (omega arith)).0 in omega arith;
    bytes = λ h. let n = not_many h in let r = written_are in let f = (few (so_far nothing l) ws (omega arith)).1 in omega arith;
  }

module _ (ws : List Way) (a : Tally) (c : Counted ws a) (l : List ℕ) where
  pub refused_many : most_routes < a.routes → (refused_with 46 0 ≡ ways_listing ws (length l)) × (l ≡ ways_list ws l)
  unfolding ways_listing ways_list
  refused_many h = let z = lt-ltb most_routes (length ws) (c.many h) in (sym (yes _ _ z), sym (yes _ _ z))

  module _ (h : a.routes ≤ most_routes) where
    pub refused_room : length l < a.written → (refused_with 49 0 ≡ ways_listing ws (length l)) × (l ≡ ways_list ws l)
    unfolding ways_listing ways_list
    refused_room r =
        let z = le-ltb most_routes (length ws) (c.few h) in
        let b = c.bytes h in
        let y = lt-ltb (length l) (length (written ws)) (omega arith) in
        (sym (no _ _ z ∙ yes _ _ y), sym (no _ _ z ∙ yes _ _ y))

    pub taken : a.written ≤ length l → (u : Tally) (m : List ℕ) → so_far u m ≡ tell_all [] (so_far nothing l) ws
        → (record { number = 0; place = 0; routes = a.routes; written = a.written } ≡ ways_listing ws (length l)) × (m ≡ ways_list ws l)
    unfolding ways_listing ways_list listed so_far
    taken r u m e =
        let n = c.few h in
        let z = le-ltb most_routes (length ws) n in
        let b = c.bytes h in
        let y = le-ltb (length l) (length (written ws)) (omega arith) in
        let zero_at : 0 + length (written ws) ≡ length (written ws) = omega arith in (
          rw (c.routes h, c.bytes h) (sym (no _ _ z ∙ no _ _ y)),
          ap (λ (t : Progress). t.list) e ∙ whole (so_far nothing l) ws (omega arith) (omega arith) ∙ sets-eq (written ws) l 0 (omega arith)
              ∙ ap (λ (i : ℕ). written ws ++ drop i l) zero_at ∙ sym (no _ _ z ∙ no _ _ y),
        )
