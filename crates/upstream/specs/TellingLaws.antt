-- Laws of what is told. Once there are more routes than are listed nothing changes any more, so that the walk may stop; what is told of an entity is what is told
-- of all that is behind its pins, with its ID in front; and no way has more IDs than there is depth, so that what is told stays small.
--   tell_idle       ==  nothing is told any more once there are more routes than are listed
--   tell_both       ==  ways told in a row
--   tell_pins       ==  what is behind an entity's pins, told with its ID in front
--   tell_cut        ==  where the depth is used up nothing is told
--   tell_end        ==  an entity with no pins is told as one route
--   tell_entity     ==  one with pins as all that is behind them
--   ways_short      ==  no way is longer than the depth
--   ready_next      ==  a path is ready for what comes after ways were told
--   sets_both       ==  a run of stores, then another
use Prim.Native.Nat.{ℕ, zero, suc, ◌+◌, ◌-◌, ◌*◌, ◌≤◌, ◌<◌}
use Rattle.std.specs.Prelude.{◌≡◌, Bool, true, false, ltb, length, set}
use Rattle.std.proofs.Math.Path.{refl, sym, ap}
use Rattle.std.proofs.Common.{◌∙◌, ⊎_elim, arith, add-zero, add-one, length-append, length-take-le, lt-ltb, ltb-false}
use mathlib.Core.List.Memᴰ
use mathlib.Core.List.{List, [], ◌∷◌, ◌++◌, map, append_assoc}
use Rattle.std.proofs.lemmas.List.Edits.{sets}
use Rattle.ground.specs.Pick.{pick, yes}
use Rattle.graph.specs.Members.{◌∈◌}
use Rattle.upstream.specs.declared.Path.{Path}
use Rattle.upstream.specs.declared.Tally.{Tally}
use Rattle.upstream.specs.Ways.{Way, via, by_pins, of_entity, ways_up, behind_all}
use Rattle.upstream.specs.Telling.{most_depth, most_routes, path_of, Ready, Progress, so_far, put_in, tell, tell_all}

pub tell_idle : (pre : List ℕ) (t : Progress) (ws : List Way) → most_routes < t.routes → tell_all pre t ws ≡ t
unfolding tell_all tell
tell_idle pre t [] h = refl
tell_idle pre t (w ∷ ws) h = ap (λ (u : Progress). tell_all pre u ws) (yes _ _ (lt-ltb _ _ h)) ∙ tell_idle pre t ws h

pub tell_both : (pre : List ℕ) (t : Progress) (x y : List Way) → tell_all pre t (x ++ y) ≡ tell_all pre (tell_all pre t x) y
unfolding tell_all
tell_both pre t [] y = refl
tell_both pre t (w ∷ x) y = tell_both pre (tell (pre ++ w.ids) t) x y

tell_via : (pre : List ℕ) (t : Progress) (k x : ℕ) (ws : List Way) → tell_all pre t (map (via k x) ws) ≡ tell_all (pre ++ x ∷ []) t ws
unfolding tell_all
tell_via pre t k x [] = refl
tell_via pre t k x (w ∷ ws) =
    tell_via pre (tell (pre ++ x ∷ w.ids) t) k x ws
    ∙ ap (λ (is : List ℕ). tell_all (pre ++ x ∷ []) (tell is t) ws) (sym (append_assoc pre (x ∷ []) w.ids))

pub tell_pins : (ask : ℕ → List Way) (pre : List ℕ) (t : Progress) (x k : ℕ) (ys : List ℕ)
    → tell_all pre t (by_pins ask x k ys) ≡ tell_all (pre ++ x ∷ []) t (behind_all ask ys)
unfolding by_pins behind_all tell_all
tell_pins ask pre t x k [] = refl
tell_pins ask pre t x k (y ∷ ys) =
    tell_both pre t (map (via k x) (ask y)) (by_pins ask x (suc k) ys)
    ∙ ap (λ (u : Progress). tell_all pre u (by_pins ask x (suc k) ys)) (tell_via pre t k x (ask y))
    ∙ tell_pins ask pre (tell_all (pre ++ x ∷ []) t (ask y)) x (suc k) ys
    ∙ sym (tell_both (pre ++ x ∷ []) t (ask y) (behind_all ask ys))

module _ (named : ℕ → List ℕ) (pre : List ℕ) (t : Progress) (x : ℕ) where
  pub tell_cut : (n : ℕ) → n ≡ 0 → t ≡ tell_all pre t (ways_up named n x)
  unfolding ways_up tell_all
  tell_cut zero e = refl
  tell_cut (suc n) e = absurd (omega arith)

  -- the depth that is left, and one entity more
  deeper : (n m : ℕ) → n ≡ m + 1 → ways_up named n x ≡ of_entity (ways_up named m) x (named x)
  unfolding ways_up
  deeper n m e = rw (e, add-one) refl

  pub tell_end : (n m : ℕ) → n ≡ m + 1 → named x ≡ [] → tell (pre ++ x ∷ []) t ≡ tell_all pre t (ways_up named n x)
  unfolding of_entity tell_all
  tell_end n m e z = sym (ap (tell_all pre t) (deeper n m e ∙ ap (of_entity (ways_up named m) x) z))

  pub tell_entity : (n m : ℕ) (ys : List ℕ) → n ≡ m + 1 → ys ≡ named x → (length ys ≡ 0 → ⊥)
      → tell_all (pre ++ x ∷ []) t (behind_all (ways_up named m) ys) ≡ tell_all pre t (ways_up named n x)
  unfolding of_entity
  tell_entity n m [] e q h = absurd (h refl)
  tell_entity n m (y ∷ ys) e q h =
      sym (ap (tell_all pre t) (deeper n m e ∙ ap (of_entity (ways_up named m) x) (sym q)) ∙ tell_pins (ways_up named m) pre t x 0 (y ∷ ys))

-- no way has more IDs than there is depth
abbrev Short : ℕ → List Way → Type 0
Short n ws = (w : Way) → w ∈ ws → length w.ids ≤ n

pins_short : (ask : ℕ → List Way) (n : ℕ) → ((y : ℕ) → Short n (ask y)) → (x k : ℕ) (ys : List ℕ) → Short (suc n) (by_pins ask x k ys)
unfolding by_pins
pins_short ask n h x k [] w m = absurd (Memᴰ.not-nil m)
pins_short ask n h x k (y ∷ ys) w m = ⊎_elim (λ a. here (Memᴰ.of_map (via k x) (ask y) a)) (λ a. pins_short ask n h x (suc k) ys w a) (Memᴰ.append_cases (map (via k x) (ask y)) m)
  where
    here : (v : Way) × v ∈ ask y × (via k x v ≡ w) → length w.ids ≤ suc n
    here (v, a, e) = let l = h y v a in rw (← e) (omega arith)

pub ways_short : (named : ℕ → List ℕ) (n x : ℕ) → Short n (ways_up named n x)
unfolding ways_up of_entity
ways_short named zero x w m = absurd (Memᴰ.not-nil m)
ways_short named (suc n) x w m = go (ways_short named n) (named x) m
  where
    go : ((y : ℕ) → Short n (ways_up named n y)) → (ys : List ℕ) → w ∈ of_entity (ways_up named n) x ys → length w.ids ≤ suc n
    go h [] a = ⊎_elim (λ e. rw e (omega arith)) (λ b. absurd (Memᴰ.not-nil b)) (Memᴰ.cases_cons a)
    go h (y ∷ ys) a = pins_short (ways_up named n) n h x 0 (y ∷ ys) w a

record Bounded (t : Progress) : Type 0 where
  few : t.routes ≤ most_routes + 1
  short : t.written ≤ t.routes * (most_depth + 1)

bounded_tell : (is : List ℕ) (t : Progress) → length is ≤ 32 → Bounded t → Bounded (tell is t)
unfolding tell
bounded_tell is t l b = go (ltb most_routes t.routes) refl
  where
    go : (c : Bool) → ltb most_routes t.routes ≡ c
        → Bounded (pick c t (record { routes = t.routes + 1; written = t.written + length is + 1; list = put_in t.list t.written (is ++ 0 ∷ []) }))
    go true e = b
    go false e =
        let f : t.routes ≤ 256 = ltb-false _ _ e in
        let s = b.short in
        record { few = omega arith; short = omega arith }

bounded_all : (pre : List ℕ) (t : Progress) (ws : List Way) (n : ℕ) → length pre + n ≤ 32 → Short n ws → Bounded t → Bounded (tell_all pre t ws)
unfolding tell_all
bounded_all pre t [] n l h b = b
bounded_all pre t (w ∷ ws) n l h b =
    let a = h w (Memᴰ.head refl) in
    let q : length (pre ++ w.ids) ≤ 32 = rw (length-append pre w.ids) (omega arith) in
    bounded_all pre (tell (pre ++ w.ids) t) ws n l (λ v m. h v (Memᴰ.tail m)) (bounded_tell (pre ++ w.ids) t q b)

pub ready_next : (named : ℕ → List ℕ) (p : Path) (t u : Tally) (l k : List ℕ) (x : ℕ) → Ready p t
    → so_far u k ≡ tell_all (path_of p) (so_far t l) (ways_up named p.left x) → Ready p u
unfolding so_far path_of
ready_next named p t u l k x r e =
    let low = r.stands.low in
    let n : length (path_of p) ≡ most_depth - p.left = length-take-le (most_depth - p.left) p.ids (rw r.stands.long (omega arith)) in
    let b : Bounded (so_far u k) = rw e (bounded_all (path_of p) (so_far t l) (ways_up named p.left x) p.left (rw n (omega arith)) (ways_short named p.left x) (record { few = r.few; short = r.short })) in
    record { stands = r.stands; few = b.few; short = b.short }

pub sets_both : (l : List ℕ) (at : ℕ) (x y : List ℕ) → sets l at (x ++ y) ≡ sets (sets l at x) (at + length x) y
sets_both l at [] y = ap (λ (i : ℕ). sets l i y) (sym (add-zero at))
sets_both l at (a ∷ x) y = let q : suc at + length x ≡ at + suc (length x) = omega arith in sets_both (set l at a) (suc at) x y ∙ ap (λ (i : ℕ). sets (sets (set l at a) (suc at) x) i y) q
