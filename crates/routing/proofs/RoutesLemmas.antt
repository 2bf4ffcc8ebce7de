-- Laws of what stands beside it in specs.
--   ways_only, ways_each  ==  the ways upstream of an entity, and its routes
--   listed_one      ==  two lists of each route exactly once, in the order of pins, are the same
--   route_upstream  ==  a route is a chain of sources
use Prim.Native.Nat.{ℕ, zero, suc, ◌≤◌, ◌<◌}
use Rattle.std.specs.Prelude.{◌≡◌}
use Rattle.std.proofs.Math.Path.{refl, sym, ap, subst}
use Rattle.std.proofs.Common.{◌∙◌, zero-add, le_of_suc-le-suc}
use Rattle.std.proofs.Math.Logic.{⊎_elim}
use mathlib.Core.List.Memᴰ
use mathlib.Core.List.{List, [], ◌∷◌}
use native.Mathlib.Omega.{arith}
use Rattle.std.proofs.Math.ListN.{length, get_or}
use Rattle.ground.specs.Lists.{SomeOf, member_at}
use Rattle.graph.specs.Members.{◌∈◌}
use Rattle.layout.specs.Layout.{LaidOut}
use Rattle.edition.specs.Edition.{own_id, sources}
use Rattle.edition.specs.Audio.{audio}
use Rattle.ranks.specs.Rule12.{Upstream}
use Rattle.ranks.specs.Rule12 as rules
use Rattle.upstream.specs.Ways.{Way, ended, via, by_pins, of_entity, ways_up}
use Rattle.routing.specs.Routes.{InputTerminal, OutputTerminal, Route, EachOnce}
use Rattle.routing.specs.Routes as routes
use Rattle.routing.specs.WaysLaws.{ByPin, pins_has, pins_in}
use Rattle.routing.proofs.WaysLemmas.{pins_rise_one}
use Rattle.routing.specs.RoutesLaws.{no_pins}

module _ (ds : List (List ℕ)) (laid : (d : List ℕ) → d ∈ ds → LaidOut d) (named : ℕ → List ℕ) (own : (d : List ℕ) → d ∈ ds → named (own_id d) ≡ sources audio d) where
  module _ (known : (d : List ℕ) → d ∈ ds → (x : ℕ) → x ∈ sources audio d → SomeOf (λ e. own_id e ≡ x) ds) where
    pub ways_only : (n : ℕ) (d : List ℕ) → d ∈ ds → (w : Way) → w ∈ ways_up named n (own_id d) → Route ds d w
    unfolding ways_up of_entity
    ways_only zero d m w a = absurd (Memᴰ.not-nil a)
    ways_only (suc n) d m w a = go (λ e k v b. ways_only n e k v b) (sources audio d) refl (subst (λ (ys : List ℕ). w ∈ of_entity (λ y. ways_up named n y) (own_id d) ys) (own d m) a)
      where
        go : ((e : List ℕ) → e ∈ ds → (v : Way) → v ∈ ways_up named n (own_id e) → Route ds e v)
            → (ys : List ℕ) → sources audio d ≡ ys → w ∈ of_entity (λ y. ways_up named n y) (own_id d) ys → Route ds d w
        go h [] q b =
            ⊎_elim (λ e. subst (Route ds d) (sym e) (routes.ends ((no_pins d (laid d m)).0 q))) (λ c. absurd (Memᴰ.not-nil c)) (Memᴰ.cases_cons b)
        go h (y ∷ ys) q b = by (pins_has (λ z. ways_up named n z) (own_id d) 0 (y ∷ ys) w b)
          where
            by : ByPin (λ z. ways_up named n z) (own_id d) 0 (y ∷ ys) w → Route ds d w
            by c =
                let inside : c.pin < length (sources audio d) = rw q c.inside in
                let e = known d m (get_or (sources audio d) c.pin 0) (member_at 0 (sources audio d) c.pin inside) in
                let at : get_or (y ∷ ys) c.pin 0 ≡ own_id e.one = ap (λ (l : List ℕ). get_or l c.pin 0) (sym q) ∙ sym e.has in
                let rest = h e.one e.among c.rest (subst (λ (z : ℕ). c.rest ∈ ways_up named n z) at c.among) in
                subst (Route ds d) (ap (λ (k : ℕ). via k (own_id d) c.rest) (sym (zero-add c.pin)) ∙ c.is) (routes.up c.pin inside e.among e.has rest)

  pub ways_each : {d : List ℕ} {w : Way} → Route ds d w → d ∈ ds → (n : ℕ) → length w.ids ≤ n → w ∈ ways_up named n (own_id d)
  unfolding ways_up of_entity
  ways_each {d} r m zero h = absurd (short r h)
    where
      short : {e : List ℕ} {w : Way} → Route ds e w → length w.ids ≤ 0 → ⊥
      short (routes.ends i) h = omega arith
      short (routes.up k b c e r) h = omega arith
  ways_each {d} (routes.ends i) m (suc n) h =
      subst (λ (ys : List ℕ). ended (own_id d) ∈ of_entity (λ y. ways_up named n y) (own_id d) ys) (sym (own d m ∙ (no_pins d (laid d m)).1 i)) (Memᴰ.head refl)
  ways_each {d} (routes.up {e = e} {w = v} k b c q r) m (suc n) h =
      let at = subst (λ (z : ℕ). v ∈ ways_up named n z) q (ways_each r c n (le_of_suc-le-suc h)) in
      go (sources audio d) (own d m) b at
    where
      go : (ys : List ℕ) → named (own_id d) ≡ ys → k < length ys → v ∈ ways_up named n (get_or ys k 0) → via k (own_id d) v ∈ of_entity (λ y. ways_up named n y) (own_id d) (named (own_id d))
      go [] e l a = absurd (omega arith)
      go (y ∷ ys) e l a =
          subst (λ (zs : List ℕ). via k (own_id d) v ∈ of_entity (λ z. ways_up named n z) (own_id d) zs) (sym e)
          (subst (λ (i : ℕ). via i (own_id d) v ∈ by_pins (λ z. ways_up named n z) (own_id d) 0 (y ∷ ys)) (zero-add k) (pins_in (λ z. ways_up named n z) (own_id d) 0 (y ∷ ys) k l v a))

pub listed_one : {ds : List (List ℕ)} {d : List ℕ} {x y : List Way} → EachOnce ds d x → EachOnce ds d y → x ≡ y
listed_one {x = x} {y = y} a b = pins_rise_one x y a.rising b.rising (λ w m. b.each w (a.only w m)) (λ w m. a.each w (b.only w m))

pub route_upstream : {ds : List (List ℕ)} {d : List ℕ} {w : Way} → Route ds d w → (n : ℕ) → length w.ids ≡ suc n → Upstream audio ds n d
route_upstream (routes.ends i) zero e = rules.ends
route_upstream (routes.ends i) (suc n) e = absurd (omega arith)
route_upstream (routes.up k b c q r) zero e = absurd (one r (omega arith))
  where
    one : {ds : List (List ℕ)} {d : List ℕ} {w : Way} → Route ds d w → length w.ids ≡ 0 → ⊥
    one (routes.ends i) z = omega arith
    one (routes.up k b c e r) z = omega arith
route_upstream {d = d} (routes.up k b c q r) (suc n) e = rules.up c (Memᴰ.cast q (member_at 0 (sources audio d) k b)) (route_upstream r n (omega arith))
