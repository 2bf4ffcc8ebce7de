-- An entity asks its pins and each pin asks the entity behind it.
use borrow.Author.Rules.{rules}
use Prim.Native.Nat.{ℕ, ◌+◌, ◌*◌, ◌<◌}
use mathlib.Core.Path.{◌≡◌, refl, sym, ap, ◌∙◌}
use mathlib.Core.List.{List, [], ◌∷◌}
use native.Mathlib.Omega.{arith}
use native.Mathlib.Nat.{pos_of_ne-zero}
use lib.ListN.{length}
use Rattle.upstream.specs.declared.Path.{Path}
use Rattle.upstream.specs.declared.Tally.{Tally}
use Rattle.upstream.specs.Ways.{ways_up, behind_all}
use Rattle.upstream.specs.Telling.{most_routes, sources_by, path_of, Standing, Further, Ready, so_far, tell, tell_all}
use Rattle.upstream.specs.TellingLaws.{tell_idle, tell_cut, tell_end, tell_entity}
use Rattle.upstream.proofs.+asking.Invariants.{Asked, none_asked, all_asked, one_asked}
use Rattle.upstream.proofs.+asking.Goals as goal

none_of : (l : List ℕ) → length l ≡ 0 → l ≡ []
none_of [] e = refl
none_of (x ∷ l) e = absurd (omega arith)

module _ (s firsts counts : List ℕ) where
  module _ (p : Path) (t : Tally) (l : List ℕ) (x : ℕ) where
    cut : p.left ≡ 0 → so_far t l ≡ tell_all (path_of p) (so_far t l) (ways_up (sources_by s firsts counts) p.left x)
    cut e = tell_cut (sources_by s firsts counts) (path_of p) (so_far t l) x p.left e

    idle : most_routes < t.routes → so_far t l ≡ tell_all (path_of p) (so_far t l) (ways_up (sources_by s firsts counts) p.left x)
    unfolding so_far
    idle h = sym (tell_idle (path_of p) (so_far t l) (ways_up (sources_by s firsts counts) p.left x) h)

    module _ (q : Path) (f : Further p x q) (ys : List ℕ) (e : ys ≡ sources_by s firsts counts x) (u : Tally) (k : List ℕ) where
      ended : length ys ≡ 0 → so_far u k ≡ tell (path_of q) (so_far t l) → so_far u k ≡ tell_all (path_of p) (so_far t l) (ways_up (sources_by s firsts counts) p.left x)
      ended z r =
          r ∙ ap (λ (is : List ℕ). tell is (so_far t l)) f.behind
          ∙ tell_end (sources_by s firsts counts) (path_of p) (so_far t l) x p.left q.left f.less (sym e ∙ none_of ys z)

      more : (length ys ≡ 0 → ⊥) → so_far u k ≡ tell_all (path_of q) (so_far t l) (behind_all (ways_up (sources_by s firsts counts) q.left) ys)
          → so_far u k ≡ tell_all (path_of p) (so_far t l) (ways_up (sources_by s firsts counts) p.left x)
      more z r =
          r ∙ ap (λ (is : List ℕ). tell_all is (so_far t l) (behind_all (ways_up (sources_by s firsts counts) q.left) ys)) f.behind
          ∙ tell_entity (sources_by s firsts counts) (path_of p) (so_far t l) x p.left q.left ys f.less e z

ready_here : (p q : Path) (t : Tally) (x : ℕ) → Ready p t → Further p x q → Ready q t
ready_here p q t x r f = record { stands = f.stands; few = r.few; short = r.short }

stands : (p : Path) (t : Tally) → Ready p t → Standing p
stands p t r = r.stands

less_deep : (t n m : ℕ) → n * 2 ≡ t → n ≡ m + 1 → m * 2 + 1 < t
less_deep t n m e f = omega arith

less_pin : (t n : ℕ) → n * 2 + 1 ≡ t → n * 2 < t
less_pin t n e = omega arith

asked_ready : (named : ℕ → List ℕ) (ys : List ℕ) (p : Path) (t : Tally) (l : List ℕ) (u : Tally) (k : List ℕ) (i : ℕ) → Asked named ys p t l u k i → Ready p u
asked_ready named ys p t l u k i g = g.ready

ruleset laws = (cut, idle, ended, more, ready_here, stands, pos_of_ne-zero, less_deep, less_pin, none_asked, all_asked, one_asked, asked_ready, rules)

pub ask_entity-returns-then-path-eq0 : goal.ask_entity-returns-then-path-eq0
ask_entity-returns-then-path-eq0 t c = search laws

pub ask_entity-returns-then-told-gt-MOST_ROUTES : goal.ask_entity-returns-then-told-gt-MOST_ROUTES
ask_entity-returns-then-told-gt-MOST_ROUTES t c = search laws

pub ask_entity-returns-then-sources-eq0 : goal.ask_entity-returns-then-sources-eq0
ask_entity-returns-then-sources-eq0 t c = search laws

pub ask_entity-returns : goal.ask_entity-returns
ask_entity-returns t c = search laws

pub ask_pins-loop-source-init : goal.ask_pins-loop-source-init
ask_pins-loop-source-init t c = search laws

pub ask_pins-ask_entity-next-requires : goal.ask_pins-ask_entity-next-requires
ask_pins-ask_entity-next-requires t c = search laws

pub ask_pins-loop-source-preserved : goal.ask_pins-loop-source-preserved
ask_pins-loop-source-preserved t c = search laws

pub ask_pins-returns : goal.ask_pins-returns
ask_pins-returns t c = search laws
