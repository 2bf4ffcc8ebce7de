-- The depth left falls from an entity to its pins, not from these to the entities behind them. The loop over the pins has told all that is behind those
-- that it has passed.
use Prim.Native.Nat.{ℕ, ◌+◌, ◌*◌, ◌≤◌, ◌<◌}
use mathlib.Core.Path.{◌≡◌, refl, sym, ap, ◌∙◌}
use mathlib.Core.List.{List, [], ◌∷◌, ◌++◌, append_assoc, append-nil}
use native.Mathlib.Numerals.{add-one}
use lib.ListN.{length, get_or, take}
use lib.Seq.{take-suc, take_all}
use Rattle.upstream.specs.declared.Path.{Path}
use Rattle.upstream.specs.declared.Tally.{Tally}
use Rattle.upstream.specs.Ways.{Way, ways_up, behind_all}
use Rattle.upstream.specs.Telling.{sources_in, path_of, Ready, Progress, so_far, tell_all}
use Rattle.upstream.specs.TellingLaws.{tell_both, ready_next}
use Rattle.upstream.proofs.+asking.Given as goal

behind_one : (ask : ℕ → List Way) (ys : List ℕ) (y : ℕ) → behind_all ask (ys ++ y ∷ []) ≡ behind_all ask ys ++ ask y
unfolding behind_all
behind_one ask [] y = append-nil (ask y)
behind_one ask (x ∷ ys) y = ap (λ (l : List Way). ask x ++ l) (behind_one ask ys y) ∙ sym (append_assoc (ask x) (behind_all ask ys) (ask y))

module _ (named : ℕ → List ℕ) (ys : List ℕ) (p : Path) (t : Tally) (l : List ℕ) where
  pub record Asked (u : Tally) (k : List ℕ) (i : ℕ) : Type 0 where
    pub ready : Ready p u
    pub told : so_far u k ≡ tell_all (path_of p) (so_far t l) (behind_all (ways_up named p.left) (take i ys))

  pub none_asked : Ready p t → Asked t l 0
  unfolding behind_all tell_all
  none_asked r = record { ready = r; told = refl }

  module _ (u : Tally) (k : List ℕ) (i : ℕ) (g : Asked u k i) where
    pub all_asked : length ys ≤ i → so_far u k ≡ tell_all (path_of p) (so_far t l) (behind_all (ways_up named p.left) ys)
    all_asked h = g.told ∙ ap (λ (x : List ℕ). tell_all (path_of p) (so_far t l) (behind_all (ways_up named p.left) x)) (take_all i ys h)

    pub one_asked : i < length ys → (v : Tally) (m : List ℕ) → so_far v m ≡ tell_all (path_of p) (so_far u k) (ways_up named p.left (get_or ys i 0)) → Asked v m (i + 1)
    one_asked h v m e = record {
      ready = ready_next named p u v k m (get_or ys i 0) g.ready e;
      told =
          e ∙ ap (λ (x : Progress). tell_all (path_of p) x (ways_up named p.left (get_or ys i 0))) g.told
          ∙ sym (tell_both (path_of p) (so_far t l) (behind_all (ways_up named p.left) (take i ys)) (ways_up named p.left (get_or ys i 0)))
          ∙ ap (tell_all (path_of p) (so_far t l)) (sym (behind_one (ways_up named p.left) (take i ys) (get_or ys i 0)))
          ∙ ap (λ (x : List ℕ). tell_all (path_of p) (so_far t l) (behind_all (ways_up named p.left) x)) (sym (take-suc ys i 0 h) ∙ ap (λ (j : ℕ). take j ys) (sym (add-one i)));
    }

abbrev pub invariant-ask_pins-loop-source : goal.invariant-ask_pins-loop-source
invariant-ask_pins-loop-source l = Asked (sources_in l.fn.tables) l.sources l.path l.fn.told l.initial.list l.next l.list l.source-index

abbrev pub decreases-ask_entity : goal.decreases-ask_entity
decreases-ask_entity l = l.path.left * 2

abbrev pub decreases-ask_pins : goal.decreases-ask_pins
decreases-ask_pins l = l.path.left * 2 + 1
