use Prim.Native.Nat.{ℕ, ◌+◌, ◌≤◌, ◌<◌}
use mathlib.Core.Path.{◌≡◌, ap, ◌∙◌, subst}
use mathlib.Core.Bool.{Bool, true, false}
use mathlib.Core.List.Memᴰ
use mathlib.Core.List.{List}
use lib.ListN.{length, get_or, take, take-append-drop}
use Rattle.std.specs.Prelude.{Option, Some, None}
use Rattle.std.specs.List.{list_any}
use Rattle.ground.specs.Lists.{any, member_index, take_in}
use Rattle.ground.specs.Places.{Come, come_none, come_here, come_more, come_over}
use Rattle.graph.specs.Members.{◌∈◌, along}
use Rattle.entities.specs.declared.Node.{Node}
use Rattle.entities.specs.declared.Run.{Run}
use Rattle.entities.specs.Run.{blank_node, held, node_at, place_at, sources_of, sources_at}
use Rattle.entities.proofs.Looked.{item, inside}
use Rattle.entities.proofs.Looked as looked
use Rattle.sources.specs.Lookup.{directory_of}
use Rattle.sources.specs.LookupLaws.{any_wrong_by}
use Rattle.sources.specs.Breach.{wrong_source, wrong_by, breach11}
use Rattle.sources.proofs.Tests.{list_any_is}
use Rattle.sources.proofs.check_sources.Given as goal

module _ (s : List ℕ) (run : Run) where
  abbrev pub wrong : ℕ → Bool
  wrong j = any (wrong_source run) (sources_at s run j)

  pub record Passed (found : List (Option Bool)) (i : ℕ) : Type 0 where
    pub come : Come wrong (λ j. Some (place_at run j)) None (held run) i
    pub bytes : (k : ℕ) → get_or s k 0 < 256
    pub told : found ≡ directory_of run

  pub start : (found : List (Option Bool)) → found ≡ directory_of run → ((k : ℕ) → get_or s k 0 < 256) → Passed found 0
  start found e h = record { come = come_none wrong (λ j. Some (place_at run j)) None (held run); bytes = h; told = e }

  module _ (n : ℕ) (m : n ≡ held run) (found : List (Option Bool)) (i : ℕ) (g : Passed found i) where
    pub over : length run.nodes ≡ 32 → length (take n run.nodes) ≤ i → None ≡ breach11 s run
    unfolding breach11
    over w h = come_over wrong (λ j. Some (place_at run j)) None (held run) i g.come (looked.over run n i m w h)

    module _ (h : i < length (take n run.nodes)) where
      abbrev node : Node
      node = get_or (take n run.nodes) i blank_node

      module _ (ids : List ℕ) (q : ids ≡ sources_of s node) (b : Bool) (f : b ≡ list_any (wrong_by found) ids) where
        own : ids ≡ sources_at s run i
        own = q ∙ ap (sources_of s) (item run n i m h)

        e : b ≡ wrong i
        e = f ∙ list_any_is (wrong_by found) ids ∙ rw (g.told, own) (any_wrong_by run (sources_at s run i) byte)
          where
            byte : (x : ℕ) → x ∈ sources_at s run i → x < 256
            byte x a =
                let start = (node_at run i).first in
                let k = member_index 0 (along (take-append-drop start s) (Memᴰ.append_right (take start s) (take_in (node_at run i).pins a))) in
                subst (λ (y : ℕ). y < 256) k.2 (g.bytes k.0)

        pub here : b ≡ true → Some node.place ≡ breach11 s run
        unfolding breach11
        here y = ap (λ (e : Node). Some e.place) (item run n i m h) ∙ come_here wrong (λ j. Some (place_at run j)) None (held run) i g.come (inside run n i m h) b e y

        pub on : b ≡ false → Passed found (i + 1)
        on y = record { come = come_more wrong (λ j. Some (place_at run j)) None (held run) i g.come (inside run n i m h) b e y; bytes = g.bytes; told = g.told }

abbrev pub invariant-loop-user : goal.invariant-loop-user
invariant-loop-user l = Passed l.config l.fn.run l.found l.user-index
