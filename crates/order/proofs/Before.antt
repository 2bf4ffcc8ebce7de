-- A rule by which a source stands before its user sees the order: of an Input Terminal and an Output Terminal that it feeds, each front keeps rule 11 by
-- itself; with the two exchanged, the first alone has an unknown source.
--   before_sees    ==  THE LAW
use Prim.Native.Nat.{ℕ, zero, suc}
use mathlib.Core.Path.{◌≡◌, refl, sym, ap, ◌∙◌, subst}
use mathlib.Core.Bool.{true}
use mathlib.Core.List.Memᴰ
use mathlib.Core.List.Permᴰ
use mathlib.Core.List.{List, [], ◌∷◌}
use native.Mathlib.Omega.{arith}
use Rattle.ground.specs.Pick.{true≠false}
use Rattle.ground.specs.Lists.{SomeOf}
use Rattle.graph.specs.Members.{◌∈◌, along}
use Rattle.layout.specs.Layout.{entity_of}
use Rattle.kinds.specs.Sources.{sources_from, pins_of, feeds_of}
use Rattle.edition.specs.Edition.{own_id, sources}
use Rattle.edition.specs.Audio.{audio}
use Rattle.sources.specs.Rule11.{WrongSource, zero_source, unknown, no_output, Rule11}
use Rattle.order.specs.Before.{SourcesBefore, microphone, jack, BeforeSees}

no_source : sources audio microphone ≡ []
unfolding entity_of pins_of sources_from
no_source = refl

one_source : sources audio jack ≡ 1 ∷ []
unfolding entity_of pins_of sources_from
one_source = refl

feeding : audio.feeds microphone ≡ true
unfolding entity_of feeds_of
feeding = refl

-- the microphone is its source in the whole run, and the only one that bears the ID
right_source : {ds : List (List ℕ)} → microphone ∈ ds → ((d : List ℕ) → d ∈ ds → own_id d ≡ 1 → d ≡ microphone) → WrongSource audio ds 1 → ⊥
right_source m one (zero_source e) = omega arith
right_source m one (unknown f) = f microphone m refl
right_source m one (no_output d k i e) = true≠false (sym feeding ∙ ap audio.feeds (sym (one d k i)) ∙ e)

fed_by_none : (ds : List (List ℕ)) (d : List ℕ) → d ≡ microphone → SomeOf (WrongSource audio ds) (sources audio d) → ⊥
fed_by_none ds d e h = Memᴰ.not-nil (along (ap (sources audio) e ∙ no_source) h.among)

fed_by_one : (ds : List (List ℕ)) → (WrongSource audio ds 1 → ⊥) → (d : List ℕ) → d ≡ jack → SomeOf (WrongSource audio ds) (sources audio d) → ⊥
fed_by_one ds n d e h = n (subst (WrongSource audio ds) (Memᴰ.eq_of_singleton (along (ap (sources audio) e ∙ one_source) h.among)) h.has)

the_pair : Rule11 audio (microphone ∷ jack ∷ [])
the_pair d (Memᴰ.head e) h = fed_by_none _ d e h
the_pair d (Memᴰ.tail (Memᴰ.head e)) h = fed_by_one _ (right_source (Memᴰ.head refl) only) d e h
  where
    only : (b : List ℕ) → b ∈ (microphone ∷ jack ∷ []) → own_id b ≡ 1 → b ≡ microphone
    only b (Memᴰ.head q) i = q
    only b (Memᴰ.tail (Memᴰ.head q)) i = let k : ◌≡◌ {A = ℕ} 2 1 = sym (ap own_id q) ∙ i in absurd (omega arith)
    only b (Memᴰ.tail (Memᴰ.tail m)) i = absurd (Memᴰ.not-nil m)
the_pair d (Memᴰ.tail (Memᴰ.tail m)) h = absurd (Memᴰ.not-nil m)

each_front : SourcesBefore (microphone ∷ jack ∷ [])
each_front zero d m h = Memᴰ.not-nil m
each_front (suc zero) d m h = fed_by_none _ d (Memᴰ.eq_of_singleton m) h
each_front (suc (suc zero)) d m h = the_pair d m h
each_front (suc (suc (suc n))) d m h = the_pair d m h

alone_unknown : SourcesBefore (jack ∷ microphone ∷ []) → ⊥
alone_unknown h = h 1 jack (Memᴰ.head refl) (record { one = 1; among = along (sym one_source) (Memᴰ.head refl); has = unknown other })
  where
    other : (d : List ℕ) → d ∈ (jack ∷ []) → own_id d ≡ 1 → ⊥
    other d m i = let k : ◌≡◌ {A = ℕ} 2 1 = sym (ap own_id (Memᴰ.eq_of_singleton m)) ∙ i in omega arith

pub before_sees : BeforeSees
before_sees = record {
  kept = each_front;
  broken = alone_unknown;
  sees = λ blind. alone_unknown (blind (microphone ∷ jack ∷ []) (jack ∷ microphone ∷ []) (Permᴰ.swap refl refl) each_front);
}
