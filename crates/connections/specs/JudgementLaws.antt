-- The rules 10 to 13 and what the reader computes of them, tied in their order, for a run that stands for descriptors: "the lowest number that
-- applies is given, at no other time" (document 01).
--   connected_rows p ds behind  ==  the rows 10 to 13 of the papers' table, for the run's descriptors ds from place p on, and the rows behind them, which
--                         may speak of all four kept
--   FirstOf p ds Wrong  ==  a place: that of the first descriptor of which Wrong is so
--   decides_10, decides_11, decides_12  ==  each rule is decided by its breach, place included, where the rules before it are kept, for any edition
--   decides_13        ==  the same, of the audio edition's clusters
--   judged_answers    ==  THE LAW: what is judged is put together by these rows
--   connected_chain   ==  what comes behind the four is reached exactly where none of them is given
use Rattle.std.specs.Prelude.{ℕ, List}
use Rattle.std.proofs.Math.Path.{refl}
use Rattle.std.proofs.Common.{arith}
use Rattle.ground.specs.declared.Refusal.{Refusal}
use Rattle.ground.specs.First.{Breaks}
use Rattle.ground.specs.Refuse.{Chain, chain_end, chain_more}
use Rattle.ground.specs.Rows.{Rows, row, Decides, Answers}
use Rattle.edition.specs.Edition.{Edition}
use Rattle.edition.specs.Audio.{audio}
use Rattle.entities.specs.declared.Run.{Run}
use Rattle.entities.specs.Represents.{Represents}
use Rattle.ids.specs.Rule10.{WrongId, Rule10}
use Rattle.sources.specs.Rule11.{WrongSources, Rule11}
use Rattle.ids.specs.Breach.{breach10}
use Rattle.sources.specs.Breach.{breach11}
use Rattle.ids.specs.Rule10Laws.{rule10_nowhere, rule10_at, distinct_run}
use Rattle.sources.specs.Rule11Laws.{rule11_nowhere, rule11_at}
use Rattle.sources.specs.GraphLaws.{known_run}
use Rattle.ranks.specs.Rule12.{Endless, Rule12}
use Rattle.ranks.specs.Order.{ordered}
use Rattle.ranks.specs.Breach.{breach12}
use Rattle.ranks.proofs.Rule12Laws.{rule12_nowhere, rule12_at}
use Rattle.clusters.specs.Rule13.{Broken, Rule13}
use Rattle.clusters.specs.Breach.{given_for, breach13}
use Rattle.clusters.proofs.TopologyLemmas.{rule13_nowhere, rule13_at}
use Rattle.connections.specs.Judgement.{judged}

module _ (p : ℕ) (ds : List (List ℕ)) where
  -- the first descriptor of which it is so stands at the place
  abbrev pub FirstOf : (List ℕ → Type 0) → ℕ → Type 0
  FirstOf Wrong = Breaks (λ b d. Wrong d) p ds

  abbrev pub connected_rows : (Rule10 ds → Rule11 audio ds → Rule12 audio ds → Rule13 audio ds → Rows) → Rows
  connected_rows behind =
      row 10 (Rule10 ds) (Breaks WrongId p ds) (λ a.
      row 11 (Rule11 audio ds) (FirstOf (WrongSources audio ds)) (λ b.
      row 12 (Rule12 audio ds) (FirstOf (Endless audio ds)) (λ c.
      row 13 (Rule13 audio ds) (FirstOf (Broken audio ds)) (λ e. behind a b c e))))

-- any edition
module _ {ed : Edition} {s : List ℕ} {p : ℕ} {ds : List (List ℕ)} {run : Run} (k : Represents ed s p ds run) where
  pub decides_10 : Decides (breach10 run) (Rule10 ds) (Breaks WrongId p ds)
  decides_10 = record { kept = rule10_nowhere k; broken = rule10_at k }

  module _ (a : Rule10 ds) where
    pub decides_11 : Decides (breach11 s run) (Rule11 ed ds) (FirstOf p ds (WrongSources ed ds))
    decides_11 = record { kept = rule11_nowhere k a; broken = rule11_at k a }

    pub decides_12 : Rule11 ed ds → Decides (breach12 run (ordered s run)) (Rule12 ed ds) (FirstOf p ds (Endless ed ds))
    decides_12 b = record { kept = rule12_nowhere k (distinct_run k a) (known_run k b); broken = rule12_at k (distinct_run k a) (known_run k b) }

-- the audio edition
module _ {s : List ℕ} {p : ℕ} {ds : List (List ℕ)} {run : Run} (k : Represents audio s p ds run) where
  pub decides_13 : (a : Rule10 ds) (b : Rule11 audio ds) (c : Rule12 audio ds)
      → Decides (breach13 s run (given_for s run)) (Rule13 audio ds) (FirstOf p ds (Broken audio ds))
  decides_13 a b c = record { kept = rule13_nowhere k a b c; broken = rule13_at k a b c }

  pub judged_answers : (behind : Rule10 ds → Rule11 audio ds → Rule12 audio ds → Rule13 audio ds → Rows) (r : Refusal)
      → ((a : Rule10 ds) (b : Rule11 audio ds) (c : Rule12 audio ds) (e : Rule13 audio ds) → Answers (behind a b c e) r)
      → Answers (connected_rows p ds behind) (judged s run r)
  unfolding judged
  judged_answers behind r h = (
    breach10 run,
    _,
    refl,
    decides_10 k,
    λ a. (
      breach11 s run,
      _,
      refl,
      decides_11 k a,
      λ b. (
        breach12 run (ordered s run),
        _,
        refl,
        decides_12 k a b,
        λ c. (breach13 s run (given_for s run), r, refl, decides_13 a b c, λ e. h a b c e),
      ),
    ),
  )

pub connected_chain : (s : List ℕ) (run : Run) → Chain (judged s run)
unfolding judged
connected_chain s run =
    chain_more 10 (λ e. omega arith) (breach10 run) _
    (chain_more 11 (λ e. omega arith) (breach11 s run) _
    (chain_more 12 (λ e. omega arith) (breach12 run (ordered s run)) _ (chain_more 13 (λ e. omega arith) (breach13 s run (given_for s run)) _ chain_end)))
