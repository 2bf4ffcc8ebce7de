-- What the papers ask of the run's descriptors, and of the table of controls, rule by rule: none of it sees an order.
--   Blind Rule      ==  a rule on the run that does not see the order of its descriptors
--   BlindTo Rule    ==  the same of a rule on the run and the clusters on its IDs
--   records_each ds c  ==  the sheet's records of the run ds with the clusters c on IDs, one by one
--   BlindRules      ==  THE STATEMENT, of the run: the rules 8 to 13, 15 and 17; what 14 asks of it, which Terminals there are; which controls stand,
--                       and how many; and the sheet's records, which are the same in that order
--   BlindAsk Ask    ==  what is asked of a table of controls does not see the order of the controls
--   BlindTables     ==  THE STATEMENT, of a table: whether a unit has controls, who is addressed and in which order, whether a ranged control is there
use Rattle.std.specs.Prelude.{ℕ, ◌≡◌, List, [], ◌∷◌, length}
use Rattle.layout.specs.declared.Cluster.{Cluster}
use Rattle.edition.specs.Edition.{own_id}
use Rattle.edition.specs.Audio.{audio}
use Rattle.cutting.specs.Rules1to9.{Rule8, Rule9, Recognised, NoneWithdrawn}
use Rattle.ids.specs.Rule10.{Rule10}
use Rattle.sources.specs.Rule11.{Rule11}
use Rattle.ranks.specs.Rule12.{Rule12}
use Rattle.clusters.specs.Rule13.{Rule13}
use Rattle.terminals.specs.Terminals.{Terminal}
use Rattle.terminals.specs.Said.{IsTerminal}
use Rattle.table.specs.declared.Control.{Control}
use Rattle.table.specs.declared.Table.{Table}
use Rattle.table.specs.Keys.{Key}
use Rattle.controls.specs.Controls.{controls_of}
use Rattle.controls.specs.Standing.{Stands}
use Rattle.controls.specs.Rule15.{Rule15}
use Rattle.records.specs.Records.{record_in}
use Rattle.runs.specs.RequestRows.{Owned, Addressed, RangedThere}
use Rattle.order.specs.Permuted.{Permuted, AgreeOn}
use Rattle.order.specs.Same.{SameControls}

abbrev pub Blind : (List (List ℕ) → Type 0) → Type 0
Blind Rule = (ds es : List (List ℕ)) → Permuted ds es → Rule ds → Rule es

abbrev pub BlindTo : (List (List ℕ) → (ℕ → Cluster) → Type 0) → Type 0
BlindTo Rule = (ds es : List (List ℕ)) → Permuted ds es → (c e : ℕ → Cluster) → AgreeOn ds c e → Rule ds c → Rule es e

unfoldable pub records_each : List (List ℕ) → (ℕ → Cluster) → List (List ℕ)
records_each [] cluster = []
records_each (d ∷ ds) cluster = record_in d (cluster (own_id d)) ∷ records_each ds cluster

pub record BlindRules : Type 0 where
  pub counted : Blind Rule8
  pub recognised : Blind (Recognised audio)
  pub withdrawn : Blind (NoneWithdrawn audio)
  pub ids : Blind Rule10
  pub sources : Blind (Rule11 audio)
  pub ranks : Blind (Rule12 audio)
  pub clusters : Blind (Rule13 audio)
  pub terminals : (t : Terminal) → BlindTo (λ ds cluster. IsTerminal ds cluster t)
  pub controls : (x : Control) → BlindTo (λ ds cluster. Stands ds cluster x)
  pub few : BlindTo Rule15
  pub as_many : (ds es : List (List ℕ)) → Permuted ds es → (c e : ℕ → Cluster) → AgreeOn ds c e → Rule9 audio ds → Rule10 ds
      → length (controls_of ds c) ≡ length (controls_of es e)
  pub records : (ds es : List (List ℕ)) → Permuted ds es → (c e : ℕ → Cluster) → AgreeOn ds c e → Permuted (records_each ds c) (records_each es e)

abbrev pub BlindAsk : (Table → Type 0) → Type 0
BlindAsk Ask = (t u : Table) → SameControls t u → Ask t → Ask u

pub record BlindTables : Type 0 where
  pub unit : (x : ℕ) → BlindAsk (λ t. Owned t x)
  pub addressed : (s : List ℕ) (cs : List Control) → BlindAsk (λ t. Addressed t s cs)
  pub ranged : (k : Key) → BlindAsk (λ t. RangedThere t k)
