-- What is no Terminal enters none.
use borrow.Author.Rules.{rules}
use Prim.Native.Nat.{ℕ}
use mathlib.Core.Path.{◌≡◌}
use mathlib.Core.List.{List}
use Rattle.std.specs.Prelude.{Option}
use Rattle.layout.specs.declared.Entity.{Entity}
use Rattle.terminals.specs.declared.Bearer.{Bearer}
use Rattle.terminals.specs.Terminals.{terminal_of}
use Rattle.terminals.specs.Table.{Entered, entered_none}
use Rattle.terminals.proofs.enter_entity.Goals as goal

none : (table : List (Option Bearer)) (e k : Entity) (c : ℕ) → e ≡ k → Entered (terminal_of k c) table table → Entered (terminal_of e c) table table
none table e k c q h = rw q h

ruleset laws = (none, entered_none, rules)

pub returns-in-Unknown : goal.returns-in-Unknown
unfolding terminal_of
returns-in-Unknown c = search laws

pub returns-in-Mixer : goal.returns-in-Mixer
unfolding terminal_of
returns-in-Mixer c = search laws

pub returns-in-Selector : goal.returns-in-Selector
unfolding terminal_of
returns-in-Selector c = search laws

pub returns-in-Feature : goal.returns-in-Feature
unfolding terminal_of
returns-in-Feature c = search laws
