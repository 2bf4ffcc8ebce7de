-- Four ways out: no descriptor of at most 255 bytes, fewer bytes in the buffer, no room from the place on, or it is put.
use borrow.Author.Rules.{rules}
use Prim.Native.Nat.{ℕ, ◌-◌, ◌+◌, ◌≤◌, ◌<◌}
use mathlib.Core.Path.{◌≡◌, refl, sym, ◌∙◌}
use mathlib.Core.List.{List}
use lib.ListN.{length}
use Rattle.std.specs.declared.option.Option.{Option}
use Rattle.std.specs.declared.option.Option.TheVariants.{None, Some}
use Rattle.ground.specs.Lists.{part}
use Rattle.fields.specs.declared.Item.{Item}
use Rattle.fields.specs.Listed.{written_as, entity_from, listed_with}
use Rattle.laying.specs.Paste.{pasted}
use Rattle.laying.specs.Laying.{short_of, Lay}
use Rattle.laying.specs.LayingLaws.{lay_none, lay_short, lay_behind, lay_small, lay_room, lay_done}
use Rattle.laying.proofs.lay.Goals as goal

module _ (x : Item) (v s k : List ℕ) (p : s ≡ part v x.sources.from x.sources.end) (q : k ≡ part v x.controls.from x.controls.end) where
  abbrev bytes : List ℕ
  bytes = written_as (entity_from x.numbers s k)

  same : bytes ≡ written_as (listed_with v x)
  same = rw (p, q) refl

  module _ (at : ℕ) (d : List ℕ) (o : Option ℕ) (e : o ≡ short_of (length bytes)) where
    none : o ≡ None → Lay (written_as (listed_with v x)) at d d 0
    none z = rw same at (lay_none bytes at d (sym z ∙ e))

    module _ (n : ℕ) (z : o ≡ Some n) where
      short : length d < n → Lay (written_as (listed_with v x)) at d d 0
      short h = rw same at (lay_short bytes at d n (sym z ∙ e) h)

      behind : length d - n < at → Lay (written_as (listed_with v x)) at d d 0
      behind h = rw same at (lay_behind bytes at d n (sym z ∙ e) h)

      small : length bytes ≤ 255
      small = lay_small bytes at d n (sym z ∙ e)

      room : n ≤ length d → at ≤ length d - n → at + length bytes ≤ length d
      room = lay_room bytes at d n (sym z ∙ e)

      done : (g : List ℕ) → n ≤ length d → at ≤ length d - n → g ≡ pasted at bytes d → Lay (written_as (listed_with v x)) at d g n
      done g h l j = rw same at (lay_done bytes at d n (sym z ∙ e) g h l j)

ruleset laws = (none, short, behind, small, room, done, rules)

pub returns-in_default : goal.returns-in_default
returns-in_default c = search laws

pub returns-then-out-n : goal.returns-then-out-n
returns-then-out-n c = search laws

pub returns-then-out-n-2 : goal.returns-then-out-n-2
returns-then-out-n-2 c = search laws

pub put_entity-requires-clause-controls_len_bound : goal.put_entity-requires-clause-controls_len_bound
put_entity-requires-clause-controls_len_bound c = search laws

pub put_entity-requires-clause-controls_in_bounds : goal.put_entity-requires-clause-controls_in_bounds
put_entity-requires-clause-controls_in_bounds c = search laws

pub returns : goal.returns
returns c = search laws
