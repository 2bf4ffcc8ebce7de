-- No ID at all, or a first one, which each other is compared with.
use Rattle.std.proofs.Common.{rules}
use Rattle.std.proofs.lemmas.Iterator.{YieldsList-from_slice}
use Rattle.std.proofs.lemmas.Iterator.Search.{all_from_yields_List}
use Rattle.pins.specs.Same.{one_number}
use Rattle.pins.specs.SameLaws.{same_none, same_first}
use Rattle.pins.proofs.same.Goals as goal

pub returns-in_default : goal.returns-in_default
returns-in_default g c = same_none (g.T.Number.values c.args.numbers.now) c.args.ids.now (search rules)

pub returns : goal.returns
returns g c =
    let numbers = g.T.Number.values c.args.numbers.now in
    let first = c.in-Some.first.now in
    let others = c.in-Some.others.now in
    let h = all_from_yields_List (λ y. one_number numbers y first) _ _ _ c.all.ensures.ran (YieldsList-from_slice others cc) (λ x b q k. search rules) in
    same_first numbers c.args.ids.now first others (search rules) c.all.result h
