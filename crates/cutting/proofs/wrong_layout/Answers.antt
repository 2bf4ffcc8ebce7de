-- The closure answers as is_wrong does.
use Rattle.std.proofs.Common.{rules, tests, ◌∙◌}
use Rattle.std.proofs.lemmas.Iterator.Consumers.{YieldsList-from_first}
use Rattle.std.proofs.lemmas.Iterator.Search.{find_from_yields_List}
use Rattle.scan.specs.Cutting.{rest}
use Rattle.scan.specs.Placed.{placed_from, seen, ahead}
use Rattle.scan.proofs.Found.{found_as}
use Rattle.layout.specs.Withdrawn.{is_wrong}
use Rattle.cutting.proofs.wrong_layout.Goals as goal

pub returns : goal.returns
returns c =
    let items = placed_from c.args.from (rest c.args.s.now c.args.from) in
    let found = find_from_yields_List (λ x. is_wrong x.1) c.find.new.self _ c.find.result c.find.ensures.ran (YieldsList-from_first seen ahead items cc) (λ x b q k. search (rules, tests)) in
    search rules ∙ found_as (is_wrong) c.args.s.now c.args.from c.find.result found
