-- The closure answers as is_unknown of the entity does.
use Rattle.std.proofs.Common.{rules, tests, ◌∙◌, ℕ, List}
use Rattle.std.proofs.lemmas.Iterator.Consumers.{YieldsList-from_first}
use Rattle.std.proofs.lemmas.Iterator.Search.{find_from_yields_List}
use Rattle.scan.specs.Cutting.{rest}
use Rattle.scan.specs.Placed.{placed_from, seen, ahead}
use Rattle.scan.proofs.Found.{found_as}
use Rattle.layout3.specs.Layout.{entity_of, is_unknown}
use Rattle.run3.proofs.wrong_layout.Goals as goal

pub returns : goal.returns
returns c =
    let items = placed_from c.args.from (rest c.args.s.now c.args.from) in
    let found = find_from_yields_List (λ x. (λ (d : List ℕ). is_unknown (entity_of d)) x.1) c.find.new.self _ c.find.result c.find.ensures.ran (YieldsList-from_first seen ahead items cc) (λ x b q k. search (rules, tests)) in
    search rules ∙ found_as ((λ (d : List ℕ). is_unknown (entity_of d))) c.args.s.now c.args.from c.find.result found
