-- The controls of the entities so far are noted, at most 2,560 for each.
use Prim.Native.Nat.{◌+◌, ◌≤◌, ◌<◌}
use mathlib.Core.Path.{◌≡◌, ◌∙◌}
use mathlib.Core.List.{[], ◌∷◌, ◌++◌}
use native.Mathlib.Omega.{arith}
use lib.ListN.{length, get_or, take, length-take, length-append}
use borrow.Author.Rules.{rules}
use Rattle.std.proofs.lemmas.List.{get_or-take}
use Rattle.std.proofs.lemmas.Slice.Zip.{zip_turn, zip_end}
use Rattle.layout.specs.Layout.{no_cluster}
use Rattle.entities.specs.Run.{blank_node}
use Rattle.controls.proofs.read_controls.Invariants.{start, room_next, on, over}
use Rattle.controls.proofs.read_controls.Goals as goal

ruleset laws = (start, room_next, rules)

pub loop-node-init : goal.loop-node-init
loop-node-init c = search laws

pub loop-node-preserved : goal.loop-node-preserved
loop-node-preserved c =
    let nodes : c.into_iter-node-iterator.result.a.rest.now ≡ take c.count-n.result c.args.run.nodes = cc in
    let clusters : c.into_iter-node-iterator.result.b.rest.now ≡ c.args.clusters = cc in
    let i = length c.loop-node.yielded in
    let t =
    zip_turn (take c.count-n.result c.args.run.nodes) c.args.clusters c.loop-node.yielded c.into_iter-node-iterator.result c.loop-node.node-iterator
    c.next.new.self c.next.result nodes clusters c.loop-node.yielded_by (c.in-Some.node, c.in-Some.cluster) c.in-Some.is c.next.ensures.steps
    in
    let l : i < c.count-n.result = (let l = t.0 in let k = length-take c.count-n.result c.args.run.nodes in omega arith) in
    let node : c.in-Some.node.now ≡ get_or c.args.run.nodes i blank_node = t.2 blank_node ∙ get_or-take c.count-n.result c.args.run.nodes i blank_node l in
    let more : length (c.loop-node.yielded ++ (c.in-Some.node, c.in-Some.cluster) ∷ []) ≡ i + 1 = length-append c.loop-node.yielded ((c.in-Some.node, c.in-Some.cluster) ∷ []) in
    rw more
    (on c.args.config.now c.args.run c.args.clusters c.loop-node.notes.notes c.loop-node.notes.count c.count-n.result i c.loop-node.invariant c.in-Some.node.now node
    c.in-Some.cluster.now (t.3 no_cluster) c.descriptor_at-d.result.now c.descriptor_at-d.ensures c.add_entity.new.self.notes c.add_entity.new.self.count l c.add_entity.ensures)

pub returns : goal.returns
returns c =
    let nodes : c.into_iter-node-iterator.result.a.rest.now ≡ take c.count-n.result c.args.run.nodes = cc in
    let clusters : c.into_iter-node-iterator.result.b.rest.now ≡ c.args.clusters = cc in
    let e =
    zip_end (take c.count-n.result c.args.run.nodes) c.args.clusters c.loop-node.yielded c.into_iter-node-iterator.result c.loop-node.node-iterator
    c.next.new.self c.next.result nodes clusters c.loop-node.yielded_by c.in-None.is c.next.ensures.steps
    in
    let l : c.count-n.result ≤ length c.loop-node.yielded = (let k = length-take c.count-n.result c.args.run.nodes in omega arith) in
    over c.args.config.now c.args.run c.args.clusters c.loop-node.notes.notes c.loop-node.notes.count c.count-n.result (length c.loop-node.yielded) c.loop-node.invariant l
    c.table.result c.table.ensures
