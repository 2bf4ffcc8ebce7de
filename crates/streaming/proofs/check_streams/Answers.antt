-- The table holds the Terminals of the entities so far; at the run's end it tells what its Terminals do.
use borrow.Author.Rules.{rules}
use Prim.Native.Nat.{ℕ, ◌+◌, ◌≤◌, ◌<◌}
use mathlib.Core.Path.{◌≡◌, ap, ◌∙◌}
use mathlib.Core.List.{List, [], ◌∷◌, ◌++◌}
use native.Mathlib.Omega.{arith}
use lib.ListN.{length, get_or, take, length-take, length-append}
use Rattle.std.specs.Prelude.{Option}
use Rattle.std.proofs.lemmas.List.{get_or-take}
use Rattle.std.proofs.lemmas.Slice.Zip.{zip_turn, zip_end}
use Rattle.ground.specs.Lists.{part}
use Rattle.scan.specs.Cutting.{end_at}
use Rattle.layout.specs.declared.Cluster.{Cluster}
use Rattle.layout.specs.declared.Entity.{Entity}
use Rattle.layout.specs.Layout.{entity_of, no_cluster}
use Rattle.entities.specs.declared.Node.{Node}
use Rattle.entities.specs.declared.Run.{Run}
use Rattle.entities.specs.Run.{held, blank_node}
use Rattle.terminals.specs.declared.Bearer.{Bearer}
use Rattle.terminals.specs.Terminals.{terminal_of, terminals_of}
use Rattle.terminals.specs.Table.{bearer_at, Entered, Filling, filling_start, filling_on, filled}
use Rattle.streaming.specs.Tests.{first_broken, breach14}
use Rattle.streaming.proofs.check_streams.Goals as goal

module _ (s : List ℕ) (run : Run) (cs : List Cluster) (table : List (Option Bearer)) (i n : ℕ) (h : n ≡ held run) (g : Filling s run cs table i) where
  on : i < n → (node : Node) → node ≡ get_or run.nodes i blank_node → (cluster : Cluster) → cluster ≡ get_or cs i no_cluster
      → (d : List ℕ) → d ≡ part s node.place (end_at s node.place) → (e : Entity) → e ≡ entity_of d
      → (table' : List (Option Bearer)) → Entered (terminal_of e cluster.channels) table table' → Filling s run cs table' (i + 1)
  on l node a cluster b d p e q table' f = let m : i < held run = omega arith in filling_on s run cs table i g m (rw (q, p, a, b) at f)

  over : n ≤ i → (r : Option ℕ) → r ≡ first_broken (bearer_at table) s → r ≡ breach14 (terminals_of s run cs) s
  unfolding breach14
  over l r e = let m : held run ≤ i = omega arith in e ∙ ap (λ (find : ℕ → Option Bearer). first_broken find s) (filled s run cs table i g m)

pub loop-node-init : goal.loop-node-init
loop-node-init c = search (filling_start, rules)

pub loop-node-preserved : goal.loop-node-preserved
unfolding blank_node
loop-node-preserved c =
    let nodes : c.into_iter-node-iterator.result.a.rest.now ≡ take c.count-held.result c.args.run.nodes = cc in
    let clusters : c.into_iter-node-iterator.result.b.rest.now ≡ c.args.clusters = cc in
    let i = length c.loop-node.yielded in
    let t =
    zip_turn (take c.count-held.result c.args.run.nodes) c.args.clusters c.loop-node.yielded c.into_iter-node-iterator.result c.loop-node.node-iterator
    c.next.new.self c.next.result nodes clusters c.loop-node.yielded_by (c.in-Some.node, c.in-Some.cluster) c.in-Some.is c.next.ensures.steps
    in
    let l : i < c.count-held.result = (let l = t.0 in let k = length-take c.count-held.result c.args.run.nodes in omega arith) in
    let node : c.in-Some.node.now ≡ get_or c.args.run.nodes i blank_node = t.2 blank_node ∙ get_or-take c.count-held.result c.args.run.nodes i blank_node l in
    let more : length (c.loop-node.yielded ++ (c.in-Some.node, c.in-Some.cluster) ∷ []) ≡ i + 1 = length-append c.loop-node.yielded ((c.in-Some.node, c.in-Some.cluster) ∷ []) in
    rw more
    (on c.args.config.now c.args.run c.args.clusters c.loop-node.table i c.count-held.result c.count-held.ensures c.loop-node.invariant l
    c.in-Some.node.now node c.in-Some.cluster.now (t.3 no_cluster) c.descriptor_at.result.now c.descriptor_at.ensures c.read-entity.result c.read-entity.ensures
    c.enter_entity.new.table c.enter_entity.ensures)

pub returns : goal.returns
returns c =
    let nodes : c.into_iter-node-iterator.result.a.rest.now ≡ take c.count-held.result c.args.run.nodes = cc in
    let clusters : c.into_iter-node-iterator.result.b.rest.now ≡ c.args.clusters = cc in
    let e =
    zip_end (take c.count-held.result c.args.run.nodes) c.args.clusters c.loop-node.yielded c.into_iter-node-iterator.result c.loop-node.node-iterator
    c.next.new.self c.next.result nodes clusters c.loop-node.yielded_by c.in-None.is c.next.ensures.steps
    in
    let l : c.count-held.result ≤ length c.loop-node.yielded = (let k = length-take c.count-held.result c.args.run.nodes in omega arith) in
    over c.args.config.now c.args.run c.args.clusters c.loop-node.table (length c.loop-node.yielded) c.count-held.result c.count-held.ensures c.loop-node.invariant l
    c.first_broken.result c.first_broken.ensures
