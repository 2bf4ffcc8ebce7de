-- The head, and behind it the source IDs. No more of them stand there than the entity's pins, which are a byte.
use Prim.Native.Nat.{ℕ, ◌-◌}
use mathlib.Core.Path.{◌≡◌, refl, ap, ◌∙◌}
use mathlib.Core.List.{List, ◌++◌}
use native.Mathlib.Omega.{arith}
use lib.ListN.{length, drop, length-append, length-drop, length-take}
use borrow.Rule.Slice.PartMut.{mid_of, put_mid}
use Rattle.ground.specs.Lists.{pad}
use Rattle.layout.specs.declared.Cluster.{Cluster}
use Rattle.layout.specs.Layout.{most_pins}
use Rattle.entities.specs.declared.Node.{Node}
use Rattle.entities.specs.Run.{sources_of}
use Rattle.records.specs.Records.{head_size, record_size, front_of, head_of, record_of}
use Rattle.records.proofs.TwoParts.{two_parts}
use Rattle.records.proofs.put_record.Goals as goal

module _ (s : List ℕ) (n : Node) (l : List ℕ) (e : l ≡ sources_of s n) where
  module _ (d x y : List ℕ) (c : Cluster) (long : length d ≡ record_size) (f : x ≡ front_of n.id n.kind (length l) c) where
    abbrev whole : List ℕ
    whole = x ++ drop head_size d

    places : length (mid_of head_size (length whole - head_size) whole) ≡ most_pins
    places =
        let a : length x ≡ head_size = ap length f in
        let b = length-append x (drop head_size d) in
        let g = length-drop head_size d in
        let h = length-drop head_size whole in
        length-take (length whole - head_size) (drop head_size whole) ∙ omega arith

    record_told : y ≡ pad 0 (length (mid_of head_size (length whole - head_size) whole)) l → put_mid head_size (length whole - head_size) whole y ≡ record_of s n c
    unfolding record_of head_of
    record_told g = rw (two_parts d x head_size (omega arith) (ap length f) y, g, places, f, e) refl

pub returns : goal.returns
returns c =
    let f : c.copy_from_slice.new.self ≡ c.front_of.result = c.copy_from_slice.ensures.after in
    let g : c.front_of.result ≡ front_of c.args.node.id c.args.node.kind (length c.sources-sources.result.now) c.args.cluster = c.front_of.ensures in
    record_told c.args.config.now c.args.node c.sources-sources.result.now c.sources-sources.ensures c.args.part.now c.copy_from_slice.new.self
    c.fill.new.room c.args.cluster c.requires (f ∙ g) c.fill.ensures
