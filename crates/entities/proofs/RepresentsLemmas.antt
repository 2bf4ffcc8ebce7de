-- Laws of what stands beside it in specs.
--   nodes_length, nodes_at, nodes_more  ==  an entity for each descriptor; the one at an index; one descriptor more
--   run_at           ==  the i-th entity of the run that is read is the i-th descriptor's
--   run_represents   ==  the run that is read from descriptors, 32 at most, that stand one after another in s from place p on, each laid out
--                        as the edition says, stands for them
use Prim.Native.Nat.{ℕ, zero, suc, ◌+◌, ◌-◌, ◌≤◌, ◌<◌}
use Rattle.std.specs.Prelude.{◌≡◌, ◌↔◌, get_or, take, drop}
use Rattle.std.proofs.Math.Path.{refl, ap}
use Rattle.std.proofs.Common.{sym, ◌∙◌, drop_at, drop-drop, arith, add_assoc, add-zero, le_of_suc-le-suc}
use mathlib.Core.List.{List, [], ◌∷◌, ◌++◌, flatten, append_assoc}
use Rattle.std.proofs.Math.ListN.{length, length-drop}
use Rattle.std.proofs.Math.Seq.{split_at, take-append-le, drop-append-le}
use Rattle.ground.specs.Lists.{total, part, length_flatten, flatten_append, pad_at, member_at, total_rises}
use Rattle.ground.specs.First.{Sound, Breaks, sound_each}
use Rattle.ground.specs.Places.{FirstPlace}
use Rattle.ground.specs.Indexed.{WrongAt, sound_index, breaks_index}
use Rattle.graph.specs.Members.{◌∈◌}
use Rattle.scan.specs.Cutting.{Descriptor, end_at}
use Rattle.scan.specs.CuttingLaws.{starts_end, starts_part}
use Rattle.edition.specs.Edition.{Edition}
use Rattle.edition.specs.Edition as edition
use Rattle.entities.specs.declared.Node.{Node}
use Rattle.entities.specs.declared.Run.{Run}
use Rattle.entities.specs.Run.{most_entities, node_of, nodes_from, blank_node, run_in, held, node_at, place_at, sources_of}
use Rattle.entities.specs.Represents.{Represents}
use Rattle.entities.specs.RepresentsLaws.{stands_at}

module _ (ed : Edition) where
  pub nodes_length : (p : ℕ) (ds : List (List ℕ)) → length (nodes_from ed p ds) ≡ length ds
  unfolding nodes_from
  nodes_length p [] = refl
  nodes_length p (d ∷ ds) = ap suc (nodes_length (p + length d) ds)

  pub nodes_more : (p : ℕ) (ds : List (List ℕ)) (d : List ℕ) → nodes_from ed p (ds ++ d ∷ []) ≡ nodes_from ed p ds ++ node_of ed (p + total ds) d ∷ []
  unfolding nodes_from total
  nodes_more p [] d = ap (λ (i : ℕ). node_of ed i d ∷ []) (sym (add-zero p))
  nodes_more p (x ∷ ds) d = ap (λ (l : List Node). node_of ed p x ∷ l) (nodes_more (p + length x) ds d ∙ ap (λ (i : ℕ). nodes_from ed (p + length x) ds ++ node_of ed i d ∷ []) (add_assoc p (length x) (total ds)))

  pub nodes_at : (p : ℕ) (ds : List (List ℕ)) (i : ℕ) → i < length ds
      → get_or (nodes_from ed p ds) i blank_node ≡ node_of ed (p + total (take i ds)) (get_or ds i [])
  unfolding nodes_from total
  nodes_at p [] i h = absurd (omega arith)
  nodes_at p (d ∷ ds) zero h = ap (λ (i : ℕ). node_of ed i d) (sym (add-zero p))
  nodes_at p (d ∷ ds) (suc i) h = nodes_at (p + length d) ds i (le_of_suc-le-suc h) ∙ ap (λ (j : ℕ). node_of ed j (get_or ds i [])) (add_assoc p (length d) (total (take i ds)))

  pub run_at : (p : ℕ) (ds : List (List ℕ)) (i : ℕ) → i < length ds → i < most_entities
      → node_at (run_in ed p ds) i ≡ node_of ed (p + total (take i ds)) (get_or ds i [])
  unfolding run_in
  run_at p ds i h l = pad_at blank_node most_entities (nodes_from ed p ds) i l ∙ nodes_at p ds i h

  -- the sources of a descriptor stand where its node says, whatever follows it
  sources_at : (s : List ℕ) (p : ℕ) (d tail : List ℕ) → drop p s ≡ d ++ tail → ed.LaidOut d → sources_of s (node_of ed p d) ≡ edition.sources ed d
  unfolding node_of
  sources_at s p d tail e l =
      let i = ed.inside d l in
      let n : length (drop (ed.first d) d) ≡ length d - ed.first d = length-drop (ed.first d) d in
      ap (take (ed.pins d)) (sym (drop-drop (ed.first d) p s) ∙ ap (drop (ed.first d)) e ∙ drop-append-le (ed.first d) d tail (omega arith)) ∙ take-append-le (ed.pins d) (drop (ed.first d) d) tail (omega arith)

pub run_represents : (ed : Edition) (s : List ℕ) (p : ℕ) (ds : List (List ℕ)) (tail : List ℕ) → drop p s ≡ flatten ds ++ tail
    → ((d : List ℕ) → d ∈ ds → Descriptor d) → ((d : List ℕ) → d ∈ ds → ed.LaidOut d) → length ds ≤ most_entities
    → Represents ed s p ds (run_in ed p ds)
unfolding run_in node_of
run_represents ed s p ds tail e cut laid few = record {
  counted = omega arith;
  place = λ i h. ap (λ (n : Node). n.place) (node i h);
  id = λ i h. ap (λ (n : Node). n.id) (node i h);
  kind = λ i h. ap (λ (n : Node). n.kind) (node i h);
  feeds = λ i h. ap (λ (n : Node). n.feeds) (node i h);
  sources = λ i h. ap (sources_of s) (node i h) ∙ sources_at ed s (p + total (take i ds)) (get_or ds i []) (behind i) (at i h) (laid (get_or ds i []) (member_at [] ds i h));
  bytes = λ i h. ap (λ (n : Node). part s n.place (end_at s n.place)) (node i h) ∙ own i h;
}
  where
    behind : ℕ → List ℕ
    behind i = flatten (drop (suc i) ds) ++ tail

    at : (i : ℕ) → i < length ds → drop (p + total (take i ds)) s ≡ get_or ds i [] ++ behind i
    at i h = stands_at s p ds tail e i h

    node : (i : ℕ) → i < length ds → node_at (run_in ed p ds) i ≡ node_of ed (p + total (take i ds)) (get_or ds i [])
    node i h = run_at ed p ds i h (omega arith)

    own : (i : ℕ) → i < length ds → part s (p + total (take i ds)) (end_at s (p + total (take i ds))) ≡ get_or ds i []
    own i h =
        let c = cut (get_or ds i []) (member_at [] ds i h) in
        ap (part s (p + total (take i ds))) (starts_end s (p + total (take i ds)) (get_or ds i []) (behind i) (at i h) c) ∙ starts_part s (p + total (take i ds)) (get_or ds i []) (behind i) (at i h) c
