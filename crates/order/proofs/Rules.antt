-- The rules on the run: none of them sees the order of the descriptors. They ask for members of the run and for IDs; rule 10 for each two descriptors,
-- rule 8 for how many there are.
--   agree_one      ==  clusters that connect the run in the one order and in the other are the same; agree_back: .. the other way
--   records_long, records_counted, records_flat  ==  the sheet's records are 32 bytes each, one for each descriptor, and they are what the sheet shows
--   blind_rules    ==  THE LAW
use Prim.Native.Nat.{ℕ, suc, ◌≤◌}
use mathlib.Core.Path.{◌≡◌, refl, sym, ap, ◌∙◌, subst}
use mathlib.Core.Logic.{◌⊎◌, inl, inr}
use mathlib.Core.List.Memᴰ
use mathlib.Core.List.Permᴰ
use mathlib.Core.List.{List, [], ◌∷◌, ◌++◌, flatten}
use lib.ListN.{length}
use native.Mathlib.Omega.{arith}
use Rattle.ground.specs.Lists.{SomeOf, split_of, of_split}
use Rattle.ground.specs.First.{Sound}
use Rattle.graph.specs.Members.{◌∈◌, along}
use Rattle.layout.specs.declared.Cluster.{Cluster}
use Rattle.layout.specs.Layout.{LaidOut}
use Rattle.edition.specs.Edition.{own_id, DistinctIds}
use Rattle.edition.specs.Audio.{audio}
use Rattle.entities.specs.Run.{most_entities}
use Rattle.cutting.specs.Rules1to9.{Rule8, Rule9, Recognised, NoneWithdrawn}
use Rattle.ids.specs.Rule10.{Rule10}
use Rattle.ids.specs.OwnIds.{distinct_ids}
use Rattle.sources.specs.Rule11.{Rule11}
use Rattle.ranks.specs.Rule12.{Upstream, ends, up, Rule12}
use Rattle.clusters.specs.Rule13.{Rule13, Connected}
use Rattle.clusters.specs.Collection.{SameMembers, rule11_members}
use Rattle.clusters.proofs.TopologyLemmas.{given_one}
use Rattle.terminals.specs.Terminals.{Terminal}
use Rattle.terminals.specs.Said.{IsTerminal}
use Rattle.table.specs.declared.Control.{Control}
use Rattle.masks.specs.Order.{Pairs}
use Rattle.controls.specs.Controls.{controls_of}
use Rattle.controls.specs.Standing.{Carries, Stands, stands_of, control_stands}
use Rattle.controls.specs.Rule15.{Rule15, pairs_fit, controls_apart}
use Rattle.records.specs.Records.{record_size, record_in}
use Rattle.records.specs.Sheet.{records_for, records_of, record_long}
use Rattle.order.specs.Permuted.{Permuted, AgreeOn}
use Rattle.order.specs.Blind.{Blind, BlindTo, records_each, BlindRules}
use Rattle.order.proofs.Permutations.{permuted_back, permuted_in, permuted_length, permuted_members, permuted_pairs, pairs_of, pairs_each}

blind_8 : Blind Rule8
blind_8 ds es p = subst (λ (n : ℕ). (1 ≤ n) × (n ≤ most_entities)) (permuted_length p)

blind_recognised : Blind (Recognised audio)
blind_recognised ds es p h d m = h d (permuted_in (permuted_back p) m)

blind_withdrawn : Blind (NoneWithdrawn audio)
blind_withdrawn ds es p h d m = h d (permuted_in (permuted_back p) m)

abbrev Apart : List ℕ → List ℕ → Type 0
Apart a b = own_id a ≡ own_id b → ⊥

blind_10 : Blind Rule10
unfolding Sound
blind_10 ds es p h x d y e w = go w
  where
    apart : (b : List ℕ) → b ∈ x → Apart b d
    apart = pairs_each Apart x d y (subst (Pairs Apart) e (permuted_pairs Apart (λ a b n q. n (sym q)) p (pairs_of Apart ds (distinct_ids ds h))))

    go : (own_id d ≡ 0) ⊎ SomeOf (λ b. own_id b ≡ own_id d) x → ⊥
    go (inl z) = let k = split_of (permuted_in (permuted_back p) (along (sym e) (of_split x d y))) in h k.0 d k.1 k.2 (inl z)
    go (inr k) = apart k.one k.among k.has

blind_11 : Blind (Rule11 audio)
blind_11 ds es p = rule11_members (permuted_members p)

upstream_in : {ds es : List (List ℕ)} → SameMembers ds es → {n : ℕ} {d : List ℕ} → Upstream audio es n d → Upstream audio ds n d
upstream_in same ends = ends
upstream_in same (up {e = e} m a u) = up ((same e).1 m) a (upstream_in same u)

blind_12 : Blind (Rule12 audio)
blind_12 ds es p h d m (n, l, u) = h d (permuted_in (permuted_back p) m) (n, l, upstream_in (permuted_members p) u)

blind_13 : Blind (Rule13 audio)
blind_13 ds es p (cluster, made, fits) = (cluster, λ d m. made d (permuted_in (permuted_back p) m), λ d m. fits d (permuted_in (permuted_back p) m))

pub agree_one : (ds es : List (List ℕ)) → Permuted ds es → (c : Connected audio ds) (e : Connected audio es) → AgreeOn ds c.cluster e.cluster
agree_one ds es p c e = given_one c.rule11 c.ranked c.cluster e.cluster c.given_out (λ d m. e.given_out d (permuted_in p m))

pub agree_back : (ds es : List (List ℕ)) → Permuted ds es → (c e : ℕ → Cluster) → AgreeOn ds c e → AgreeOn es e c
agree_back ds es p c e agree d m = sym (agree d (permuted_in (permuted_back p) m))

stands_as : (x : Control) → BlindTo (λ ds cluster. Stands ds cluster x)
stands_as x ds es p c e agree h = record {
  one = h.one;
  among = permuted_in p h.among;
  has = subst (λ (k : Cluster). Carries h.one k.channels x) (agree h.one h.among) h.has;
}

terminal_as : (t : Terminal) → BlindTo (λ ds cluster. IsTerminal ds cluster t)
terminal_as t ds es p c e agree h = record {
  one = h.one;
  among = permuted_in p h.among;
  has = record {
    either = h.has.either;
    id = h.has.id;
    kind = h.has.kind;
    channels = h.has.channels ∙ ap (λ (k : Cluster). k.channels) (agree h.one h.among);
  };
}

rule15_as : BlindTo Rule15
rule15_as ds es p c e agree r = record { listed = r.listed; few = r.few; every = λ x h. r.every x (stands_as x es ds (permuted_back p) e c (agree_back ds es p c e agree) h) }

-- the records, each by its descriptor and the cluster on its ID
records_alike : (ds : List (List ℕ)) (c e : ℕ → Cluster) → AgreeOn ds c e → records_each ds c ≡ records_each ds e
unfolding records_each
records_alike [] c e h = refl
records_alike (d ∷ ds) c e h =
    let one = h d (Memᴰ.head refl) in
    let others = records_alike ds c e (λ b m. h b (Memᴰ.tail m)) in
    cc

records_moved : (c : ℕ → Cluster) {ds es : List (List ℕ)} → Permuted ds es → Permuted (records_each ds c) (records_each es c)
unfolding records_each
records_moved c Permᴰ.nil = Permᴰ.nil
records_moved c (Permᴰ.cons q p) = Permᴰ.cons (ap (λ (d : List ℕ). record_in d (c (own_id d))) q) (records_moved c p)
records_moved c (Permᴰ.swap q r) = Permᴰ.swap (ap (λ (d : List ℕ). record_in d (c (own_id d))) q) (ap (λ (d : List ℕ). record_in d (c (own_id d))) r)
records_moved c (Permᴰ.trans p q) = Permᴰ.trans (records_moved c p) (records_moved c q)

pub records_flat : (ds : List (List ℕ)) (cluster : ℕ → Cluster) → records_of ds cluster ≡ flatten (records_each ds cluster)
unfolding records_for records_each flatten
records_flat [] cluster = refl
records_flat (d ∷ ds) cluster = ap (λ (l : List ℕ). record_in d (cluster (own_id d)) ++ l) (records_flat ds cluster)

pub records_long : (ds : List (List ℕ)) (cluster : ℕ → Cluster) (r : List ℕ) → r ∈ records_each ds cluster → length r ≡ record_size
unfolding records_each
records_long [] cluster r m = absurd (Memᴰ.not-nil m)
records_long (d ∷ ds) cluster r (Memᴰ.head e) = ap length e ∙ record_long audio d (cluster (own_id d))
records_long (d ∷ ds) cluster r (Memᴰ.tail m) = records_long ds cluster r m

pub records_counted : (ds : List (List ℕ)) (cluster : ℕ → Cluster) → length (records_each ds cluster) ≡ length ds
unfolding records_each
records_counted [] cluster = refl
records_counted (d ∷ ds) cluster = ap suc (records_counted ds cluster)

-- as many controls stand: none stands twice, and each of the one's is one of the other's
controls_no_more : (ds es : List (List ℕ)) → Permuted ds es → (c e : ℕ → Cluster) → AgreeOn ds c e
    → ((d : List ℕ) → d ∈ ds → LaidOut d) → ((d : List ℕ) → d ∈ es → LaidOut d) → DistinctIds ds → length (controls_of ds c) ≤ length (controls_of es e)
controls_no_more ds es p c e agree laid laid' distinct =
    pairs_fit (controls_of es e) (controls_apart ds c laid distinct) (λ x m. (control_stands e es laid' x).1 (stands_as x ds es p c e agree (stands_of c ds x m)))

as_many_as : (ds es : List (List ℕ)) → Permuted ds es → (c e : ℕ → Cluster) → AgreeOn ds c e → Rule9 audio ds → Rule10 ds → length (controls_of ds c) ≡ length (controls_of es e)
as_many_as ds es p c e agree laid own =
    let q = permuted_back p in
    let laid' : Rule9 audio es = λ d m. laid d (permuted_in q m) in
    let a = controls_no_more ds es p c e agree laid laid' (distinct_ids ds own) in
    let b = controls_no_more es ds q e c (agree_back ds es p c e agree) laid' laid (distinct_ids es (blind_10 ds es p own)) in
    omega arith

pub blind_rules : BlindRules
blind_rules = record {
  counted = blind_8;
  recognised = blind_recognised;
  withdrawn = blind_withdrawn;
  ids = blind_10;
  sources = blind_11;
  ranks = blind_12;
  clusters = blind_13;
  terminals = terminal_as;
  controls = stands_as;
  few = rule15_as;
  as_many = as_many_as;
  records = λ ds es p c e agree. subst (λ (l : List (List ℕ)). Permuted l (records_each es e)) (sym (records_alike ds c e agree)) (records_moved e p);
}
