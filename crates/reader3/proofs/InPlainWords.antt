-- The rules of the 3.0 edition and what is said plainly of the bytes are one. `third` finds the descriptor of a cluster that an entity names by its ID; in a buffer
-- whose IDs are distinct that is the one that bears the ID, and where the ID is known there is one.
--   gives_plainly, plainly_gives  ==  what a descriptor gives out by the edition, it gives out plainly, where its cluster ID is known; and the other way round
--   keeps_plainly, plainly_keeps  ==  so with the rule that it keeps, by what it gives out
--   known_plainly     ==  who gives out plainly names a known cluster
--   all_give, fits_plainly  ==  the same of a run whose descriptors have their layouts
--   rule13_plainly, broken_plainly  ==  so rule 13, and who breaks it; plainly: all that demand 3 has of a descriptor
--   plain_third, third_plain  ==  so a configuration of the edition is one in plain words, and the other way round
--   plain_exactly     ==  THE THEOREM
use Prim.Native.Nat.{ℕ, zero, suc, ◌+◌, ◌≤◌, ◌<◌}
use mathlib.Core.Path.{◌≡◌, refl, sym, ap, ◌∙◌, subst}
use mathlib.Core.Bool.{true}
use mathlib.Core.List.{List, map}
use mathlib.Core.Logic.{◌↔◌}
use lib.ListN.{length, take, drop}
use native.Mathlib.Omega.{arith}
use Rattle.ground.specs.Pick.{pick, true≠false}
use Rattle.ground.specs.Numbers.{byte, word}
use Rattle.ground.specs.First.{Sound}
use Rattle.graph.specs.Members.{◌∈◌}
use Rattle.layout.specs.FormatLaws.{open_at}
use Rattle.layout3.specs.declared.Entity.{Entity}
use Rattle.layout3.specs.Layouts.{LaidOut}
use Rattle.layout3.specs.Facts.{facts_of}
use Rattle.layout3.specs.LayoutLaws.{Told, told, unknown, input, output, mixer, selector, feature, clock}
use Rattle.buffer.specs.Clusters.{cluster_id, channels_of, WrongCluster, SameContent}
use Rattle.buffer.specs.Reading.{cluster_in}
use Rattle.edition.specs.Edition.{own_id}
use Rattle.edition3.specs.Third.{first_of, channels_in, Few, mixer_length, feature_length, Keeps, gives_out, third, UnknownCluster, Rule52}
use Rattle.links3.specs.Rules.{ClocksNamed}
use Rattle.clusters.specs.Rule13.{entering, GivenOut, Fits, Rule13, Broken, Connected}
use Rattle.clusters.specs.Topology.{source_of}
use Rattle.clusters3.specs.Rule13Laws.{FoundById, borne, unborne, found_by_id, found_only}
use Rattle.reader3.specs.ThirdConfiguration.{run_in3, clusters_in, ThirdConfiguration}
use Rattle.reader.specs.Plainly.{pin_ids}
use Rattle.reader3.specs.Plainly.{SourceNamed, GivesPlainly, KeepsPlainly, Plainly, KeptPlainly, BrokenPlainly}
use Rattle.reader3.specs.PlainConfiguration.{PlainConfiguration}
use Rattle.reader3.proofs.PlainSources.{laid_plainly, plainly_laid, each_plainly, plainly_each, named_plainly, plainly_named, clocked_plainly, plainly_clocked}

module _ (ks : List (List ℕ)) (ids : Sound WrongCluster ks) (cl : ℕ → List ℕ) (d : List ℕ) (o : LaidOut d) where
  abbrev out : List ℕ
  out = cl (own_id d)

  -- what d gives out by the edition, where it is x
  abbrev given : Entity → List ℕ
  given x = pick (facts_of x).declares (cluster_in ks (facts_of x).cluster) (first_of (map cl (take (facts_of x).pins (drop (facts_of x).first d))))

  -- pin 1's cluster
  first_pin : (n k : ℕ) → 1 ≤ n → k < length d → first_of (map cl (take n (drop k d))) ≡ cl (byte d k)
  unfolding first_of
  first_pin zero k h l = absurd (omega arith)
  first_pin (suc n) k h l = ap (λ (r : List ℕ). first_of (map cl (take (suc n) r))) (open_at d k l)

  -- in a cluster buffer the descriptor that bears an ID is the one that is found
  only : (id : ℕ) → (out ∈ ks) × (cluster_id out ≡ id) → out ≡ cluster_in ks id
  only id h = sym (found_only ks ids out h.0) ∙ ap (cluster_in ks) h.1

  finds : (id : ℕ) → (((k : List ℕ) → k ∈ ks → cluster_id k ≡ id → ⊥) → ⊥) → out ≡ cluster_in ks id → (out ∈ ks) × (cluster_id out ≡ id)
  finds id known e = subst (λ (k : List ℕ). (k ∈ ks) × (cluster_id k ≡ id)) (sym e) (go (found_by_id ks id))
    where
      go : {k : List ℕ} → FoundById ks id k → (k ∈ ks) × (cluster_id k ≡ id)
      go (borne a q) = (a, q)
      go (unborne z n) = absurd (known n)

  pub gives_plainly : (UnknownCluster ks d → ⊥) → out ≡ gives_out ks d (entering (third ks) cl d) → GivesPlainly ks cl d
  unfolding facts_of gives_out first_of
  gives_plainly = go (told d)
    where
      go : {x : Entity} → Told d x → (((facts_of x).declares ≡ true) × ((k : List ℕ) → k ∈ ks → cluster_id k ≡ (facts_of x).cluster → ⊥) → ⊥) → out ≡ given x → GivesPlainly ks cl d
      go (unknown n) w e = absurd (n o)
      go (input l k i) w e = record {
        input = λ q. finds (word d 12) (λ n. w (refl, n)) e;
        output = λ q. absurd (omega arith);
        mixer = λ q. absurd (omega arith);
        selector = λ q. absurd (omega arith);
        feature = λ q. absurd (omega arith);
        clock = λ q. absurd (omega arith);
      }
      go (output l k i) w e = record {
        input = λ q. absurd (omega arith);
        output = λ q. e ∙ first_pin 1 7 (omega arith) (omega arith);
        mixer = λ q. absurd (omega arith);
        selector = λ q. absurd (omega arith);
        feature = λ q. absurd (omega arith);
        clock = λ q. absurd (omega arith);
      }
      go (mixer l k p i) w e = record {
        input = λ q. absurd (omega arith);
        output = λ q. absurd (omega arith);
        mixer = λ q. finds (word d (5 + byte d 4)) (λ n. w (refl, n)) e;
        selector = λ q. absurd (omega arith);
        feature = λ q. absurd (omega arith);
        clock = λ q. absurd (omega arith);
      }
      go (selector l k p i) w e = record {
        input = λ q. absurd (omega arith);
        output = λ q. absurd (omega arith);
        mixer = λ q. absurd (omega arith);
        selector = λ q. e ∙ first_pin (byte d 4) 5 p.0 (let h = p.0 in omega arith);
        feature = λ q. absurd (omega arith);
        clock = λ q. absurd (omega arith);
      }
      go (feature l k i) w e = record {
        input = λ q. absurd (omega arith);
        output = λ q. absurd (omega arith);
        mixer = λ q. absurd (omega arith);
        selector = λ q. absurd (omega arith);
        feature = λ q. e ∙ first_pin 1 4 (omega arith) (omega arith);
        clock = λ q. absurd (omega arith);
      }
      go (clock l k i) w e = record {
        input = λ q. absurd (omega arith);
        output = λ q. absurd (omega arith);
        mixer = λ q. absurd (omega arith);
        selector = λ q. absurd (omega arith);
        feature = λ q. absurd (omega arith);
        clock = λ q. e;
      }

  pub plainly_gives : GivesPlainly ks cl d → out ≡ gives_out ks d (entering (third ks) cl d)
  unfolding facts_of gives_out first_of
  plainly_gives g = go (told d)
    where
      go : {x : Entity} → Told d x → out ≡ given x
      go (unknown n) = absurd (n o)
      go (input l k i) = only (word d 12) (g.input k)
      go (output l k i) = g.output k ∙ sym (first_pin 1 7 (omega arith) (omega arith))
      go (mixer l k p i) = only (word d (5 + byte d 4)) (g.mixer k)
      go (selector l k p i) = g.selector k ∙ sym (first_pin (byte d 4) 5 p.0 (let h = p.0 in omega arith))
      go (feature l k i) = g.feature k ∙ sym (first_pin 1 4 (omega arith) (omega arith))
      go (clock l k i) = g.clock k

  pub known_plainly : GivesPlainly ks cl d → UnknownCluster ks d → ⊥
  unfolding facts_of
  known_plainly g = go (told d)
    where
      go : {x : Entity} → Told d x → ((facts_of x).declares ≡ true) × ((k : List ℕ) → k ∈ ks → cluster_id k ≡ (facts_of x).cluster → ⊥) → ⊥
      go (unknown n) w = n o
      go (input l k i) w = w.1 out (g.input k).0 (g.input k).1
      go (output l k i) w = true≠false (sym w.0)
      go (mixer l k p i) w = w.1 out (g.mixer k).0 (g.mixer k).1
      go (selector l k p i) w = true≠false (sym w.0)
      go (feature l k i) w = true≠false (sym w.0)
      go (clock l k i) w = true≠false (sym w.0)

  -- what d keeps, by what it gives out
  module _ (e : out ≡ gives_out ks d (entering (third ks) cl d)) where
    abbrev cs : Entity → List (List ℕ)
    cs x = map cl (take (facts_of x).pins (drop (facts_of x).first d))

    pub keeps_plainly : Fits (third ks) cl d → KeepsPlainly cl d
    unfolding facts_of gives_out Keeps
    keeps_plainly = go (told d) e
      where
        go : {x : Entity} → Told d x → out ≡ given x → Keeps ks x (length d) (cs x) → KeepsPlainly cl d
        go (unknown n) q h = absurd (n o)
        go (input l k i) q h = record {
          input = λ z. subst (λ (y : List ℕ). Few (channels_of y)) (sym q) h;
          mixer = λ z. absurd (omega arith);
          selector = λ z. absurd (omega arith);
          feature = λ z. absurd (omega arith);
        }
        go (output l k i) q h = record {
          input = λ z. absurd (omega arith);
          mixer = λ z. absurd (omega arith);
          selector = λ z. absurd (omega arith);
          feature = λ z. absurd (omega arith);
        }
        go (mixer l k p i) q h = record {
          input = λ z. absurd (omega arith);
          mixer = λ z. subst (λ (y : List ℕ). Few (channels_of y) × (length d ≡ mixer_length (byte d 4) (channels_of y) (channels_in (map cl (pin_ids d))))) (sym q) h;
          selector = λ z. absurd (omega arith);
          feature = λ z. absurd (omega arith);
        }
        go (selector l k p i) q h = record {
          input = λ z. absurd (omega arith);
          mixer = λ z. absurd (omega arith);
          selector = λ z. subst (λ (y : List ℕ). (j : List ℕ) → j ∈ map cl (pin_ids d) → SameContent j y) (sym q) h;
          feature = λ z. absurd (omega arith);
        }
        go (feature l k i) q h = record {
          input = λ z. absurd (omega arith);
          mixer = λ z. absurd (omega arith);
          selector = λ z. absurd (omega arith);
          feature = λ z. subst (λ (y : List ℕ). length d ≡ feature_length (channels_of y)) (sym q) h;
        }
        go (clock l k i) q h = record {
          input = λ z. absurd (omega arith);
          mixer = λ z. absurd (omega arith);
          selector = λ z. absurd (omega arith);
          feature = λ z. absurd (omega arith);
        }

    pub plainly_keeps : KeepsPlainly cl d → Fits (third ks) cl d
    unfolding facts_of gives_out Keeps
    plainly_keeps h = go (told d) e
      where
        go : {x : Entity} → Told d x → out ≡ given x → Keeps ks x (length d) (cs x)
        go (unknown n) q = absurd (n o)
        go (input l k i) q = subst (λ (y : List ℕ). Few (channels_of y)) q (h.input k)
        go (output l k i) q = tt
        go (mixer l k p i) q = subst (λ (y : List ℕ). Few (channels_of y) × (length d ≡ mixer_length (byte d 4) (channels_of y) (channels_in (map cl (pin_ids d))))) q (h.mixer k)
        go (selector l k p i) q = subst (λ (y : List ℕ). (j : List ℕ) → j ∈ map cl (pin_ids d) → SameContent j y) q (h.selector k)
        go (feature l k i) q = subst (λ (y : List ℕ). length d ≡ feature_length (channels_of y)) q (h.feature k)
        go (clock l k i) q = tt

-- the rules 11, 52 and 13 of a run whose descriptors have their layouts, with a cluster buffer that keeps 51
module _ (ks ds : List (List ℕ)) (ids : Sound WrongCluster ks) (laid : (e : List ℕ) → e ∈ ds → LaidOut e) where
  pub all_give : (cl : ℕ → List ℕ) → Rule52 ks ds → GivenOut (third ks) ds cl ↔ ((e : List ℕ) → e ∈ ds → GivesPlainly ks cl e)
  all_give cl known = (λ g e m. gives_plainly ks ids cl e (laid e m) (known e m) (g e m), λ g e m. plainly_gives ks ids cl e (laid e m) (g e m))

  pub fits_plainly : (cl : ℕ → List ℕ) → GivenOut (third ks) ds cl → (d : List ℕ) → d ∈ ds → Fits (third ks) cl d ↔ KeepsPlainly cl d
  fits_plainly cl g d m = (keeps_plainly ks ids cl d (laid d m) (g d m), plainly_keeps ks ids cl d (laid d m) (g d m))

  pub rule13_plainly : Rule52 ks ds → Rule13 (third ks) ds ↔ KeptPlainly ks ds
  rule13_plainly known = (
    λ r. (r.0, (all_give r.0 known).0 r.1, λ d m. (fits_plainly r.0 r.1 d m).0 (r.2 d m)),
    λ r. let g = (all_give r.0 known).1 r.1 in (r.0, g, λ d m. (fits_plainly r.0 g d m).1 (r.2 d m)),
  )

  pub broken_plainly : Rule52 ks ds → (d : List ℕ) → d ∈ ds → Broken (third ks) ds d ↔ BrokenPlainly ks ds d
  broken_plainly known d m = (
    λ r. (r.0, (all_give r.0 known).0 r.1, λ h. r.2 ((fits_plainly r.0 r.1 d m).1 h)),
    λ r. let g = (all_give r.0 known).1 r.1 in (r.0, g, λ h. r.2 ((fits_plainly r.0 g d m).0 h)),
  )

  pub plainly : (c : Connected (third ks) ds) → ClocksNamed ds → Rule52 ks ds → (d : List ℕ) → d ∈ ds → Plainly ks ds c.cluster d
  plainly c clocks known d m = record {
    laid = laid_plainly d (laid d m);
    gives = (all_give c.cluster known).0 c.given_out d m;
    keeps = (fits_plainly c.cluster c.given_out d m).0 (c.fits d m);
    clocked = clocked_plainly ds laid d (laid d m) (clocks d m);
  }

pub plain_third : {s b : List ℕ} → ThirdConfiguration s b → PlainConfiguration s b
plain_third t =
    let k = t.kept in
    let c = t.connected in
    record {
      opened = k.opened;
      rule5 = k.rule5;
      rule6 = k.rule6;
      rule8 = k.rule8;
      rule51 = k.rule51;
      rule10 = c.rule10;
      rule11 = λ d m. each_plainly (SourceNamed (run_in3 k)) d (k.rule9 d m) (λ x i. named_plainly (clusters_in k) (run_in3 k) k.rule9 x (source_of c.rule11 d m x i) (λ w. c.rule11 d m (record { one = x; among = i; has = w })));
      rank = c.rank;
      ranked = λ d m. each_plainly (λ x. c.rank x < c.rank (own_id d)) d (k.rule9 d m) (c.ranked d m);
      cluster = c.cluster;
      plainly = plainly (clusters_in k) (run_in3 k) k.rule51.ids k.rule9 c t.clocks t.rule52;
    }

unfoldable pub third_plain : {s b : List ℕ} → PlainConfiguration s b → ThirdConfiguration s b
third_plain t =
    let ds = t.rule6.run in
    let ks = t.rule51.pieces in
    let laid : (d : List ℕ) → d ∈ ds → LaidOut d = λ d m. plainly_laid d (t.plainly d m).laid in
    let known : Rule52 ks ds = λ d m. known_plainly ks t.rule51.ids t.cluster d (laid d m) (t.plainly d m).gives in
    let given : GivenOut (third ks) ds t.cluster = (all_give ks ds t.rule51.ids laid t.cluster known).1 (λ d m. (t.plainly d m).gives) in
    record {
      kept = record { opened = t.opened; rule5 = t.rule5; rule6 = t.rule6; rule8 = t.rule8; rule51 = t.rule51; rule9 = laid };
      connected = record {
        rule10 = t.rule10;
        rule11 = λ d m w. plainly_named ks ds laid w.one t.rule10 (plainly_each (SourceNamed ds) d (laid d m) (t.rule11 d m) w.one w.among) w.has;
        rank = t.rank;
        ranked = λ d m. plainly_each (λ x. t.rank x < t.rank (own_id d)) d (laid d m) (t.ranked d m);
        cluster = t.cluster;
        given_out = given;
        fits = λ d m. (fits_plainly ks ds t.rule51.ids laid t.cluster given d m).1 (t.plainly d m).keeps;
      };
      clocks = λ d m. plainly_clocked ds laid d (laid d m) (t.plainly d m).clocked;
      rule52 = known;
    }

-- THE THEOREM
pub plain_exactly : (s b : List ℕ) → ThirdConfiguration s b ↔ PlainConfiguration s b
plain_exactly s b = (plain_third, third_plain)
