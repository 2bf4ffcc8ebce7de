-- The rules of the edition are the rules that Plainly says of the bytes, descriptor by descriptor and so of a configuration as a whole.
--   source_ids              ==  the source IDs of a descriptor that has its layout are those that stand where its kind has them
--   laid_plainly            ==  rule 9: who has a layout, and who is laid out plainly
--   gives_plainly, plainly_gives  ==  what a descriptor that has its layout gives out by its rule, it gives out plainly, and the other way
--   keeps_plainly, plainly_keeps  ==  so with the rule that it keeps, by what it gives out
--   sources_plainly         ==  rule 11, of each descriptor of a run that keeps the rules 9 and 10
--   all_give, fits_plainly  ==  what is given out and kept, of a run that keeps rule 9; rule13_plainly, broken_plainly: so rule 13, and who breaks it
--   run_plainly             ==  each descriptor of a configuration's run has its layout, gives out and keeps so
--   plain_configuration, configuration_plain  ==  THE LAWS: a configuration is a plain one, and the other way
--   one_plainly             ==  .. with the same cutting, the same run and the same clusters
use Prim.Native.Nat.{ℕ, suc, ◌+◌, ◌-◌, ◌<◌}
use mathlib.Core.Path.{◌≡◌, refl, sym, ap, ◌∙◌, subst}
use mathlib.Core.Bool.{true, false}
use mathlib.Core.Logic.{◌↔◌, ◌⊎◌, inl, inr, ⊎_elim}
use mathlib.Core.List.Memᴰ
use mathlib.Core.List.{List, [], ◌∷◌, map}
use lib.ListN.{length, get_or, take, drop}
use lib.Seq.{drop-cons}
use lib.Dec.{eqb}
use native.Mathlib.Omega.{arith}
use Rattle.ground.specs.Pick.{decided, true≠false, reads_eq}
use Rattle.ground.specs.Numbers.{byte}
use Rattle.ground.specs.Lists.{SomeOf, reads_any}
use Rattle.graph.specs.Members.{◌∈◌, along}
use Rattle.layout.specs.declared.Cluster.{Cluster}
use Rattle.layout.specs.declared.Entity.{Entity}
use Rattle.layout.specs.Layout.{Pins, LaidOut, entity_of, is_unknown}
use Rattle.layout.specs.LayoutLaws.{Told, unknown, input, output, mixer, selector, feature}
use Rattle.layout.proofs.LayoutLemmas.{told, entity_input, entity_output, entity_mixer, entity_selector, entity_feature, reads_unknown, laid_out}
use Rattle.kinds.specs.Sources.{pins_of, sources_from, feeds_of}
use Rattle.pins.specs.Same.{AllSame, reads_all_same}
use Rattle.channels.specs.DeclaredChannels.{ClusterKept}
use Rattle.edition.specs.Edition.{own_id, sources}
use Rattle.edition.specs.Audio.{audio, first_of, channels_in, names_each, named, give_out, mixer_length, feature_length, Keeps}
use Rattle.edition.specs.Audio as audio
use Rattle.records.specs.Bytes.{sources_stand, sources_one}
use Rattle.ids.specs.Rule10.{Rule10}
use Rattle.ids.specs.OwnIds.{own_one}
use Rattle.sources.specs.Rule11.{WrongSource, WrongSources, zero_source, unknown, no_output}
use Rattle.clusters.specs.Rule13.{GivenOut, Fits, Rule13, Broken}
use Rattle.reader.specs.Configuration.{run_of, Configuration}
use Rattle.reader.specs.Plainly.{pin_ids, SourceId, SourceNamed, LaidPlainly, Selected, GivesPlainly, KeepsPlainly, Plainly, KeptPlainly, BrokenPlainly, PlainConfiguration}
use Rattle.reader.specs.Plainly as plain
use Rattle.reader.proofs.Shows.{one_cutting, one_descriptors, one_clusters}

abbrev channels_of : Cluster → ℕ
channels_of k = k.channels

abbrev locations_of : Cluster → ℕ
locations_of k = k.locations

abbrev names_of : Cluster → ℕ
names_of k = k.names

-- numbers of what enters by the pins, one and the same
module _ (cl : ℕ → Cluster) (f : Cluster → ℕ) (ids : List ℕ) where
  each_first : AllSame (map f (map cl ids)) → (x : ℕ) → x ∈ ids → f (cl x) ≡ get_or (map f (map cl ids)) 0 0
  each_first h x m = h (f (cl x)) (Memᴰ.map f (Memᴰ.map cl m))

  all_first : ((x : ℕ) → x ∈ ids → f (cl x) ≡ get_or (map f (map cl ids)) 0 0) → AllSame (map f (map cl ids))
  all_first h n m =
      let a = Memᴰ.of_map f (map cl ids) m in
      let b = Memᴰ.of_map cl ids a.1 in
      sym a.2 ∙ ap f (sym b.2) ∙ h b.0 b.1

-- where the layout of an entity has its source IDs
module _ (d : List ℕ) where
  abbrev ids_by : Entity → List ℕ
  ids_by x = take (pins_of x) (drop (sources_from x) d)

  -- one source, at offset k
  one_at : (k : ℕ) → k < length d → take 1 (drop k d) ≡ byte d k ∷ []
  one_at k h = ap (take 1) (drop-cons d k 0 h)

  pub source_ids : (x : ℕ) → LaidOut d → x ∈ sources audio d ↔ SourceId d x
  source_ids x o = (λ m. (sources_from (entity_of d), pins_of (entity_of d), sources_stand d o, m), λ (k, p, i, m). let e = sources_one d i (sources_stand d o) in rw (e.0, e.1) at m)

  -- an Output Terminal feeds nothing, every other kind may
  output_feeds : byte d 2 ≡ 3 → feeds_of (entity_of d) ≡ false
  unfolding feeds_of
  output_feeds k = go (told d)
    where
      go : {e : Entity} → Told d e → feeds_of e ≡ false
      go (unknown n) = refl
      go (input i l) = absurd (omega arith)
      go (output i l) = refl
      go (mixer i q l) = absurd (omega arith)
      go (selector i q l) = absurd (omega arith)
      go (feature i q l) = absurd (omega arith)

  other_feeds : LaidOut d → (byte d 2 ≡ 3 → ⊥) → feeds_of (entity_of d) ≡ true
  unfolding feeds_of
  other_feeds o n = go (told d)
    where
      go : {e : Entity} → Told d e → feeds_of e ≡ true
      go (unknown f) = absurd (f o)
      go (input i l) = refl
      go (output i l) = absurd (n i)
      go (mixer i q l) = refl
      go (selector i q l) = refl
      go (feature i q l) = refl

-- a layout, and the kind's length and pins
laid_known : (d : List ℕ) {x : Entity} → entity_of d ≡ x → is_unknown x ≡ false → LaidOut d
laid_known d e f = ⊎_elim (λ o. o) (λ n. absurd ((reads_unknown d).denies (ap is_unknown e ∙ f) n)) (laid_out d)

pub laid_plainly : (d : List ℕ) → LaidOut d ↔ LaidPlainly d
unfolding is_unknown
laid_plainly d = (λ o. to o (told d), of)
  where
    to : LaidOut d → {e : Entity} → Told d e → LaidPlainly d
    to o (unknown n) = absurd (n o)
    to o (input k l) = plain.input k l
    to o (output k l) = plain.output k l
    to o (mixer k p l) = plain.mixer k p l
    to o (selector k p l) = plain.selector k p l
    to o (feature k p l) = plain.feature k p l

    of : LaidPlainly d → LaidOut d
    of (plain.input k l) = laid_known d (entity_input d k l) refl
    of (plain.output k l) = laid_known d (entity_output d k l) refl
    of (plain.mixer k p l) = laid_known d (entity_mixer d k p l) refl
    of (plain.selector k p l) = laid_known d (entity_selector d k p l) refl
    of (plain.feature k p l) = laid_known d (entity_feature d k p l) refl

module _ (cl : ℕ → Cluster) (d : List ℕ) where
  abbrev out : Cluster
  out = cl (own_id d)

  -- what enters the entity x
  abbrev entered : Entity → List Cluster
  entered x = map cl (ids_by d x)

  pins_first : Pins (byte d 4) → 5 < length d → pin_ids d ≡ byte d 5 ∷ take (byte d 4 - 1) (drop 6 d)
  pins_first q h =
      let l = q.0 in
      let e : byte d 4 ≡ suc (byte d 4 - 1) = omega arith in
      ap (λ (n : ℕ). take n (drop 5 d)) e ∙ ap (take (suc (byte d 4 - 1))) (drop-cons d 5 0 h)

  module _ (q : Pins (byte d 4)) (l : length d ≡ 6 + byte d 4) where
    abbrev cs : List Cluster
    cs = map cl (pin_ids d)

    pin_one : pin_ids d ≡ byte d 5 ∷ take (byte d 4 - 1) (drop 6 d)
    pin_one = pins_first q (let p = q.0 in omega arith)

    first_in : byte d 5 ∈ pin_ids d
    first_in = along (sym pin_one) (Memᴰ.head refl)

    first_cluster : first_of cs ≡ cl (byte d 5)
    unfolding first_of
    first_cluster = ap (λ (ids : List ℕ). first_of (map cl ids)) pin_one

    first_number : (f : Cluster → ℕ) → get_or (map f cs) 0 0 ≡ f (cl (byte d 5))
    first_number f = ap (λ (ids : List ℕ). get_or (map f (map cl ids)) 0 0) pin_one

    -- the number f of each pin's cluster, where these are all one
    same_number : (f : Cluster → ℕ) → AllSame (map f cs) → (x : ℕ) → x ∈ pin_ids d → f (cl x) ≡ f (cl (byte d 5))
    same_number f h x m = each_first cl f (pin_ids d) h x m ∙ first_number f

    number_same : (f : Cluster → ℕ) → ((x : ℕ) → x ∈ pin_ids d → f (cl x) ≡ f (cl (byte d 5))) → AllSame (map f cs)
    number_same f h = all_first cl f (pin_ids d) (λ x m. h x m ∙ sym (first_number f))

    to_selected : out ≡ named (first_of cs) (names_each cs) → Selected cl d
    unfolding named
    to_selected given = record {
      first_channels = ap channels_of g;
      first_locations = ap locations_of g;
      one_name = λ h. ap names_of g ∙ audio.one_name (cl (byte d 5)) (names_each cs) (number_same names_of (λ x m. h x (byte d 5) m first_in));
      other_names = λ x y m n f. ap names_of g ∙ audio.other_names (cl (byte d 5)) (names_each cs) (λ h. f (same_number names_of h x m ∙ sym (same_number names_of h y n)));
    }
      where
        g : out ≡ named (cl (byte d 5)) (names_each cs)
        g = given ∙ ap (λ (k : Cluster). named k (names_each cs)) first_cluster

    module _ (s : Selected cl d) where
      -- where not all indices are one, some pin's is not pin 1's
      names_differ : (AllSame (names_each cs) → ⊥) → names_of out ≡ 0
      names_differ n =
          ⊎_elim (λ z. z) (λ f. absurd (n (number_same names_of (λ x m. ⊎_elim (λ e. e) (λ g. absurd (f (s.other_names x (byte d 5) m first_in g))) (decided _ (reads_eq (names_of (cl x)) (names_of (cl (byte d 5)))))))))
          (decided _ (reads_eq (names_of out) 0))

      name_given : (AllSame (names_each cs)) ⊎ (AllSame (names_each cs) → ⊥) → names_of out ≡ names_of (named (cl (byte d 5)) (names_each cs))
      name_given (inl h) = s.one_name (λ x y m n. same_number names_of h x m ∙ sym (same_number names_of h y n)) ∙ sym (audio.one_name (cl (byte d 5)) (names_each cs) h)
      name_given (inr n) = names_differ n ∙ sym (audio.other_names (cl (byte d 5)) (names_each cs) n)

      of_selected : out ≡ named (first_of cs) (names_each cs)
      unfolding named
      of_selected = rw (first_cluster, s.first_channels, s.first_locations, name_given (decided _ (reads_all_same (names_each cs)))) refl

      -- all pins' c and bitmap are one exactly where they are what is given out
      to_alike : audio.Alike cs → (x : ℕ) → x ∈ pin_ids d → ((cl x).channels ≡ out.channels) × ((cl x).locations ≡ out.locations)
      to_alike (a, b) x m = (same_number channels_of a x m ∙ sym s.first_channels, same_number locations_of b x m ∙ sym s.first_locations)

      of_alike : ((x : ℕ) → x ∈ pin_ids d → ((cl x).channels ≡ out.channels) × ((cl x).locations ≡ out.locations)) → audio.Alike cs
      of_alike h = (number_same channels_of (λ x m. (h x m).0 ∙ s.first_channels), number_same locations_of (λ x m. (h x m).1 ∙ s.first_locations))

  -- ---- a descriptor that has its layout, by its kind

  pub gives_plainly : {x : Entity} → Told d x → LaidOut d → out ≡ give_out x (entered x) → GivesPlainly cl d
  unfolding give_out pins_of sources_from first_of
  gives_plainly (unknown n) o g = absurd (n o)
  gives_plainly (input k l) o g = record {
    input = λ q. g;
    output = λ q. absurd (omega arith);
    mixer = λ q. absurd (omega arith);
    selector = λ q. absurd (omega arith);
    feature = λ q. absurd (omega arith);
  }
  gives_plainly (output k l) o g = record {
    input = λ q. absurd (omega arith);
    output = λ q. g ∙ ap (λ (ids : List ℕ). first_of (map cl ids)) (one_at d 7 (omega arith));
    mixer = λ q. absurd (omega arith);
    selector = λ q. absurd (omega arith);
    feature = λ q. absurd (omega arith);
  }
  gives_plainly (mixer k p l) o g = record {
    input = λ q. absurd (omega arith);
    output = λ q. absurd (omega arith);
    mixer = λ q. g;
    selector = λ q. absurd (omega arith);
    feature = λ q. absurd (omega arith);
  }
  gives_plainly (selector k p l) o g = record {
    input = λ q. absurd (omega arith);
    output = λ q. absurd (omega arith);
    mixer = λ q. absurd (omega arith);
    selector = λ q. to_selected p l g;
    feature = λ q. absurd (omega arith);
  }
  gives_plainly (feature k p l) o g = record {
    input = λ q. absurd (omega arith);
    output = λ q. absurd (omega arith);
    mixer = λ q. absurd (omega arith);
    selector = λ q. absurd (omega arith);
    feature = λ q. g ∙ ap (λ (ids : List ℕ). first_of (map cl ids)) (one_at d 4 (omega arith));
  }

  pub plainly_gives : {x : Entity} → Told d x → LaidOut d → GivesPlainly cl d → out ≡ give_out x (entered x)
  unfolding give_out pins_of sources_from first_of
  plainly_gives (unknown n) o g = absurd (n o)
  plainly_gives (input k l) o g = g.input k
  plainly_gives (output k l) o g = g.output k ∙ sym (ap (λ (ids : List ℕ). first_of (map cl ids)) (one_at d 7 (omega arith)))
  plainly_gives (mixer k p l) o g = g.mixer k
  plainly_gives (selector k p l) o g = of_selected p l (g.selector k)
  plainly_gives (feature k p l) o g = g.feature k ∙ sym (ap (λ (ids : List ℕ). first_of (map cl ids)) (one_at d 4 (omega arith)))

  pub keeps_plainly : {x : Entity} → Told d x → LaidOut d → out ≡ give_out x (entered x) → Keeps x (length d) (entered x) → KeepsPlainly cl d
  unfolding give_out Keeps pins_of sources_from first_of
  keeps_plainly (unknown n) o g h = absurd (n o)
  keeps_plainly (input k l) o g h = record {
    input = λ q. subst ClusterKept (sym g) h;
    mixer = λ q. absurd (omega arith);
    selector = λ q. absurd (omega arith);
    feature = λ q. absurd (omega arith);
  }
  keeps_plainly (output k l) o g h = record {
    input = λ q. absurd (omega arith);
    mixer = λ q. absurd (omega arith);
    selector = λ q. absurd (omega arith);
    feature = λ q. absurd (omega arith);
  }
  keeps_plainly (mixer k p l) o g h = record {
    input = λ q. absurd (omega arith);
    mixer = λ q. (subst ClusterKept (sym g) h.0, subst (λ (y : Cluster). length d ≡ mixer_length (byte d 4) y.channels (channels_in (map cl (pin_ids d)))) (sym g) h.1);
    selector = λ q. absurd (omega arith);
    feature = λ q. absurd (omega arith);
  }
  keeps_plainly (selector k p l) o g h = record {
    input = λ q. absurd (omega arith);
    mixer = λ q. absurd (omega arith);
    selector = λ q. to_alike p l (to_selected p l g) h;
    feature = λ q. absurd (omega arith);
  }
  keeps_plainly (feature k p l) o g h = record {
    input = λ q. absurd (omega arith);
    mixer = λ q. absurd (omega arith);
    selector = λ q. absurd (omega arith);
    feature = λ q. subst (λ (y : Cluster). length d ≡ feature_length y.channels (byte d 5)) (sym g) h;
  }

  pub plainly_keeps : {x : Entity} → Told d x → LaidOut d → out ≡ give_out x (entered x) → KeepsPlainly cl d → Keeps x (length d) (entered x)
  unfolding give_out Keeps pins_of sources_from first_of
  plainly_keeps (unknown n) o g h = absurd (n o)
  plainly_keeps (input k l) o g h = subst ClusterKept g (h.input k)
  plainly_keeps (output k l) o g h = tt
  plainly_keeps (mixer k p l) o g h = (subst ClusterKept g (h.mixer k).0, subst (λ (y : Cluster). length d ≡ mixer_length (byte d 4) y.channels (channels_in (map cl (pin_ids d)))) g (h.mixer k).1)
  plainly_keeps (selector k p l) o g h = of_alike p l (to_selected p l g) (h.selector k)
  plainly_keeps (feature k p l) o g h = subst (λ (y : Cluster). length d ≡ feature_length y.channels (byte d 5)) g (h.feature k)

-- ---- a run whose descriptors have their layouts

module _ (ds : List (List ℕ)) (laid : (e : List ℕ) → e ∈ ds → LaidOut e) where
  -- rule 11, of one source ID
  named_plainly : (x : ℕ) → (WrongSource audio ds x → ⊥) → SourceNamed ds x
  named_plainly x n = (λ z. n (zero_source z), record { one = b.one; among = b.among; has = (b.has, λ k. n (no_output b.one b.among b.has (output_feeds b.one k))) })
    where
      b : SomeOf (λ e. own_id e ≡ x) ds
      b =
          ⊎_elim (λ h. h) (λ none. absurd (n (unknown (λ e m q. none (record { one = e; among = m; has = q })))))
          (decided _ (reads_any (λ e. eqb (own_id e) x) (λ e. own_id e ≡ x) (λ e. reads_eq (own_id e) x) ds))

  plainly_named : Rule10 ds → (x : ℕ) → SourceNamed ds x → WrongSource audio ds x → ⊥
  plainly_named r x (n, e) (zero_source z) = n z
  plainly_named r x (n, e) (unknown f) = f e.one e.among e.has.0
  plainly_named r x (n, e) (no_output d m q f) =
      let same = own_one ds r e.one d e.among m (e.has.0 ∙ sym q) in
      true≠false (sym (other_feeds e.one (laid e.one e.among) e.has.1) ∙ ap (λ (b : List ℕ). feeds_of (entity_of b)) same ∙ f)

  pub sources_plainly : Rule10 ds → (d : List ℕ) → d ∈ ds → (WrongSources audio ds d → ⊥) ↔ ((x : ℕ) → SourceId d x → SourceNamed ds x)
  sources_plainly r d m = (
    λ n x i. named_plainly x (λ w. n (record { one = x; among = (source_ids d x (laid d m)).1 i; has = w })),
    λ h w. plainly_named r w.one (h w.one ((source_ids d w.one (laid d m)).0 w.among)) w.has,
  )

  module _ (cl : ℕ → Cluster) where
    pub all_give : GivenOut audio ds cl ↔ ((e : List ℕ) → e ∈ ds → GivesPlainly cl e)
    all_give = (λ g e m. gives_plainly cl e (told e) (laid e m) (g e m), λ g e m. plainly_gives cl e (told e) (laid e m) (g e m))

    pub fits_plainly : GivenOut audio ds cl → (d : List ℕ) → d ∈ ds → Fits audio cl d ↔ KeepsPlainly cl d
    fits_plainly g d m = (keeps_plainly cl d (told d) (laid d m) (g d m), plainly_keeps cl d (told d) (laid d m) (g d m))

  pub rule13_plainly : Rule13 audio ds ↔ KeptPlainly ds
  rule13_plainly = (
    λ (cl, g, h). (cl, (all_give cl).0 g, λ d m. (fits_plainly cl g d m).0 (h d m)),
    λ (cl, g, h). let given = (all_give cl).1 g in (cl, given, λ d m. (fits_plainly cl given d m).1 (h d m)),
  )

  pub broken_plainly : (d : List ℕ) → d ∈ ds → Broken audio ds d ↔ BrokenPlainly ds d
  broken_plainly d m = (
    λ (cl, g, n). (cl, (all_give cl).0 g, λ h. n ((fits_plainly cl g d m).1 h)),
    λ (cl, g, n). let given = (all_give cl).1 g in (cl, given, λ h. n ((fits_plainly cl given d m).0 h)),
  )

-- ---- a configuration as a whole

module _ {s : List ℕ} where
  module _ (t : Configuration s) where
    laid : (d : List ℕ) → d ∈ run_of t.kept → LaidOut d
    laid = t.kept.rule9

    pub run_plainly : (d : List ℕ) → d ∈ run_of t.kept → Plainly t.connected.cluster d
    run_plainly d m = record {
      laid = (laid_plainly d).0 (laid d m);
      gives = (all_give (run_of t.kept) laid t.connected.cluster).0 t.connected.given_out d m;
      keeps = (fits_plainly (run_of t.kept) laid t.connected.cluster t.connected.given_out d m).0 (t.connected.fits d m);
    }

    pub plain_configuration : PlainConfiguration s
    plain_configuration = record {
      opened = t.kept.opened;
      rule5 = t.kept.rule5;
      rule6 = t.kept.rule6;
      rule7 = t.kept.rule7;
      rule8 = t.kept.rule8;
      rule10 = t.connected.rule10;
      rule11 = λ d m. (sources_plainly (run_of t.kept) laid t.connected.rule10 d m).0 (t.connected.rule11 d m);
      rank = t.connected.rank;
      ranked = λ d m x i. t.connected.ranked d m x ((source_ids d x (laid d m)).1 i);
      cluster = t.connected.cluster;
      plainly = run_plainly;
      rule14 = t.rule14;
      rule15 = t.rule15;
    }

  module _ (p : PlainConfiguration s) where
    abbrev ds : List (List ℕ)
    ds = p.rule6.run

    laid_plain : (d : List ℕ) → d ∈ ds → LaidOut d
    laid_plain d m = (laid_plainly d).1 (p.plainly d m).laid

    given : GivenOut audio ds p.cluster
    given = (all_give ds laid_plain p.cluster).1 (λ d m. (p.plainly d m).gives)

    pub configuration_plain : Configuration s
    configuration_plain = record {
      kept = record { opened = p.opened; rule5 = p.rule5; rule6 = p.rule6; rule7 = p.rule7; rule8 = p.rule8; rule9 = laid_plain };
      connected = record {
        rule10 = p.rule10;
        rule11 = λ d m. (sources_plainly ds laid_plain p.rule10 d m).1 (p.rule11 d m);
        rank = p.rank;
        ranked = λ d m x i. p.ranked d m x ((source_ids d x (laid_plain d m)).0 i);
        cluster = p.cluster;
        given_out = given;
        fits = λ d m. (fits_plainly ds laid_plain p.cluster given d m).1 (p.plainly d m).keeps;
      };
      rule14 = p.rule14;
      rule15 = p.rule15;
    }

  pub one_plainly : (t : Configuration s) (p : PlainConfiguration s)
      → (p.opened.descriptors ≡ t.kept.opened.descriptors) × (p.rule6.run ≡ run_of t.kept)
      × ((d : List ℕ) → d ∈ run_of t.kept → p.cluster (own_id d) ≡ t.connected.cluster (own_id d))
  unfolding configuration_plain
  one_plainly t p = let u = configuration_plain p in (one_cutting s u t, one_descriptors s u t, λ d m. sym (one_clusters s t u d m))
