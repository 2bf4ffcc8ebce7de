-- The layouts as the tables of 000 print them: what the formats compute to.
--   input_table, output_table, mixer_table, selector_table, feature_table ==  the bytes of a descriptor, each kind's fields in their order
use Rattle.std.specs.Prelude.{ℕ, ◌≡◌, refl, List, [], ◌∷◌, ◌++◌, length}
use Rattle.layout.specs.Format.{TwoBytes}
use Rattle.layout.specs.Fields.{input, output, mixer, selector, feature, bytes_of}

-- i: ID; t: terminal type; a: associated terminal; c, l, m: the cluster's channels, locations, names; s: source; z: control size;
-- ps: sources; ks: control bytes or masks; n: name
module _ (i a c m n s z : ℕ) (t l : TwoBytes) (ps ks : List ℕ) where
  pub input_table : bytes_of (input i t a c l m n) ≡ 12 ∷ 0x24 ∷ 2 ∷ i ∷ t.low ∷ t.high ∷ a ∷ c ∷ l.low ∷ l.high ∷ m ∷ n ∷ []
  input_table = refl

  pub output_table : bytes_of (output i t a s n) ≡ 9 ∷ 0x24 ∷ 3 ∷ i ∷ t.low ∷ t.high ∷ a ∷ s ∷ n ∷ []
  output_table = refl

  pub mixer_table : bytes_of (mixer i ps c l m ks n)
      ≡ length (bytes_of (mixer i ps c l m ks n)) ∷ 0x24 ∷ 4 ∷ i ∷ length ps ∷ (ps ++ (c ∷ l.low ∷ l.high ∷ m ∷ (ks ++ n ∷ [])))
  mixer_table = refl

  pub selector_table : bytes_of (selector i ps n) ≡ length (bytes_of (selector i ps n)) ∷ 0x24 ∷ 5 ∷ i ∷ length ps ∷ (ps ++ n ∷ [])
  selector_table = refl

  pub feature_table : bytes_of (feature i s z ks n) ≡ length (bytes_of (feature i s z ks n)) ∷ 0x24 ∷ 6 ∷ i ∷ s ∷ z ∷ (ks ++ n ∷ [])
  feature_table = refl
