-- What it would be to see the order: "a source may stand after its user" (document 01), so a rule by which it may not is none of the papers'.
--   SourcesBefore ds  ==  a source stands before its user: every front of the run ds keeps rule 11 by itself
--   microphone, jack  ==  an Input Terminal of ID 1, and an Output Terminal of ID 2 whose source is 1
--   BeforeSees        ==  THE STATEMENT: that rule does see the order. It is kept where the jack stands behind the microphone (kept), and not the other
--                         way round (broken); so it is not Blind (sees)
use Rattle.std.specs.Prelude.{ℕ, List, [], ◌∷◌, take}
use Rattle.edition.specs.Audio.{audio}
use Rattle.sources.specs.Rule11.{Rule11}
use Rattle.order.specs.Blind.{Blind}

abbrev pub SourcesBefore : List (List ℕ) → Type 0
SourcesBefore ds = (n : ℕ) → Rule11 audio (take n ds)

abbrev pub microphone : List ℕ
microphone = 12 ∷ 0x24 ∷ 2 ∷ 1 ∷ 1 ∷ 2 ∷ 0 ∷ 1 ∷ 0 ∷ 0 ∷ 0 ∷ 0 ∷ []

abbrev pub jack : List ℕ
jack = 9 ∷ 0x24 ∷ 3 ∷ 2 ∷ 1 ∷ 3 ∷ 0 ∷ 1 ∷ 0 ∷ []

pub record BeforeSees : Type 0 where
  pub kept : SourcesBefore (microphone ∷ jack ∷ [])
  pub broken : SourcesBefore (jack ∷ microphone ∷ []) → ⊥
  pub sees : Blind SourcesBefore → ⊥
