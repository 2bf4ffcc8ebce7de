-- What a Set and a Get ask of a list of controls and of the same list with one control more behind it.
--   size_least, size_most  ==  a control's value has one byte or two; sizes_most: and those of a list so many together
--   sizes_snoc, takes_snoc, sets_snoc, block_snoc  ==  sizes, 38, what is stored and the block, of one control more
--   byte_sent, word_sent ==  the number that one byte of the data is, or two
use Rattle.std.specs.Prelude.{ℕ, ◌+◌, ◌*◌, ◌≤◌, ◌≡◌, refl, List, [], ◌∷◌, ◌++◌, get_or, take, drop}
use Rattle.std.proofs.Common.{sym, ap, ◌∙◌, append-nil, append_assoc, add-zero, arith, get_or-drop}
use Rattle.ground.specs.Numbers.{byte, word}
use Rattle.setting.specs.declared.Sort.TheVariants.{Volume, Tone, Delay}
use Rattle.table.specs.declared.Control.{Control}
use Rattle.table.specs.declared.Sense.{Sense}
use Rattle.table.specs.declared.Sense.TheVariants.{Unknown, YesNo, Ranged, Pin}
use Rattle.table.specs.Controls.{size_of}
use Rattle.setup.specs.declared.Part.{Part}
use Rattle.deed.specs.Reply.{low_first}
use Rattle.answers.specs.Held.{part_of, value_in}
use Rattle.answers.specs.Answers.{size_in, block_of}

pub size_most : (k : Sense) → size_of k ≤ 2
size_most Unknown = omega arith
size_most YesNo = omega arith
size_most Pin = omega arith
size_most (Ranged Volume) = omega arith
size_most (Ranged Tone) = omega arith
size_most (Ranged Delay) = omega arith

pub size_least : (k : Sense) → 1 ≤ size_of k
size_least Unknown = omega arith
size_least YesNo = omega arith
size_least Pin = omega arith
size_least (Ranged Volume) = omega arith
size_least (Ranged Tone) = omega arith
size_least (Ranged Delay) = omega arith

-- the number that a control's bytes are, from where they begin
one_byte : (l : List ℕ) → value_in (take 1 l) ≡ get_or l 0 0
unfolding value_in
one_byte [] = refl
one_byte (a ∷ l) = omega arith

two_bytes : (l : List ℕ) → value_in (take 2 l) ≡ get_or l 0 0 + get_or l 1 0 * 256
unfolding value_in
two_bytes [] = refl
two_bytes (a ∷ []) = omega arith
two_bytes (a ∷ b ∷ l) = omega arith

pub byte_sent : (d : List ℕ) (k : ℕ) → byte d k ≡ value_in (take 1 (drop k d))
byte_sent d k = sym (one_byte (drop k d) ∙ get_or-drop k d 0 0 ∙ ap (byte d) (add-zero k))

pub word_sent : (d : List ℕ) (k : ℕ) → word d k ≡ value_in (take 2 (drop k d))
word_sent d k = rw (two_bytes (drop k d), get_or-drop k d 0 0, get_or-drop k d 1 0, add-zero k)

pub block_snoc : (part : Part) (cs : List Control) (c : Control) → block_of part (cs ++ c ∷ []) ≡ block_of part cs ++ low_first (size_in c) (part_of part c)
unfolding block_of
block_snoc part [] c = append-nil (low_first (size_in c) (part_of part c))
block_snoc part (e ∷ cs) c = rw (block_snoc part cs c) (sym (append_assoc (low_first (size_in e) (part_of part e)) (block_of part cs) (low_first (size_in c) (part_of part c))))
