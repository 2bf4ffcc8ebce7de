-- Each kind's length is what its layout says.
use borrow.Author.Rules.{rules}
use Prim.Native.Nat.{ℕ, ◌+◌}
use mathlib.Core.Path.{◌≡◌, sym, ap, ◌∙◌}
use mathlib.Core.List.{List}
use lib.ListN.{length}
use native.Mathlib.Nat.{add-zero}
use Rattle.std.specs.declared.option.Option.{Option}
use Rattle.layout.specs.Format.{two_of}
use Rattle.fields.specs.declared.Numbers.{Numbers}
use Rattle.fields.specs.declared.Numbers.TheVariants.{Unknown, Input, Output, Mixer, Selector, Feature, Printed}
use Rattle.fields.specs.Listed.{written_as, entity_from}
use Rattle.laying.specs.Laying.{short_of}
use Rattle.laying.specs.LayingLaws.{long_mixer, long_selector, long_feature, long_printed}
use Rattle.laying.proofs.size_of.Goals as goal

module _ (x : Numbers) (s k : List ℕ) where
  abbrev size : ℕ
  size = length (written_as (entity_from x s k))

  module _ (r : Option ℕ) where
    of_unknown : x ≡ Unknown → r ≡ short_of (0 + 0 + 0) → r ≡ short_of size
    of_unknown e h = rw e h

    of_input : (i t a c l m n : ℕ) → x ≡ Input i t a c l m n → r ≡ short_of (12 + 0 + 0) → r ≡ short_of size
    of_input i t a c l m n e h = rw e h

    of_output : (i t a f n : ℕ) → x ≡ Output i t a f n → r ≡ short_of (9 + 0 + 0) → r ≡ short_of size
    of_output i t a f n e h = rw e h

    of_mixer : (i c l m n : ℕ) → x ≡ Mixer i c l m n → r ≡ short_of (10 + length s + length k) → r ≡ short_of size
    of_mixer i c l m n e h = rw e (h ∙ ap short_of (sym (long_mixer i c m n (two_of l) s k)))

    of_selector : (i n : ℕ) → x ≡ Selector i n → r ≡ short_of (6 + length s + 0) → r ≡ short_of size
    of_selector i n e h = rw e (h ∙ ap short_of (add-zero (6 + length s) ∙ sym (long_selector i n s)))

    of_feature : (i f z n : ℕ) → x ≡ Feature i f z n → r ≡ short_of (7 + length k + 0) → r ≡ short_of size
    of_feature i f z n e h = rw e (h ∙ ap short_of (add-zero (7 + length k) ∙ sym (long_feature i f z n k)))

    of_printed : (i n : ℕ) → x ≡ Printed i n → r ≡ short_of (7 + length s + 0) → r ≡ short_of size
    of_printed i n e h = rw e (h ∙ ap short_of (add-zero (7 + length s) ∙ sym (long_printed i n s)))

ruleset unknowns = (of_unknown, rules)

ruleset inputs = (of_input, rules)

ruleset outputs = (of_output, rules)

ruleset mixers = (of_mixer, rules)

ruleset selectors = (of_selector, rules)

ruleset features = (of_feature, rules)

ruleset printeds = (of_printed, rules)

pub returns-in-Unknown : goal.returns-in-Unknown
returns-in-Unknown c = search unknowns
