-- Which reader answers for a descriptor: one law for each subtype, and one for any other.
use Rattle.layout3.specs.LayoutLaws.{kind_input, kind_output, kind_mixer, kind_selector, kind_feature, kind_clock, kind_other}

pub ruleset by_kind = (kind_input, kind_output, kind_mixer, kind_selector, kind_feature, kind_clock, kind_other)
