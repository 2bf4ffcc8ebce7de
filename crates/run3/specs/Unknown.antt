-- Only what has none of the layouts is of kind 0.
--   kind_unknown  ==  so the kind tells whether the layout was wrong
use Rattle.std.specs.Prelude.{◌≡◌, refl, eqb}
use Rattle.layout3.specs.declared.Entity.{Entity}
use Rattle.layout3.specs.declared.Entity.TheVariants.{Unknown, Input, Output, Mixer, Selector, Feature, Clock}
use Rattle.layout3.specs.Layout.{is_unknown}
use Rattle.layout3.specs.Facts.{facts_of}

pub kind_unknown : (e : Entity) → eqb (facts_of e).kind 0 ≡ is_unknown e
unfolding facts_of is_unknown
kind_unknown Unknown = refl
kind_unknown (Input k c) = refl
kind_unknown (Output s k) = refl
kind_unknown (Mixer p c) = refl
kind_unknown (Selector p) = refl
kind_unknown (Feature s) = refl
kind_unknown Clock = refl
