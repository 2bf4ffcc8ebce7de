-- What a step leaves of a program's state.
--   KeepsOnErr s r t  ==  where the answer r is an error, the state t behind the step is the state s before it
use Rattle.std.specs.Prelude.{◌≡◌, Result, OnErr}

abbrev pub KeepsOnErr : {S A E : Type 0} → S → Result A E → S → Type 0
KeepsOnErr s r t = OnErr r (t ≡ s)
