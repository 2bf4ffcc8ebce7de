-- What a load or a request does at the controls that it is about.
--   Doing      ==  denied n: refusal n; given bytes: a Get answered with these bytes; changed cs: the controls, in the same order, as a
--                  load or a Set leaves them
--   bytes_in o  ==  the bytes written: "An accepted Get writes its bytes", and nothing else writes any
use Rattle.std.specs.Prelude.{ℕ, List, []}
use Rattle.table.specs.declared.Control.{Control}

pub data Doing : Type 0 where
  denied : ℕ → Doing
  given : List ℕ → Doing
  changed : List Control → Doing

abbrev pub bytes_in : Doing → List ℕ
bytes_in (denied n) = []
bytes_in (given bytes) = bytes
bytes_in (changed cs) = []
