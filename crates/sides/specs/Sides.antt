-- The two sides of the duet box (document 02, No. 11): what is asked with no box in hand. "Presented interface 0 is the left AudioControl, 1 the right;
-- the duet box puts in the microphone's own number and hands the request down"; "then 62 if both sides' controls would pass 192".
--   addressee_by n     ==  whom the presented number n names: the left side, the right, or nobody: "a presented number other than 0 and 1 is 32"
--   addressee_of k     ==  whom a request that asks k is for: nobody where 31 is given
--   own_setup m s      ==  the setup s, of eight bytes, with the microphone's own number m for the presented one
--   most_together      ==  "It holds at most 192 controls for both sides together"
--   admission_by x p c n  ==  the refusal of a reading with number x, place p and c controls on a side that met n controls on the other: the
--                         reader's, then 62; 0 and 0 for none
use Rattle.std.specs.Prelude.{ℕ, ◌+◌, List, [], ◌∷◌, eqb, leb}
use Rattle.ground.specs.declared.Refusal.{Refusal}
use Rattle.ground.specs.Pick.{pick}
use Rattle.ground.specs.Refuse.{none}
use Rattle.ground.specs.Numbers.{byte}
use Rattle.setup.specs.declared.Asked.{Asked}
use Rattle.setup.specs.declared.Asked.TheVariants as asks
use Rattle.sides.specs.declared.Side.TheVariants.{Left, Right}
use Rattle.sides.specs.declared.Addressee.{Addressee}
use Rattle.sides.specs.declared.Addressee.TheVariants.{Nobody, At}

unfoldable pub addressee_by : ℕ → Addressee
addressee_by n = pick (eqb n 0) (At Left) (pick (eqb n 1) (At Right) (Nobody 32))

abbrev pub addressee_of : Asked → Addressee
addressee_of asks.Unknown = Nobody 31
addressee_of (asks.Set g) = addressee_by g.interface
addressee_of (asks.Get part g) = addressee_by g.interface

abbrev pub own_setup : ℕ → List ℕ → List ℕ
own_setup m s = byte s 0 ∷ byte s 1 ∷ byte s 2 ∷ byte s 3 ∷ m ∷ byte s 5 ∷ byte s 6 ∷ byte s 7 ∷ []

abbrev pub most_together : ℕ
most_together = 192

unfoldable pub admission_by : ℕ → ℕ → ℕ → ℕ → Refusal
admission_by x p c n = pick (eqb x 0) (pick (leb (n + c) most_together) none (record { number = 62; place = 0 })) (record { number = x; place = p })
