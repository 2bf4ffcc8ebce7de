-- Document 02, No. 12: "Nos. 8, 9 and 11 stay with 1.0, and take 0x30 there as any other protocol byte", of No. 11,
-- the duet box. Where that byte stands is protocol_place (demands/specs/AnyProtocol, which says the same of the reader
-- and the routes).
--   DuetAnyProtocol  ==  THE STATEMENT: with any other protocol byte in a configuration that keeps the rules 1 to 4,
--                        0x30 among them, whoever plugs it in sees the same, and the box afterwards is the same
--                        (plugs); the stretch of an ID is refused alike, or begins at the same place (located), and
--                        has the same bytes (stretch)
use Rattle.std.specs.Prelude.{ℕ, ◌≡◌, List, set}
use Rattle.cutting.specs.Rules1to9.{Opened}
use Rattle.demands.specs.AnyProtocol.{protocol_place}
use Rattle.sides.specs.declared.Side.{Side}
use Rattle.duet.specs.declared.Duet.{Duet}
use Rattle.extent.specs.Stretch.{located_in, bytes_at}
use Rattle.duets.specs.Steps.{seen_in, box_next}
use Rattle.duets.specs.Steps.Step.{plug}

pub record DuetAnyProtocol : Type 0 where
  pub plugs : (s : List ℕ) (o : Opened s) (x : ℕ) (b : Duet) (k : Side) (d : List ℕ)
      → (seen_in b (plug k (set s (protocol_place o) x) d) ≡ seen_in b (plug k s d))
      × (box_next b (plug k (set s (protocol_place o) x) d) ≡ box_next b (plug k s d))
  pub located : (s : List ℕ) (o : Opened s) (x id : ℕ) → located_in (set s (protocol_place o) x) id ≡ located_in s id
  pub stretch : (s : List ℕ) (o : Opened s) (x id : ℕ)
      → bytes_at (set s (protocol_place o) x) (located_in (set s (protocol_place o) x) id) ≡ bytes_at s (located_in s id)
