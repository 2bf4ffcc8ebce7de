-- A run whose descriptors keep rule 11, in graph's words: what the order, the ranks and the clusters ask of sources.
--   known_run        ==  by rule 11, each source ID of the run is borne at one of its indices
use Rattle.std.specs.Prelude.{ℕ, ◌≡◌, List, [], get_or}
use Rattle.std.proofs.Common.{⊎_elim}
use Rattle.ground.specs.Pick.{decided, reads_eq}
use Rattle.ground.specs.Lists.{member_at}
use Rattle.ground.specs.Places.{somewhere, reads_somewhere}
use Rattle.graph.specs.Members.{along}
use Rattle.graph.specs.Ranked.{Known}
use Rattle.edition.specs.Edition.{Edition}
use Rattle.entities.specs.declared.Run.{Run}
use Rattle.entities.specs.Run.{held, id_at, sources_at}
use Rattle.entities.specs.Represents.{Represents}
use Rattle.ids.specs.Breach.{bears}
use Rattle.ids.specs.Rule10Laws.{inside, borne_at}
use Rattle.sources.specs.Rule11.{WrongSource, unknown, Rule11}

module _ {ed : Edition} {s : List ℕ} {p : ℕ} {ds : List (List ℕ)} {run : Run} (k : Represents ed s p ds run) where
  pub known_run : Rule11 ed ds → Known (id_at run) (sources_at s run) (held run)
  known_run r i l x m =
      ⊎_elim
      (λ b. b)
      (λ f. absurd (wrong (unknown (λ d a q. f ((borne_at k x).1 (d, a, q))))))
      (decided (somewhere (bears run x) (held run)) (reads_somewhere (bears run x) (λ j. id_at run j ≡ x) (held run) (λ j h. reads_eq (id_at run j) x)))
    where
      wrong : WrongSource ed ds x → ⊥
      wrong w = r (get_or ds i []) (member_at [] ds i (inside k l)) (record { one = x; among = along (k.sources i (inside k l)) m; has = w })
