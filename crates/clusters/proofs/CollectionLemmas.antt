-- Laws of what stands beside it in specs.
--   connected_members  ==  THE LAW: so is the whole topology, rule 10 apart, which names the later of two that bear one ID
use Rattle.std.specs.Prelude.{ℕ, List}
use Rattle.edition.specs.Edition.{Edition}
use Rattle.ids.specs.Rule10.{Rule10}
use Rattle.clusters.specs.Rule13.{Connected}
use Rattle.clusters.specs.Collection.{SameMembers, rule11_members}

module _ {ed : Edition} {ds es : List (List ℕ)} (same : SameMembers ds es) where
  pub connected_members : Rule10 es → Connected ed ds → Connected ed es
  connected_members own c = record {
    rule10 = own;
    rule11 = (rule11_members same) c.rule11;
    rank = c.rank;
    ranked = λ d m. c.ranked d ((same d).1 m);
    cluster = c.cluster;
    given_out = λ d m. c.given_out d ((same d).1 m);
    fits = λ d m. c.fits d ((same d).1 m);
  }
