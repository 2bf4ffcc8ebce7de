-- A run stands for descriptors: the one statement by which everything that is computed from the reader's array is said of the descriptors.
--   Represents ed s p ds r  ==  the run r stands for the descriptors ds, which stand in the configuration s from place p on: as many entities, and of
--                       each its place, its ID, its kind, whether it may be a source, its source IDs and its bytes, as the edition ed has them
use Rattle.std.specs.Prelude.{ℕ, ◌+◌, ◌<◌, ◌≡◌, List, [], length, get_or, take}
use Rattle.ground.specs.Lists.{total}
use Rattle.edition.specs.Edition.{Edition, own_id}
use Rattle.edition.specs.Edition as edition
use Rattle.entities.specs.declared.Run.{Run}
use Rattle.entities.specs.Run.{held, id_at, kind_at, place_at, feeds_at, sources_at, descriptor_at}

pub record Represents (ed : Edition) (s : List ℕ) (p : ℕ) (ds : List (List ℕ)) (r : Run) : Type 0 where
  pub counted : held r ≡ length ds
  pub place : (i : ℕ) → i < length ds → place_at r i ≡ p + total (take i ds)
  pub id : (i : ℕ) → i < length ds → id_at r i ≡ own_id (get_or ds i [])
  pub kind : (i : ℕ) → i < length ds → kind_at r i ≡ ed.kind (get_or ds i [])
  pub feeds : (i : ℕ) → i < length ds → feeds_at r i ≡ ed.feeds (get_or ds i [])
  pub sources : (i : ℕ) → i < length ds → sources_at s r i ≡ edition.sources ed (get_or ds i [])
  pub bytes : (i : ℕ) → i < length ds → descriptor_at s r i ≡ get_or ds i []
