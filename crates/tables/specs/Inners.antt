-- The first hour of the tables, and versions as the model has them.
use Rattle.std.specs.Prelude.{◌≡◌, ℕ, List, map, None, Option}
use Rattle.std.specs.List.{range_with_len}
use Rattle.interfaces.specs.Homes.{Meaning}
use Rattle.order.specs.declared.candidate.Candidate.{Candidate}
use Rattle.order.specs.declared.candidate.Place.TheVariants as place
use Rattle.model.specs.declared.slot.Slot.{Slot}
use Rattle.model.specs.Worlds.{World, world, first_master}
use Rattle.model.specs.Versions.{place_of, slot_shows, seen_as}
use Rattle.tables.specs.declared.inner.Inner.{Inner}
use Rattle.tables.specs.declared.inner.Seen.{Seen}
use Rattle.tables.specs.View.{sections_of, slots_of, oldest_of, masters_of}

-- the world that the tables make with a home and a source's highest stamp
abbrev pub world_of : Meaning → ℕ → Inner → World
world_of home highest i =
    world home highest i.tick i.watermark (masters_of i.masters) (sections_of i.sections) (oldest_of i.logs) (slots_of i.logs)

pub record inner_first (i : Inner) : Type 0 where
  pub sections : sections_of i.sections ≡ (λ u. None)
  pub slots : slots_of i.logs ≡ (λ u p. None)
  pub oldest : oldest_of i.logs ≡ (λ u. 0)
  pub masters : masters_of i.masters ≡ (λ r. first_master)
  pub watermark : i.watermark ≡ 0
  pub tick : i.tick ≡ 0

-- what the slots in the log of u show of r within a limit, from the oldest on
abbrev pub slots_show : (ℕ → ℕ → Option Slot) → (ℕ → ℕ) → ℕ → Option ℕ → ℕ → List (Option Candidate)
slots_show slots oldest r limit u = map (λ age. slot_shows r limit (place.Slot u age) (slots u (place_of (oldest u) age))) (range_with_len 0 8)

-- what is seen of r, whatever the home holds
pub record IsSeen (i : Inner) (r : ℕ) (best : Option Candidate) (x : Seen) : Type 0 where
  pub hold : (home : Meaning) (highest : ℕ) → x.hold ≡ (seen_as (world_of home highest i) r best).hold
  pub version : (home : Meaning) (highest : ℕ) → x.version ≡ (seen_as (world_of home highest i) r best).entry.version
  pub mark : (home : Meaning) (highest : ℕ) → x.mark ≡ (seen_as (world_of home highest i) r best).entry.body.mark
