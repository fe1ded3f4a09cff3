-- Keepers' machines.
use Rattle.std.specs.Prelude.{◌≡◌, ℕ, false, List, [], ◌∷◌, Option, None, Some, option_map, zero, suc}
use Rattle.stations.specs.Stations.{StationView}
use Rattle.keeper_disks.specs.Disks.{Phase, Away, Rests, Disk}
use Rattle.live_world.specs.Shelves.{ShelfView, empty_shelf}
use Rattle.live_world.specs.declared.site.Site.{Site}

abbrev pub empty_site : Site
empty_site = record { files = empty_shelf; station = None }

-- between two calls of a keeper
abbrev pub phase_of : Option StationView → Phase
phase_of None = Away
phase_of (Some st) = Rests st

abbrev pub disk_of : Site → Disk
disk_of s = record { files = s.files.files; keeper = phase_of s.station; hand = s.files.hand }

-- the machine of the keeper of this number; none where it is lost
abbrev pub site_at : List (Option Site) → ℕ → Option Site
site_at [] k = None
site_at (s ∷ sites) zero = s
site_at (s ∷ sites) (suc k) = site_at sites k

abbrev pub disk_at : List (Option Site) → ℕ → Option Disk
disk_at sites k = option_map disk_of (site_at sites k)

-- no call of this keeper lasts: what was read was handed over, and no keeper is gone that is not known to be
pub record IsAtRest (keeper : ℕ) (s : Site) : Type 0 where
  pub handed : s.files.read ≡ None
  pub lives : s.files.crashed ≡ false
  pub own : (st : StationView) → s.station ≡ Some st → st.keeper ≡ keeper
