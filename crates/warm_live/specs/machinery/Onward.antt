-- A backup that went on to what was joined to its store.
use Rattle.std.specs.Prelude.{◌≡◌, ◌-◌, ℕ, List, length, sum}
use Rattle.ft_types.specs.Counts.{count_at}
use Rattle.log_join.specs.Stores.{StoreView, IsStore}
use Rattle.closed_cut.specs.Position.{IsPosition}
use Rattle.guest_image.specs.Image.{guest_of}
use Rattle.hart_lease.specs.Runs.{counts_of}
use Rattle.hart_replay.specs.GoingOn.{GoOnFrom}
use Rattle.hart_replay.specs.Laws.{ArePlanned}
use Rattle.hart_replay.specs.Replays.{IsOutcome}
use Rattle.go_live.specs.Joined.{AreJoinedTo}
use Rattle.warm_backup.specs.Backups.{BackupView}

-- the stores were joined to its own, and it went to where all of them lead
pub record HasCaughtUp (old : BackupView) (stores : List StoreView) (new : BackupView) : Type 0 where
  pub image : new.image ≡ old.image
  pub guest : old.store.guest ≡ guest_of old.image
  pub joined : AreJoinedTo old.store stores new.store
  pub rules : IsStore new.store
  pub position : IsPosition new.store new.position
  pub planned : ArePlanned new.store new.position new.legs
  pub outcome : IsOutcome new.image new.legs new.machine
  pub counts : (hart : ℕ) → counts_of new.machine hart ≡ count_at new.position.counts hart
  pub harts : (length new.position.counts ≡ new.image.harts) × (length new.machine.harts ≡ new.image.harts)
  pub on : GoOnFrom old.legs new.legs → new.last_steps ≡ sum new.position.counts - sum old.position.counts
  pub anew : (GoOnFrom old.legs new.legs → ⊥) → new.last_steps ≡ sum new.position.counts
