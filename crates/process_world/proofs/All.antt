-- Whatever happens, the world stays tied, and so it keeps its promises.
use Rattle.guest_image.specs.Image.{ImageContents}
use Rattle.std.proofs.Common.{ℕ, ◌∷◌, ◌++◌}
use Rattle.requests.specs.Asking.{asked_again}
use Rattle.process_world.specs.Worlds.{ProcessWorld}
use Rattle.process_world.specs.Happenings.{Happens, AtKeeper, Loses, Renews, GoesLiveIn, HearsRequest, LeadsRound, Seals, HearsSaid, LacksMemory, Tells, Ends, Joins}
use Rattle.process_world.specs.Happenings.{Wants, Asks, AsksAgain, HearsAnswer, Prints, Comes, First, Then}
use Rattle.process_world.specs.Promises.{Processes}
use Rattle.process_world.specs.machinery.Tied.{IsTied}
use Rattle.process_world.specs.machinery.Worded.{AreWorded}
use Rattle.process_world.proofs.Beginning.{first_tied}
use Rattle.process_world.proofs.Disks.{at_keeper, loses}
use Rattle.process_world.proofs.Renewing.{renews}
use Rattle.process_world.proofs.Granting.{goes_live}
use Rattle.process_world.proofs.Hearing.{hears_said, lacks_memory}
use Rattle.process_world.proofs.Rounds.{leads_round}
use Rattle.process_world.proofs.Sealing.{seals}
use Rattle.process_world.proofs.Telling.{hears_request, tells, ends, joins, wants, asks, hears_answer, prints}
use Rattle.process_world.proofs.Promises.{promises}
use Rattle.process_world.proofs.WordEvents.{first_worded, stays_worded}

-- each event keeps the world tied
stays_tied : (w v : ProcessWorld) → IsTied w → Happens w v → IsTied v
stays_tied w v is (AtKeeper keeper d e out at goes) = at_keeper w is keeper d e out at goes
stays_tied w v is (Loses keeper) = loses w is keeper
stays_tied w v is (Renews keeper term d given bytes at under granted before all) = renews w is keeper term d given bytes at under granted before all
stays_tied w v is (GoesLiveIn term quorum given l new keepers need handed live behind none) =
    goes_live w is term quorum given l new keepers need handed live none
stays_tied w v is (HearsRequest n old new request what at asked hears) = hears_request w is n old new request what at hears
stays_tied w v is (LeadsRound n old new spacing steps at round) = leads_round w is n old new spacing steps at round
stays_tied w v is (Seals n old new frames at cut rest) = seals w is n old new frames at cut rest
stays_tied w v is (HearsSaid n old new a at said lets only) = hears_said w is n old new a at said lets only
stays_tied w v is (LacksMemory n old new a at said lets only) = lacks_memory w is n old new a at said lets only
stays_tied w v is (Tells n l r at has) = tells w is n l r at has
stays_tied w v is (Ends n l at) = ends w is n l at
stays_tied w v is (Joins t none) = joins w is t none
stays_tied w v is (Wants r) = wants w is (r ∷ w.asked)
stays_tied w v is (Asks c t r at next) = asks w is c t r at next
stays_tied w v is (AsksAgain c t at) = wants w is (asked_again t.asker ++ w.asked)
stays_tied w v is (HearsAnswer c t a at told new) = hears_answer w is c t a at told new
stays_tied w v is (Prints c t word at had) = prints w is c t word at had

-- so each world that comes is, and its words are known
pub tied : {image : ImageContents} {keepers need : ℕ} {w : ProcessWorld} → Comes image keepers need w → IsTied w × AreWorded w.asked w.led
tied {image = image} {keepers = keepers} {need = need} (First w begins) =
    (first_tied image keepers need w begins, first_worded w.asked w.led begins.none_led)
tied (Then {w = w} {v = v} before next) =
    let (is, words) = tied before in let now = stays_tied w v is next in (now, stays_worded w v is now words next)

-- and it keeps its promises
pub processes : Processes
processes image keepers need w comes = let (is, words) = tied comes in promises w is words
