-- What happens one behind the other.
use Rattle.std.proofs.Common.{◌≡◌, ℕ, sym, subst}
use Rattle.guest_image.specs.Image.{ImageContents}
use Rattle.process_world.specs.Worlds.{ProcessWorld}
use Rattle.process_world.specs.Happenings.{Happens, Comes, Then as ComesThen}
use Rattle.live_world.specs.Views.{LiveView, Follows, Same, Then as FollowsThen, GoesTo, IsWorldOf}

pub once : {w v : ProcessWorld} → Happens w v → Follows w v
once h = FollowsThen Same h

pub follow : {w v u : ProcessWorld} → Follows w v → Follows v u → Follows w u
follow a Same = a
follow a (FollowsThen b h) = FollowsThen (follow a b) h

pub comes_on : {image : ImageContents} {keepers need : ℕ} {w v : ProcessWorld} → Comes image keepers need w → Follows w v → Comes image keepers need v
comes_on c Same = c
comes_on c (FollowsThen f h) = ComesThen (comes_on c f) h

-- nothing happens to what stays as it is
pub goes_nowhere : {v u : LiveView} → u ≡ v → GoesTo v u
goes_nowhere same = λ w comes is. (w, Same, subst (λ (l : LiveView). IsWorldOf l w) (sym same) is)
