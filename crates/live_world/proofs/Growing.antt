-- A world of processes stays theirs where both get what is sent, and where both change a primary or a client.
use Rattle.std.proofs.Common.{◌≡◌, ◌++◌, ◌↔◌, inl, inr, ℕ, zero, suc, List, [], ◌∷◌, Contains, slice_get, slice_set, Some, ap, ◌∙◌}
use Rattle.std.proofs.lemmas.List.Elements.{Contains-append_cases, Contains-append_left, Contains-append_right}
use Rattle.std.proofs.lemmas.Option.{slice_get_within, get_or_from_slice_get}
use Rattle.fragment_codec.specs.declared.frame.Frame.{Frame}
use Rattle.leading.specs.Leaders.{LeaderView}
use Rattle.wire.specs.declared.answers.Answer.{Answer}
use Rattle.process_world.specs.Worlds.{Led, ProcessWorld, led_as}
use Rattle.live_world.specs.declared.seat.Seat.{Seat}
use Rattle.live_world.specs.declared.seat.Seat.TheVariants.{Runs, Ended}
use Rattle.live_world.specs.Seats.{IsSeatOf, AreSeatsOf}
use Rattle.live_world.specs.Views.{LiveView, IsWorldOf}

-- the primary that runs at a seat is the one that is led by this number
pub leads : (seats : List Seat) (led : List Led) (n : ℕ) (l : LeaderView) → AreSeatsOf seats led → slice_get seats n ≡ Some (Runs l) →
    slice_get led n ≡ Some (led_as l)
leads [] led n l are there = absurd cc
leads (Runs k ∷ seats) (m ∷ led) zero l are there =
    let same : Some (Runs k) ≡ Some (Runs l) = there in
    let one : k ≡ l = cc in ap Some are.0 ∙ ap (λ (x : LeaderView). Some (led_as x)) one
leads (Ended term ∷ seats) (m ∷ led) zero l are there = let same : Some (Ended term) ≡ Some (Runs l) = there in absurd cc
leads (s ∷ seats) (m ∷ led) (suc n) l are there = leads seats led n l are.1 there
leads (s ∷ seats) [] n l are there = absurd are

-- another primary at both
pub reseats : (seats : List Seat) (led : List Led) (n : ℕ) (s : Seat) (l : Led) → AreSeatsOf seats led → IsSeatOf s l →
    AreSeatsOf (slice_set seats n s) (slice_set led n l)
reseats [] [] n s l are is = are
reseats [] (m ∷ led) n s l are is = absurd are
reseats (k ∷ seats) [] n s l are is = absurd are
reseats (k ∷ seats) (m ∷ led) zero s l are is = (is, are.1)
reseats (k ∷ seats) (m ∷ led) (suc n) s l are is = (are.0, reseats seats led n s l are.1 is)

-- one more behind both
pub seats_more : (seats : List Seat) (led : List Led) (s : Seat) (l : Led) → AreSeatsOf seats led → IsSeatOf s l →
    AreSeatsOf (seats ++ s ∷ []) (led ++ l ∷ [])
seats_more [] [] s l are is = (is, tt)
seats_more [] (m ∷ led) s l are is = absurd are
seats_more (k ∷ seats) [] s l are is = absurd are
seats_more (k ∷ seats) (m ∷ led) s l are is = (are.0, seats_more seats led s l are.1 is)

-- what stands in a list is in it
pub contained : {A : Type 0} (xs : List A) (n : ℕ) (x : A) → slice_get xs n ≡ Some x → Contains xs x
contained xs n x there = (n, slice_get_within xs n x there, get_or_from_slice_get xs n x x there)

-- the same are in both where both got the same
pub both_more : {A : Type 0} (xs ys more : List A) → ((x : A) → Contains xs x ↔ Contains ys x) → (x : A) → Contains (xs ++ more) x ↔ Contains (more ++ ys) x
both_more xs ys more same x = (
  λ has. elim (Contains-append_cases xs more x has) [
    | inl old ↦ Contains-append_right more ys x ((same x).0 old)
    | inr new ↦ Contains-append_left more ys x new
  ],
  λ has. elim (Contains-append_cases more ys x has) [
    | inl new ↦ Contains-append_right xs more x new
    | inr old ↦ Contains-append_left xs more x ((same x).1 old)
  ],
)

-- what is sent is there where it is not lost
pub sent_more : {A : Type 0} (xs ys kept sent : List A) → ((x : A) → Contains xs x → Contains ys x) → ((x : A) → Contains kept x → Contains sent x) →
    (x : A) → Contains (xs ++ kept) x → Contains (ys ++ sent) x
sent_more xs ys kept sent old new x has =
    elim (Contains-append_cases xs kept x has) [
      | inl was ↦ Contains-append_left ys sent x (old x was)
      | inr is ↦ Contains-append_right ys sent x (new x is)
    ]

-- it is a world of theirs where both have other primaries, frames and answers
pub led_on : (v : LiveView) (w : ProcessWorld) (seats : List Seat) (led : List Led) (frames sent : List Frame) (told says : List Answer) → IsWorldOf v w →
    AreSeatsOf seats led → ((f : Frame) → Contains frames f → Contains sent f) → ((a : Answer) → Contains told a ↔ Contains says a) →
    IsWorldOf (record v { led = seats; frames = frames; told = told }) (record w { led = led; frames = sent; told = says })
led_on v w seats led frames sent told says is are there both =
    record {
      image = is.image;
      keepers = is.keepers;
      need = is.need;
      disks = is.disks;
      at_rest = is.at_rest;
      frames = there;
      said = is.said;
      handed = λ h has. let at = is.handed h has in record { bytes = at.bytes; there = at.there; line = at.line; named = at.named };
      led = are;
      told = both;
      clients = is.clients;
      asked = is.asked;
    }

-- the primary that runs at a seat is another
pub seat_on : (v : LiveView) (w : ProcessWorld) (n : ℕ) (s : Seat) (l : Led) → IsWorldOf v w → IsSeatOf s l →
    IsWorldOf (record v { led = slice_set v.led n s }) (record w { led = slice_set w.led n l })
seat_on v w n s l is seat =
    led_on v w (slice_set v.led n s) (slice_set w.led n l) v.frames w.frames v.told w.told is (reseats v.led w.led n s l is.led seat) is.frames is.told
