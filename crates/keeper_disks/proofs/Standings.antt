-- An empty disk stands for a keeper that has nothing, and each for its keeper whatever becomes of others; and each can crash.
use Rattle.std.proofs.Common.{ℕ, List, [], ◌++◌, Contains, refl, ◌∙◌, arith}
use Rattle.ft_types.specs.Guests.{GuestParts}
use Rattle.fragment_codec.specs.declared.frame.Frame.{Frame}
use Rattle.fragment_codec.proofs.streams.Splits.{splits_none}
use Rattle.log_join.specs.Stores.{nothing}
use Rattle.keeper_disks.specs.Disks.{Phase, Away, HasRead, Rests, Adding, Synced}
use Rattle.keeper_disks.specs.Standing.{HasFrames, Knows, DisksBegin, DisksStay, DisksCrash}
use Rattle.keeper_disks.proofs.Has.{front_of_whole, were_sent, still_sent}

no_frames : (guest : GuestParts) (sent : List Frame) → HasFrames guest sent [] [] (nothing guest)
no_frames guest sent =
    record { frames = []; splits = splits_none []; each = λ f has. absurd (let z = has.1 in omega (arith, z)); join = refl }

pub disks_begin : (Book : Type 0) (guest : GuestParts) → DisksBegin Book guest
disks_begin Book guest w keeper has wrote fence =
    record {
      store = nothing guest;
      written = nothing guest;
      has_it = has;
      wrote_it = wrote;
      log = front_of_whole guest w.sent [] (nothing guest) (no_frames guest w.sent);
      safe = no_frames guest w.sent;
      begins = ([], refl);
      fence_is = fence;
      keeper = tt;
      hand = tt;
    }

knows_still : (guest : GuestParts) (sent now : List Frame) → ((f : Frame) → Contains sent f → Contains now f) → (log safe : List ℕ) (phase : Phase) →
    Knows guest sent log safe phase → Knows guest now log safe phase
knows_still guest sent now more log safe Away k = k
knows_still guest sent now more log safe (HasRead bytes) k = k
knows_still guest sent now more log safe (Rests st) k = still_sent guest sent now more (log ++ st.fresh) [] st.store k
knows_still guest sent now more log safe (Adding st rest) k = still_sent guest sent now more (log ++ rest) [] st.store k
knows_still guest sent now more log safe (Synced st) k = (still_sent guest sent now more log [] st.store k.0, k.1)

pub disks_stay : (Book : Type 0) (guest : GuestParts) → DisksStay Book guest
disks_stay Book guest w v keeper d s same more =
    record {
      store = s.store;
      written = s.written;
      has_it = same.stores ∙ s.has_it;
      wrote_it = same.saved ∙ s.wrote_it;
      log = (s.log.0, s.log.1, still_sent guest w.sent v.sent more d.files.log s.log.0 s.store s.log.2);
      safe = still_sent guest w.sent v.sent more d.files.safe [] s.written s.safe;
      begins = s.begins;
      fence_is = same.fence ∙ s.fence_is;
      keeper = knows_still guest w.sent v.sent more d.files.log d.files.safe d.keeper s.keeper;
      hand = s.hand;
    }

pub disks_crash : (Book : Type 0) (guest : GuestParts) → DisksCrash Book guest
disks_crash Book guest w keeper d s = (
  were_sent guest w.sent d.files.log s.store s.log,
  were_sent guest w.sent d.files.safe s.written (front_of_whole guest w.sent d.files.safe s.written s.safe),
)
