-- Frames of a log and the store that has them.
use Rattle.std.proofs.Common.{◌≡◌, ℕ, List, [], ◌++◌, Contains, refl, sym, subst, inl, inr}
use Rattle.std.proofs.lemmas.List.Elements.{Contains-append_left, Contains-append_cases}
use Rattle.ft_types.specs.Guests.{GuestParts}
use Rattle.fragment_codec.specs.declared.frame.Frame.{Frame}
use Rattle.fragment_codec.specs.Streams.{IsStuck, Splits}
use Rattle.fragment_codec.proofs.streams.Readings.{one_stream}
use Rattle.fragment_codec.proofs.streams.Splits.{splits_more, splits_on}
use Rattle.log_join.specs.Coming.{Come, IsJoinOf}
use Rattle.log_join.specs.Stores.{StoreView, nothing}
use Rattle.keeper_disks.specs.Disks.{WereSent}
use Rattle.keeper_disks.specs.Standing.{HasFrames, HasFront}
use Rattle.keeper_disks.proofs.Frames.{stuck_nothing, begins_frames}
use Rattle.keeper_disks.proofs.Comings.{come_same, come_more}

module _ (guest : GuestParts) (sent : List Frame) where
  -- whole frames are a front
  pub front_of_whole : (bytes : List ℕ) (store : StoreView) → HasFrames guest sent bytes [] store → HasFront guest sent bytes store
  front_of_whole bytes store h = ([], stuck_nothing, h)

  -- a front is all frames that are read there
  abbrev pub front_is : (bytes rest : List ℕ) (fs : List Frame) (store : StoreView) → HasFront guest sent bytes store → Splits bytes fs rest → IsStuck rest →
      HasFrames guest sent bytes rest store
  front_is bytes rest fs store h s k =
      let same : h.2.frames ≡ fs = (one_stream bytes h.2.frames fs h.0 rest h.2.splits s h.1 k).0 in
      record {
        frames = fs;
        splits = s;
        each = subst (λ (gs : List Frame). (f : Frame) → Contains gs f → Contains sent f) same h.2.each;
        join = subst (λ (gs : List Frame). IsJoinOf guest gs store) same h.2.join;
      }

  -- two stores of one log are one
  pub one_store : (bytes : List ℕ) (a b : StoreView) → HasFront guest sent bytes a → HasFront guest sent bytes b → a ≡ b
  one_store bytes a b h k =
      let other = front_is bytes k.0 k.2.frames a h k.2.splits k.1 in come_same (nothing guest) (nothing guest) k.2.frames a b refl other.join k.2.join

  pub each_of : (fs gs : List Frame) → ((f : Frame) → Contains fs f → Contains sent f) → ((f : Frame) → Contains gs f → Contains sent f) →
      (f : Frame) → Contains (fs ++ gs) f → Contains sent f
  each_of fs gs one two f has = elim (Contains-append_cases fs gs f has) [ inl a ↦ one f a | inr b ↦ two f b ]

  -- with more frames behind whole ones
  pub has_more : (bytes more rest : List ℕ) (old new : StoreView) (fs : List Frame) → HasFrames guest sent bytes [] old → Splits more fs rest →
      ((f : Frame) → Contains fs f → Contains sent f) → Come old fs new → HasFrames guest sent (bytes ++ more) rest new
  has_more bytes more rest old new fs h s each come =
      record {
        frames = h.frames ++ fs;
        splits = splits_on (bytes ++ more) more rest h.frames fs (splits_more bytes [] more h.frames h.splits) s;
        each = each_of h.frames fs h.each each;
        join = come_more (nothing guest) old new h.frames fs h.join come;
      }

  -- each frame that is read there was sent
  pub were_sent : (bytes : List ℕ) (store : StoreView) → HasFront guest sent bytes store → WereSent sent bytes
  were_sent bytes store h gs rest s f has =
      let b = begins_frames bytes h.0 rest h.2.frames gs h.2.splits h.1 s in
      h.2.each f (subst (λ (fs : List Frame). Contains fs f) (sym b.1) (Contains-append_left gs b.0 f has))

  -- and so it is of any beginning
  pub begin_sent : (bytes more : List ℕ) (store : StoreView) → HasFrames guest sent (bytes ++ more) [] store → WereSent sent bytes
  begin_sent bytes more store h fs rest s f has =
      were_sent (bytes ++ more) store (front_of_whole (bytes ++ more) store h) fs (rest ++ more) (splits_more bytes rest more fs s) f has

  -- what was sent is sent still
  pub still_sent : (now : List Frame) → ((f : Frame) → Contains sent f → Contains now f) → (bytes rest : List ℕ) (store : StoreView) →
      HasFrames guest sent bytes rest store → HasFrames guest now bytes rest store
  still_sent now more bytes rest store h =
      record { frames = h.frames; splits = h.splits; each = λ f has. more f (h.each f has); join = h.join }
