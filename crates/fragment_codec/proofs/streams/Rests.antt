-- One piece after another.
use Rattle.std.proofs.Common.{◌≡◌, ℕ, List, [], ◌++◌, Option, Some, None, refl, sym, ap, subst, ◌∙◌}
use Rattle.std.proofs.lemmas.List.{append-nil}
use Rattle.fragment_codec.specs.declared.fault.FrameFault.{FrameFault}
use Rattle.fragment_codec.specs.declared.frame.Frame.{Frame}
use Rattle.fragment_codec.specs.Streams.{IsPartial, Splits, Unread, Keeps, Follows, HasFault}
use Rattle.fragment_codec.specs.machinery.Fronts.{Advances}
use Rattle.fragment_codec.proofs.streams.Faults.{fault_more}
use Rattle.fragment_codec.proofs.streams.Splits.{splits_none, splits_more, splits_on}

pub nothing_yet : (feed : Unread) → feed ≡ record { rest = []; fault = None } → IsPartial [] → Follows [] [] feed
nothing_yet feed e p = rw e (record { rest = []; splits = splits_none []; keeps = (refl, p) })

-- a feed without a fault goes on
pub follows_on : (stream piece : List ℕ) (given frames : List Frame) (old new : Unread) → old.fault ≡ None → Advances old.rest piece frames new.fault new.rest →
    Follows stream given old → Follows (stream ++ piece) (given ++ frames) new
follows_on stream piece given frames old new none a f =
    let k = subst (λ (o : Option FrameFault). Keeps f.rest old.rest o) none f.keeps in
    record {
      rest = a.rest;
      splits =
          splits_on (stream ++ piece) (f.rest ++ piece) a.rest given frames (splits_more stream f.rest piece given f.splits)
          (subst (λ (x : List ℕ). Splits (x ++ piece) frames a.rest) k.0 a.splits);
      keeps = a.keeps;
    }

-- where no frame is completed
pub follows_none : (stream piece : List ℕ) (given frames : List Frame) (old new : Unread) → old.fault ≡ None → Advances old.rest piece frames new.fault
    new.rest → frames ≡ [] → Follows stream given old → Follows (stream ++ piece) given new
follows_none stream piece given frames old new none a nothing f =
    subst (λ (fs : List Frame). Follows (stream ++ piece) fs new) (ap (λ (x : List Frame). given ++ x) nothing ∙ append-nil given)
    (follows_on stream piece given frames old new none a f)

-- a fault stays
pub follows_fault : (stream piece : List ℕ) (given : List Frame) (old : Unread) (fault : FrameFault) → old.fault ≡ Some fault → Follows stream given old →
    Follows (stream ++ piece) given old
follows_fault stream piece given old fault some f =
    let k : HasFault f.rest fault = subst (λ (o : Option FrameFault). Keeps f.rest old.rest o) some f.keeps in
    record {
      rest = f.rest ++ piece;
      splits = splits_more stream f.rest piece given f.splits;
      keeps = subst (λ (o : Option FrameFault). Keeps (f.rest ++ piece) old.rest o) (sym some) (fault_more f.rest piece fault k);
    }

pub no_fault : (o : Option FrameFault) → ((f : FrameFault) → o ≡ Some f → ⊥) → o ≡ None
no_fault None h = refl
no_fault (Some f) h = absurd (h f refl)
