-- What a log is filled with.
use Rattle.std.proofs.Common.{◌≡◌, inl, inr, ◌<◌, ◌≤◌, ◌+◌, ℕ, List, [], ◌∷◌, ◌++◌, length, take, drop, get_or, Contains, Option, None, Some, refl, sym, ap, subst, ◌∙◌, append_assoc, append-nil, arith}
use Rattle.std.proofs.lemmas.List.{take_more, drop_more, take-append-drop}
use Rattle.std.proofs.lemmas.List.Elements.{Contains-append_left, Contains-append_right, Contains-append_cases}
use Rattle.std.proofs.Math.ListN.{drop_of_length-le}
use Rattle.ft_types.specs.Guests.{GuestParts}
use Rattle.fragment_codec.specs.declared.fault.FrameFault.{FrameFault}
use Rattle.fragment_codec.specs.declared.frame.Frame.{Frame}
use Rattle.fragment_codec.specs.Streams.{spelling, Splits}
use Rattle.fragment_codec.proofs.streams.Splits.{splits_none, splits_more, splits_on}
use Rattle.log_join.specs.Answers.{answer_to}
use Rattle.log_join.specs.Coming.{IsJoinOf}
use Rattle.log_join.specs.Stores.{StoreView, IsJoin, alone, nothing}
use Rattle.stations.specs.Logs.{IsFrontOf}
use Rattle.stations.proofs.Held.{come_one}
use Rattle.log_mending.specs.Gathering.{IsGathered, StopsAt, put_of}
use Rattle.log_mending.specs.Filling.{IsFaultOfFrame, IsFaultOfFrames, IsFaultOfLogs}
use Rattle.log_mending.specs.Mending.{AreFrontOf, AreFronts, HasNoFrames, IsFilled, IsMended, IsNotMended, IsUnfit, IsWholeLog}
use Rattle.log_mending.specs.declared.faults.MendFault.{MendFault}
use Rattle.log_mending.specs.declared.faults.MendFault.TheVariants.{Files, Behind, Own, Other}
use Rattle.log_mending.specs.declared.faults.Misfit.{Misfit}

-- a frame that lacked
pub fills_new : (guest : GuestParts) (front : List ℕ) (own given : List Frame) (fresh added : List ℕ) (old new : StoreView) (frame : Frame) →
    IsJoin old (alone frame) new → added ≡ fresh ++ spelling frame → Splits (spelling frame) (frame ∷ []) [] → IsFilled guest front own given fresh old →
    IsFilled guest front own (given ++ frame ∷ []) added new
fills_new guest front own given fresh added old new frame joined e one f = record {
  more = f.more ++ frame ∷ [];
  some = λ g has. elim (Contains-append_cases f.more (frame ∷ []) g has) [
    | inl was ↦ Contains-append_left given (frame ∷ []) g (f.some g was)
    | inr new ↦ Contains-append_right given (frame ∷ []) g new
  ];
  splits =
      let bytes : front ++ added ≡ (front ++ fresh) ++ spelling frame =
      ap (λ (x : List ℕ). front ++ x) e ∙ sym (append_assoc front fresh (spelling frame)) in
      subst (λ (x : List ℕ). Splits x (own ++ (f.more ++ frame ∷ [])) []) (sym bytes)
      (subst (λ (fs : List Frame). Splits ((front ++ fresh) ++ spelling frame) fs []) (append_assoc own f.more (frame ∷ []))
      (splits_on _ (spelling frame) [] (own ++ f.more) (frame ∷ []) (splits_more (front ++ fresh) [] (spelling frame) (own ++ f.more) f.splits) one));
  same =
      subst (λ (fs : List Frame). IsJoinOf guest fs new) (append_assoc own f.more (frame ∷ []))
      (come_one (nothing guest) old new (own ++ f.more) frame f.same joined);
  all =
      subst (λ (fs : List Frame). IsJoinOf guest fs new) (append_assoc own given (frame ∷ []))
      (come_one (nothing guest) old new (own ++ given) frame f.all joined);
}

-- a frame that was there
pub fills_same : (guest : GuestParts) (front : List ℕ) (own given : List Frame) (fresh : List ℕ) (old new : StoreView) (frame : Frame) →
    IsJoin old (alone frame) new → new ≡ old → IsFilled guest front own given fresh old → IsFilled guest front own (given ++ frame ∷ []) fresh new
fills_same guest front own given fresh old new frame joined e f = record {
  more = f.more;
  some = λ g has. Contains-append_left given (frame ∷ []) g (f.some g has);
  splits = f.splits;
  same = subst (λ (s : StoreView). IsJoinOf guest (own ++ f.more) s) (sym e) f.same;
  all =
      subst (λ (fs : List Frame). IsJoinOf guest fs new) (append_assoc own given (frame ∷ []))
      (come_one (nothing guest) old new (own ++ given) frame f.all joined);
}

-- nothing was given yet
pub fills_none : (guest : GuestParts) (front : List ℕ) (own : List Frame) (store : StoreView) → Splits front own [] → IsJoinOf guest own store →
    IsFilled guest front own [] [] store
fills_none guest front own store s j = record {
  more = [];
  some = λ g (k, below, is). absurd (omega arith);
  splits =
      subst (λ (x : List ℕ). Splits x (own ++ []) []) (sym (append-nil front))
      (subst (λ (fs : List Frame). Splits front fs []) (sym (append-nil own)) s);
  same = subst (λ (fs : List Frame). IsJoinOf guest fs store) (sym (append-nil own)) j;
  all = subst (λ (fs : List Frame). IsJoinOf guest fs store) (sym (append-nil own)) j;
}

-- a log in which there was nothing
pub whole_log : (guest : GuestParts) (others : List (List ℕ)) (given : List Frame) (added : List ℕ) (store : StoreView) → AreFronts others given →
    IsFilled guest [] [] given added store → IsWholeLog guest others added
whole_log guest others given added store fronts f =
    record { given = given; fronts = fronts; frames = f.more; splits = f.splits; some = f.some; store = store; same = f.same; all = f.all }

-- nothing is there at first
pub fills_nothing : (guest : GuestParts) (fresh : List ℕ) (store : StoreView) → fresh ≡ [] → store ≡ nothing guest → IsFilled guest [] [] [] fresh store
fills_nothing guest fresh store none new =
    subst (λ (bytes : List ℕ). IsFilled guest [] [] [] bytes store) (sym none)
    (subst (λ (s : StoreView). IsFilled guest [] [] [] [] s) (sym new) (fills_none guest [] [] (nothing guest) (splits_none []) refl))

-- the front of one log more
pub fronts_more : (logs : List (List ℕ)) (log : List ℕ) (given first : List Frame) → AreFronts logs given → AreFrontOf log first →
    AreFronts (logs ++ log ∷ []) (given ++ first)
fronts_more [] log given first e f = (first, [], ap (λ (xs : List Frame). xs ++ first) e ∙ sym (append-nil first), f, refl)
fronts_more (l ∷ logs) log given first a f =
    (a.0, a.1 ++ first, ap (λ (xs : List Frame). xs ++ first) a.2 ∙ append_assoc a.0 a.1 first, a.3, fronts_more logs log a.1 first a.4 f)

-- a frame that the store of those before it does not take
pub unfit_at : (guest : GuestParts) (own given yielded behind frames : List Frame) (frame : Frame) (store : StoreView) (misfit : Misfit) →
    frames ≡ yielded ++ frame ∷ behind → IsJoinOf guest (own ++ (given ++ yielded)) store → answer_to store frame ≡ put_of misfit →
    IsUnfit guest (own ++ (given ++ frames)) misfit
unfit_at guest own given yielded behind frames frame store misfit e join answer = record {
  before = own ++ (given ++ yielded);
  frame = frame;
  behind = behind;
  parts =
      ap (λ (xs : List Frame). own ++ (given ++ xs)) e ∙ ap (λ (xs : List Frame). own ++ xs) (sym (append_assoc given yielded (frame ∷ behind)))
      ∙ sym (append_assoc own (given ++ yielded) (frame ∷ behind));
  store = store;
  join = join;
  answer = answer;
}

-- nothing is there
pub is_none : {A : Type 0} (o : Option A) → ((x : A) → o ≡ Some x → ⊥) → o ≡ None
is_none None none = refl
is_none (Some x) none = absurd (none x refl)

-- why one of these frames is not added
pub frames_fault : (guest : GuestParts) (own given yielded behind frames : List Frame) (frame : Frame) (store : StoreView) (number : ℕ) (fault : MendFault) →
    frames ≡ yielded ++ frame ∷ behind → IsJoinOf guest (own ++ (given ++ yielded)) store → IsFaultOfFrame store frame number fault →
    IsFaultOfFrames guest (own ++ (given ++ frames)) number fault
frames_fault guest own given yielded behind frames frame store number (Files x) e join h = h
frames_fault guest own given yielded behind frames frame store number Behind e join h = h
frames_fault guest own given yielded behind frames frame store number (Own misfit) e join h = h
frames_fault guest own given yielded behind frames frame store number (Other n misfit) e join h =
    (h.0, unfit_at guest own given yielded behind frames frame store misfit e join h.1)

-- why one of the frames of these logs is not added
pub logs_fault : (guest : GuestParts) (own given frames : List Frame) (earlier later others : List (List ℕ)) (other : List ℕ) (number : ℕ) (fault : MendFault) →
    others ≡ earlier ++ other ∷ later → length earlier ≡ number → AreFronts earlier given → AreFrontOf other frames →
    IsFaultOfFrames guest (own ++ (given ++ frames)) number fault → IsFaultOfLogs guest own others fault
logs_fault guest own given frames earlier later others other number (Files x) e is fronts front h = h
logs_fault guest own given frames earlier later others other number Behind e is fronts front h = h
logs_fault guest own given frames earlier later others other number (Own misfit) e is fronts front h = h
logs_fault guest own given frames earlier later others other number (Other n misfit) e is fronts front h = record {
  earlier = earlier;
  other = other;
  later = later;
  parts = e;
  is = is ∙ sym h.0;
  given = given;
  fronts = fronts;
  frames = frames;
  front = front;
  unfit = h.1;
}

-- what a log that was filled comes to
pub mended : (guest : GuestParts) (log behind : List ℕ) (others : List (List ℕ)) (own : List Frame) (size : ℕ) (fault : Option FrameFault) (given : List Frame)
    (added : List ℕ) (store : StoreView) → IsFrontOf log own size fault → behind ≡ drop size log → HasNoFrames behind → AreFronts others given →
    IsFilled guest (take size log) own given added store → IsMended guest log others size added
mended guest log behind others own size fault given added store front is nothing fronts filled = record {
  own = own;
  fault = fault;
  front = front;
  nothing_behind = subst HasNoFrames is nothing;
  given = given;
  fronts = fronts;
  store = store;
  filled = filled;
}

-- why a log with these frames is not mended
pub not_mended : (guest : GuestParts) (log : List ℕ) (others : List (List ℕ)) (own : List Frame) (fault : MendFault) → AreFrontOf log own →
    IsFaultOfLogs guest own others fault → IsNotMended guest log others fault
not_mended guest log others own (Files x) front h = h
not_mended guest log others own Behind front h = absurd h
not_mended guest log others own (Own misfit) front h = absurd h
not_mended guest log others own (Other number misfit) front h = (own, front, h)

-- the store of all own frames, or the first that does not go with those before it
pub all_gathered : (guest : GuestParts) (frames : List Frame) (taken : ℕ) (misfit : Option Misfit) (store : StoreView) → misfit ≡ None →
    IsGathered guest frames taken misfit store → IsJoinOf guest frames store
all_gathered guest frames taken misfit store none g =
    let stops : StopsAt store g.rest None = subst (λ (m : Option Misfit). StopsAt store g.rest m) none g.stops in
    let all : g.first ≡ frames = sym (g.parts ∙ ap (λ (xs : List Frame). g.first ++ xs) stops ∙ append-nil g.first) in
    subst (λ (fs : List Frame). IsJoinOf guest fs store) all g.join

pub unfit_own : (guest : GuestParts) (frames : List Frame) (taken : ℕ) (misfit : Option Misfit) (m : Misfit) (store : StoreView) → misfit ≡ Some m →
    IsGathered guest frames taken misfit store → IsUnfit guest frames m
unfit_own guest frames taken misfit m store some g =
    let stops : StopsAt store g.rest (Some m) = subst (λ (x : Option Misfit). StopsAt store g.rest x) some g.stops in
    record {
      before = g.first;
      frame = stops.0;
      behind = stops.1;
      parts = g.parts ∙ ap (λ (xs : List Frame). g.first ++ xs) stops.2;
      store = store;
      join = g.join;
      answer = stops.3;
    }

-- one log more of those in a row
pub front_more : (texts : List (List ℕ)) (n : ℕ) (log : List ℕ) (given frames : List Frame) → n < length texts → get_or texts n log ≡ log →
    AreFronts (take n texts) given → AreFrontOf log frames → AreFronts (take (n + 1) texts) (given ++ frames)
front_more texts n log given frames lt is a f =
    subst (λ (ts : List (List ℕ)). AreFronts ts (given ++ frames)) (sym (take_more texts n log lt ∙ ap (λ (l : List ℕ). take n texts ++ l ∷ []) is))
    (fronts_more (take n texts) log given frames a f)

-- it stands behind those before it
pub parts_at : (texts : List (List ℕ)) (n : ℕ) (log : List ℕ) → n < length texts → get_or texts n log ≡ log →
    texts ≡ take n texts ++ log ∷ drop (n + 1) texts
parts_at texts n log lt is =
    sym (take-append-drop n texts)
    ∙ ap (λ (xs : List (List ℕ)). take n texts ++ xs) (drop_more texts n log lt ∙ ap (λ (l : List ℕ). l ∷ drop (n + 1) texts) is)

-- all of them
pub fronts_all : (texts : List (List ℕ)) (n : ℕ) (given : List Frame) → length texts ≤ n → AreFronts (take n texts) given → AreFronts texts given
fronts_all texts n given le a =
    subst (λ (ts : List (List ℕ)). AreFronts ts given)
    (sym (append-nil (take n texts)) ∙ ap (λ (xs : List (List ℕ)). take n texts ++ xs) (sym (drop_of_length-le texts le)) ∙ take-append-drop n texts) a
