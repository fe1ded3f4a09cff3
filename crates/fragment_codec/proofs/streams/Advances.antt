-- One piece of a stream.
use Rattle.std.proofs.Common.{◌≡◌, ℕ, ◌≤◌, List, [], ◌∷◌, ◌++◌, length, take, drop, Option, Some, None, Ok, refl, sym, ap, subst, ◌∙◌, append_assoc, arith}
use Rattle.std.proofs.lemmas.List.{drop_all, take-append-drop}
use Rattle.fragment_codec.specs.declared.fault.FrameFault.{FrameFault}
use Rattle.fragment_codec.specs.declared.frame.Frame.{Frame}
use Rattle.fragment_codec.specs.declared.front.Front.TheVariants.{Whole}
use Rattle.fragment_codec.specs.Streams.{HasFault, Splits, Keeps, head_of}
use Rattle.fragment_codec.specs.machinery.Fronts.{IsFront, Advances}
use Rattle.fragment_codec.proofs.bytes.Heads.{partial_len}
use Rattle.fragment_codec.proofs.streams.Faults.{fault_more}
use Rattle.fragment_codec.proofs.streams.Splits.{splits_none, splits_more, splits_front}

joined : (held piece now : List ℕ) (taken : ℕ) → now ≡ held ++ take taken piece → now ++ drop taken piece ≡ held ++ piece
joined held piece now taken e =
    ap (λ (x : List ℕ). x ++ drop taken piece) e ∙ append_assoc held (take taken piece) (drop taken piece) ∙ ap (λ (x : List ℕ). held ++ x)
    (take-append-drop taken piece)

pub to_fault : (held piece new now : List ℕ) (frames : List Frame) (taken : ℕ) (f : FrameFault) → frames ≡ [] → now ≡ held ++ take taken piece →
    HasFault now f → Advances held piece frames (Some f) new
to_fault held piece new now frames taken f none e h =
    subst (λ (fs : List Frame). Advances held piece fs (Some f) new) (sym none)
    (record {
      rest = held ++ piece;
      splits = splits_none (held ++ piece);
      keeps = subst (λ (x : List ℕ). HasFault x f) (joined held piece now taken e)
          (fault_more now (drop taken piece) f h);
    })

keeps_new : (rest new : List ℕ) (fault : Option FrameFault) → Keeps rest rest fault → (fault ≡ None → new ≡ rest) → Keeps rest new fault
keeps_new rest new None k h = (h refl, k.1)
keeps_new rest new (Some f) k h = k

pub kept_len : (rest : List ℕ) (fault : Option FrameFault) → Keeps rest rest fault → fault ≡ None → length rest ≤ 4708
kept_len rest None k e = omega (arith, partial_len rest k.1)
kept_len rest (Some f) k e = absurd cc

pub to_frames : (held piece new now behind rest : List ℕ) (none pushed frames : List Frame) (frame : Frame) (n taken : ℕ) (fault : Option FrameFault)
    → none ≡ [] → pushed ≡ none ++ frame ∷ [] → now ≡ held ++ take taken piece → IsFront now (Whole frame n) → ((k : ℕ) → head_of now ≡ Ok (Some k) →
    length now ≤ k) → behind ≡ drop taken piece → ((stream : List ℕ) → Splits stream pushed behind → Splits stream frames rest) →
    Keeps rest rest fault → (fault ≡ None → new ≡ rest) → Advances held piece frames fault new
to_frames held piece new now behind rest none pushed frames frame n taken fault e0 e1 en front full eb splits keeps kept =
    let one : pushed ≡ frame ∷ [] = e1 ∙ ap (λ (x : List Frame). x ++ frame ∷ []) e0 in
    let nothing : drop n now ≡ [] = drop_all n now (full n front.0.head) in
    let first : Splits now (frame ∷ []) [] = subst (Splits now (frame ∷ [])) nothing (splits_front now frame n front) in
    let whole : now ++ behind ≡ held ++ piece = ap (λ (x : List ℕ). now ++ x) eb ∙ joined held piece now taken en in
    record {
      rest = rest;
      splits =
          splits (held ++ piece)
          (subst (λ (fs : List Frame). Splits (held ++ piece) fs behind) (sym one)
          (subst (λ (x : List ℕ). Splits x (frame ∷ []) behind) whole (splits_more now [] behind (frame ∷ []) first)));
      keeps = keeps_new rest new fault keeps kept;
    }
