-- What was acknowledged is in what is handed over.
use Rattle.std.proofs.Common.{◌≡◌, ◌+◌, ◌-◌, ◌≤◌, ◌⊎◌, ℕ, List, [], ◌∷◌, ◌++◌, length, take, drop, refl, sym, ap, subst, ◌∙◌, append_assoc, append-nil, arith, inl, inr, None}
use Rattle.std.proofs.lemmas.List.{take_at, drop_at, length-append}
use Rattle.std.proofs.Math.Seq.{take-add}
use Rattle.fragment_codec.specs.declared.frame.Frame.{Frame}
use Rattle.fragment_codec.specs.Streams.{Splits}
use Rattle.stations.specs.Acts.{SawLog, CutTo, Added, Synced, SawFence, Fenced, Failed}
use Rattle.stations.specs.Handshake.{Happening, Did, Crash, Files, after, all_after, IsBeginning, IsTrue, AllTrue, Acknowledged, HandedOver, Handshake}
use Rattle.stations.proofs.Fronts.{most}

-- ---- two places of one list

pub record Later {A : Type 0} (xs : List A) (x : A) (ys us : List A) (u : A) (vs : List A) : Type 0 where
  pub between : List A
  pub first : us ≡ xs ++ x ∷ between
  pub second : ys ≡ between ++ u ∷ vs

two_places : {A : Type 0} (xs us : List A) (x u : A) (ys vs : List A) → xs ++ x ∷ ys ≡ us ++ u ∷ vs →
    Later xs x ys us u vs ⊎ ((x ≡ u) ⊎ Later us u vs xs x ys)
two_places [] [] x u ys vs e = inr (inl cc)
two_places [] (w ∷ us) x u ys vs e = inl (record { between = us; first = cc; second = cc })
two_places (z ∷ xs) [] x u ys vs e = inr (inr (record { between = xs; first = cc; second = cc }))
two_places {A} (z ∷ xs) (w ∷ us) x u ys vs e =
    let tails : xs ++ x ∷ ys ≡ us ++ u ∷ vs = cc in
    let heads : z ≡ w = cc in
    elim (two_places xs us x u ys vs tails) [
      | inl l ↦ inl (record { between = l.between; first = ap (λ (h : A). h ∷ us) (sym heads) ∙ ap (λ (l : List A). z ∷ l) l.first; second = l.second })
      | inr other ↦ elim other [
        | inl same ↦ inr (inl same)
        | inr l ↦ inr (inr (record { between = l.between; first = ap (λ (h : A). h ∷ xs) heads ∙ ap (λ (l : List A). w ∷ l) l.first; second = l.second }))
      ]
    ]

-- ---- what is true along a list

true_at : (files : Files) (xs : List Happening) (next : Happening) (ys : List Happening) → AllTrue files (xs ++ next ∷ ys) →
    IsTrue (all_after files xs) next × AllTrue (after (all_after files xs) next) ys
true_at files [] next ys h = h
true_at files (x ∷ xs) next ys h = true_at (after files x) xs next ys h.1

fence_stays : (files : Files) (next : Happening) → files.fence ≤ (after files next).fence
fence_stays files (Did (Added bytes)) = omega arith
fence_stays files (Did (CutTo size)) = omega arith
fence_stays files (Did Synced) = omega arith
fence_stays files (Did (Fenced term)) = omega arith
fence_stays files (Did (SawLog bytes)) = omega arith
fence_stays files (Did (SawFence fence)) = omega arith
fence_stays files (Did (Failed fault)) = omega arith
fence_stays files (Crash left) = omega arith

fence_grows : (files : Files) (all : List Happening) → files.fence ≤ (all_after files all).fence
fence_grows files [] = omega arith
fence_grows files (next ∷ all) = omega (arith, fence_stays files next, fence_grows (after files next) all)

after_append : (files : Files) (xs : List Happening) (next : Happening) (ys : List Happening) →
    all_after files (xs ++ next ∷ ys) ≡ all_after (after (all_after files xs) next) ys
after_append files [] next ys = refl
after_append files (x ∷ xs) next ys = after_append (after files x) xs next ys

-- ---- what stays in the log

pub record Has (log : List ℕ) (files : Files) : Type 0 where
  pub there : IsBeginning log files.log
  pub safe : IsBeginning log files.safe

pub begins_more : (xs ys more : List ℕ) → IsBeginning xs ys → IsBeginning xs (ys ++ more)
begins_more xs ys more b = (b.0 ++ more, ap (λ (l : List ℕ). l ++ more) b.1 ∙ append_assoc xs b.0 more)

begins_then : (xs ys zs : List ℕ) → IsBeginning xs ys → IsBeginning ys zs → IsBeginning xs zs
begins_then xs ys zs b c = (b.0 ++ c.0, c.1 ∙ ap (λ (l : List ℕ). l ++ c.0) b.1 ∙ append_assoc xs b.0 c.0)

take_past : (xs ys : List ℕ) (size : ℕ) → length xs ≤ size → take size (xs ++ ys) ≡ xs ++ take (size - length xs) ys
take_past xs ys size le =
    let whole : size ≡ length xs + (size - length xs) = omega (arith, le) in
    ap (λ (n : ℕ). take n (xs ++ ys)) whole ∙ take-add (length xs) (size - length xs) (xs ++ ys)
    ∙ ap (λ (l : List ℕ). l ++ take (size - length xs) (drop (length xs) (xs ++ ys))) (take_at xs ys (length xs) refl)
    ∙ ap (λ (l : List ℕ). xs ++ take (size - length xs) l) (drop_at xs ys (length xs) refl)

-- a beginning that is not longer is kept by a cut
pub begins_cut : (xs ys : List ℕ) (size : ℕ) → length xs ≤ size → IsBeginning xs ys → IsBeginning xs (take size ys)
begins_cut xs ys size le b = (take (size - length xs) b.0, ap (take size) b.1 ∙ take_past xs b.0 size le)

pub begins_len : (xs ys : List ℕ) → IsBeginning xs ys → length xs ≤ length ys
begins_len xs ys b = omega (arith, ap length b.1, length-append xs b.0)

pub begins_take : (xs ys : List ℕ) → IsBeginning xs ys → take (length xs) ys ≡ xs
begins_take xs ys b = ap (take (length xs)) b.1 ∙ take_at xs b.0 (length xs) refl

stays : (log : List ℕ) (frames : List Frame) (files : Files) (next : Happening) → Splits log frames [] → IsTrue files next → Has log files →
    Has log (after files next)
stays log frames files (Did (Added bytes)) s t h = record { there = begins_more log files.log bytes h.there; safe = h.safe }
stays log frames files (Did (CutTo size)) s t h =
    let whole : Splits (take (length log) files.log) frames [] = subst (λ (l : List ℕ). Splits l frames []) (sym (begins_take log files.log h.there)) s in
    let le : length log ≤ size = most files.log t.0 frames size (length log) None t.1 (begins_len log files.log h.there) whole in
    record { there = begins_cut log files.log size le h.there; safe = begins_cut log files.safe size le h.safe }
stays log frames files (Did Synced) s t h = record { there = h.there; safe = h.there }
stays log frames files (Did (Fenced term)) s t h = record { there = h.there; safe = h.safe }
stays log frames files (Did (SawLog bytes)) s t h = h
stays log frames files (Did (SawFence fence)) s t h = h
stays log frames files (Did (Failed fault)) s t h = h
stays log frames files (Crash left) s t h = record { there = begins_then log files.safe left h.safe t; safe = h.safe }

is_seen : (log : List ℕ) (frames : List Frame) (files : Files) (xs : List Happening) (seen : List ℕ) (ys : List Happening) → Splits log frames [] →
    AllTrue files (xs ++ Did (SawLog seen) ∷ ys) → Has log files → IsBeginning log seen
is_seen log frames files [] seen ys s t h = subst (IsBeginning log) (sym t.0) h.there
is_seen log frames files (x ∷ xs) seen ys s t h = is_seen log frames (after files x) xs seen ys s t.1 (stays log frames files x s t.0 h)

-- ---- the handshake

-- the fence was seen before the later one was put
seen_before : (files : Files) (all : List Happening) → AllTrue files all → (log : List ℕ) (fence : ℕ) (a : Acknowledged files all log fence) →
    (frames : List Frame) → Splits log frames [] → (term : ℕ) (seen : List ℕ) (h : HandedOver all term seen) →
    Later (a.earlier ++ Did Synced ∷ a.between) (Did (SawFence fence)) a.later h.earlier (Did (Fenced term)) (h.between ++ Did (SawLog seen) ∷ h.later) →
    IsBeginning log seen
seen_before files all t log fence a frames s term seen h l =
    let X : List Happening = a.between ++ Did (SawFence fence) ∷ (l.between ++ Did (Fenced term) ∷ h.between) in
    let parts : all ≡ a.earlier ++ Did Synced ∷ (X ++ Did (SawLog seen) ∷ h.later) =
    a.parts ∙ ap (λ (ys : List Happening). a.earlier ++ Did Synced ∷ (a.between ++ Did (SawFence fence) ∷ ys)) l.second ∙ simp append_assoc in
    let at = true_at files a.earlier (Did Synced) (X ++ Did (SawLog seen) ∷ h.later) (subst (AllTrue files) parts t) in
    is_seen log frames (after (all_after files a.earlier) (Did Synced)) X seen h.later s at.1
    (record { there = ([], sym a.was ∙ sym (append-nil log)); safe = ([], sym a.was ∙ sym (append-nil log)) })

-- and it was not seen behind it
not_behind : (files : Files) (xs ys : List Happening) (term fence : ℕ) (later : List Happening) →
    AllTrue files ((xs ++ Did (Fenced term) ∷ ys) ++ Did (SawFence fence) ∷ later) → term ≤ fence
not_behind files xs ys term fence later t =
    let at = true_at files (xs ++ Did (Fenced term) ∷ ys) (Did (SawFence fence)) later t in
    let is : (all_after files (xs ++ Did (Fenced term) ∷ ys)).fence ≡ (all_after (after (all_after files xs) (Did (Fenced term))) ys).fence =
    ap (λ (f : Files). f.fence) (after_append files xs (Did (Fenced term)) ys) in
    let grows = fence_grows (after (all_after files xs) (Did (Fenced term))) ys in
    omega (arith, at.0, is, grows)

pub handshake : Handshake
handshake files all t log fence a frames s term seen h lt =
    let front : all ≡ (a.earlier ++ Did Synced ∷ a.between) ++ Did (SawFence fence) ∷ a.later =
    a.parts ∙ sym (append_assoc a.earlier (Did Synced ∷ a.between) (Did (SawFence fence) ∷ a.later)) in
    elim (two_places (a.earlier ++ Did Synced ∷ a.between) h.earlier (Did (SawFence fence)) (Did (Fenced term)) a.later
    (h.between ++ Did (SawLog seen) ∷ h.later) (sym front ∙ h.parts)) [
      | inl l ↦ seen_before files all t log fence a frames s term seen h l
      | inr other ↦ elim other [
        | inl same ↦ absurd cc
        | inr l ↦
            let parts : all ≡ (h.earlier ++ Did (Fenced term) ∷ l.between) ++ Did (SawFence fence) ∷ a.later =
            front ∙ ap (λ (xs : List Happening). xs ++ Did (SawFence fence) ∷ a.later) l.first in
            absurd (omega (arith, lt, not_behind files h.earlier l.between term fence a.later (subst (AllTrue files) parts t)))
      ]
    ]
