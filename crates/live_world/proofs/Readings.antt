-- A log is read in one way.
use Rattle.std.proofs.Common.{◌≡◌, ◌++◌, ℕ, List, [], None, Some, ◌⊎◌, inl, inr, refl, sym, ap, subst, ◌∙◌, append-nil}
use Rattle.std.specs.List.{flat_map}
use Rattle.fragment_codec.specs.declared.fault.FrameFault.{FrameFault}
use Rattle.fragment_codec.specs.declared.frame.Frame.{Frame}
use Rattle.fragment_codec.specs.Streams.{Spelled, text_of, IsPartial, Splits, HasReading, Follows}
use Rattle.fragment_codec.proofs.streams.HasReading.{has_reading}
use Rattle.fragment_codec.proofs.streams.Readings.{one_split, one_feed}
use Rattle.fragment_codec.proofs.streams.Splits.{splits_more}

-- the log is whole frames, and behind these less than one
pub record IsInFront (log bytes rest : List ℕ) : Type 0 where
  pub frames : List Frame
  pub parts : log ≡ bytes ++ rest
  pub splits : Splits bytes frames []
  pub partial : IsPartial rest

whole : {log bytes rest : List ℕ} (h : IsInFront log bytes rest) → log ≡ flat_map text_of h.splits.spelled ++ rest
whole {log} {bytes} {rest} h =
    h.parts ∙ ap (λ (x : List ℕ). x ++ rest) (h.splits.whole ∙ append-nil (flat_map text_of h.splits.spelled))

-- these are the same bytes whoever reads it
pub one_front : {log a b r q : List ℕ} → IsInFront log a r → IsInFront log b q → a ≡ b
one_front {a = a} {b = b} {r = r} {q = q} h k =
    let same =
    one_split h.splits.spelled k.splits.spelled r q h.splits.each k.splits.each (inl h.partial) (inl k.partial) (sym (whole h) ∙ whole k) in
    h.splits.whole ∙ ap (λ (spelled : List Spelled). flat_map text_of spelled ++ []) same.0 ∙ sym k.splits.whole

-- where a fault stands behind the frames, nothing else does
not_in_front : (log rest : List ℕ) (frames : List Frame) (fault : FrameFault) → Follows log frames (record { rest = rest; fault = Some fault }) →
    (bytes partial : List ℕ) → IsInFront log bytes partial → ⊥
not_in_front log rest frames fault follows bytes partial h =
    let splits : Splits log h.frames partial =
    subst (λ (x : List ℕ). Splits x h.frames partial) (sym h.parts) (splits_more bytes [] partial h.frames h.splits) in
    let other : Follows log h.frames (record { rest = partial; fault = None }) =
    record { rest = partial; splits = splits; keeps = (refl, h.partial) } in
    let same = one_feed log frames h.frames (record { rest = rest; fault = Some fault }) (record { rest = partial; fault = None }) follows other in
    let faults : Some fault ≡ None = same.1 in
    cc

-- what stands in front of the log, where anything does
abbrev pub Front : List ℕ → Type 0
Front log =
    ((bytes : List ℕ) × (rest : List ℕ) × IsInFront log bytes rest) ⊎ ((bytes rest : List ℕ) → IsInFront log bytes rest → ⊥)

of_reading : (log : List ℕ) → HasReading log → Front log
of_reading log (frames, rest, splits, inl partial) =
    inl (
      flat_map text_of splits.spelled,
      rest,
      record {
        frames = frames;
        parts = splits.whole;
        splits =
            record {
              spelled = splits.spelled;
              these = splits.these;
              whole = sym (append-nil (flat_map text_of splits.spelled));
              each = splits.each;
            };
        partial = partial;
      },
    )
of_reading log (frames, rest, splits, inr (fault, has)) =
    inr (not_in_front log rest frames fault (record { rest = rest; splits = splits; keeps = has }))

pub front : (log : List ℕ) → Front log
front log = of_reading log (has_reading log)
