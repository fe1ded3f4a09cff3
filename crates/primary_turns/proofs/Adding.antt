-- Deeds one behind the other, and what they note.
use Rattle.std.proofs.Common.{◌≡◌, ◌++◌, ◌∷◌, [], ◌∙◌, ℕ, List, Option, Some, map, slice_set, refl, ap, sym, append_assoc}
use Rattle.attendance.specs.declared.finding.Finding.{Finding}
use Rattle.primary.specs.declared.released.Released.{Released}
use Rattle.primary_turns.specs.declared.deeds.Deed.{Deed}
use Rattle.primary_turns.specs.declared.deeds.Deed.TheVariants.{Send, Tell, Full, Anew, HasRead, AnswersRead, Attend}
use Rattle.primary_turns.specs.Deeds.{AreFindings, noted, tells}

-- what deeds note that are done one behind the other
pub noted_append : (told : List (Option ℕ)) (first rest : List Deed) → noted told (first ++ rest) ≡ noted (noted told first) rest
noted_append told [] rest = refl
noted_append told (Send b ∷ first) rest = noted_append told first rest
noted_append told (Tell a ∷ first) rest = noted_append (slice_set told a.output.hart (Some a.output.number)) first rest
noted_append told (Full h ∷ first) rest = noted_append told first rest
noted_append told (Anew k ∷ first) rest = noted_append told first rest
noted_append told (HasRead k e ∷ first) rest = noted_append told first rest
noted_append told (AnswersRead ∷ first) rest = noted_append told first rest
noted_append told (Attend f ∷ first) rest = noted_append told first rest

-- how an output that went out is told
abbrev pub told_one : ℕ → Released → Deed
told_one term r = Tell (record { term = term; output = r.output })

pub tells_each : (term : ℕ) (released : List Released) → map (told_one term) released ≡ tells term released
tells_each term [] = refl
tells_each term (r ∷ released) = ap (λ (ds : List Deed). told_one term r ∷ ds) (tells_each term released)

-- one more is added behind those that were
pub one_more : (old mid new so_far more : List Deed) (deed : Deed) → mid ≡ old ++ so_far → new ≡ mid ++ deed ∷ [] → more ≡ so_far ++ deed ∷ [] → new ≡ old ++ more
one_more old mid new so_far more deed was is parts =
    is ∙ ap (λ (ds : List Deed). ds ++ deed ∷ []) was ∙ append_assoc old so_far (deed ∷ []) ∙ ap (λ (ds : List Deed). old ++ ds) (sym parts)

-- and is noted behind them
pub noted_more : (told mid new : List (Option ℕ)) (so_far more : List Deed) (deed : Deed) → mid ≡ noted told so_far → new ≡ noted mid (deed ∷ []) →
    more ≡ so_far ++ deed ∷ [] → new ≡ noted told more
noted_more told mid new so_far more deed was is parts =
    is ∙ ap (λ (t : List (Option ℕ)). noted t (deed ∷ [])) was ∙ sym (noted_append told so_far (deed ∷ [])) ∙ ap (noted told) (sym parts)

-- what is found of keepers notes nothing
noted_findings : (told : List (Option ℕ)) (findings : List Finding) → noted told (map Attend findings) ≡ told
noted_findings told [] = refl
noted_findings told (finding ∷ findings) = noted_findings told findings

pub findings_note_nothing : (told : List (Option ℕ)) (deeds : List Deed) → AreFindings deeds → told ≡ noted told deeds
findings_note_nothing told deeds are = sym (ap (noted told) are.1 ∙ noted_findings told are.0)
