-- What a script offers waits, line after line.
use Rattle.std.proofs.Common.{◌≡◌, ◌≢◌, ◌∙◌, ◌<◌, ◌+◌, ◌==◌, ℕ, inl, inr, true, false, List, [], ◌∷◌, ◌++◌, length, map, filter, take, get_or, refl, ap, subst, sym, eq-eqb, ne_eqb}
use Rattle.std.proofs.lemmas.List.{append_assoc, append-nil, map-append, take_more}
use Rattle.std.proofs.lemmas.List.Elements.{filter-append}
use Rattle.interleaving.proofs.Put.{same_or_not}
use Rattle.input_log.specs.declared.WaitingInput.{WaitingInput}
use Rattle.input_log.specs.Waiting.{bells_of, others_of}
use Rattle.scripts.specs.declared.script.Offered.{Offered}
use Rattle.book_modes.specs.Recordings.{RecordingView, IsOffered}
use Rattle.log_streams.specs.Primary.{AreOfferedTo, offered_to}

abbrev waits : Offered → WaitingInput
waits o = record { not_before = o.not_before; input = o.input }

own : (o : Offered) (hart : ℕ) → o.hart ≡ hart → offered_to (o ∷ []) hart ≡ waits o ∷ []
own o hart same = let e : (o.hart == hart) ≡ true = eq-eqb o.hart hart same in rw e refl

none : (o : Offered) (hart : ℕ) → o.hart ≢ hart → offered_to (o ∷ []) hart ≡ []
none o hart other = let e : (o.hart == hart) ≡ false = ne_eqb o.hart hart other in rw e refl

split : (script : List Offered) (o : Offered) (hart : ℕ) → offered_to (script ++ o ∷ []) hart ≡ offered_to script hart ++ offered_to (o ∷ []) hart
split script o hart =
    ap (map waits) (filter-append (λ (x : Offered). x.hart == hart) script (o ∷ []))
    ∙ map-append waits (filter (λ (x : Offered). x.hart == hart) script) (filter (λ (x : Offered). x.hart == hart) (o ∷ []))

-- one line more
module _ (r : RecordingView) (script : List Offered) (o : Offered) (b c : RecordingView) (are : AreOfferedTo r script b)
    (is : IsOffered b o.hart o.not_before o.input c) where
  others_more : (hart : ℕ) → others_of c.desk hart ≡ others_of r.desk hart ++ offered_to (script ++ o ∷ []) hart
  others_more hart = elim (same_or_not o.hart hart) [
    | inl same ↦
        subst (λ (h : ℕ). others_of c.desk h ≡ others_of b.desk h ++ waits o ∷ []) same is.others
        ∙ ap (λ (xs : List WaitingInput). xs ++ waits o ∷ []) (are.others hart)
        ∙ append_assoc (others_of r.desk hart) (offered_to script hart) (waits o ∷ [])
        ∙ ap (λ (xs : List WaitingInput). others_of r.desk hart ++ xs)
        (ap (λ (xs : List WaitingInput). offered_to script hart ++ xs) (sym (own o hart same)) ∙ sym (split script o hart))
    | inr other ↦
        is.others_of_others hart (λ (e : hart ≡ o.hart). other (sym e)) ∙ are.others hart
        ∙ ap (λ (xs : List WaitingInput). others_of r.desk hart ++ xs)
        (sym (split script o hart ∙ ap (λ (xs : List WaitingInput). offered_to script hart ++ xs) (none o hart other) ∙ append-nil (offered_to script hart)))
  ]

  bells_stay : (hart : ℕ) → bells_of c.desk hart ≡ bells_of r.desk hart
  bells_stay hart = elim (same_or_not o.hart hart) [
    | inl same ↦ subst (λ (h : ℕ). bells_of c.desk h ≡ bells_of b.desk h) same is.bells ∙ are.bells hart
    | inr other ↦ is.bells_of_others hart (λ (e : hart ≡ o.hart). other (sym e)) ∙ are.bells hart
  ]

  offered_more : AreOfferedTo r (script ++ o ∷ []) c
  offered_more = record {
    rest = is.rest ∙ ap (λ (v : RecordingView). let x : RecordingView = record v { desk = c.desk } in x) are.rest;
    others = others_more;
    bells = bells_stay;
  }

-- the next line of a script
pub offered_next : (r : RecordingView) (script : List Offered) (i : ℕ) (o : Offered) (b c : RecordingView) → i < length script → o ≡ get_or script i o →
    AreOfferedTo r (take i script) b → IsOffered b o.hart o.not_before o.input c → AreOfferedTo r (take (i + 1) script) c
offered_next r script i o b c lt at are is =
    subst (λ (xs : List Offered). AreOfferedTo r xs c)
    (sym (take_more script i o lt ∙ ap (λ (x : Offered). take i script ++ x ∷ []) (sym at)))
    (offered_more r (take i script) o b c are is)
