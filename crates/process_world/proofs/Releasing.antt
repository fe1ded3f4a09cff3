-- Outputs of a term go out in the theory, whatever terms were granted since.
use Rattle.std.proofs.Common.{◌≡◌, inl, inr, ℕ, zero, suc, ◌<◌, ◌≤◌, List, [], ◌∷◌, map, slice_get, Contains, Option, Some, None}
use Rattle.std.proofs.Common.{refl, sym, ap, subst, ◌∙◌, arith}
use Rattle.std.proofs.lemmas.List.Elements.{Contains-append_right}
use Rattle.interleaving.specs.Lists.{Each, EachPair}
use Rattle.interleaving.proofs.Cuts.{here_or_later, here}
use Rattle.edge_log.proofs.Logs.{contains_map}
use Rattle.rv32_hart.specs.Hart.{Hart}
use Rattle.ft_types.specs.Guests.{GuestParts}
use Rattle.ft_types.specs.declared.output.Output.{Output}
use Rattle.guest_image.specs.Machine.{MachineState}
use Rattle.hart_lease.specs.Runs.{LeadsTo}
use Rattle.page_book.specs.Books.{BookView}
use Rattle.book_modes.specs.Recordings.{RecordingView, heard_by}
use Rattle.log_join.specs.Families.{Past}
use Rattle.output_gate.specs.Gates.{mark_at}
use Rattle.term_gate.specs.TermGates.{TermGateView, acked_at}
use Rattle.fenced_theory.specs.Recorders.{Output as TheoryOutput, Recorder}
use Rattle.fenced_theory.specs.Worlds as theory
use Rattle.fenced_theory.proofs.Growing.{some_same}
use Rattle.book_recorder.specs.TermBooks.{IsTermBook, outputs_of}
use Rattle.primary.specs.declared.released.Released.{Released}
use Rattle.primary.specs.Outputs.{said_by, said_at}
use Rattle.primary.specs.Gating.{AreRising, released_in}
use Rattle.failover_world.specs.machinery.Tied.{theory_released}
use Rattle.failover_world.proofs.Going.{IsGoing}
use Rattle.failover_world.proofs.Onward.{from_theory}
use Rattle.failover_world.proofs.Releasing.{book_outputs}
use Rattle.process_world.specs.Worlds.{ProcessWorld}
use Rattle.process_world.specs.machinery.Tied.{IsTied}

-- ---- outputs of a machine, as the theory has them

-- what is at a place in a list, once all are mapped
mapped : {A B : Type 0} (f : A → B) (xs : List A) (n : ℕ) (x : A) → slice_get xs n ≡ Some x → slice_get (map f xs) n ≡ Some (f x)
mapped f [] n x is = absurd cc
mapped f (y ∷ xs) zero x is = ap (λ y. Some (f y)) (some_same refl is)
mapped f (y ∷ xs) (suc n) x is = mapped f xs n x is

-- an output of a hart, as the theory has it
said_in_theory : (h : Option Hart) (n step word : ℕ) → slice_get (said_by h) n ≡ Some (step, word) →
    slice_get (outputs_of h) n ≡ Some (record { step = step; word = word })
said_in_theory None n step word is = absurd cc
said_in_theory (Some h) n step word is = mapped (λ o. record { step = o.0; word = o.1 }) h.outputs n (step, word) is

-- what is so of each that is mapped, is so of each once it is
each_mapped : {A B : Type 0} (P : B → Type 0) (f : A → B) (xs : List A) → Each P (map f xs) → Each (λ x. P (f x)) xs
each_mapped P f [] all = tt
each_mapped P f (x ∷ xs) (first, rest) = (first, each_mapped P f xs rest)

-- and so for pairs
pair_mapped : {A B : Type 0} (R : B → B → Type 0) (f : A → B) (xs : List A) → EachPair R (map f xs) → EachPair (λ a b. R (f a) (f b)) xs
pair_mapped R f [] all = tt
pair_mapped R f (x ∷ xs) (first, rest) = (each_mapped (R (f x)) f xs first, pair_mapped R f xs rest)

-- outputs that rise in the theory rise
rising_said : (h : Option Hart) → EachPair (λ o p. o.step < p.step) (outputs_of h) → EachPair (λ a b. a.0 < b.0) (said_by h)
rising_said None rising = tt
rising_said (Some h) rising = pair_mapped (λ (o p : TheoryOutput). o.step < p.step) (λ o. record { step = o.0; word = o.1 }) h.outputs rising

module _ (w : ProcessWorld) (is : IsTied w) (b : BookView RecordingView) (is_book : IsTermBook w.image.pages b)
    (leads : LeadsTo (heard_by b.mode) b.start b.journal b.machine) where
  -- the theory's machine has the outputs of the book's
  outputs_are : (hart : ℕ) → is.is_recorder.recorder.outputs (is.are_theory.book b is_book) hart ≡ outputs_of (slice_get b.machine.harts hart)
  outputs_are hart = book_outputs w.image is.are_theory is.is_recorder b is_book leads hart

  -- what the book's machine has put out, its book in the theory has
  pub in_theory : (hart number step word : ℕ) → slice_get (said_at b.machine hart) number ≡ Some (step, word) →
      slice_get (is.is_recorder.recorder.outputs (is.are_theory.book b is_book) hart) number ≡ Some (record { step = step; word = word })
  in_theory hart number step word said =
      ap (λ os. slice_get os number) (outputs_are hart) ∙ said_in_theory (slice_get b.machine.harts hart) number step word said

  -- and its machine has put out what its book in the theory has
  pub of_machine : (hart number : ℕ) (o : TheoryOutput) → slice_get (is.is_recorder.recorder.outputs (is.are_theory.book b is_book) hart) number ≡ Some o →
      slice_get (said_at b.machine hart) number ≡ Some (o.step, o.word)
  of_machine hart number o out =
      from_theory (slice_get b.machine.harts hart) number (o.step, o.word) (ap (λ os. slice_get os number) (sym (outputs_are hart)) ∙ out)

  -- the machine's outputs stand in the order of their steps
  pub rising : AreRising b.machine
  rising hart =
      rising_said (slice_get b.machine.harts hart)
      (subst (EachPair (λ o p. o.step < p.step)) (outputs_are hart) (is.is_recorder.recorder.rising (is.are_theory.book b is_book) hart))

-- ---- outputs that go out

module _ (term : ℕ) where
  -- an output that goes out in the term
  abbrev pub goes_out : Output → Released
  goes_out o = record { term = term; output = o }

  -- outputs that went out, on top of those before
  abbrev pub out_with : List Output → List theory.Released → List theory.Released
  out_with [] out = out
  out_with (o ∷ os) out = out_with os (theory_released (goes_out o) ∷ out)

  -- those before went out
  pub kept_in : (os : List Output) (out : List theory.Released) (r : theory.Released) → Contains out r → Contains (out_with os out) r
  kept_in [] out r has = has
  kept_in (o ∷ os) out r has =
      kept_in os (theory_released (goes_out o) ∷ out) r (Contains-append_right (theory_released (goes_out o) ∷ []) out r has)

  -- and so did these
  pub added_in : (os : List Output) (out : List theory.Released) (r : Released) → Contains (released_in term os) r →
      Contains (out_with os out) (theory_released r)
  added_in [] out r (k, below, same) = absurd (omega (arith, below))
  added_in (o ∷ os) out r has =
      elim (here_or_later (goes_out o) (released_in term os) r has) [
        | inl same ↦
            subst (λ (q : Released). Contains (out_with (o ∷ os) out) (theory_released q)) same
            (kept_in os (theory_released (goes_out o) ∷ out) (theory_released (goes_out o)) (here (theory_released (goes_out o)) out))
        | inr later ↦ added_in os (theory_released (goes_out o) ∷ out) r later
      ]

  -- each of them did
  pub one_added : (os : List Output) (out : List theory.Released) (o : Output) → Contains os o → Contains (out_with os out) (theory_released (goes_out o))
  one_added os out o has = added_in os out (goes_out o) (contains_map goes_out os o has)

  -- they are of the term
  pub of_term : (os : List Output) (r : Released) → Contains (released_in term os) r → r.term ≡ term
  of_term [] r (k, below, same) = absurd (omega (arith, below))
  of_term (o ∷ os) r has =
      elim (here_or_later (goes_out o) (released_in term os) r has) [
        | inl same ↦ sym (ap (λ (q : Released). q.term) same)
        | inr later ↦ of_term os r later
      ]

module _ {Book Fact : Type 0} (recorder : Recorder Book Fact) (guest : GuestParts) (quorum : theory.Quorum) (w : theory.World Book) (term : ℕ) (p : Past Book)
    (there : w.terms term ≡ Some p) (m : MachineState) (g : TermGateView)
    (said : (hart number step word : ℕ) → slice_get (said_at m hart) number ≡ Some (step, word) →
    slice_get (recorder.outputs p.told hart) number ≡ Some (record { step = step; word = word }))
    (acked : (keeper hart : ℕ) → acked_at g keeper hart ≤ w.acked term keeper hart) (marked : (hart : ℕ) → w.marks term hart ≡ mark_at g.gate hart) where
  -- the world, where this went out
  abbrev pub with_out : List theory.Released → theory.World Book
  with_out out = record w { released = out }

  -- the output's number is not below the gate's mark
  abbrev pub IsAbove : Output → Type 0
  IsAbove o = mark_at g.gate o.hart ≤ o.number

  -- the world comes in which outputs went out that enough keepers acknowledged
  pub comes_with : (os : List Output) (out : List theory.Released) → Each (IsGoing quorum.keepers quorum.need g m) os → Each IsAbove os →
      theory.Comes recorder guest quorum (with_out out) → theory.Comes recorder guest quorum (with_out (out_with term os out))
  comes_with [] out all above comes = comes
  comes_with (o ∷ os) out (first, rest) (over, more) comes =
      comes_with os (theory_released (goes_out term o) ∷ out) rest more
      (theory.Then comes
      (theory.Release term p o.hart o.number (record { step = o.step; word = o.word }) (λ keeper. acked_at g keeper o.hart) there
      (said o.hart o.number o.step o.word first.said) (λ keeper. acked keeper o.hart) first.enough
      (subst (λ n. n ≤ o.number) (sym (marked o.hart)) over)))
