-- The world stays one that comes in the theory: outputs go out.
use Rattle.std.proofs.Common.{◌≡◌, ◌⊎◌, inl, inr, ℕ, zero, suc, ◌<◌, ◌≤◌, true, List, [], ◌∷◌, ◌++◌, map, slice_get, Contains, Option, Some, None, refl, sym, ap, subst, ◌∙◌, arith}
use Rattle.std.proofs.lemmas.List.Elements.{Contains-append_left, Contains-append_right}
use Rattle.interleaving.specs.Lists.{Each, EachPair}
use Rattle.edge_log.proofs.Logs.{contains_map}
use Rattle.interleaving.specs.Machine.{run}
use Rattle.interleaving.specs.Stored.{system_of, view}
use Rattle.interleaving.proofs.Cuts.{here_or_later, here}
use Rattle.rv32_hart.specs.Hart.{Hart}
use Rattle.rv32_hart.specs.Hardware.{hardware}
use Rattle.guest_image.specs.Image.{ImageContents, guest_of}
use Rattle.hart_lease.specs.Runs.{LeadsTo, journal_turns}
use Rattle.hart_lease.proofs.journals.Sizes.{is_run}
use Rattle.book_modes.specs.Recordings.{RecordingView, heard_by}
use Rattle.ft_types.specs.declared.output.Output.{Output}
use Rattle.output_gate.specs.Gates.{mark_at, gone_of}
use Rattle.term_gate.specs.TermGates.{TermGateView, acked_at}
use Rattle.fenced_theory.specs.Recorders.{Output as TheoryOutput}
use Rattle.failover_world.specs.machinery.Stopping as theory
use Rattle.fenced_theory.specs.Machines.{IsRecorder}
use Rattle.book_recorder.specs.TermBooks.{AreTheory, IsTermBook, outputs_of}
use Rattle.hart_replay.specs.Images.{boot_of}
use Rattle.page_book.specs.Books.{BookView}
use Rattle.primary.specs.declared.released.Released.{Released}
use Rattle.failover_world.specs.Worlds.{WorldView, term_of}
use Rattle.primary.specs.Outputs.{said_by, said_at}
use Rattle.primary.specs.Gating.{AreRising, released_in}
use Rattle.failover_world.specs.machinery.Tied.{retold, retold_in, told_as, theory_released, theory_world, quorum_of, live_book, IsTied}
use Rattle.failover_world.proofs.Stopping.{releases}
use Rattle.failover_world.proofs.Keeping.{changed}
use Rattle.failover_world.proofs.Going.{IsGoing}

mapped : {A B : Type 0} (f : A → B) (xs : List A) (n : ℕ) (x : A) → slice_get xs n ≡ Some x → slice_get (map f xs) n ≡ Some (f x)
mapped f [] n x is = absurd cc
mapped f (y ∷ xs) zero x is = ap (λ y. Some (f y)) (let e : y ≡ x = cc in e)
mapped f (y ∷ xs) (suc n) x is = mapped f xs n x is

as_output : ℕ × ℕ → TheoryOutput
as_output o = record { step = o.0; word = o.1 }

said_in_theory : (h : Option Hart) (n step word : ℕ) → slice_get (said_by h) n ≡ Some (step, word) →
    slice_get (outputs_of h) n ≡ Some (record { step = step; word = word })
said_in_theory None n step word is = absurd cc
said_in_theory (Some h) n step word is = mapped (λ o. record { step = o.0; word = o.1 }) h.outputs n (step, word) is

each_mapped : {A B : Type 0} (P : B → Type 0) (f : A → B) (xs : List A) → Each P (map f xs) → Each (λ x. P (f x)) xs
each_mapped P f [] all = tt
each_mapped P f (x ∷ xs) (first, rest) = (first, each_mapped P f xs rest)

pair_mapped : {A B : Type 0} (R : B → B → Type 0) (f : A → B) (xs : List A) → EachPair R (map f xs) → EachPair (λ a b. R (f a) (f b)) xs
pair_mapped R f [] all = tt
pair_mapped R f (x ∷ xs) (first, rest) = (each_mapped (R (f x)) f xs first, pair_mapped R f xs rest)

rising_said : (h : Option Hart) → EachPair (λ o p. o.step < p.step) (outputs_of h) → EachPair (λ a b. a.0 < b.0) (said_by h)
rising_said None rising = tt
rising_said (Some h) rising = pair_mapped (λ (o p : TheoryOutput). o.step < p.step) (λ o. record { step = o.0; word = o.1 }) h.outputs rising

-- the theory's machine of a book has the book's outputs
pub book_outputs : (image : ImageContents) (are : AreTheory image.pages)
    (recorded : IsRecorder (system_of (hardware image.pages)) are.outs (boot_of image)) (b : BookView RecordingView) (is : IsTermBook image.pages b) →
    LeadsTo (heard_by b.mode) b.start b.journal b.machine → (hart : ℕ) →
    recorded.recorder.outputs (are.book b is) hart ≡ outputs_of (slice_get b.machine.harts hart)
book_outputs image are recorded b is leads hart =
    let ran = is_run image.pages b.start b.machine (journal_turns (heard_by b.mode) b.start b.journal) is.many leads in
    recorded.outputs (are.book b is) hart
    ∙ ap (λ m. are.outs.outputs ((run (system_of (hardware image.pages)) m (are.book b is).turns).harts hart)) (are.from b is)
    ∙ ap (λ ts. are.outs.outputs ((run (system_of (hardware image.pages)) (view (hardware image.pages) b.start) ts).harts hart)) (are.turns b is)
    ∙ ap (λ m. are.outs.outputs (m.harts hart)) (sym ran.is)
    ∙ are.outputs (slice_get b.machine.harts hart)

module _ (v : WorldView) (is : IsTied v) (leads : LeadsTo (heard_by v.primary.book.mode) v.primary.book.start v.primary.book.journal v.primary.book.machine) where
  -- the theory's machine has the outputs of the book's
  pub outputs_are : (hart : ℕ) →
      is.is_recorder.recorder.outputs (is.are_theory.book v.primary.book is.is_book) hart ≡ outputs_of (slice_get v.primary.book.machine.harts hart)
  outputs_are hart = book_outputs v.image is.are_theory is.is_recorder v.primary.book is.is_book leads hart

  -- the outputs stand in the order of their steps
  pub rising : AreRising v.primary.book.machine
  rising hart =
      rising_said (slice_get v.primary.book.machine.harts hart)
      (subst (EachPair (λ o p. o.step < p.step)) (outputs_are hart)
      (is.is_recorder.recorder.rising (is.are_theory.book v.primary.book is.is_book) hart))

  pub in_theory : (hart number step word : ℕ) → slice_get (said_at v.primary.book.machine hart) number ≡ Some (step, word) →
      slice_get (is.is_recorder.recorder.outputs (is.are_theory.book v.primary.book is.is_book) hart) number ≡ Some (record { step = step; word = word })
  in_theory hart number step word said =
      ap (λ os. slice_get os number) (outputs_are hart) ∙ said_in_theory (slice_get v.primary.book.machine.harts hart) number step word said

  -- outputs that went out, on top of those before
  abbrev out_with : List Output → List theory.Released → List theory.Released
  out_with [] out = out
  out_with (o ∷ os) out = out_with os (theory_released (record { term = term_of v; output = o }) ∷ out)

  kept_in : (os : List Output) (out : List theory.Released) (r : theory.Released) → Contains out r → Contains (out_with os out) r
  kept_in [] out r has = has
  kept_in (o ∷ os) out r has =
      kept_in os (theory_released (record { term = term_of v; output = o }) ∷ out) r
      (Contains-append_right (theory_released (record { term = term_of v; output = o }) ∷ []) out r has)

  added_in : (os : List Output) (out : List theory.Released) (r : Released) → Contains (released_in (term_of v) os) r → Contains (out_with os out) (theory_released r)
  added_in [] out r (k, below, same) = absurd (omega (arith, below))
  added_in (o ∷ os) out r has =
      elim (here_or_later (record { term = term_of v; output = o }) (released_in (term_of v) os) r has) [
        | inl same ↦
            subst (λ (q : Released). Contains (out_with (o ∷ os) out) (theory_released q)) same
            (kept_in os (theory_released (record { term = term_of v; output = o }) ∷ out) (theory_released (record { term = term_of v; output = o }))
            (here (theory_released (record { term = term_of v; output = o })) out))
        | inr later ↦ added_in os (theory_released (record { term = term_of v; output = o }) ∷ out) r later
      ]

  in_term : (os : List Output) (o : Output) → Contains os o → Contains (released_in (term_of v) os) (record { term = term_of v; output = o })
  in_term os o has = contains_map (λ (x : Output). let q : Released = record { term = term_of v; output = x } in q) os o has

  -- none else is there
  out_of : (os : List Output) (out : List theory.Released) (r : theory.Released) → Contains (out_with os out) r →
      Contains out r ⊎ ((q : Released) × Contains (released_in (term_of v) os) q × (theory_released q ≡ r))
  out_of [] out r has = inl has
  out_of (o ∷ os) out r has =
      let q : Released = record { term = term_of v; output = o } in
      elim (out_of os (theory_released q ∷ out) r has) [
        | inl before ↦
            elim (here_or_later (theory_released q) out r before) [
              | inl same ↦ inr (q, here q (released_in (term_of v) os), same)
              | inr old ↦ inl old
            ]
        | inr (x, there, same) ↦ inr (x, Contains-append_right (q ∷ []) (released_in (term_of v) os) x there, same)
      ]

  -- the output's number is not below the gate's mark
  abbrev pub IsAbove : Output → Type 0
  IsAbove o = mark_at v.gate.gate o.hart ≤ o.number

  comes_with : v.runs ≡ true → (os : List Output) (out : List theory.Released) → Each (IsGoing v.keepers v.need v.gate v.primary.book.machine) os →
      Each IsAbove os →
      theory.Comes is.is_recorder.recorder (guest_of v.image) (quorum_of v) (theory_world v.image.pages is.are_theory (guest_of v.image) v is.terms is.notes is.marks out) →
      theory.Comes is.is_recorder.recorder (guest_of v.image) (quorum_of v)
      (theory_world v.image.pages is.are_theory (guest_of v.image) v is.terms is.notes is.marks (out_with os out))
  comes_with runs [] out all above comes = comes
  comes_with runs (o ∷ os) out (first, rest) (over, more) comes =
      comes_with runs os (theory_released (record { term = term_of v; output = o }) ∷ out) rest more
      (releases is.is_recorder.recorder (guest_of v.image) (quorum_of v) comes
      (retold (told_as v.image.pages is.are_theory) (live_book v is.pieces is.is_book)) o.hart o.number (record { step = o.step; word = o.word })
      (λ keeper. acked_at v.gate keeper o.hart) (ap (retold_in (told_as v.image.pages is.are_theory)) is.there)
      (in_theory o.hart o.number o.step o.word first.said) (λ keeper. omega arith) first.enough
      (subst (λ n. n ≤ o.number) (sym (is.marked o.hart)) over))

  split : (xs ys : List Released) (r : Released) → Contains (xs ++ ys) r → Contains xs r ⊎ Contains ys r
  split [] ys r has = inr has
  split (x ∷ xs) ys r has =
      elim (here_or_later x (xs ++ ys) r has) [
        | inl same ↦ inl (subst (Contains (x ∷ xs)) same (here x xs))
        | inr later ↦ elim (split xs ys r later) [ inl one ↦ inl (Contains-append_right (x ∷ []) xs r one) | inr two ↦ inr two ]
      ]

  -- outputs went out, and the gate knows no less of what was acknowledged
  pub released : v.runs ≡ true → (os : List Output) (gate : TermGateView) → gate.acked ≡ v.gate.acked →
      ((hart : ℕ) → mark_at gate.gate hart ≡ mark_at v.gate.gate hart) →
      ((hart : ℕ) (o : Output) → Contains (gone_of gate.gate hart) o → Contains (gone_of v.gate.gate hart) o ⊎ (Contains os o × (o.hart ≡ hart))) →
      Each (IsGoing v.keepers v.need v.gate v.primary.book.machine) os → Each IsAbove os →
      IsTied (record v { gate = gate; released = v.released ++ released_in (term_of v) os })
  released runs os gate same marks gone all above =
      changed v is v.runs v.stores gate (v.released ++ released_in (term_of v) os) (out_with os is.out)
      (subst
      (λ rows. theory.Comes is.is_recorder.recorder (guest_of v.image) (quorum_of v)
      (theory_world v.image.pages is.are_theory (guest_of v.image) (record v { gate = record v.gate { acked = rows } }) is.terms is.notes is.marks (out_with os is.out)))
      (sym same) (comes_with runs os is.out all above is.comes))
      (λ r has. elim (split v.released (released_in (term_of v) os) r has) [
        | inl was ↦ kept_in os is.out (theory_released r) (is.went_out r was)
        | inr new ↦ added_in os is.out r new
      ])
      (λ r has. elim (out_of os is.out r has) [
        | inl was ↦ let (q, there, same) = is.no_more r was in (q, Contains-append_left v.released (released_in (term_of v) os) q there, same)
        | inr (q, there, same) ↦ (q, Contains-append_right v.released (released_in (term_of v) os) q there, same)
      ])
      marks
      (λ hart o has. elim (gone hart o has) [
        | inl was ↦ let (r, there, own, number) = is.gone_out hart o was in (r, kept_in os is.out r there, own, number)
        | inr (one, own) ↦ (theory_released (record { term = term_of v; output = o }), added_in os is.out (record { term = term_of v; output = o }) (in_term os o one), own, refl)
      ])
