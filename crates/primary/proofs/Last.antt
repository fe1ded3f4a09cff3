-- The last of some outputs that is a hart's, and what is noted of one hart after the other.
use Rattle.std.proofs.Common.{◌≡◌, ◌≢◌, ◌⊎◌, inl, inr, ℕ, ◌+◌, ◌<◌, ◌≤◌, ◌==◌, true, false, cond, List, [], ◌∷◌, ◌++◌, length, take, get_or, All, Contains, Option, Some, None, IfSome, IfNone, refl, sym, ap, subst, ◌∙◌, arith}
use Rattle.std.proofs.lemmas.Bool.{cases_lt, eqb-true}
use Rattle.std.proofs.lemmas.List.{take_more}
use Rattle.std.proofs.lemmas.List.Elements.{All-contains, Contains-append_right}
use Rattle.interleaving.proofs.Put.{same_or_not}
use Rattle.interleaving.proofs.Cuts.{here}
use Rattle.ft_types.specs.declared.names.TheConstants.{HART_ROW}
use Rattle.ft_types.specs.declared.output.Output.{Output}
use Rattle.guest_image.specs.Machine.{MachineState}
use Rattle.input_log.specs.Notes.{notes_of, HasRoom}
use Rattle.hart_lease.specs.Runs.{counts_of}
use Rattle.book_modes.specs.Recordings.{RecordingView}
use Rattle.page_book.specs.Books.{BookView}
use Rattle.primary.specs.Outputs.{said_by, said_at}
use Rattle.primary.specs.Noting.{or_before, last_of, noted_to, NotesOne, NotesAll}
use Rattle.primary.proofs.Offers.{not_there}
use Rattle.primary.proofs.Waiting.{see_bool}

pub see : {A : Type 0} (o : Option A) → (o ≡ None) ⊎ ((x : A) × (o ≡ Some x))
see None = inl refl
see (Some x) = inr (x, refl)

-- ---- the last one

or_none : (a : Option ℕ) → or_before a None ≡ a
or_none None = refl
or_none (Some n) = refl

or_or : (a b c : Option ℕ) → or_before (or_before a b) c ≡ or_before a (or_before b c)
or_or None b c = refl
or_or (Some n) b c = refl

abbrev own : ℕ → Output → Option ℕ
own hart o = cond (o.hart == hart) (Some o.number) None

last_push : (hart : ℕ) (xs : List Output) (o : Output) → last_of hart (xs ++ o ∷ []) ≡ or_before (own hart o) (last_of hart xs)
last_push hart [] o = sym (or_none (own hart o))
last_push hart (x ∷ xs) o =
    ap (λ before. or_before before (own hart x)) (last_push hart xs o) ∙ or_or (own hart o) (last_of hart xs) (own hart x)

one_taken : (hart : ℕ) (xs : List Output) (i : ℕ) (o : Output) → i < length xs → o ≡ get_or xs i o →
    last_of hart (take (i + 1) xs) ≡ or_before (own hart o) (last_of hart (take i xs))
one_taken hart xs i o below is =
    ap (last_of hart) (take_more xs i o below) ∙ last_push hart (take i xs) (get_or xs i o)
    ∙ ap (λ (x : Output). or_before (own hart x) (last_of hart (take i xs))) (sym is)

-- one more, which is the hart's
pub own_taken : (hart : ℕ) (xs : List Output) (i : ℕ) (o : Output) → i < length xs → o ≡ get_or xs i o → (o.hart == hart) ≡ true →
    last_of hart (take (i + 1) xs) ≡ Some o.number
own_taken hart xs i o below is same =
    one_taken hart xs i o below is ∙ ap (λ b. or_before (cond b (Some o.number) None) (last_of hart (take i xs))) same

-- or another's
pub other_taken : (hart : ℕ) (xs : List Output) (i : ℕ) (o : Output) → i < length xs → o ≡ get_or xs i o → (o.hart == hart) ≡ false →
    last_of hart (take (i + 1) xs) ≡ last_of hart (take i xs)
other_taken hart xs i o below is other =
    one_taken hart xs i o below is ∙ ap (λ b. or_before (cond b (Some o.number) None) (last_of hart (take i xs))) other

-- what an answer says that is the last one's number
pub if_some : (answer last : Option ℕ) → answer ≡ last → IfSome answer (λ n. last ≡ Some n)
if_some None last is = tt
if_some (Some n) last is = sym is

pub if_none : (answer last : Option ℕ) → answer ≡ last → IfNone answer (last ≡ None)
if_none None last is = sym is
if_none (Some n) last is = tt

-- it is one of them
pub last_is : (hart : ℕ) (xs : List Output) (last : ℕ) → last_of hart xs ≡ Some last → (o : Output) × Contains xs o × (o.hart ≡ hart) × (o.number ≡ last)
last_is hart [] last is = absurd cc
last_is hart (x ∷ xs) last is =
    elim (see (last_of hart xs)) [
      | inr (n, some) ↦
          let e : Some n ≡ Some last = ap (λ before. or_before before (own hart x)) (sym some) ∙ is in
          let (o, has, its, number) = last_is hart xs last (some ∙ e) in (o, Contains-append_right (x ∷ []) xs o has, its, number)
      | inl none ↦
          let one : own hart x ≡ Some last = ap (λ before. or_before before (own hart x)) (sym none) ∙ is in
          elim (see_bool (x.hart == hart)) [
            | inl same ↦
                let e : Some x.number ≡ Some last = ap (λ b. cond b (Some x.number) None) (sym same) ∙ one in
                (x, here x xs, eqb-true x.hart hart same, (let f : x.number ≡ last = cc in f))
            | inr other ↦ let e : None ≡ Some last = ap (λ b. cond b (Some x.number) None) (sym other) ∙ one in absurd cc
          ]
    ]

-- ---- what is noted

-- so many harts' notes are made, and there is room for the others'
pub record AreNotedTo (given : List Output) (b c : BookView RecordingView) (number : ℕ) : Type 0 where
  pub rest : c ≡ record b { mode = record b.mode { notes = c.mode.notes } }
  pub done : (hart : ℕ) → hart < number →
      notes_of c.mode.notes hart ≡ noted_to (last_of hart given) (counts_of b.machine hart) (notes_of b.mode.notes hart)
  pub left : (hart : ℕ) → number ≤ hart → notes_of c.mode.notes hart ≡ notes_of b.mode.notes hart
  pub room : (hart : ℕ) → number ≤ hart → hart < HART_ROW → HasRoom c.mode.notes hart

pub none_noted : (given : List Output) (b : BookView RecordingView) → ((hart : ℕ) → hart < HART_ROW → HasRoom b.mode.notes hart) → AreNotedTo given b b 0
none_noted given b room =
    record { rest = refl; done = λ hart less. absurd (omega (arith, less)); left = λ hart le. refl; room = λ hart le below. room hart below }

-- one hart more
pub next_noted : (given : List Output) (b c d : BookView RecordingView) (number : ℕ) → AreNotedTo given b c number → NotesOne number given c d →
    AreNotedTo given b d (number + 1)
next_noted given b c d number at one =
    let machine : c.machine ≡ b.machine = ap (λ (x : BookView RecordingView). x.machine) at.rest in
    record {
      rest =
          one.rest
          ∙ ap (λ (x : BookView RecordingView). let y : BookView RecordingView = record x { mode = record x.mode { notes = d.mode.notes } } in y) at.rest;
      done = λ hart less. elim (same_or_not hart number) [
        | inl same ↦
            subst (λ n. notes_of d.mode.notes n ≡ noted_to (last_of n given) (counts_of b.machine n) (notes_of b.mode.notes n)) (sym same)
            (one.own
            ∙ ap (λ (m : MachineState). noted_to (last_of number given) (counts_of m number) (notes_of c.mode.notes number)) machine
            ∙ ap (noted_to (last_of number given) (counts_of b.machine number)) (at.left number (omega arith)))
        | inr other ↦ one.others hart other ∙ at.done hart (before hart other less)
      ];
      left = λ hart le. one.others hart (λ same. absurd (omega (arith, le, same))) ∙ at.left hart (omega (arith, le));
      room = λ hart le below. one.others_room hart (λ same. absurd (omega (arith, le, same))) (at.room hart (omega (arith, le)) below);
    }
  where
    before : (hart : ℕ) → hart ≢ number → hart < number + 1 → hart < number
    before hart other less = elim (cases_lt hart number) [ inl lt ↦ lt | inr over ↦ absurd (other (omega (arith, less, over))) ]

-- none of the outputs is of a hart that is not there
none_past : (given : List Output) (m : MachineState) (hart : ℕ) → length m.harts ≤ hart → All (λ o. o.number < length (said_at m o.hart)) given →
    last_of hart given ≡ None
none_past given m hart past said =
    elim (see (last_of hart given)) [
      | inl none ↦ none
      | inr (last, some) ↦
          let (o, has, its, number) = last_is hart given last some in
          let below : o.number < length (said_at m o.hart) = All-contains (λ (x : Output). x.number < length (said_at m x.hart)) given o said has in
          let nothing : said_at m o.hart ≡ [] = ap (said_at m) its ∙ ap said_by (not_there m.harts hart past) in
          let many : length (said_at m o.hart) ≡ 0 = ap length nothing in absurd (omega (arith, below, many))
    ]

-- all harts' notes are made
pub all_noted : (given : List Output) (b c : BookView RecordingView) (number : ℕ) → AreNotedTo given b c number → length b.machine.harts ≤ number →
    All (λ o. o.number < length (said_at b.machine o.hart)) given → NotesAll given b c
all_noted given b c number at past said =
    record {
      rest = at.rest;
      notes = λ hart. elim (cases_lt hart number) [
        | inl less ↦ at.done hart less
        | inr over ↦
            at.left hart over
            ∙ ap (λ last. noted_to last (counts_of b.machine hart) (notes_of b.mode.notes hart))
            (sym (none_past given b.machine hart (omega (arith, past, over)) said))
      ];
    }

-- the hart has more outputs than the last one's number
pub last_said : (given : List Output) (m : MachineState) (hart last : ℕ) → All (λ o. o.number < length (said_at m o.hart)) given →
    last_of hart given ≡ Some last → last < length (said_at m hart)
last_said given m hart last said some =
    let (o, has, its, number) = last_is hart given last some in
    let below : o.number < length (said_at m o.hart) = All-contains (λ (x : Output). x.number < length (said_at m x.hart)) given o said has in
    subst (λ n. n < length (said_at m hart)) number (subst (λ h. o.number < length (said_at m h)) its below)
