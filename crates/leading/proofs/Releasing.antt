-- Outputs that went out, and the book that notes it.
use Rattle.std.proofs.Common.{◌≡◌, ℕ, ◌≤◌, ◌++◌, true, List, [], ◌∷◌, filter, Result, Ok, Err, OnOk, OnErr, sym, ap, subst, ◌∙◌}
use Rattle.std.proofs.lemmas.Bool.{leb-true}
use Rattle.interleaving.specs.Lists.{Each}
use Rattle.ft_types.specs.declared.output.Output.{Output}
use Rattle.input_log.specs.Notes.{NotesOfOne}
use Rattle.guest_image.specs.Machine.{MachineState}
use Rattle.book_modes.specs.Recordings.{RecordingView, HasRoomed}
use Rattle.page_book.specs.Books.{BookView}
use Rattle.output_gate.specs.Gates.{LineView, waiting_of, mark_at, holder_count, is_held, held_outputs}
use Rattle.term_gate.specs.TermGates.{TermGateView}
use Rattle.primary.specs.declared.granted.Primary.{Primary}
use Rattle.primary.specs.declared.released.Released.{Released}
use Rattle.primary.specs.Gating.{AreOffered, AreRising, IsAsItWas, LetGo}
use Rattle.primary.specs.Noting.{NotesAll}
use Rattle.primary.proofs.Said.{IsSaid, each_filter, each_held, waiting_said}
use Rattle.primary.proofs.Waiting.{all_stay}
use Rattle.requests.specs.Queues.{QueueView}
use Rattle.leading.specs.Telling.{IsOut}
use Rattle.leading.specs.Hearing.{LetsGo, LetsNothingGo}
use Rattle.leading.specs.Leaders.{AreHandedOn, IsHandedOn, LeaderView, IsSound}
use Rattle.leading.proofs.Offering.{rising}
use Rattle.leading.proofs.Sound.{sound_gate, sound_notes}

both_then : {A : Type 0} (P Q : A → Type 0) (xs : List A) → ((x : A) → P x → Q x) → Each P xs → Each Q xs
both_then P Q [] f all = tt
both_then P Q (x ∷ xs) f (first, rest) = (f x first, both_then P Q xs f rest)

-- each output that goes out is the machine's, and enough keepers are noted above its step
pub all_out : (term : ℕ) (m : MachineState) (g h : TermGateView) (was now : List Released) (lets : LetGo term m g was h now) → Each (IsOut m h.gate) lets.given
all_out term m g h was now lets =
    let need = g.gate.need in
    let noted = h.gate.noted in
    let same : h.gate.need ≡ need = ap (λ (x : TermGateView). x.gate.need) lets.gate in
    let at = lets.offered.gate in
    subst (Each (IsOut m h.gate)) (sym lets.held)
    (each_held (IsOut m h.gate) (is_held need noted) at.lines
    (λ hart.
    both_then (λ o. IsSaid m o × (is_held need noted o ≡ true)) (IsOut m h.gate) (filter (is_held need noted) (waiting_of at hart))
    (λ o both. record {
      own = both.0;
      held = subst (λ n. n ≤ holder_count noted o.hart o.step) (sym same) (leb-true need (holder_count noted o.hart o.step) both.1);
    })
    (each_filter (IsSaid m) (is_held need noted) (waiting_of at hart) (waiting_said at m (all_stay at m lets.all) hart))))

-- ---- what a release leaves

pub goes : {U E : Type 0} (old new : LeaderView) (r : Result U E) →
    OnOk r ((goes : LetGo old.primary.opening.term old.primary.book.machine old.gate old.released new.gate new.released)
    × NotesAll goes.given old.primary.book new.primary.book) → OnOk r (LetsGo old old.gate new)
goes old new (Ok u) (lets, notes) =
    record {
      lets = lets;
      out = all_out old.primary.opening.term old.primary.book.machine old.gate new.gate old.released new.released lets;
      notes = notes;
    }
goes old new (Err e) none = tt

pub stays : {U E : Type 0} (old new : LeaderView) (r : Result U E) → OnErr r (IsAsItWas old.gate new.gate) →
    AreOffered new.gate.gate old.primary.book.machine → OnErr r (new.released ≡ old.released) →
    OnErr r (HasRoomed old.primary.book.mode new.primary.book.mode) →
    OnErr r (new.primary.book ≡ record old.primary.book { mode = new.primary.book.mode }) → OnErr r (LetsNothingGo old old.gate new)
stays old new (Ok u) was offered none room book = tt
stays old new (Err e) was offered none room book = record { gate = was; offered = offered; room = room; book = book; released = none }

-- the book, but for its notes, is as it was
abbrev OnlyNoted : BookView RecordingView → BookView RecordingView → Type 0
OnlyNoted b c = (c ≡ record b { mode = c.mode }) × (c.mode.limits ≡ b.mode.limits)

only_noted : {U E : Type 0} (term : ℕ) (m : MachineState) (g h : TermGateView) (was now : List Released) (b c : BookView RecordingView) (r : Result U E) →
    OnOk r ((goes : LetGo term m g was h now) × NotesAll goes.given b c) → OnErr r (HasRoomed b.mode c.mode) →
    OnErr r (c ≡ record b { mode = c.mode }) → OnlyNoted b c
only_noted term m g h was now b c (Ok u) (lets, notes) room book = (
  notes.rest ∙ ap (λ (mode : RecordingView). let x : BookView RecordingView = record b { mode = mode } in x) (sym (ap (λ (x : BookView RecordingView). x.mode) notes.rest)),
  ap (λ (x : BookView RecordingView). x.mode.limits) notes.rest,
)
only_noted term m g h was now b c (Err e) none room book = (book, ap (λ (x : RecordingView). x.limits) room.rest)

pub marks_stay : {U E : Type 0} (term : ℕ) (m : MachineState) (g h : TermGateView) (was now : List Released) (b c : BookView RecordingView) (r : Result U E) →
    OnOk r ((goes : LetGo term m g was h now) × NotesAll goes.given b c) → OnErr r (IsAsItWas g h) →
    (hart : ℕ) → mark_at h.gate hart ≡ mark_at g.gate hart
marks_stay term m g h was now b c (Ok u) (lets, notes) none hart = ap (λ (l : LineView). l.mark) (lets.lines hart) ∙ (lets.more.lines hart).mark
marks_stay term m g h was now b c (Err e) none stays hart = (stays.lines hart).mark

-- what is noted is no word
handed_beside : (b : BookView RecordingView) (notes : List NotesOfOne) (queues : List QueueView) → AreHandedOn b queues →
    AreHandedOn (record b { mode = record b.mode { notes = notes } }) queues
handed_beside b notes queues all hart h at = let one = all hart h at in record { handed = one.handed; limit = one.limit }

pub noted_handed : {U E : Type 0} (term : ℕ) (m : MachineState) (g h : TermGateView) (queues : List QueueView) (was now : List Released)
    (b c : BookView RecordingView) (r : Result U E) → OnOk r ((goes : LetGo term m g was h now) × NotesAll goes.given b c) →
    OnErr r (HasRoomed b.mode c.mode) → OnErr r (c ≡ record b { mode = c.mode }) → AreHandedOn b queues → AreHandedOn c queues
noted_handed term m g h queues was now b c (Ok u) (lets, notes) room book all =
    subst (λ (x : BookView RecordingView). AreHandedOn x queues) (sym notes.rest) (handed_beside b c.mode.notes queues all)
noted_handed term m g h queues was now b c (Err e) none room book all =
    let rest : c ≡ record b { mode = record b.mode { notes = c.mode.notes } } =
    book ∙ ap (λ (mode : RecordingView). let x : BookView RecordingView = record b { mode = mode } in x) room.rest in
    subst (λ (x : BookView RecordingView). AreHandedOn x queues) (sym rest) (handed_beside b c.mode.notes queues all)

pub released_sound : {U E : Type 0} (p q : Primary) (g h : TermGateView) (queues : List QueueView) (was now : List Released) (r : Result U E) →
    OnOk r ((goes : LetGo p.opening.term p.book.machine g was h now) × NotesAll goes.given p.book q.book) →
    OnErr r (HasRoomed p.book.mode q.book.mode) → OnErr r (q.book ≡ record p.book { mode = q.book.mode }) → q ≡ record p { book = q.book } →
    h ≡ record g { gate = record g.gate { noted = h.gate.noted; lines = h.gate.lines } } →
    (AreRising p.book.machine → AreOffered h.gate p.book.machine) → IsSound p g queues → IsSound q h queues
released_sound p q g h queues was now r goes room book rest gate offered s =
    let only = only_noted p.opening.term p.book.machine g h was now p.book q.book r goes room book in
    subst (λ (x : Primary). IsSound x h queues) (sym rest)
    (sound_notes p q.book h queues only.0 only.1
    (sound_gate p g h queues (ap (λ (x : TermGateView). x.harts) gate) (ap (λ (x : TermGateView). x.gate.term) gate)
    (offered (rising p.book.machine s.tidy)) s))
