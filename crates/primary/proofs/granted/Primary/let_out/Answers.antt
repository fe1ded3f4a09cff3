use Rattle.std.proofs.Common.{◌≡◌, ◌<◌, List, inl, length, All, refl, sym, ap, subst, ◌∙◌}
use Rattle.ft_types.specs.declared.output.Output.{Output}
use Rattle.guest_image.specs.Machine.{MachineState}
use Rattle.page_book.specs.Books.{BookView}
use Rattle.book_modes.specs.Recordings.{RecordingView}
use Rattle.term_gate.specs.TermGates.{TermGateView}
use Rattle.primary.specs.Outputs.{said_at}
use Rattle.primary.specs.Gating.{AreOffered, AreRising, IsAsItWas, LetGo}
use Rattle.primary.specs.Noting.{NotesAll}
use Rattle.primary.proofs.Offers.{offers_none}
use Rattle.primary.proofs.Waiting.{all_stay}
use Rattle.primary.proofs.Said.{held_said}
use Rattle.primary.proofs.Gates.{left_if, was_offered}
use Rattle.primary.proofs.Renoting.{noted_since}
use Rattle.primary.proofs.granted.Primary.let_out.Goals as goal

-- the machine is that of the book before there was room
same_machine : (m : MachineState) (b d : BookView RecordingView) → m ≡ d.machine → d ≡ record b { mode = d.mode } → m ≡ b.machine
same_machine m b d is book = is ∙ ap (λ (x : BookView RecordingView). x.machine) book

still : (g : TermGateView) (m n : MachineState) → m ≡ n → (AreRising m → AreOffered g.gate m) → AreRising n → AreOffered g.gate n
still g m n same offered = subst (λ (x : MachineState). AreRising x → AreOffered g.gate x) same offered

-- ---- there was no room for notes

pub returns-in_err-room_for_notes-clause-was : goal.returns-in_err-room_for_notes-clause-was
returns-in_err-room_for_notes-clause-was c =
    let g = c.args.gate.now in left_if c.from_residual.result (IsAsItWas g g) (was_offered g g g (offers_none g) refl refl (inl refl))

-- ---- the release was refused

pub release_outputs-requires : goal.release_outputs-requires
release_outputs-requires c =
    let same = same_machine c.machine.result.now c.args.self.now.book c.room_for_notes.new.self c.machine.ensures.value c.room_for_notes.ensures.book in
    subst (AreOffered c.args.gate.now.gate) (sym same) c.requires

pub returns-in_err-given-clause-offered : goal.returns-in_err-given-clause-offered
returns-in_err-given-clause-offered c =
    let same = same_machine c.machine.result.now c.args.self.now.book c.room_for_notes.new.self c.machine.ensures.value c.room_for_notes.ensures.book in
    still c.release_outputs.new.gate c.machine.result.now c.args.self.now.book.machine same c.release_outputs.ensures.offered

-- ---- outputs went out

pub note_all-requires-clause-room : goal.note_all-requires-clause-room
note_all-requires-clause-room c = c.in_ok-room_for_notes.ensures.room

pub note_all-requires-clause-said : goal.note_all-requires-clause-said
note_all-requires-clause-said c =
    let (goes, given) = c.in_ok-given.ensures.goes in
    let out = c.deref.ensures.value ∙ given ∙ goes.held in
    let m = c.machine.result.now in
    let h = c.release_outputs.new.gate in
    subst (λ (x : MachineState). All (λ o. o.number < length (said_at x o.hart)) c.deref.result.now) c.machine.ensures.value
    (subst (λ (os : List Output). All (λ o. o.number < length (said_at m o.hart)) os) (sym out)
    (held_said c.args.gate.now.gate.need h.gate.noted goes.offered.gate m (all_stay goes.offered.gate m goes.all)))

pub returns-clause-offered : goal.returns-clause-offered
returns-clause-offered c =
    let same = same_machine c.machine.result.now c.args.self.now.book c.room_for_notes.new.self c.machine.ensures.value c.room_for_notes.ensures.book in
    still c.release_outputs.new.gate c.machine.result.now c.args.self.now.book.machine same c.release_outputs.ensures.offered

pub returns-clause-goes : goal.returns-clause-goes
returns-clause-goes c =
    let (goes, given) = c.in_ok-given.ensures.goes in
    let b = c.args.self.now.book in
    let d = c.room_for_notes.new.self in
    let e = c.note_all.new.book in
    let h = c.release_outputs.new.gate in
    let rs = c.release_outputs.new.released.items in
    let same = same_machine c.machine.result.now b d c.machine.ensures.value c.room_for_notes.ensures.book in
    let notes = subst (λ (os : List Output). NotesAll os d e) (c.deref.ensures.value ∙ given) c.note_all.ensures in
    subst (λ t. (goes : LetGo t b.machine c.args.gate.now c.args.released.now.items h rs) × NotesAll goes.given b e) c.term-term.ensures
    (subst (λ (m : MachineState). (goes : LetGo c.term-term.result m c.args.gate.now c.args.released.now.items h rs) × NotesAll goes.given b e) same
    (goes, noted_since goes.given b d e c.room_for_notes.ensures.same c.room_for_notes.ensures.book notes))
