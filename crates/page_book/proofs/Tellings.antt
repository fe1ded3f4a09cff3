-- What a recording book tells on.
use Rattle.std.proofs.Common.{◌≡◌, ◌≤◌, ◌++◌, ℕ, zero, suc, List, [], All, Option, None, Some, map, refl, sym, ap, subst, ◌∙◌, inl, inr, arith, le_trans}
use Rattle.std.proofs.Common.{le_of_eq, append_assoc, append-nil}
use Rattle.std.proofs.lemmas.Bool.{cases_eq}
use Rattle.std.proofs.lemmas.List.Elements.{All-append, All-map, All-nil, All-weaker}
use Rattle.edge_log.specs.EdgeLog.{Edges, IsOfHart, row_of}
use Rattle.input_log.specs.declared.Input.{Input}
use Rattle.input_log.specs.Inputs.{inputs_of}
use Rattle.input_log.specs.Notes.{NotesOfOne, notes_of, NotesMore}
use Rattle.input_log.proofs.Notings.{notes_same, notes_more_on, noted_more}
use Rattle.guest_image.specs.Machine.{MachineState}
use Rattle.hart_lease.specs.Leases.{LeaseView, laid, whole_in, IsLentBy}
use Rattle.hart_lease.specs.OpenLeases.{OpenView, open_at}
use Rattle.hart_lease.specs.Runs.{StandsIn, counts_of, steps_taken}
use Rattle.hart_lease.proofs.journals.GoingOn.{get-set_here, others_laid, stands_ours}
use Rattle.book_modes.specs.Recordings.{RecordingView, AreLogged, LogsInputs, IsFrom, IsNoting, HasRoomed}
use Rattle.page_book.proofs.Later.{adds_nothing, adds_on, all_added_later}
use Rattle.page_book.specs.Books.{BookView}
use Rattle.page_book.specs.Tellings.{HearsMore, AddsLater, TellsOn, OnlyNotes, TellsTheSame, TellsFurther, SettledTellsOn}

-- ---- inputs

pub hears_nothing : (row : List (ℕ × Input)) (count : ℕ) (now : List (ℕ × Input)) → now ≡ row → HearsMore row count now
hears_nothing row count now e = ([], e ∙ sym (append-nil row), All-nil (λ x. count ≤ x.0))

pub hears_more : (a : List (ℕ × Input)) (m : ℕ) (b : List (ℕ × Input)) (n : ℕ) (c : List (ℕ × Input)) → m ≤ n → HearsMore a m b → HearsMore b n c →
    HearsMore a m c
hears_more a m b n c le p q = (
  p.0 ++ q.0,
  q.1 ∙ ap (λ (row : List (ℕ × Input)). row ++ q.0) p.1 ∙ append_assoc a p.0 q.0,
  All-append (λ x. m ≤ x.0) p.0 q.0 p.2 (All-weaker (λ x. n ≤ x.0) (λ x. m ≤ x.0) (λ x at. le_trans le at) q.0 q.2),
)

all_at : (count at : ℕ) (inputs : List Input) → count ≤ at → All (λ x. count ≤ x.0) (map (λ (i : Input). let x : ℕ × Input = (at, i) in x) inputs)
all_at count at inputs le = All-map (λ (x : ℕ × Input). count ≤ x.0) (λ (i : Input). let x : ℕ × Input = (at, i) in x) inputs (λ k d lt. le)

-- a lease that comes back has been given its inputs where it was lent
pub hears_on : (b : MachineState) (l : LeaseView) (steps : ℕ) (before after : List (List (ℕ × Input))) → counts_of b l.hart ≡ l.base.count →
    LogsInputs steps before l after → (hart : ℕ) → HearsMore (inputs_of before hart) (counts_of b hart) (inputs_of after hart)
hears_on b l zero before after lent logs hart =
    hears_nothing (inputs_of before hart) (counts_of b hart) (inputs_of after hart) (ap (λ (x : List (List (ℕ × Input))). inputs_of x hart) logs)
hears_on b l (suc steps) before after lent logs hart = elim (cases_eq hart l.hart) [
  | inl own ↦
      subst (λ (h : ℕ). HearsMore (inputs_of before h) (counts_of b h) (inputs_of after h)) (sym own)
      (map (λ i. (l.base.count, i)) l.inputs, logs.row, all_at (counts_of b l.hart) l.base.count l.inputs (omega (arith, lent)))
  | inr other ↦ hears_nothing (inputs_of before hart) (counts_of b hart) (inputs_of after hart) (logs.others hart other)
]

-- ---- edges

-- a lease that comes back has found its edges where it was lent, or later
found_later : (settled : ℕ → ℕ) (l : LeaseView) → settled l.hart ≡ l.base.count → All (IsFrom l.hart l.base.count) l.edges →
    All (λ e. settled e.hart ≤ e.at) l.edges
found_later settled l lent from =
    All-weaker (IsFrom l.hart l.base.count) (λ e. settled e.hart ≤ e.at)
    (λ e its. subst (λ (n : ℕ). n ≤ e.at) (sym (ap settled its.own ∙ lent)) its.from) l.edges from

-- so it adds them later
pub edges_on : (settled : ℕ → ℕ) (l : LeaseView) (old new : Edges) → settled l.hart ≡ l.base.count → AreLogged old l.edges new →
    All (IsFrom l.hart l.base.count) l.edges → AddsLater old settled new
edges_on settled l old new lent logged from =
    all_added_later old settled l.edges new
    (λ hart. All-weaker (IsOfHart old.start hart) (λ e. e.hart ≡ hart) (λ e its. its.own) (row_of old hart) (logged.was.own hart)) logged.added
    (found_later settled l lent from)

-- ---- books

lent_at : (lent : Option OpenView) (m : MachineState) (l : LeaseView) → IsLentBy lent m l → counts_of m l.hart ≡ l.base.count
lent_at None m l p = absurd p
lent_at (Some lent) m l p = ap steps_taken p.is_lent.state

-- notes that are as they were
pub notes_kept : (b c : BookView RecordingView) → c.mode.notes ≡ b.mode.notes → (hart : ℕ) →
    NotesMore (notes_of b.mode.notes hart) (counts_of b.machine hart) (notes_of c.mode.notes hart)
notes_kept b c notes hart =
    subst (λ (n : List NotesOfOne). NotesMore (notes_of b.mode.notes hart) (counts_of b.machine hart) (notes_of n hart)) (sym notes)
    (notes_same (notes_of b.mode.notes hart) (counts_of b.machine hart))

pub tells_the_same : TellsTheSame
tells_the_same b c machine inputs edges notes =
    record {
      counts = λ hart. le_of_eq (ap (λ (m : MachineState). counts_of m hart) (sym machine));
      inputs = λ hart.
          hears_nothing (inputs_of b.mode.inputs hart) (counts_of b.machine hart) (inputs_of c.mode.inputs hart)
          (ap (λ (x : List (List (ℕ × Input))). inputs_of x hart) inputs);
      edges = adds_nothing b.mode.edges (counts_of b.machine) c.mode.edges edges;
      notes = notes;
    }

-- ---- notes alone

pub only_notes_none : (b : BookView RecordingView) → OnlyNotes b b
only_notes_none b = record { book = refl; mode = refl; notes = λ hart. notes_same (notes_of b.mode.notes hart) (counts_of b.machine hart) }

pub only_notes_on : (b c d : BookView RecordingView) → OnlyNotes b c → OnlyNotes c d → OnlyNotes b d
only_notes_on b c d p q =
    let machine : c.machine ≡ b.machine = ap (λ (x : BookView RecordingView). x.machine) p.book in
    record {
      book = q.book ∙ ap (λ (x : BookView RecordingView). let y : BookView RecordingView = record x { mode = d.mode } in y) p.book;
      mode = q.mode ∙ ap (λ (m : RecordingView). let n : RecordingView = record m { notes = d.mode.notes } in n) p.mode;
      notes = λ hart.
          notes_more_on (notes_of b.mode.notes hart) (notes_of c.mode.notes hart) (notes_of d.mode.notes hart) (counts_of b.machine hart)
          (counts_of c.machine hart) (le_of_eq (ap (λ (m : MachineState). counts_of m hart) (sym machine))) (p.notes hart) (q.notes hart);
    }

-- one note more, at its hart's count
pub only_one_noted : (b c : BookView RecordingView) (hart number : ℕ) → IsNoting b.mode hart (counts_of b.machine hart) number c.mode →
    c ≡ record b { mode = c.mode } → OnlyNotes b c
only_one_noted b c hart number is book =
    record {
      book = book;
      mode = is.rest;
      notes = λ other. elim (cases_eq hart other) [
        | inl same ↦
            subst (λ n. NotesMore (notes_of b.mode.notes n) (counts_of b.machine n) (notes_of c.mode.notes n)) same
            (subst (NotesMore (notes_of b.mode.notes hart) (counts_of b.machine hart)) (sym is.noted)
            (noted_more (notes_of b.mode.notes hart) (counts_of b.machine hart) number))
        | inr ne ↦
            subst (NotesMore (notes_of b.mode.notes other) (counts_of b.machine other)) (sym (is.others other (λ e. ne (sym e))))
            (notes_same (notes_of b.mode.notes other) (counts_of b.machine other))
      ];
    }

-- room for more
pub only_room : (b c : BookView RecordingView) → HasRoomed b.mode c.mode → c ≡ record b { mode = c.mode } → OnlyNotes b c
only_room b c roomed book =
    record {
      book = book;
      mode = roomed.rest;
      notes = λ hart.
          subst (NotesMore (notes_of b.mode.notes hart) (counts_of b.machine hart)) (sym (roomed.same hart))
          (notes_same (notes_of b.mode.notes hart) (counts_of b.machine hart));
    }

-- such a book tells on
pub only_notes_tell_on : (b c : BookView RecordingView) → OnlyNotes b c → TellsOn b c
only_notes_tell_on b c is =
    tells_the_same b c (ap (λ (x : BookView RecordingView). x.machine) is.book) (ap (λ (m : RecordingView). m.inputs) is.mode)
    (ap (λ (m : RecordingView). m.edges) is.mode) is.notes

pub tells_further : TellsFurther
tells_further b c d p q =
    record {
      counts = λ hart. le_trans (p.counts hart) (q.counts hart);
      inputs = λ hart.
          hears_more (inputs_of b.mode.inputs hart) (counts_of b.machine hart) (inputs_of c.mode.inputs hart) (counts_of c.machine hart)
          (inputs_of d.mode.inputs hart) (p.counts hart) (p.inputs hart) (q.inputs hart);
      edges = adds_on b.mode.edges (counts_of b.machine) c.mode.edges (counts_of c.machine) d.mode.edges p.counts p.edges q.edges;
      notes = λ hart.
          notes_more_on (notes_of b.mode.notes hart) (notes_of c.mode.notes hart) (notes_of d.mode.notes hart) (counts_of b.machine hart)
          (counts_of c.machine hart) (p.counts hart) (p.notes hart) (q.notes hart);
    }

-- no count falls where a lease is laid
laid_counts : (m : MachineState) (l : LeaseView) → StandsIn m l → l.base.count ≤ l.present.count → (hart : ℕ) → counts_of m hart ≤ counts_of (laid m l) hart
laid_counts m l on le hart = elim (cases_eq l.hart hart) [
  | inl own ↦
      (let before : counts_of m l.hart ≡ l.base.count = ap steps_taken on.state in
      let after : counts_of (laid m l) l.hart ≡ l.present.count = ap steps_taken (get-set_here m.harts l.hart l.present l.base on.state) in
      subst (λ (h : ℕ). counts_of m h ≤ counts_of (laid m l) h) own (omega (arith, before, after, le)))
  | inr other ↦ le_of_eq (sym (others_laid m l hart other))
]

pub settled_tells_on : SettledTellsOn
settled_tells_on b c l keep ours machine is =
    let lent : counts_of b.machine l.hart ≡ l.base.count = lent_at (open_at b.leases l.hart) b.machine (whole_in b.machine l) ours in
    record {
      counts = λ hart.
          subst (λ (m : MachineState). counts_of b.machine hart ≤ counts_of m hart) (sym machine)
          (laid_counts b.machine (whole_in b.machine l) (stands_ours (open_at b.leases l.hart) b.machine (whole_in b.machine l) ours) (omega (arith, is.counts))
          hart);
      inputs = hears_on b.machine l l.steps b.mode.inputs c.mode.inputs lent is.inputs;
      edges = edges_on (counts_of b.machine) l b.mode.edges c.mode.edges lent is.edges is.unsettled;
      notes = notes_kept b c is.notes;
    }
