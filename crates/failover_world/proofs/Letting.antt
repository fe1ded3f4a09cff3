-- The world whose primary let outputs go and noted that they did, and the one whose primary let none go.
use Rattle.std.proofs.Common.{◌≡◌, ℕ, ◌++◌, true, List, sym, ap, subst, ◌∙◌}
use Rattle.hart_lease.specs.Runs.{LeadsTo}
use Rattle.page_book.specs.Books.{BookView}
use Rattle.book_modes.specs.Recordings.{RecordingView, HasRoomed, heard_by}
use Rattle.hart_replay.specs.Primaries.{IsPrimary}
use Rattle.ft_types.specs.declared.output.Output.{Output}
use Rattle.output_gate.specs.Gates.{line_of, held_outputs, after_release}
use Rattle.output_gate.specs.Orders.{AreAbove}
use Rattle.term_gate.specs.TermGates.{TermGateView}
use Rattle.primary.specs.declared.granted.Primary.{Primary}
use Rattle.primary.specs.declared.released.Released.{Released}
use Rattle.primary.specs.Gating.{AreOffered, AreRising, LetGo, IsAsItWas, released_in}
use Rattle.primary.specs.Noting.{NotesAll}
use Rattle.primary.proofs.Waiting.{all_stay}
use Rattle.scripts.specs.declared.event.Event.TheVariants as on
use Rattle.failover_world.specs.Worlds.{WorldView, term_of}
use Rattle.failover_world.specs.Happenings.{Releases}
use Rattle.failover_world.specs.Refusals.{IsLeft}
use Rattle.failover_world.specs.machinery.Tied.{IsWorld}
use Rattle.failover_world.proofs.Ties.{with_book}
use Rattle.failover_world.proofs.Releasing.{rising}
use Rattle.failover_world.proofs.Renoted.{roomed_world}
use Rattle.failover_world.proofs.Gates.{noted_world, left_with}
use Rattle.failover_world.proofs.Outgoing.{noted}

module _ (v : WorldView) (p : Primary) (g : TermGateView) (now : List Released) (rest : p ≡ record v.primary { book = p.book }) where
  -- the world with the primary, its gate and what went out
  abbrev pub with_released : WorldView
  with_released = record v { primary = p; gate = g; released = now }

  primary_is : with_released ≡ record (with_book v p.book) { gate = g; released = now }
  primary_is = ap (λ (q : Primary). let w : WorldView = record v { primary = q; gate = g; released = now } in w) rest

  -- ---- outputs went out

  module _ (is : IsWorld v) (runs : v.runs ≡ true) (goes : LetGo (term_of v) v.primary.book.machine v.gate v.released g now)
      (notes : NotesAll goes.given v.primary.book p.book) where
    abbrev out : List Output
    out = held_outputs v.need g.gate.noted goes.offered.gate.lines

    -- the gate asks for as many keepers
    given : goes.given ≡ out
    given = goes.held ∙ ap (λ n. held_outputs n g.gate.noted goes.offered.gate.lines) is.parts.gate_need

    lines : (hart : ℕ) → line_of g.gate hart ≡ after_release v.need g.gate.noted (line_of goes.offered.gate hart)
    lines hart = goes.lines hart ∙ ap (λ n. after_release n g.gate.noted (line_of goes.offered.gate hart)) is.parts.gate_need

    gone : now ≡ v.released ++ released_in (term_of v) out
    gone = goes.out ∙ ap (λ os. v.released ++ released_in (term_of v) os) given

    its_notes : NotesAll out v.primary.book p.book
    its_notes = subst (λ (os : List Output). NotesAll os v.primary.book p.book) given notes

    pub let_out : LeadsTo (heard_by v.primary.book.mode) v.primary.book.start v.primary.book.journal v.primary.book.machine → IsPrimary p.book →
        IsWorld with_released
    let_out leads primary =
        subst IsWorld (sym primary_is)
        (subst (λ (rs : List Released). IsWorld (record (with_book v p.book) { gate = g; released = rs })) (sym gone)
        (noted v is goes.offered g goes.more goes.gate lines goes.acked (all_stay goes.offered.gate v.primary.book.machine goes.all) leads runs
        (subst (λ (os : List Output). AreAbove goes.offered.gate os) given goes.above) goes.all goes.passed goes.harts p.book its_notes primary))

    pub releases : Releases v with_released
    releases =
        record {
          runs = runs;
          offered = goes.offered;
          more = goes.more;
          all = goes.all;
          passed = goes.passed;
          acked = goes.acked;
          lines = λ hart less. lines hart;
          gate = goes.gate;
          noted = its_notes;
          rest =
              primary_is
              ∙ ap (λ rs. let w : WorldView = record (with_book v p.book) { gate = g; released = rs } in w) gone;
        }

  -- ---- none did

  module _ (none : now ≡ v.released) (was : IsAsItWas v.gate g) (room : HasRoomed v.primary.book.mode p.book.mode)
      (book : p.book ≡ record v.primary.book { mode = p.book.mode }) where
    pub left : IsLeft v on.Release with_released
    left =
        subst (λ (w : WorldView). IsLeft v on.Release w) (sym primary_is)
        (subst (λ (b : BookView RecordingView). IsLeft v on.Release (record (with_book v b) { gate = g; released = now })) (sym book)
        (subst (λ (rs : List Released). IsLeft v on.Release (record (with_book v (record v.primary.book { mode = p.book.mode })) { gate = g; released = rs }))
        (sym none) (left_with v g p.book.mode was room)))

    pub let_none : IsWorld v → v.runs ≡ true → LeadsTo (heard_by v.primary.book.mode) v.primary.book.start v.primary.book.journal v.primary.book.machine →
        IsPrimary p.book → (AreRising v.primary.book.machine → AreOffered g.gate v.primary.book.machine) → IsWorld with_released
    let_none is runs leads primary offered =
        let roomed : IsWorld (with_book v p.book) = roomed_world v is p.book runs room book primary in
        let still : AreOffered g.gate p.book.machine =
        subst (AreOffered g.gate) (sym (ap (λ (b : BookView RecordingView). b.machine) book)) (offered (rising v is.tied leads)) in
        subst IsWorld (sym primary_is)
        (subst (λ (rs : List Released). IsWorld (record (with_book v p.book) { gate = g; released = rs })) (sym none)
        (noted_world (with_book v p.book) roomed g was.rest (λ hart. (was.lines hart).mark) (λ hart. (was.lines hart).gone) still))
