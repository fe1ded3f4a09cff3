-- The world, when outputs went out and it was noted that they did.
use Rattle.std.proofs.Common.{◌≡◌, ◌⊎◌, inl, inr, ℕ, ◌+◌, ◌<◌, true, List, ◌++◌, length, Contains, Some, sym, ap, subst, ◌∙◌}
use Rattle.ft_types.specs.declared.names.TheConstants.{HART_ROW}
use Rattle.ft_types.specs.declared.output.Output.{Output}
use Rattle.guest_image.specs.Machine.{MachineState}
use Rattle.hart_lease.specs.Runs.{LeadsTo}
use Rattle.page_book.specs.Books.{BookView}
use Rattle.book_modes.specs.Recordings.{RecordingView, heard_by}
use Rattle.hart_replay.specs.Primaries.{IsPrimary}
use Rattle.output_gate.specs.Gates.{mark_at, gone_of, line_of, held_outputs, after_release}
use Rattle.output_gate.specs.Orders.{AreAbove, ArePassedBelow}
use Rattle.term_gate.specs.TermGates.{TermGateView, AreAcked}
use Rattle.failover_world.specs.machinery.Stopping as theory
use Rattle.failover_world.specs.Worlds.{WorldView, term_of}
use Rattle.primary.specs.Gating.{AreOffered, AreAllOffered, OffersMore, released_in}
use Rattle.primary.specs.Noting.{last_of, NotesAll}
use Rattle.primary.proofs.Waiting.{still_offered, released_offered}
use Rattle.failover_world.specs.machinery.Tied.{IsWorld}
use Rattle.failover_world.proofs.Parts.{with_rows}
use Rattle.failover_world.proofs.Ties.{with_book}
use Rattle.failover_world.proofs.Releasing.{rising, released}
use Rattle.failover_world.proofs.Given.{marks_stay, goes_now, of_a_hart, all_out, above_before}
use Rattle.failover_world.proofs.Renoted.{noted_in_world}
use Rattle.failover_world.proofs.Gates.{noted_parts, marks_before, gone_before, all_going}

module _ (v : WorldView) (is : IsWorld v) (g h : TermGateView) (more : OffersMore v.gate g)
    (rest : h ≡ record v.gate { gate = record v.gate.gate { noted = h.gate.noted; lines = h.gate.lines } })
    (lines : (hart : ℕ) → line_of h.gate hart ≡ after_release v.need h.gate.noted (line_of g.gate hart)) (acked : AreAcked v.gate h.gate.noted)
    (offered : AreOffered g.gate v.primary.book.machine)
    (leads : LeadsTo (heard_by v.primary.book.mode) v.primary.book.start v.primary.book.journal v.primary.book.machine) (runs : v.runs ≡ true)
    (above : AreAbove g.gate (held_outputs v.need h.gate.noted g.gate.lines)) where
  abbrev m : MachineState
  m = v.primary.book.machine

  abbrev out : List Output
  out = held_outputs v.need h.gate.noted g.gate.lines

  -- the world with these outputs out
  abbrev pub with_out : WorldView
  with_out = record v { gate = h; released = v.released ++ released_in (term_of v) out }

  still : AreOffered h.gate m
  still =
      released_offered g.gate h.gate m offered (still_offered v.need h.gate.noted g.gate h.gate m (rising v is.tied leads) offered lines)

  abbrev marks : (hart : ℕ) → mark_at h.gate hart ≡ mark_at v.gate.gate hart
  marks hart = marks_stay v.need h.gate.noted g.gate h.gate m lines hart ∙ marks_before v.gate g more hart

  gone : (hart : ℕ) (o : Output) → Contains (gone_of h.gate hart) o → Contains (gone_of v.gate.gate hart) o ⊎ (Contains out o × (o.hart ≡ hart))
  gone hart o has = elim (goes_now v.need h.gate.noted g.gate h.gate m lines offered hart o has) [
    | inl was ↦ inl (subst (λ (os : List Output). Contains os o) (gone_before v.gate g more hart) was)
    | inr now ↦ inr now
  ]

  pub went : IsWorld with_out
  went =
      record {
        parts = with_rows (record v { gate = h }) (noted_parts v is.parts h rest still) v.runs v.stopped v.sent (v.released ++ released_in (term_of v) out);
        tied =
            released v is.tied leads runs out h (ap (λ (x : TermGateView). x.acked) rest) marks gone
            (all_going v is.parts g.gate h.gate.noted acked offered) (above_before v.gate g out more above);
      }

  -- and the notes of them in the primary's book
  module _ (all : AreAllOffered g.gate m) (passed : ArePassedBelow g.gate) (many : length g.gate.lines ≡ HART_ROW) where
    known : (hart last : ℕ) → last_of hart out ≡ Some last → (k : ℕ) → k < last + 1 →
        (k < mark_at h.gate hart) ⊎ theory.WentOut went.tied.out hart k
    known hart last some k less =
        elim (all_out v.need h.gate.noted g.gate h.gate m lines (rising v is.tied leads) offered all passed many hart last some k less) [
          | inl below ↦ inl (subst (λ n. k < n) (sym (marks_stay v.need h.gate.noted g.gate h.gate m lines hart)) below)
          | inr (p, is_gone, number) ↦ inr (subst (theory.WentOut went.tied.out hart) number (went.tied.gone_out hart p is_gone))
        ]

    pub noted : (c : BookView RecordingView) → NotesAll out v.primary.book c → IsPrimary c → IsWorld (with_book with_out c)
    noted c notes primary =
        noted_in_world with_out went c runs out notes primary known (of_a_hart v.need h.gate.noted g.gate h.gate m lines offered many)
