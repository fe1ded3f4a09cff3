-- The world with another gate.
use Rattle.std.proofs.Common.{Contains, ◌≡◌, inr, ℕ, List, length, refl, sym, ap, subst}
use Rattle.interleaving.specs.Lists.{Each}
use Rattle.ft_types.specs.declared.output.Output.{Output}
use Rattle.guest_image.specs.Image.{guest_of}
use Rattle.book_modes.specs.Recordings.{RecordingView, HasRoomed}
use Rattle.output_gate.specs.Gates.{GateView, mark_at, gone_of, held_outputs}
use Rattle.term_gate.specs.TermGates.{TermGateView, AreAcked}
use Rattle.failover_world.specs.machinery.Stopping as theory
use Rattle.scripts.specs.declared.event.Event.TheVariants as on
use Rattle.primary.specs.Gating.{AreOffered, OffersMore, IsAsItWas}
use Rattle.failover_world.specs.Worlds.{WorldView}
use Rattle.failover_world.specs.Refusals.{IsLeft}
use Rattle.failover_world.specs.machinery.Tied.{AreParts, IsTied, IsWorld, theory_world, quorum_of}
use Rattle.failover_world.proofs.Keeping.{changed}
use Rattle.failover_world.proofs.Parts.{with_gate}
use Rattle.failover_world.proofs.Going.{IsGoing, going}

pub same_acked : (v : WorldView) (is : IsTied v) (gate : TermGateView) → gate.acked ≡ v.gate.acked →
    ((hart : ℕ) → mark_at gate.gate hart ≡ mark_at v.gate.gate hart) → ((hart : ℕ) → gone_of gate.gate hart ≡ gone_of v.gate.gate hart) →
    IsTied (record v { gate = gate })
same_acked v is gate same marks gone =
    changed v is v.runs v.stores gate v.released is.out
    (subst
    (λ rows. theory.Comes is.is_recorder.recorder (guest_of v.image) (quorum_of v)
    (theory_world v.image.pages is.are_theory (guest_of v.image) (record v { gate = record v.gate { acked = rows } }) is.terms is.notes is.marks is.out))
    (sym same) is.comes) is.went_out is.no_more marks
    (λ hart o has. is.gone_out hart o (subst (λ (os : List Output). Contains os o) (gone hart) has))

-- what was noted and what waits may be others
pub noted_parts : (v : WorldView) → AreParts v → (gate : TermGateView) →
    gate ≡ record v.gate { gate = record v.gate.gate { noted = gate.gate.noted; lines = gate.gate.lines } } →
    AreOffered gate.gate v.primary.book.machine → AreParts (record v { gate = gate })
noted_parts v parts gate same offered =
    with_gate v parts gate (ap (λ (g : TermGateView). g.gate.term) same) (ap (λ (g : TermGateView). g.gate.keepers) same)
    (ap (λ (g : TermGateView). g.gate.need) same) (ap (λ (g : TermGateView). g.harts) same) (ap (λ (g : TermGateView). length g.acked) same) offered

-- where nothing went out
pub noted_world : (v : WorldView) (is : IsWorld v) (gate : TermGateView) →
    gate ≡ record v.gate { gate = record v.gate.gate { noted = gate.gate.noted; lines = gate.gate.lines } } →
    ((hart : ℕ) → mark_at gate.gate hart ≡ mark_at v.gate.gate hart) → ((hart : ℕ) → gone_of gate.gate hart ≡ gone_of v.gate.gate hart) →
    AreOffered gate.gate v.primary.book.machine → IsWorld (record v { gate = gate })
noted_world v is gate same marks gone offered =
    record {
      parts = noted_parts v is.parts gate same offered;
      tied = same_acked v is.tied gate (ap (λ (g : TermGateView). g.acked) same) marks gone;
    }

pub left_with : (v : WorldView) (gate : TermGateView) (mode : RecordingView) → IsAsItWas v.gate gate → HasRoomed v.primary.book.mode mode →
    IsLeft v on.Release (record v { primary = record v.primary { book = record v.primary.book { mode = mode } }; gate = gate })
left_with v gate mode was roomed = inr (record { gate = was; room = roomed; rest = refl })

-- marks, and what is gone, where only more was offered
pub marks_before : (g h : TermGateView) → OffersMore g h → (hart : ℕ) → mark_at h.gate hart ≡ mark_at g.gate hart
marks_before g h more hart = (more.lines hart).mark

pub gone_before : (g h : TermGateView) → OffersMore g h → (hart : ℕ) → gone_of h.gate hart ≡ gone_of g.gate hart
gone_before g h more hart = (more.lines hart).gone

-- those that go out are the machine's
pub all_going : (v : WorldView) → AreParts v → (g : GateView) (noted : List (List ℕ)) → AreAcked v.gate noted → AreOffered g v.primary.book.machine →
    Each (IsGoing v.keepers v.need v.gate v.primary.book.machine) (held_outputs v.need noted g.lines)
all_going v parts g noted acked offered =
    subst (λ k. Each (IsGoing k v.need v.gate v.primary.book.machine) (held_outputs v.need noted g.lines)) parts.gate_keepers
    (going v.need v.gate g noted v.primary.book.machine acked offered)
