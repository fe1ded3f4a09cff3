-- The outputs of a machine, at the gate.
use Rattle.std.specs.Prelude.{ℕ, ◌≡◌, ◌<◌, ◌⊎◌, ◌++◌, List, length, map, take}
use Rattle.ft_types.specs.declared.names.TheConstants.{HART_ROW}
use Rattle.interleaving.specs.Lists.{EachPair}
use Rattle.guest_image.specs.Machine.{MachineState}
use Rattle.ft_types.specs.declared.output.Output.{Output}
use Rattle.output_gate.specs.Gates.{LineView, GateView, line_of, offered_of, held_outputs, after_release}
use Rattle.output_gate.specs.Orders.{AreAbove, ArePassedBelow}
use Rattle.term_gate.specs.TermGates.{TermGateView, AreAcked}
use Rattle.primary.specs.Outputs.{numbered, said_at}
use Rattle.primary.specs.declared.released.Released.{Released}

-- the outputs of each hart stand in the order of their steps
abbrev pub AreRising : MachineState → Type 0
AreRising machine = (hart : ℕ) → EachPair (λ a b. a.0 < b.0) (said_at machine hart)

-- of each hart the first outputs were offered, and no others
abbrev pub AreOffered : GateView → MachineState → Type 0
AreOffered gate machine = (hart : ℕ) → offered_of gate hart ≡ take (length (offered_of gate hart)) (numbered hart (said_at machine hart))

-- all of them were
abbrev pub AreAllOffered : GateView → MachineState → Type 0
AreAllOffered gate machine = (hart : ℕ) → offered_of gate hart ≡ numbered hart (said_at machine hart)

-- more was offered of a hart, and none went out
pub record HasMore (old new : LineView) : Type 0 where
  pub mark : new.mark ≡ old.mark
  pub gone : new.gone ≡ old.gone
  pub passed : (more : List Output) × (new.passed ≡ old.passed ++ more)
  pub waiting : (more : List Output) × (new.waiting ≡ old.waiting ++ more)

-- more was offered, and nothing else was done at the gate
pub record OffersMore (g h : TermGateView) : Type 0 where
  pub rest : h ≡ record g { gate = record g.gate { lines = h.gate.lines } }
  pub lines : (hart : ℕ) → HasMore (line_of g.gate hart) (line_of h.gate hart)

-- outputs that go out in a term
abbrev pub released_in : ℕ → List Output → List Released
released_in term given = map (λ o. record { term = term; output = o }) given

-- What was acknowledged and what went out is as it was; more may have been offered. What is noted is as it was, or it is what was
-- acknowledged.
pub record IsAsItWas (g h : TermGateView) : Type 0 where
  pub rest : h ≡ record g { gate = record g.gate { noted = h.gate.noted; lines = h.gate.lines } }
  pub noted : (h.gate.noted ≡ g.gate.noted) ⊎ AreAcked g h.gate.noted
  pub lines : (hart : ℕ) → HasMore (line_of g.gate hart) (line_of h.gate hart)

-- All outputs of a machine were offered at its term's gate, and those went out that waited and whose step enough keepers have
-- acknowledged. None of them has a number below its hart's mark; whatever is passed over has.
pub record LetGo (term : ℕ) (machine : MachineState) (g : TermGateView) (was : List Released) (h : TermGateView) (now : List Released) : Type 0 where
  pub offered : TermGateView
  pub more : OffersMore g offered
  pub all : AreAllOffered offered.gate machine
  pub harts : length offered.gate.lines ≡ HART_ROW
  pub passed : ArePassedBelow offered.gate
  pub acked : AreAcked g h.gate.noted
  pub lines : (hart : ℕ) → line_of h.gate hart ≡ after_release g.gate.need h.gate.noted (line_of offered.gate hart)
  pub gate : h ≡ record g { gate = record g.gate { noted = h.gate.noted; lines = h.gate.lines } }
  pub given : List Output
  pub held : given ≡ held_outputs g.gate.need h.gate.noted offered.gate.lines
  pub above : AreAbove offered.gate given
  pub out : now ≡ was ++ released_in term given
