-- Acknowledgements that are noted.
use Rattle.std.proofs.Common.{◌≡◌, ◌≢◌, ◌<◌, ◌≤◌, ◌↔◌, ℕ, length, slice_index, slice_set, Result, Ok, Err, IfErr, OnOk, OnErr, inl, inr, refl, sym, ap, subst, ◌∙◌, arith}
use Rattle.ack_core.specs.declared.board.AckFault.{AckFault}
use Rattle.ack_core.specs.declared.board.AckFault.TheVariants.{OtherTerm, Lower}
use Rattle.term_gate.specs.TermGates.{TermGateView, acked_at}
use Rattle.ft_types.specs.Counts.{count_at}
use Rattle.log_pieces.specs.Pieces.{SealedView}
use Rattle.wire.specs.declared.acknowledgements.Acknowledgement.{Acknowledgement}
use Rattle.leading.specs.Hearing.{IsCounted, Notes}

module _ (s : SealedView) (g h : TermGateView) (a : Acknowledgement) (keeper : a.keeper < g.gate.keepers) (harts : length a.counts ≡ g.harts)
    (sent : (hart : ℕ) → hart < length a.counts → slice_index a.counts hart ≤ count_at s.reached hart) where
  each_sent : (hart : ℕ) → hart < g.harts → slice_index a.counts hart ≤ count_at s.reached hart
  each_sent hart less = sent hart (omega (arith, harts, less))

  -- what the gate answered
  pub noted : {U : Type 0} (r : Result U AckFault) →
      OnOk r (h ≡ record g { acked = slice_set g.acked a.keeper a.counts }) →
      OnOk r (a.term ≡ g.gate.term) →
      OnOk r ((hart : ℕ) → hart < g.harts → acked_at g a.keeper hart ≤ slice_index a.counts hart) →
      ((r ≡ Err OtherTerm) ↔ (a.term ≢ g.gate.term)) →
      IfErr r (λ fault. fault ≡ Lower → (hart : ℕ) × (hart < g.harts) × (slice_index a.counts hart < acked_at g a.keeper hart)) →
      OnErr r (h ≡ g) → Notes s g a h
  noted (Ok u) acked term no_lower other lower kept = inl (record { term = term; keeper = keeper; harts = harts; sent = each_sent; no_lower = no_lower }, acked)
  noted (Err OtherTerm) acked term no_lower other lower kept = inr ((λ counted. other.0 refl counted.term), kept)
  noted (Err Lower) acked term no_lower other lower kept =
      inr ((λ counted. let low = lower refl in let no = counted.no_lower low.0 low.1 in absurd (omega (arith, no, low.2))), kept)

-- one of no keeper, of other harts, or of what was not sent, is none
pub no_keeper : (s : SealedView) (g : TermGateView) (a : Acknowledgement) → g.gate.keepers ≤ a.keeper → Notes s g a g
no_keeper s g a le = inr ((λ counted. absurd (let less = counted.keeper in omega (arith, le, less))), refl)

pub no_harts : (s : SealedView) (g : TermGateView) (a : Acknowledgement) → (length a.counts ≡ g.harts → ⊥) → Notes s g a g
no_harts s g a ne = inr ((λ counted. ne counted.harts), refl)

pub not_sent : (s : SealedView) (g : TermGateView) (a : Acknowledgement) →
    (((hart : ℕ) → hart < length a.counts → slice_index a.counts hart ≤ count_at s.reached hart) → ⊥) → Notes s g a g
not_sent s g a above = inr ((λ counted. above (λ hart less. counted.sent hart (subst (λ n. hart < n) counted.harts less))), refl)

-- the rows of what was acknowledged alone are others
pub noted_rest : (s : SealedView) (g : TermGateView) (a : Acknowledgement) (h : TermGateView) → Notes s g a h → h ≡ record g { acked = h.acked }
noted_rest s g a h (inl n) = n.1 ∙ ap (λ (rows : _). let y : TermGateView = record g { acked = rows } in y) (sym (ap (λ (x : TermGateView). x.acked) n.1))
noted_rest s g a h (inr n) = n.1 ∙ ap (λ (rows : _). let y : TermGateView = record g { acked = rows } in y) (sym (ap (λ (x : TermGateView). x.acked) n.1))
