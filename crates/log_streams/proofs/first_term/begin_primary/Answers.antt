use Rattle.std.proofs.Common.{◌∙◌, ℕ, length, replicate, ap, subst, sym}
use Rattle.std.proofs.lemmas.List.{length-replicate}
use Rattle.scripts.specs.Script.{AreOffered}
use Rattle.book_modes.specs.Recordings.{RecordingView}
use Rattle.page_book.specs.Books.{BookView}
use Rattle.fragment_codec.specs.Rules.{OpeningParts}
use Rattle.primary.specs.declared.granted.Primary.{Primary}
use Rattle.log_streams.specs.Primary.{IsFirst}
use Rattle.log_streams.proofs.Ready.{harts_booted, none_past, is_ready}
use Rattle.log_streams.proofs.First.{first_booted, first_with}
use Rattle.log_streams.proofs.first_term.begin_primary.Goals as goal

pub limit_at-requires-clause-harts : goal.limit_at-requires-clause-harts
limit_at-requires-clause-harts c =
    ap length c.limits_of.ensures ∙ length-replicate c.harts.result c.args.limit ∙ c.harts.ensures.value
    ∙ sym (harts_booted c.args.image.now c.in_ok-primary.primary c.in_ok-primary.ensures.booted)

pub limit_at-requires-clause-idle : goal.limit_at-requires-clause-idle
limit_at-requires-clause-idle c = ap (λ (b : BookView RecordingView). b.leases) c.in_ok-primary.ensures.booted.begins

pub limit_at-requires-clause-settled : goal.limit_at-requires-clause-settled
limit_at-requires-clause-settled c =
    none_past c.args.image.now c.in_ok-primary.primary c.in_ok-primary.ensures.booted c.limits_of.result

pub offer_script-requires : goal.offer_script-requires
offer_script-requires c =
    subst (λ (n : ℕ). AreOffered n c.args.script.now)
    (sym (ap (λ (b : BookView RecordingView). length b.machine.harts) c.limit_at.ensures
    ∙ harts_booted c.args.image.now c.in_ok-primary.primary c.in_ok-primary.ensures.booted)) c.requires

pub returns-clause-ready : goal.returns-clause-ready
returns-clause-ready c =
    is_ready c.args.image.now c.in_ok-primary.primary c.in_ok-primary.ensures.booted c.args.script.now c.args.limit c.limits_of.result c.limit_at.new.self
    c.offer_script.new.primary.book (c.limits_of.ensures ∙ ap (λ (n : ℕ). replicate n c.args.limit) c.harts.ensures.value) c.limit_at.ensures
    (ap (λ (p : Primary). p.book) c.in_ok-offer_script.ensures.rest) c.in_ok-offer_script.ensures.offered

pub returns-clause-first : goal.returns-clause-first
returns-clause-first c =
    subst IsFirst (sym c.in_ok-offer_script.ensures.rest)
    (first_with c.in_ok-primary.primary _ (ap (λ (b : BookView RecordingView). length b.machine.harts) c.limit_at.ensures)
    (first_booted c.args.image.now c.in_ok-primary.primary c.in_ok-primary.ensures.booted))

pub returns-clause-guest : goal.returns-clause-guest
returns-clause-guest c =
    ap (λ (p : Primary). p.opening.guest) c.in_ok-offer_script.ensures.rest ∙ ap (λ (o : OpeningParts). o.guest) c.in_ok-primary.ensures.booted.opening
