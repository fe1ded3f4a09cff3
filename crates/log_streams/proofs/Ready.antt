-- A primary from boot is ready, once its limits are set and the script is offered.
use Rattle.std.proofs.Common.{◌≡◌, ◌∙◌, ◌≤◌, ◌++◌, ℕ, List, length, replicate, ap, subst, sym, arith}
use Rattle.std.specs.List.{range_with_len}
use Rattle.ft_types.specs.Counts.{count_at}
use Rattle.input_log.specs.Inputs.{inputs_of}
use Rattle.scripts.specs.declared.script.Offered.{Offered}
use Rattle.edge_log.specs.EdgeLog.{edges_of}
use Rattle.guest_image.specs.Image.{ImageContents}
use Rattle.guest_image.specs.Machine.{MachineState, boot_machine}
use Rattle.hart_lease.specs.Runs.{counts_of}
use Rattle.book_modes.specs.Recordings.{RecordingView}
use Rattle.page_book.specs.Books.{BookView}
use Rattle.hart_replay.proofs.walking.Outcomes.{booted_length, booted_none}
use Rattle.primary.specs.declared.granted.Primary.{Primary}
use Rattle.primary.specs.Primaries.{BeginsFrom, IsBooted, no_limits}
use Rattle.primary.proofs.Greatest.{with_limits, begins_too, unused_too}
use Rattle.log_streams.specs.Primary.{AreOfferedTo, IsReady, offered_to}

module _ (image : ImageContents) (p : Primary) (is : IsBooted image p) where
  pub booted : p.book.machine ≡ boot_machine image
  booted = ap (λ (b : BookView RecordingView). b.machine) is.begins ∙ is.start

  pub harts_booted : length p.book.machine.harts ≡ image.harts
  harts_booted = ap (λ (m : MachineState). length m.harts) booted ∙ booted_length image.harts 0 image.harts

  -- no hart is past any limit
  pub none_past : (limits : List ℕ) (hart : ℕ) → counts_of p.book.machine hart ≤ count_at limits hart
  none_past limits hart =
      subst (λ (n : ℕ). n ≤ count_at limits hart)
      (sym (ap (λ (m : MachineState). counts_of m hart) booted ∙ booted_none image.harts (range_with_len 0 image.harts) hart)) (omega arith)

  pub is_ready : (script : List Offered) (limit : ℕ) (limits : List ℕ) (c d : BookView RecordingView) → limits ≡ replicate image.harts limit →
      c ≡ with_limits p.book limits → d ≡ record c { mode = d.mode } → AreOfferedTo c.mode script d.mode → IsReady image script limit d
  is_ready script limit limits c d all limited book offered =
      let begins : BeginsFrom c.start c = begins_too p.book c limits limited is.begins in
      let unused = unused_too p.book c (no_limits image.harts) limits limited is.unused in
      let start : c.start ≡ boot_machine image = ap (λ (b : BookView RecordingView). b.start) limited ∙ is.start in
      let machine : d.machine ≡ c.machine = ap (λ (b : BookView RecordingView). b.machine) book in
      record {
        start = ap (λ (b : BookView RecordingView). b.start) book ∙ start;
        machine = machine ∙ ap (λ (b : BookView RecordingView). b.machine) begins ∙ start;
        journal = ap (λ (b : BookView RecordingView). b.journal) book ∙ ap (λ (b : BookView RecordingView). b.journal) begins;
        idle = ap (λ (b : BookView RecordingView). b.leases) book ∙ ap (λ (b : BookView RecordingView). b.leases) begins;
        limits = ap (λ (r : RecordingView). r.limits) offered.rest ∙ unused.limits_are ∙ all;
        edges = ap (λ (r : RecordingView). edges_of r.edges) offered.rest ∙ unused.edges;
        inputs = λ hart. ap (λ (r : RecordingView). inputs_of r.inputs hart) offered.rest ∙ unused.inputs hart;
        due = ap (λ (r : RecordingView). r.due) offered.rest ∙ unused.due;
        waiting = λ hart. offered.others hart ∙ ap (λ xs. xs ++ offered_to script hart) (unused.others hart);
      }
