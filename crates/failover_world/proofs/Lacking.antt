-- Why a step is refused: where memory is, no other fault is due.
use Rattle.std.proofs.Common.{◌≡◌, ◌≢◌, ℕ, ◌<◌, true, length, None, Some, refl, sym, ◌∙◌}
use Rattle.std.proofs.lemmas.List.Elements.{All-nil}
use Rattle.page_book.specs.Books.{BookView}
use Rattle.book_modes.specs.Recordings.{RecordingView}
use Rattle.page_book.specs.declared.answers.BookFault.{BookFault}
use Rattle.page_book.specs.declared.answers.BookFault.TheVariants.{Leased, Halted, EdgeOpen, AtLimit, Foreign, Memory}
use Rattle.failover_world.proofs.Rows.{some_at}
use Rattle.lease_rounds.specs.Steps.{IsRefused, RefusesStep}
use Rattle.scripts.specs.declared.event.Event.TheVariants as on
use Rattle.failover_world.specs.Faults.{fault_of_book}
use Rattle.failover_world.specs.Worlds.{WorldView, store_at}
use Rattle.failover_world.specs.Refusals.{Refuses}

-- a hart that may take its step is not refused it
no_other : (b : BookView RecordingView) (hart : ℕ) → hart < length b.machine.harts → IsRefused b hart None → (fault : BookFault) → fault ≢ Memory →
    RefusesStep b hart fault → ⊥
no_other b hart there may fault ne is = of fault ne is
  where
    both : (f : BookFault) → IsRefused b hart (Some f) → ⊥
    both f refused =
        let (h, at) = some_at b.machine.harts hart there in
        let e : Some f ≡ None = sym (refused h at) ∙ may h at in absurd cc

    of : (f : BookFault) → f ≢ Memory → RefusesStep b hart f → ⊥
    of Leased ne is = both Leased is
    of Halted ne is = both Halted is
    of EdgeOpen ne is = both EdgeOpen is
    of AtLimit ne is = both AtLimit is
    of Foreign ne is = both Foreign is
    of Memory ne is = ne refl

pub step_refused : (v : WorldView) (hart : ℕ) (fault : BookFault) → v.runs ≡ true → hart < length v.primary.book.machine.harts →
    RefusesStep v.primary.book hart fault → Refuses v (on.Step hart) (fault_of_book fault)
step_refused v hart Leased runs there is = (runs, ((λ e. absurd cc), is))
step_refused v hart Halted runs there is = (runs, ((λ e. absurd cc), is))
step_refused v hart EdgeOpen runs there is = (runs, ((λ e. absurd cc), is))
step_refused v hart AtLimit runs there is = (runs, ((λ e. absurd cc), is))
step_refused v hart Foreign runs there is = (runs, ((λ e. absurd cc), is))
step_refused v hart Memory runs there is =
    record {
      grows = tt;
      runs = λ _. runs;
      there = All-nil (λ keeper. store_at v.stores keeper ≢ None);
      frame = λ lacks. lacks;
      quiet = λ grant. absurd grant;
      steps = λ fault due. no_other v.primary.book hart there is fault due.0 due.1;
      lives = λ fault due. absurd due;
    }
