-- A primary that is led until each hart is halted or at its limit.
use Rattle.std.proofs.Common.{◌≡◌, ◌<◌, ◌≤◌, ◌⊎◌, ◌++◌, ⊎_elim, ℕ, List, length, replicate, true, sym, ap, subst, ◌∙◌, arith}
use Rattle.std.specs.List.{range_with_len}
use Rattle.std.proofs.lemmas.Bool.{cases_lt}
use Rattle.std.proofs.lemmas.List.{get_or-replicate}
use Rattle.std.proofs.lemmas.Option.{slice_get_past}
use Rattle.ft_types.specs.Counts.{count_at, greater}
use Rattle.hart_lease.specs.Runs.{LeadsTo, counts_of, steps_taken}
use Rattle.page_book.specs.Books.{BookView}
use Rattle.book_modes.specs.Recordings.{RecordingView, heard_by}
use Rattle.lease_rounds.specs.Running.{AreAtBudget, Continues, GoToBudget, KeepsOffered}
use Rattle.guest_image.specs.Image.{ImageContents}
use Rattle.guest_image.specs.Machine.{MachineState}
use Rattle.hart_lease.specs.declared.stretch.Stretch.{Stretch}
use Rattle.hart_replay.proofs.walking.Outcomes.{booted_length, booted_none}
use Rattle.scripts.specs.declared.script.Offered.{Offered}
use Rattle.log_streams.specs.Primary.{IsFirst, IsReady, IsRunOf}
use Rattle.pair.specs.Leading.{HasLed}
use Rattle.pair.specs.Posts.{MayLead}
use Rattle.pair.specs.declared.posts.PrimaryPost.{PrimaryPost}
use Rattle.pair.proofs.Limits.{limits_stay}

-- a book that was run to its own limits has been led
pub has_led : (before b : BookView RecordingView) (limits : List ℕ) → limits ≡ before.mode.limits → b.mode.limits ≡ greater limits before.mode.limits →
    Continues before b → KeepsOffered before b → GoToBudget limits before b → AreAtBudget limits b →
    LeadsTo (heard_by b.mode) b.start b.journal b.machine → HasLed before b
has_led before b limits are now goes_on offered counts done ran =
    let stay = limits_stay before.mode.limits limits b.mode.limits are now in
    record {
      goes_on = goes_on;
      offered = offered;
      within = λ hart.
          let to = counts hart in
          let limit : count_at limits hart ≡ count_at before.mode.limits hart = ap (λ (ls : List ℕ). count_at ls hart) are in
          (to.0, omega (arith, to.1, limit));
      limits = stay;
      ran = ran;
      through = λ hart h there.
          subst (λ (ls : List ℕ). (h.halted ≡ true) ⊎ (count_at ls hart ≤ h.count)) (are ∙ sym stay) (done hart h there);
    }

-- no hart of a book that is ready has gone
pub ready_below : (image : ImageContents) (script : List Offered) (limit : ℕ) (b : BookView RecordingView) → IsReady image script limit b → (hart : ℕ) →
    counts_of b.machine hart ≤ limit
ready_below image script limit b ready hart =
    subst (λ (n : ℕ). n ≤ limit) (sym (ap (λ (m : MachineState). counts_of m hart) ready.machine ∙ booted_none _ (range_with_len 0 _) hart)) (omega arith)

-- the primary of such a book may be led to the limit
pub may_lead : (image : ImageContents) (script : List Offered) (limit : ℕ) (post : PrimaryPost) → IsReady image script limit post.primary.book →
    IsFirst post.primary → post.budget ≡ limit → MayLead post
may_lead image script limit post ready first same =
    let b = post.primary.book in
    let harts : length b.machine.harts ≡ image.harts =
    ap (λ (m : MachineState). length m.harts) ready.machine ∙ booted_length image.harts 0 image.harts in
    record {
      first = first;
      idle = ready.idle;
      limits = ready.limits ∙ ap (λ (n : ℕ). replicate n limit) (sym harts) ∙ ap (λ (n : ℕ). replicate (length b.machine.harts) n) (sym same);
      below = λ hart. subst (λ (n : ℕ). counts_of b.machine hart ≤ n) (sym same) (ready_below image script limit b ready hart);
    }

-- none of its harts is past its limit
pub within_limits : (b : BookView RecordingView) (budget : ℕ) → b.mode.limits ≡ replicate (length b.machine.harts) budget →
    ((hart : ℕ) → counts_of b.machine hart ≤ budget) → (hart : ℕ) → counts_of b.machine hart ≤ count_at b.mode.limits hart
within_limits b budget are below hart = ⊎_elim
    (λ (lt : hart < length b.machine.harts).
    let limit : count_at b.mode.limits hart ≡ budget =
    ap (λ (ls : List ℕ). count_at ls hart) are ∙ get_or-replicate (length b.machine.harts) hart budget 0 lt in
    let most : counts_of b.machine hart ≤ budget = below hart in omega (arith, most, limit))
    (λ (over : length b.machine.harts ≤ hart).
    let none : counts_of b.machine hart ≡ 0 = ap steps_taken (slice_get_past b.machine.harts hart over) in omega (arith, none))
    (cases_lt hart (length b.machine.harts))

-- a book that is ready, and was led, has run
pub run_of : (image : ImageContents) (script : List Offered) (limit : ℕ) (before b : BookView RecordingView) → IsReady image script limit before →
    HasLed before b → IsRunOf image script limit b
run_of image script limit before b ready led = record {
  before = before;
  ready = ready;
  goes_on = led.goes_on;
  runs = λ more is.
      subst (λ (j : List Stretch). LeadsTo (heard_by b.mode) before.machine j b.machine) (is ∙ ap (λ (j : List Stretch). j ++ more) ready.journal)
      (subst (λ (m : MachineState). LeadsTo (heard_by b.mode) m b.journal b.machine) (led.goes_on.start ∙ ready.start ∙ sym ready.machine) led.ran);
  offered = led.offered;
  within = led.within;
  limits = led.limits;
  through = led.through;
}
