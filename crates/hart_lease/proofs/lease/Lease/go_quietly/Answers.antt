use Rattle.std.proofs.Common.{◌-◌, ◌≤◌, arith}
use Rattle.rv32_hart.specs.QuietSteps.{QuietSteps}
use Rattle.hart_lease.specs.Slots.{ram_of}
use Rattle.hart_lease.specs.Leases.{LeaseView}
use Rattle.hart_lease.proofs.steps.Running.{went_on}
use Rattle.hart_lease.proofs.lease.Lease.go_quietly.Goals as goal

pub invariant_of-self : goal.invariant_of-self
invariant_of-self c =
    let i = c.self.inside in
    let l : LeaseView = record {
      hart = i.hart;
      base = i.base;
      present = i.present;
      inputs = i.inputs.items;
      bases = i.bases.items;
      slots = i.pages;
      taken = i.taken;
      edges = i.edges.items;
      steps = i.present.count - i.base.count;
      most = i.most;
      stop = i.stop;
    } in
    let n = c.run_quietly-steps.result in
    let after = c.run_quietly-steps.new.state in
    let slots = c.run_quietly-steps.new.pages in
    let q : QuietSteps n i.present (ram_of i.pages) after (ram_of slots) = c.run_quietly-steps.ensures.ran in
    let few : n ≤ i.last - i.present.count = omega (arith, c.run_quietly-steps.ensures.within, c.saturating_sub-limit.ensures, c.count.ensures.value) in
    let w = went_on n i.last l c.args.self.now after slots c.self.view_is c.self.invariant c.requires.room c.requires.later i.last_stops i.last_ends few q in
    w.kept

pub returns-clause-steps : goal.returns-clause-steps
returns-clause-steps c =
    let i = c.self.inside in
    let l : LeaseView = record {
      hart = i.hart;
      base = i.base;
      present = i.present;
      inputs = i.inputs.items;
      bases = i.bases.items;
      slots = i.pages;
      taken = i.taken;
      edges = i.edges.items;
      steps = i.present.count - i.base.count;
      most = i.most;
      stop = i.stop;
    } in
    let n = c.run_quietly-steps.result in
    let after = c.run_quietly-steps.new.state in
    let slots = c.run_quietly-steps.new.pages in
    let q : QuietSteps n i.present (ram_of i.pages) after (ram_of slots) = c.run_quietly-steps.ensures.ran in
    let few : n ≤ i.last - i.present.count = omega (arith, c.run_quietly-steps.ensures.within, c.saturating_sub-limit.ensures, c.count.ensures.value) in
    let w = went_on n i.last l c.args.self.now after slots c.self.view_is c.self.invariant c.requires.room c.requires.later i.last_stops i.last_ends few q in
    (n, w.steps)

pub returns-clause-lent : goal.returns-clause-lent
returns-clause-lent c m counts earlier lent =
    let i = c.self.inside in
    let l : LeaseView = record {
      hart = i.hart;
      base = i.base;
      present = i.present;
      inputs = i.inputs.items;
      bases = i.bases.items;
      slots = i.pages;
      taken = i.taken;
      edges = i.edges.items;
      steps = i.present.count - i.base.count;
      most = i.most;
      stop = i.stop;
    } in
    let n = c.run_quietly-steps.result in
    let after = c.run_quietly-steps.new.state in
    let slots = c.run_quietly-steps.new.pages in
    let q : QuietSteps n i.present (ram_of i.pages) after (ram_of slots) = c.run_quietly-steps.ensures.ran in
    let few : n ≤ i.last - i.present.count = omega (arith, c.run_quietly-steps.ensures.within, c.saturating_sub-limit.ensures, c.count.ensures.value) in
    let w = went_on n i.last l c.args.self.now after slots c.self.view_is c.self.invariant c.requires.room c.requires.later i.last_stops i.last_ends few q in
    w.lent m counts earlier lent
