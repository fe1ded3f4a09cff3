use Rattle.std.proofs.Common.{◌≡◌, ◌+◌, slice_get, Some}
use Rattle.log_audit.proofs.Asking.{IsAsking, lacking}
use Rattle.log_audit.proofs.harts.Harts.step.Given as goal

abbrev pub invariant-loop-page : goal.invariant-loop-page
invariant-loop-page l =
    record {
      start : l.self-inside.start ≡ l.initial.self-inside.start;
      harts : l.self-inside.harts.items ≡ l.initial.self-inside.harts.items;
      befores : l.self-inside.befores ≡ l.initial.self-inside.befores;
      asking : (h : _) → slice_get l.initial.self-inside.harts.items l.hart ≡ Some h →
          IsAsking l.hart h l.inputs l.before l.initial.self-inside.pages.contents l.initial.self-inside.marks l.self-inside.pages l.self-inside.marks;
    }

abbrev pub decreases-loop-page : goal.decreases-loop-page
decreases-loop-page l = lacking l.self-inside.pages.readable + lacking l.self-inside.pages.writable
