use Rattle.std.proofs.Common.{◌↔◌, ℕ, IsTrue, ap, sym, ◌∙◌, subst}
use Rattle.std.proofs.Math.Path.{fun_ext}
use Rattle.ft_types.specs.Counts.{count_at}
use Rattle.hart_lease.specs.Runs.{counts_of}
use Rattle.page_book.specs.Books.{BookView}
use Rattle.page_book.proofs.book.Book.continues.Goals as goal

pub returns : goal.returns
returns g c =
    let before = c.args.before.now in
    let told = c.goes_on_from.result in
    let on = g.M.Mode.goes_on in
    let settled = subst (λ (old : ℕ → ℕ). IsTrue told ↔ on c.before-2.inside.mode old c.self.inside.mode (count_at c.counts-now.result))
    (fun_ext c.counts-settled.ensures.all) c.goes_on_from.ensures in
    let reached = subst (λ (now : ℕ → ℕ). IsTrue told ↔ on c.before-2.inside.mode (counts_of before.machine) c.self.inside.mode now)
    (fun_ext c.counts-now.ensures.all) settled in
    let from = subst (λ (b : BookView g.row.M.Denot). IsTrue told ↔ on b.mode (counts_of before.machine) c.self.inside.mode (counts_of c.args.self.now.machine))
    c.before-2.view_is reached in
    let led = subst (λ (b : BookView g.row.M.Denot). IsTrue told ↔ on before.mode (counts_of before.machine) b.mode (counts_of c.args.self.now.machine))
    c.self.view_is from in (
      λ e.
          record {
            start =
                ap (λ (b : BookView g.row.M.Denot). b.start) (sym c.self.view_is)
                ∙ c.same.ensures.0 c.if-not-same.false
                ∙ ap (λ (b : BookView g.row.M.Denot). b.start) c.before-2.view_is;
            journal = rw (← c.journal.ensures, ← c.journal-2.ensures) (c.begins.ensures.0 c.if-not-begins.false);
            mode = led.0 e;
          },
      λ goes. led.1 goes.mode,
    )
