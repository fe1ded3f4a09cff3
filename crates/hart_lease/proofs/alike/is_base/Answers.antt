use Rattle.std.proofs.Common.{◌∙◌, sym, refl}
use Rattle.hart_lease.proofs.alike.is_base.Goals as goal

pub returns-in-Readable-default : goal.returns-in-Readable-default
returns-in-Readable-default c =
    rw c.in-Readable-default.is-0 (
      λ t bytes e. let h = c.same-in-Readable-default.ensures.0 t ∙ c.page-in-Readable-default.ensures in cc,
      λ all. c.same-in-Readable-default.ensures.1
          (all c.in-Readable-default.page refl ∙ sym c.page-in-Readable-default.ensures),
    )
