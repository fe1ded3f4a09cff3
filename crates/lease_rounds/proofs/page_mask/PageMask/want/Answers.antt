use Rattle.std.proofs.Common.{◌≡◌, true, false, true≢false, sym, ◌∙◌, refl, inl, inr, ⊎_elim}
use Rattle.ft_types.specs.declared.names.Want.TheVariants.{Read, Write}
use Rattle.lease_rounds.specs.Pages.{HasFor}
use Rattle.lease_rounds.proofs.page_mask.PageMask.want.Goals as goal

pub returns-then-has_page : goal.returns-then-has_page
returns-then-has_page c =
    let writes : HasFor c.args.self Write c.args.page = rw (← c.self.view_is) (c.has_page.ensures.0 c.if-has_page.true) in
    record {
      write = (λ _. writes, λ _. refl);
      read = (λ e. cc, λ h. absurd (h.1 writes));
      none = (λ e. cc, λ h. absurd (h (inr writes)));
    }

pub returns-then-has_page-2 : goal.returns-then-has_page-2
returns-then-has_page-2 c =
    let unwritten : HasFor c.args.self Write c.args.page → ⊥ =
    rw (← c.self.view_is) (λ is. true≢false (sym (c.has_page.ensures.1 is) ∙ c.if-has_page.false)) in
    let reads : HasFor c.args.self Read c.args.page = rw (← c.self.view_is) (c.has_page-else-has_page.ensures.0 c.if-has_page-2.true) in
    record {
      write = (λ e. cc, λ is. absurd (unwritten is));
      read = (λ _. (reads, unwritten), λ _. refl);
      none = (λ e. cc, λ h. absurd (h (inl reads)));
    }

pub returns-else-has_page-2 : goal.returns-else-has_page-2
returns-else-has_page-2 c =
    let unwritten : HasFor c.args.self Write c.args.page → ⊥ =
    rw (← c.self.view_is) (λ is. true≢false (sym (c.has_page.ensures.1 is) ∙ c.if-has_page.false)) in
    let unread : HasFor c.args.self Read c.args.page → ⊥ =
    rw (← c.self.view_is) (λ is. true≢false (sym (c.has_page-else-has_page.ensures.1 is) ∙ c.if-has_page-2.false)) in
    record {
      write = (λ e. cc, λ is. absurd (unwritten is));
      read = (λ e. cc, λ h. absurd (unread h.0));
      none = (λ _ has. ⊎_elim unread unwritten has, λ _. refl);
    }
